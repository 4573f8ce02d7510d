use Rattle.std.proofs.Common.{◌+◌, ◌∙◌, ℕ, List, take, length, Some, max, ap, arith}
use Rattle.rdf_disk.proofs.MemoryBytes.{put_content, IsCleared, cleared_none, cleared_some}
use Rattle.rdf_disk.specs.declared.memory_held.Held.{Held}
use Rattle.rdf_disk.proofs.memory_held.Held.put.Goals as goal
use Rattle.rdf_disk.proofs.memory_held.Held.put.Goals.{then-len-at, else-len-at}

pub returns-clause-content : goal.returns-clause-content
returns-clause-content c =
    let len = c.unwrap_or-len.result in
    let b = c.args.self.now.bytes.items in
    let cleared : IsCleared b c.if-len-at.self.bytes.items len c.args.at = elim c.if-len-at.branch [
      | then-len-at w ↦ cleared_some b c.if-len-at.self.bytes.items len c.args.at (ap (λ (h : Held). h.bytes.items) w.self-is ∙ w.clear.ensures) (omega arith) (omega (arith, c.requires.within))
      | else-len-at w ↦ cleared_none b c.if-len-at.self.bytes.items len c.args.at (ap (λ (h : Held). h.bytes.items) w.self-is) (omega arith)
    ] in
    ap (λ (n : ℕ). Some (take n c.overwrite.new.bytes.items)) c.max.ensures
    ∙ ap (λ (l : List ℕ). Some (take (max len (c.args.at + length c.args.new.now)) l)) c.overwrite.ensures
    ∙ put_content b c.if-len-at.self.bytes.items c.args.new.now c.args.self.now.len len c.args.at c.unwrap_or-len.ensures c.requires.long c.requires.within cleared
