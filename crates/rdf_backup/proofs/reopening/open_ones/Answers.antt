use Rattle.std.proofs.Common.{◌≡◌, ℕ, ◌-◌, List, [], take, ap, ap₂, ◌∙◌}
use Rattle.rdf_types.specs.declared.records.Stamped.{Stamped}
use Rattle.open_txns.specs.Noted.{all_noted}
use Rattle.image_disks.specs.Values.{received, kept, merged, listed}
use Rattle.image_trails.specs.Memory.{value_in}
use Rattle.rdf_backup.specs.Parts.{noted_since}
use Rattle.rdf_backup.proofs.RestartLaws.{listed_whole, noted_whole}
use Rattle.rdf_backup.proofs.reopening.open_ones.Goals as goal

pub returns : goal.returns
returns g c = λ tells in_use.
    let v = value_in c.args.trails.now.memory in
    let most : c.in-Some.most ≡ received v - kept v = c.in-Some.ensures ∙ ap₂ (λ (m n : ℕ). m - n) c.received.ensures c.kept-from.ensures in
    let entries : c.in_ok-entries.entries.items ≡ take c.in-Some.most (listed (merged v) c.kept-from.result (received v - c.kept-from.result)) = c.in_ok-entries.ensures {u = tt} tells in_use in
    c.in_ok-note_since.ensures {u = tt}
    ∙ ap (λ (o : List (ℕ × ℕ)). noted_since 0 o c.deref.result.now) c.new-txns.ensures
    ∙ noted_whole [] c.deref.result.now
    ∙ ap (λ (es : List Stamped). all_noted es)
    (c.deref.ensures.value ∙ entries
    ∙ ap (λ (n : ℕ). take c.in-Some.most (listed (merged v) n (received v - n))) c.kept-from.ensures
    ∙ ap (λ (n : ℕ). take n (listed (merged v) (kept v) (received v - kept v))) most
    ∙ listed_whole (merged v) (kept v) (received v - kept v))
