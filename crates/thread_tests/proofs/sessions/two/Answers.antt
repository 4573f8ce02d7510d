use Rattle.std.proofs.Common.{List, [], ◌∷◌, ◌++◌, refl, ap, ◌∙◌}
use Rattle.rdf_disk.specs.declared.memory.MemDisk.{MemDisk}
use Rattle.volume_sessions.specs.declared.placed.Placed.{Placed}
use Rattle.thread_tests.proofs.sessions.two.Goals as goal

pub returns : goal.returns
returns c =
    let first : Placed MemDisk = record { vol = 0; volume = c.in_ok-formatted.field-0 } in
    let second : Placed MemDisk = record { vol = 1; volume = c.in_ok-formatted-2.field-0 } in
    record {
      first = first;
      second = second;
      are = c.in_ok-push-2.ensures.items ∙ ap (λ (l : List (Placed MemDisk)). l ++ second ∷ []) (c.in_ok-push.ensures.items ∙ ap (λ (l : List (Placed MemDisk)). l ++ first ∷ []) c.new-volumes.ensures.items);
      number = refl;
      starts = (c.in_ok-formatted.ensures.start, c.in_ok-formatted-2.ensures.start);
      in_use = λ _. (c.in_ok-formatted.ensures.in_use, c.in_ok-formatted-2.ensures.in_use);
    }
