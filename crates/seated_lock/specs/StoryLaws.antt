-- Laws of stories that begin one another.
use Rattle.std.proofs.Common.{◌≡◌, List, [], ◌++◌, sym, refl, ap, ◌∙◌, le_refl, append-nil, append_assoc}
use Rattle.rdf_types.specs.declared.records.Stamped.{Stamped}
use Rattle.rdf_types.specs.EntryLaws.{rises_append}
use Rattle.seated_lock.specs.declared.story.Story.{Story}
use Rattle.seated_lock.specs.Stories.{Begins}

-- each story begins itself
pub begins_itself : (s : Story) → Begins s s
begins_itself s = record { later = []; entries = sym (append-nil s.entries); rises = le_refl s.number; ended = λ _. refl }

-- what begins one that begins another begins that
pub begins_on : (p q s : Story) → Begins p q → Begins q s → Begins p s
begins_on p q s b c = record {
  later = b.later ++ c.later;
  entries = c.entries ∙ ap (λ (es : List Stamped). es ++ c.later) b.entries ∙ append_assoc p.entries b.later c.later;
  rises = rises_append p.number b.later q.number c.later s.number b.rises c.rises;
  ended = λ e. let same : q ≡ p = b.ended e in c.ended (ap (λ (t : Story). t.ended) same ∙ e) ∙ same;
}
