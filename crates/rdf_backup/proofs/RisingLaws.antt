-- What images make of a volume that rises.
use Rattle.std.proofs.Common.{◌≡◌, ℕ, ◌≤◌, Bool, List, take, sym, subst, arith, IsTrue}
use Rattle.std.proofs.lemmas.List.{take-take}
use Rattle.rdf_types.specs.declared.layout.Layout.{Layout}
use Rattle.rdf_types.specs.declared.records.Record.{Record}
use Rattle.rdf_types.specs.declared.records.Stamped.{Stamped}
use Rattle.rdf_model.specs.Contents.{nothing}
use Rattle.rdf_model.specs.Trail.{raw}
use Rattle.rdf_model.specs.Volumes.{Rows, AreOn}
use Rattle.rdf_model.specs.Window.{part}
use Rattle.rdf_types.specs.Entries.{since}
use Rattle.updaters.specs.Applied.{applied}
use Rattle.rdf_core.specs.SoundLaws.{at_or_below}
use Rattle.rdf_core.specs.Layouts.{protects}
use Rattle.rdf_backup.specs.Raised.{MayRise}

-- the law of updaters
abbrev pub AppliedShows : Type 0
AppliedShows = (protects : ℕ → Bool) (vol : ℕ) (trail : List Record) (start p q : ℕ) (rows : Rows) → IsTrue (protects vol) → start ≤ p → p ≤ q →
    AreOn vol (raw nothing (take p trail)) rows → AreOn vol (raw nothing (take q trail)) (applied vol (since p (part protects start trail)) q rows)

module _ (layout : Layout) (trail : List Record) (v upto : ℕ) (entries : List Stamped) where
  -- the images up to a position are applied
  pub risen : AppliedShows → (rows : Rows) (at q : ℕ) → MayRise layout trail v upto entries rows at → at ≤ q → q ≤ upto → MayRise layout trail v upto entries (applied v (since at entries) q rows) q
  risen law rows at q h behind within = record {
    start = h.start;
    on = h.on;
    early = at_or_below h.start at q h.early behind;
    within = within;
    entries_are = h.entries_are;
    shows = subst (λ t. AreOn v (raw nothing t) (applied v (since at entries) q rows)) (take-take q upto trail within)
        (subst (λ l. AreOn v (raw nothing (take q cut)) (applied v (since at l) q rows)) (sym h.entries_are)
        (law (protects layout) v cut h.start at q rows h.on h.early behind (subst (λ t. AreOn v (raw nothing t) rows) (sym (take-take at upto trail h.within)) h.shows)));
  }
    where
      cut : List Record
      cut = take upto trail

  -- and the volume has these rows and that restart point
  pub risen_to : AppliedShows → (rows now : Rows) (at q point : ℕ) → MayRise layout trail v upto entries rows at → at ≤ q → q ≤ upto → now ≡ applied v (since at entries) q rows → point ≡ q → MayRise layout trail v upto entries now point
  risen_to law rows now at q point h behind within is reached =
      subst (λ r. MayRise layout trail v upto entries r point) (sym is) (subst (λ n. MayRise layout trail v upto entries (applied v (since at entries) q rows) n) (sym reached) (risen law rows at q h behind within))
