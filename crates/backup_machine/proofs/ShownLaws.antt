-- What files show that were built from the trail.
use Rattle.std.proofs.Common.{◌≡◌, ℕ, Bool, true, false, if◌then◌else◌, List, take, Result, Ok, Err, IfOk, Vec, Global, sym, ap, subst, ◌∙◌}
use Rattle.std.specs.FinMap as map
use Rattle.rdf_types.specs.declared.layout.Layout.{Layout}
use Rattle.rdf_types.specs.declared.records.Record.{Record}
use Rattle.rdf_types.specs.declared.records.Row.{Row}
use Rattle.rdf_types.specs.Places.{place_cmp}
use Rattle.rdf_model.specs.Contents.{Contents, held, nothing}
use Rattle.rdf_model.specs.Legal.{Legal}
use Rattle.rdf_model.specs.Rows.{ListsVolume, list_of, row_map}
use Rattle.rdf_model.specs.Trail.{committed, raw}
use Rattle.rdf_model.specs.Volumes.{AreOn, Rows}
use Rattle.rdf_core.specs.Backup.{shown_on}
use Rattle.rdf_core.specs.Layouts.{point_of, protects}
use Rattle.rdf_core.specs.Rows.{AreRowsOf}
use Rattle.backup_machine.specs.declared.volumes.VolumesState.{VolumesState}
use Rattle.backup_machine.specs.declared.volumes.VolumesState.TheVariants as state
use Rattle.backup_machine.specs.Kept.{volumes_of}

abbrev Held : Type 0
Held = map.FinMap place_cmp (List ℕ)

nothing_held : held map.empty ≡ nothing
nothing_held = λ i q. map.get-empty place_cmp q i

-- no files hold nothing
pub none_holds : (none : Held) → none ≡ map.empty → held none ≡ nothing
none_holds none e = ap held e ∙ nothing_held

-- a legal part is legal from no files on
pub legal_from_none : (none : Held) (first trail : List Record) (upto : ℕ) → none ≡ map.empty → first ≡ take upto trail → Legal nothing (take upto trail) → Legal (held none) first
legal_from_none none first trail upto empty is legal = subst (λ xs. Legal (held none) xs) (sym is) (subst (λ f. Legal f (take upto trail)) (sym (none_holds none empty)) legal)

module _ {E : Type 0} (r : Result Held E) (layout : Layout) (trail : List Record) (v : VolumesState) (vol : ℕ) (none : Held) (first : List Record) (empty : none ≡ map.empty) where
  -- a volume that runs
  pub shown_running : (points : List ℕ) (at : ℕ) → v ≡ state.Running points → at ≡ point_of points vol → first ≡ take at trail → IfOk r (λ files. held files ≡ raw (held none) first) → IfOk r (λ files. held files ≡ shown_on layout trail (volumes_of v) vol)
  shown_running points at is at_is first_is h = by_case r h
    where
      by_case : (r : Result Held E) → IfOk r (λ files. held files ≡ raw (held none) first) → IfOk r (λ files. held files ≡ shown_on layout trail (volumes_of v) vol)
      by_case (Ok files) h =
          h ∙ ap (λ (f : Contents). raw f first) (none_holds none empty) ∙ ap (raw nothing) (first_is ∙ ap (λ n. take n trail) at_is)
          ∙ ap (λ (x : VolumesState). shown_on layout trail (volumes_of x) vol) (sym is)
      by_case (Err x) h = tt

  -- a protected volume that was taken over
  pub shown_taken : (upto : ℕ) → v ≡ state.Taken upto → first ≡ take upto trail → protects layout vol ≡ true → IfOk r (λ files. held files ≡ committed (held none) first) → IfOk r (λ files. held files ≡ shown_on layout trail (volumes_of v) vol)
  shown_taken upto is first_is kept h = by_case r h
    where
      by_case : (r : Result Held E) → IfOk r (λ files. held files ≡ committed (held none) first) → IfOk r (λ files. held files ≡ shown_on layout trail (volumes_of v) vol)
      by_case (Ok files) h =
          h ∙ ap (λ (f : Contents). committed f first) (none_holds none empty) ∙ ap (committed nothing) first_is
          ∙ ap (λ (b : Bool). if b then committed nothing (take upto trail) else nothing) (sym kept)
          ∙ ap (λ (x : VolumesState). shown_on layout trail (volumes_of x) vol) (sym is)
      by_case (Err x) h = tt

-- a volume that shows nothing
pub shown_taking : (layout : Layout) (trail : List Record) (v : VolumesState) (vol : ℕ) (none : Held) → none ≡ map.empty → v ≡ state.Taking → held none ≡ shown_on layout trail (volumes_of v) vol
shown_taking layout trail v vol none empty is = none_holds none empty ∙ ap (λ (x : VolumesState). shown_on layout trail (volumes_of x) vol) (sym is)

pub shown_apart : (layout : Layout) (trail : List Record) (v : VolumesState) (vol : ℕ) (none : Held) (upto : ℕ) → none ≡ map.empty → v ≡ state.Taken upto → protects layout vol ≡ false → held none ≡ shown_on layout trail (volumes_of v) vol
shown_apart layout trail v vol none upto empty is apart =
    none_holds none empty ∙ ap (λ (b : Bool). if b then committed nothing (take upto trail) else nothing) (sym apart) ∙ ap (λ (x : VolumesState). shown_on layout trail (volumes_of x) vol) (sym is)

-- rows that were listed
pub rows_are : {E : Type 0} (r : Result (Vec Row Global) E) (vol : ℕ) (files : Contents) →
    ((vol : ℕ) (files : Contents) (rows : List Row) (m : Rows) → ListsVolume vol files rows → AreOn vol files m → rows ≡ list_of m) →
    IfOk r (λ rows. ListsVolume vol files rows.items) → IfOk r (λ rows. AreRowsOf vol files rows.items)
rows_are (Ok rows) vol files law h = record { map_of = row_map rows.items; on = h.exact; listed = law vol files rows.items (row_map rows.items) h h.exact }
rows_are (Err x) vol files law h = tt
