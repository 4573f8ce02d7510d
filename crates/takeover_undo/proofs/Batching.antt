-- The steps of setting an undo.
use Rattle.std.proofs.Common.{◌≡◌, inl, inr, ◌⊎◌, ⊎_elim, ℕ, ◌+◌, ◌-◌, ◌≤◌, ◌++◌, List, length, take, drop, sym, ap, ◌∙◌, subst, arith}
use Rattle.std.proofs.Math.Seq.{take-add}
use Rattle.std.proofs.lemmas.List.{take_all}
use Rattle.std.proofs.lemmas.List.Sums.{fold-append}
use Rattle.rdf_types.specs.declared.records.Change.{Change}
use Rattle.rdf_disk.specs.Files.{Disk, Contents}
use Rattle.rdf_disk.specs.Outcomes.{Durably}
use Rattle.rdf_model.specs.Volumes.{Rows}
use Rattle.rdf_volume.specs.Changes.{changed, with_change}
use Rattle.rdf_volume.specs.Standing.{StandsFor, StandsForEither}
use Rattle.rdf_volume.specs.StandingLaws.{stands_same}
use Rattle.takeover_undo.specs.Undone.{StandsUndone}

-- a batch more
pub rows_more : (undo : List Change) (done end : ℕ) (first rows : Rows) (batch : List Change) → done ≤ end → rows ≡ changed first (take done undo) → batch ≡ take (end - done) (drop done undo) → changed rows batch ≡ changed first (take end undo)
rows_more undo done end first rows batch le so_far is =
    let whole : end ≡ done + (end - done) = omega (arith, le) in
    ap (λ (r : Rows). changed r batch) so_far
    ∙ sym (fold-append with_change first (take done undo) batch)
    ∙ ap (changed first)
    (ap (λ (l : List Change). take done undo ++ l) is ∙ sym (take-add done (end - done) undo) ∙ ap (λ (n : ℕ). take n undo) (sym whole))

-- the volume stands where it began, or at the low position
abbrev pub IsAt : ℕ → ℕ → ℕ → ℕ → Type 0
IsAt done at first low = ((done ≡ 0) × (at ≡ first)) ⊎ (at ≡ low)

module _ (undo : List Change) (first : Rows) (restart low : ℕ) where
  -- what a batch that was cut off leaves
  pub either_undone : (done end at : ℕ) (rows more : Rows) (disk : Disk) → done ≤ length undo → end ≤ length undo → IsAt done at restart low → rows ≡ changed first (take done undo) → more ≡ changed first (take end undo) →
      Durably disk (StandsForEither rows at more low) → Durably disk (StandsUndone first restart undo low)
  either_undone done end at rows more disk within no_further point is more_is durably c may =
      ⊎_elim
      (λ (old : StandsFor rows at c).
      ⊎_elim
      (λ (start : (done ≡ 0) × (at ≡ restart)). inl (stands_same rows first at restart c (is ∙ ap (λ (n : ℕ). changed first (take n undo)) start.0) start.1 old))
      (λ (lowered : at ≡ low). inr (record { count = done; within = within; stands = stands_same rows (changed first (take done undo)) at low c is lowered old }))
      point)
      (λ (new : StandsFor more low c). inr (record { count = end; within = no_further; stands = subst (λ (r : Rows). StandsFor r low c) more_is new }))
      (durably c may)

  -- all changes are set
  pub all_undone : (at : ℕ) (rows : Rows) (disk : Disk) → rows ≡ changed first undo → at ≡ low → Durably disk (StandsFor rows at) → Durably disk (StandsUndone first restart undo low)
  all_undone at rows disk is point durably c may =
      inr (record {
        count = length undo;
        within = omega arith;
        stands = stands_same rows (changed first (take (length undo) undo)) at low c (is ∙ ap (changed first) (sym (take_all (length undo) undo (omega arith)))) point (durably c may);
      })
