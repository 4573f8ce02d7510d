-- How a transaction ends.
use Rattle.std.proofs.Common.{length, drop, ◌≡◌, ℕ, Bool, true, false, not, cond, List, [], ◌∷◌, ◌++◌, Option, Some, None, refl, sym, ap, ◌∙◌, append-nil}
use Rattle.std.specs.FinSet as set
use Rattle.rdf_types.specs.declared.records.Record.{Record}
use Rattle.rdf_types.specs.declared.records.Record.TheVariants.{Commit, Abort}
use Rattle.rdf_disk.specs.declared.disk.Disk.{Ghosts}
use Rattle.rdf_model.specs.Trail.{is_open}
use Rattle.rdf_model.specs.Lines.{after_commit, after_abort, found_by, put_back}
use Rattle.rdf_model.specs.EndLaws.{abort_ends}
use Rattle.active_txns.specs.Founds.{FirstBefore}
use Rattle.active_txns.specs.Tells.{IsWhatWasFound}
use Rattle.tmf_core.specs.declared.tmf.Tmf.{Tmf}
use Rattle.tmf_core.specs.declared.fault.TmfFault.TheVariants.{NoTxn}
use Rattle.tmf_core.specs.States.{tmf_active}
use Rattle.tmf_core.specs.Refusals.{is_off, is_idle, end_refusal}
use Rattle.tmf_core.specs.Ends.{has_changes}
use Rattle.std.proofs.Math.Seq.{drop-append_seam}
use Rattle.tmf_core.proofs.TmfLaws.{none_first, not_when}

-- a transaction that may end is active
pub may_end : {D : Type 0} {d : Ghosts D} (s : Tmf D d) (t : ℕ) → end_refusal s t ≡ None → set.contains (tmf_active s) t ≡ true
may_end s t e = turned (set.contains (tmf_active s) t) (not_when (not (set.contains (tmf_active s) t)) NoTxn (none_first (is_idle s t) _ (none_first (is_off s) _ e).1).0)
  where
    turned : (b : Bool) → not b ≡ false → b ≡ true
    turned true h = refl
    turned false h = cc

-- it changed a record exactly where it is open
pub changed_open : (trail : List Record) (t : ℕ) (r : Option FirstBefore) → (found : FirstBefore) × (r ≡ Some found) × IsWhatWasFound trail t found → has_changes r ≡ is_open t trail
changed_open trail t r (found, is, what) = ap has_changes is ∙ ap not what.empty ∙ twice (is_open t trail)
  where
    twice : (b : Bool) → not (not b) ≡ b
    twice true = refl
    twice false = refl

-- the commit of a transaction that is open, or not
pub commit_open : (trail : List Record) (t : ℕ) → is_open t trail ≡ true → trail ++ Commit t ∷ [] ≡ after_commit trail t
commit_open trail t e = ap (λ m. cond m (trail ++ Commit t ∷ []) trail) (sym e)

pub commit_closed : (trail : List Record) (t : ℕ) → is_open t trail ≡ false → trail ≡ after_commit trail t
commit_closed trail t e = ap (λ m. cond m (trail ++ Commit t ∷ []) trail) (sym e)

-- what a backout adds
pub abort_adds : (trail : List Record) (t : ℕ) → after_abort trail t ≡ trail ++ drop (length trail) (after_abort trail t)
abort_adds trail t = elim (is_open t trail) as (λ m. is_open t trail ≡ m → after_abort trail t ≡ trail ++ drop (length trail) (after_abort trail t)) [
  | true ↦ λ opened. let ends = abort_ends t trail opened in rest (after_abort trail t) ends.more ends.new_is
  | false ↦ λ closed. rest (after_abort trail t) [] (ap (λ m. cond m (put_back t trail (found_by trail t) ++ Abort t ∷ []) trail) closed ∙ sym (append-nil trail))
] refl
  where
    rest : (whole more : List Record) → whole ≡ trail ++ more → whole ≡ trail ++ drop (length trail) whole
    rest whole more is = is ∙ ap (λ (l : List Record). trail ++ l) (sym (ap (λ (l : List Record). drop (length trail) l) is ∙ drop-append_seam trail more))
