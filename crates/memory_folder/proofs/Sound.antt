-- What a read gives may be left, whatever a folder in memory is asked.
use Rattle.std.proofs.Common.{◌≡◌, ◌⊎◌, inl, inr, ⊎_elim, ℕ, ◌+◌, ◌-◌, ◌<◌, ◌≤◌, max, Bool, true, false, List, [], ◌∷◌, length, get_or, Option, Some, None, refl, sym, ◌∙◌, ap, arith}
use Rattle.std.proofs.lemmas.List.{get_or-take, get_or-drop}
use Rattle.rdf_disk.specs.Files.{FileState, bytes_of, patched, IsTorn}
use Rattle.rdf_disk.specs.Outcomes.{IsRewritten, OutcomeOf}
use Rattle.rdf_disk.specs.OutcomeLaws.{patched_torn, length-patched}
use Rattle.folder_disk.specs.Names.{IsAsked}
use Rattle.folder_disk.specs.Tracked.{reseen}
use Rattle.memory_folder.specs.Rows.{IsSoundFile}

module _ (b : List ℕ) (at : ℕ) (new : List ℕ) (within : at ≤ length b) where
  torn : IsTorn at (length new) b (patched b at new)
  torn = patched_torn b at (length new) within new refl

  long : length (patched b at new) ≡ max (length b) (at + length new)
  long = length-patched b at (length new) within new refl

  outside : (i : ℕ) → (i < at) ⊎ (at + length new ≤ i) → get_or (patched b at new) i 0 ≡ get_or b i 0
  outside i (inl before) = sym (get_or-take at (patched b at new) i 0 before) ∙ ap (λ (l : List ℕ). get_or l i 0) torn.before ∙ get_or-take at b i 0 before
  outside i (inr behind) =
      let k = i - (at + length new) in
      let is : at + length new + k ≡ i = omega arith in
      ap (λ (j : ℕ). get_or (patched b at new) j 0) (sym is)
      ∙ sym (get_or-drop (at + length new) (patched b at new) k 0)
      ∙ ap (λ (l : List ℕ). get_or l k 0) torn.after
      ∙ get_or-drop (at + length new) b k 0
      ∙ ap (λ (j : ℕ). get_or b j 0) is

-- a file that is there was rewritten; one that isn't has no bytes
rewritten_of : (w : ℕ × ℕ) (ws : List (ℕ × ℕ)) (removed : Bool) (safe x : Option (List ℕ)) → OutcomeOf (w ∷ ws) removed safe x → IsRewritten (w ∷ ws) removed (bytes_of safe) (bytes_of x)
rewritten_of w ws true safe None is = record { no_shorter = omega arith; no_longer = omega arith; same = λ i below out. absurd (omega arith) }
rewritten_of w ws false safe None is = record { no_shorter = omega (arith, ap (λ (y : Option (List ℕ)). length (bytes_of y)) (is refl)); no_longer = omega arith; same = λ i below out. absurd (omega arith) }
rewritten_of w ws true safe (Some bytes) is = is
rewritten_of w ws false safe (Some bytes) is = is

fill_rewritten : (w : ℕ × ℕ) (ws : List (ℕ × ℕ)) (removed : Bool) (safe b : List ℕ) (at : ℕ) (new : List ℕ) → IsRewritten (w ∷ ws) removed safe b → at ≤ length b → w.0 ≤ at → at + length new ≤ w.0 + w.1 → IsRewritten (w ∷ ws) removed safe (patched b at new)
fill_rewritten w ws removed safe b at new r within low high = record {
  no_shorter = omega (arith, r.no_shorter, long b at new within);
  no_longer = omega (arith, r.no_longer, long b at new within);
  same = λ i below out. ⊎_elim
      (λ (before : i < w.0). outside b at new within i (inl (omega arith)) ∙ r.same i (omega arith) out)
      (λ (behind : w.0 + w.1 ≤ i). outside b at new within i (inr (omega arith)) ∙ r.same i (omega (arith, long b at new within)) out)
      out.0;
}

sound_parts : (ws : List (ℕ × ℕ)) (removed : Bool) (safe x : Option (List ℕ)) (at : ℕ) (new : List ℕ) → OutcomeOf ws removed safe x → IsAsked ws at (length new) → at ≤ length (bytes_of x) → OutcomeOf ws removed safe (Some (patched (bytes_of x) at new))
sound_parts [] removed safe x at new is asked within = absurd asked
sound_parts (w ∷ ws) removed safe x at new is asked within = fill_rewritten w ws removed (bytes_of safe) (bytes_of x) at new (rewritten_of w ws removed safe x is) within asked.0 asked.1

pub sound_filled : (f : FileState) (at : ℕ) (new : List ℕ) → IsSoundFile f → IsAsked f.writes at (length new) → at ≤ length (bytes_of f.seen) → IsSoundFile (reseen f (Some (patched (bytes_of f.seen) at new)))
sound_filled f at new is asked within = sound_parts f.writes f.removed f.safe f.seen at new is asked within
