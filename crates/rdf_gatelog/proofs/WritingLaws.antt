-- Blocks with open gates, written one after another.
use Rattle.std.proofs.Common.{◌≡◌, ℕ, ◌+◌, ◌<◌, ◌≤◌, zero, suc, List, [], ◌∷◌, ◌++◌, length, drop, get_or, Vec, sym, ◌∙◌, ap, subst, append_assoc, length-append, arith}
use Rattle.std.proofs.lemmas.List.{drop_more}
use Rattle.std.specs.List.{AllByRecursion}
use Rattle.std.specs.declared.alloc.Global.{Global}
use Rattle.rdf_gatelog.specs.Log.{IsPayload, framed, open_blocks}
use Rattle.rdf_gatelog.specs.LogLaws.{length-framed}
use Rattle.rdf_gatelog.specs.LogCalls.{AreBehind}
use Rattle.rdf_gatelog.specs.Parsed.{lists_of}

fits_from : (payloads : List (Vec ℕ Global)) (i : ℕ) → AllByRecursion IsPayload (lists_of payloads) → AllByRecursion IsPayload (lists_of (drop i payloads))
fits_from payloads zero fit = fit
fits_from [] (suc i) fit = fit
fits_from (p ∷ payloads) (suc i) fit = fits_from payloads i fit.1

module _ (payloads : List (Vec ℕ Global)) (i : ℕ) (item : Vec ℕ Global) (below : i < length payloads) (is : item ≡ get_or payloads i item) where
  next : drop i payloads ≡ item ∷ drop (i + 1) payloads
  next = drop_more payloads i item below ∙ ap (λ (x : Vec ℕ Global). x ∷ drop (i + 1) payloads) (sym is)

  pub payload_fits : AllByRecursion IsPayload (lists_of payloads) → IsPayload item.items
  payload_fits fit =
      let here : AllByRecursion IsPayload (lists_of (item ∷ drop (i + 1) payloads)) = subst (λ (vs : List (Vec ℕ Global)). AllByRecursion IsPayload (lists_of vs)) next (fits_from payloads i fit) in
      here.0

  pub blocks_so_far : (old new : List ℕ) → open_blocks (lists_of payloads) ≡ old ++ open_blocks (lists_of (drop i payloads)) → new ≡ old ++ (1 ∷ framed item.items)
      → open_blocks (lists_of payloads) ≡ new ++ open_blocks (lists_of (drop (i + 1) payloads))
  blocks_so_far old new so_far pushed =
      so_far
      ∙ ap (λ (vs : List (Vec ℕ Global)). old ++ open_blocks (lists_of vs)) next
      ∙ sym (append_assoc old (1 ∷ framed item.items) (open_blocks (lists_of (drop (i + 1) payloads))))
      ∙ ap (λ (l : List ℕ). l ++ open_blocks (lists_of (drop (i + 1) payloads))) (sym pushed)

-- the blocks of some payloads without the first gate
pub all_behind : (payloads : List (List ℕ)) (bytes behind : List ℕ) → AllByRecursion IsPayload payloads → 1 ≤ length payloads → bytes ≡ open_blocks payloads ++ 0 ∷ [] → behind ≡ drop 1 bytes → AreBehind payloads behind
all_behind [] bytes behind fit some are is = absurd (omega (arith, some))
all_behind (p ∷ payloads) bytes behind fit some are is = record { bytes_are = ap (λ (l : List ℕ). 1 ∷ l) (is ∙ ap (λ (l : List ℕ). drop 1 l) are); fit = fit }

pub some_behind : (payloads : List (List ℕ)) (behind : List ℕ) → 1 ≤ length payloads → AreBehind payloads behind → 1 ≤ length behind
some_behind [] behind some are = absurd (omega (arith, some))
some_behind (p ∷ payloads) behind some are =
    omega (arith, ap length are.bytes_are, length-append (open_blocks (p ∷ payloads)) (0 ∷ []), length-append (1 ∷ framed p) (open_blocks payloads), length-framed p)
