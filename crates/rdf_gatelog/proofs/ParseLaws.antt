-- The steps of going over the blocks.
use Rattle.std.proofs.Common.{◌≡◌, ℕ, ◌+◌, List, [], ◌∷◌, ◌++◌, length, map, sym, ◌∙◌, ap, arith, length-append, Vec}
use Rattle.std.specs.declared.alloc.Global.{Global}
use Rattle.std.proofs.lemmas.List.{append-nil, map-append}
use Rattle.rdf_gatelog.specs.Log.{framed, open_blocks}
use Rattle.rdf_gatelog.specs.LogLaws.{length-framed}
use Rattle.rdf_gatelog.proofs.AppendLaws.{open_blocks-append}

pub block_behind : (bytes : List ℕ) (ps : List (List ℕ)) (p rest after behind : List ℕ) → bytes ≡ open_blocks ps ++ rest → rest ≡ 1 ∷ after → after ≡ framed p ++ behind
    → bytes ≡ open_blocks (ps ++ p ∷ []) ++ behind
block_behind bytes ps p rest after behind split first block =
    split ∙ ap (λ (l : List ℕ). open_blocks ps ++ l) (first ∙ ap (λ (l : List ℕ). 1 ∷ l) block) ∙ sym (open_blocks-append ps p behind)

pub payloads_push : (old new : List (Vec ℕ Global)) (v : Vec ℕ Global) (p : List ℕ) → new ≡ old ++ v ∷ [] → v.items ≡ p → map (λ w. w.items) new ≡ map (λ w. w.items) old ++ p ∷ []
payloads_push old new v p is same = ap (λ (l : List (Vec ℕ Global)). map (λ w. w.items) l) is ∙ map-append (λ (w : Vec ℕ Global). w.items) old (v ∷ []) ∙ ap (λ (l : List ℕ). map (λ w. w.items) old ++ l ∷ []) same

-- a block is five bytes longer than its payload
pub length-open_blocks-push : (ps : List (List ℕ)) (p : List ℕ) → length (open_blocks (ps ++ p ∷ [])) ≡ length (open_blocks ps) + (5 + length p)
length-open_blocks-push ps p =
    let whole : open_blocks (ps ++ p ∷ []) ≡ open_blocks ps ++ (1 ∷ framed p) = sym (append-nil (open_blocks (ps ++ p ∷ []))) ∙ open_blocks-append ps p [] ∙ ap (λ (l : List ℕ). open_blocks ps ++ l) (append-nil (1 ∷ framed p)) in
    omega (arith, ap length whole, length-append (open_blocks ps) (1 ∷ framed p), length-framed p)
