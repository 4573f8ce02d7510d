-- Laws of logs.
use Rattle.std.proofs.Common.{◌≡◌, ◌≢◌, ◌∙◌, ℕ, ◌+◌, ◌≤◌, List, [], ◌∷◌, ◌++◌, length, take, drop, Option, None, Some, inl, inr, refl, sym, ap, subst, arith, append_assoc, length-append}
use Rattle.std.proofs.lemmas.List.{take_at, drop_at}
use Rattle.std.proofs.lemmas.Nat.{from_be_bytes-to_be_bytes_4}
use Rattle.std.specs.List.{AllByRecursion}
use Rattle.std.specs.Int.{to_be_bytes, from_be_bytes, w32}
use Rattle.rdf_disk.specs.Files.{FileState, Disk}
use Rattle.rdf_disk.specs.Outcomes.{May, Surely}
use Rattle.rdf_disk.specs.OutcomeLaws.{may-settled}
use Rattle.rdf_gatelog.specs.Log.{IsPayload, framed, open_blocks, IsSpelled, IsLog, IsLogFile, IsAtRest, IsBlockAt, IsDamaged}

-- ---- the bytes of blocks

-- a length takes four bytes
pub length-framed : (p : List ℕ) → length (framed p) ≡ 4 + length p
length-framed p = length-append (to_be_bytes w32 (length p)) p

-- where the blocks before and after one of them begin and end
pub block_place : (before : List (List ℕ)) (p : List ℕ) (after : List (List ℕ)) → length (open_blocks (before ++ p ∷ after)) ≡ length (open_blocks before) + (5 + length p) + length (open_blocks after)
block_place [] p after = omega (arith, length-append (1 ∷ framed p) (open_blocks after), length-framed p)
block_place (q ∷ before) p after =
    omega (arith, length-append (1 ∷ framed q) (open_blocks (before ++ p ∷ after)), length-append (1 ∷ framed q) (open_blocks before), block_place before p after)

-- a block that was added last stands where the blocks ended
pub block_added : (payloads : List (List ℕ)) (p : List ℕ) → IsBlockAt (payloads ++ p ∷ []) (length (open_blocks payloads)) p
block_added payloads p = record { before = payloads; after = []; payloads_are = refl; at_is = refl }

-- a block stays where it is when others are added
pub block_stays : (payloads more : List (List ℕ)) (at : ℕ) (p : List ℕ) → IsBlockAt payloads at p → IsBlockAt (payloads ++ more) at p
block_stays payloads more at p block = record {
  before = block.before;
  after = block.after ++ more;
  payloads_are = ap (λ (ps : List (List ℕ)). ps ++ more) block.payloads_are ∙ append_assoc block.before (p ∷ block.after) more;
  at_is = block.at_is;
}

-- ---- bytes are a log of one list of payloads at most

-- one block has one payload
one_payload : (p q x y : List ℕ) → IsPayload p → IsPayload q → framed p ++ x ≡ framed q ++ y → (p ≡ q) × (x ≡ y)
one_payload p q x y fp fq same =
    let re : to_be_bytes w32 (length p) ++ (p ++ x) ≡ to_be_bytes w32 (length q) ++ (q ++ y) = sym (append_assoc (to_be_bytes w32 (length p)) p x) ∙ same ∙ append_assoc (to_be_bytes w32 (length q)) q y in
    let heads : to_be_bytes w32 (length p) ≡ to_be_bytes w32 (length q) = sym (take_at (to_be_bytes w32 (length p)) (p ++ x) 4 refl) ∙ ap (λ (l : List ℕ). take 4 l) re ∙ take_at (to_be_bytes w32 (length q)) (q ++ y) 4 refl in
    let tails : p ++ x ≡ q ++ y = sym (drop_at (to_be_bytes w32 (length p)) (p ++ x) 4 refl) ∙ ap (λ (l : List ℕ). drop 4 l) re ∙ drop_at (to_be_bytes w32 (length q)) (q ++ y) 4 refl in
    let lengths : length p ≡ length q = sym (from_be_bytes-to_be_bytes_4 (length p) (omega (arith, fp.1))) ∙ ap (λ (l : List ℕ). from_be_bytes w32 l) heads ∙ from_be_bytes-to_be_bytes_4 (length q) (omega (arith, fq.1)) in (
      sym (take_at p x (length p) refl) ∙ ap (λ (l : List ℕ). take (length p) l) tails ∙ take_at q y (length p) (sym lengths),
      sym (drop_at p x (length p) refl) ∙ ap (λ (l : List ℕ). drop (length p) l) tails ∙ drop_at q y (length p) (sym lengths),
    )

first_block_is : (p : List ℕ) (ps : List (List ℕ)) (rest : List ℕ) → open_blocks (p ∷ ps) ++ rest ≡ 1 ∷ (framed p ++ (open_blocks ps ++ rest))
first_block_is p ps rest = append_assoc (1 ∷ framed p) (open_blocks ps) rest

-- bytes are spelled by one list of payloads
pub one_list : (ps qs : List (List ℕ)) (g h : ℕ) (r t : List ℕ) → AllByRecursion IsPayload ps → AllByRecursion IsPayload qs → g ≢ 1 → h ≢ 1
    → open_blocks ps ++ g ∷ r ≡ open_blocks qs ++ h ∷ t → ps ≡ qs
one_list [] [] g h r t fp fq g_shut h_shut same = refl
one_list [] (q ∷ qs) g h r t fp fq g_shut h_shut same =
    let e : g ∷ r ≡ 1 ∷ (framed q ++ (open_blocks qs ++ h ∷ t)) = same ∙ first_block_is q qs (h ∷ t) in
    let one : g ≡ 1 = cc in absurd (g_shut one)
one_list (p ∷ ps) [] g h r t fp fq g_shut h_shut same =
    let e : h ∷ t ≡ 1 ∷ (framed p ++ (open_blocks ps ++ g ∷ r)) = sym same ∙ first_block_is p ps (g ∷ r) in
    let one : h ≡ 1 = cc in absurd (h_shut one)
one_list (p ∷ ps) (q ∷ qs) g h r t fp fq g_shut h_shut same =
    let e : 1 ∷ (framed p ++ (open_blocks ps ++ g ∷ r)) ≡ 1 ∷ (framed q ++ (open_blocks qs ++ h ∷ t)) = sym (first_block_is p ps (g ∷ r)) ∙ same ∙ first_block_is q qs (h ∷ t) in
    let e2 : framed p ++ (open_blocks ps ++ g ∷ r) ≡ framed q ++ (open_blocks qs ++ h ∷ t) = ap (λ (l : List ℕ). drop 1 l) e in
    let both = one_payload p q (open_blocks ps ++ g ∷ r) (open_blocks qs ++ h ∷ t) fp.0 fq.0 e2 in
    let rest = one_list ps qs g h r t fp.1 fq.1 g_shut h_shut both.1 in
    ap (λ (l : List ℕ). l ∷ ps) both.0 ∙ ap (λ (l : List (List ℕ)). q ∷ l) rest

-- at most one byte is a log of none
pub short_none : (qs : List (List ℕ)) (b : List ℕ) → length b ≤ 1 → IsLog qs b → qs ≡ []
short_none qs b short (inl none) = none.1
short_none [] b short (inr s) = refl
short_none (q ∷ qs) b short (inr s) =
    absurd (omega (arith, ap length s.bytes_are, length-append (open_blocks (q ∷ qs)) (s.gate ∷ s.rest), length-append (1 ∷ framed q) (open_blocks qs)))

-- more bytes are a log of what they spell
pub long_spelled : (qs : List (List ℕ)) (b : List ℕ) → 2 ≤ length b → IsLog qs b → IsSpelled qs b
long_spelled qs b long (inl none) = absurd (omega (arith, none.0))
long_spelled qs b long (inr s) = s

-- bytes that are broken at a place are no log
pub broken_no_spelling : (ps qs : List (List ℕ)) (g : ℕ) (r tail : List ℕ) → AllByRecursion IsPayload ps → AllByRecursion IsPayload qs → g ≢ 1
    → ((payload rest : List ℕ) → IsPayload payload → tail ≡ framed payload ++ rest → 1 ≤ length rest → ⊥)
    → open_blocks ps ++ g ∷ r ≡ open_blocks qs ++ 1 ∷ tail → ⊥
broken_no_spelling [] [] g r tail fp fq g_shut no_block same = let one : g ≡ 1 = cc in g_shut one
broken_no_spelling [] (q ∷ qs) g r tail fp fq g_shut no_block same =
    let e : g ∷ r ≡ 1 ∷ (framed q ++ (open_blocks qs ++ 1 ∷ tail)) = same ∙ first_block_is q qs (1 ∷ tail) in
    let one : g ≡ 1 = cc in g_shut one
broken_no_spelling (p ∷ ps) [] g r tail fp fq g_shut no_block same =
    let e : 1 ∷ (framed p ++ (open_blocks ps ++ g ∷ r)) ≡ 1 ∷ tail = sym (first_block_is p ps (g ∷ r)) ∙ same in
    let tail_is : framed p ++ (open_blocks ps ++ g ∷ r) ≡ tail = ap (λ (l : List ℕ). drop 1 l) e in
    no_block p (open_blocks ps ++ g ∷ r) fp.0 (sym tail_is) (omega (arith, length-append (open_blocks ps) (g ∷ r)))
broken_no_spelling (p ∷ ps) (q ∷ qs) g r tail fp fq g_shut no_block same =
    let e : 1 ∷ (framed p ++ (open_blocks ps ++ g ∷ r)) ≡ 1 ∷ (framed q ++ (open_blocks qs ++ 1 ∷ tail)) = sym (first_block_is p ps (g ∷ r)) ∙ same ∙ first_block_is q qs (1 ∷ tail) in
    let e2 : framed p ++ (open_blocks ps ++ g ∷ r) ≡ framed q ++ (open_blocks qs ++ 1 ∷ tail) = ap (λ (l : List ℕ). drop 1 l) e in
    let both = one_payload p q (open_blocks ps ++ g ∷ r) (open_blocks qs ++ 1 ∷ tail) fp.0 fq.0 e2 in
    broken_no_spelling ps qs g r tail fp.1 fq.1 g_shut no_block both.1

-- a file is a log of one list of payloads at most
pub one_log : (ps qs : List (List ℕ)) (x : Option (List ℕ)) → IsLogFile ps x → IsLogFile qs x → ps ≡ qs
one_log ps qs None p q = absurd p
one_log ps qs (Some b) (inl p) q = p.1 ∙ sym (short_none qs b p.0 q)
one_log ps qs (Some b) (inr p) (inl q) = short_none ps b q.0 (inr p) ∙ sym q.1
one_log ps qs (Some b) (inr p) (inr q) = one_list ps qs p.gate q.gate p.rest q.rest p.fit q.fit p.shut q.shut (sym p.bytes_are ∙ q.bytes_are)

-- a log isn't damaged
pub log_not_damaged : (ps : List (List ℕ)) (x : Option (List ℕ)) (at : ℕ) → IsLogFile ps x → IsDamaged x at → ⊥
log_not_damaged ps None at log damaged = log
log_not_damaged ps (Some b) at log (long, broken) =
    let s = long_spelled ps b long log in
    broken_no_spelling ps broken.payloads s.gate s.rest broken.tail s.fit broken.fit s.shut broken.no_block (sym s.bytes_are ∙ broken.bytes_are)

-- ---- a log at rest

-- whatever there may be of its file is a log of its payloads
pub at_rest_surely : (file end : ℕ) (payloads : List (List ℕ)) (disk : Disk) → IsAtRest file end payloads disk → Surely (disk file) (IsLogFile payloads)
at_rest_surely file end payloads disk a x may =
    let is : x ≡ Some a.bytes = may-settled (Some a.bytes) x (subst (λ (f : FileState). May f x) a.file_is may) in
    subst (IsLogFile payloads) (sym is) (inr a.spelled)

-- it stays at rest while its file stays as it is
pub at_rest_same : (file end : ℕ) (payloads : List (List ℕ)) (old new : Disk) → new file ≡ old file → IsAtRest file end payloads old → IsAtRest file end payloads new
at_rest_same file end payloads old new same a = record { bytes = a.bytes; file_is = same ∙ a.file_is; spelled = a.spelled; end_is = a.end_is }
