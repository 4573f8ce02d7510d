-- Each word behind a line's first is read as what it says, and a word that says something is read so.
use Rattle.std.proofs.Common.{◌≡◌, ℕ, ◌≤◌, ◌<◌, ◌^◌, Bool, true, false, not, ◌&&◌, cond, nat_eq, nat_le, nat_lt, List, [], ◌∷◌, ◌++◌, length, map, codes, Option, Some, None, Result, Ok, Err, refl, ap, subst, ◌∙◌, arith, inl, inr, ◌⊎◌}
use Rattle.std.specs.Prelude.{decimal}
use Rattle.std.specs.List.{AllByRecursion, list_all}
use Rattle.std.specs.Cmp.Lexicographic.{pointwise}
use Rattle.std.proofs.lemmas.Bool.{and_parts, and_from, ltb-true, lt-ltb}
use Rattle.std.proofs.lemmas.Bool.Decides.{nat_tests}
use Rattle.std.proofs.lemmas.List.Sums.{AllPass-from_list_all, list_all-from_AllPass}
use Rattle.std.proofs.lemmas.Slice.Eq.{bytes_eq-Decides}
use Rattle.rdf_types.specs.Limits.{IsText, is_name_byte, is_text_byte}
use Rattle.rdf_types.specs.declared.records.Node.{Node}
use Rattle.rdf_types.specs.declared.records.Node.TheVariants.{A, B, C}
use Rattle.rdf_types.specs.declared.records.RecKey.{RecKey}
use Rattle.rdf_disk.specs.declared.fault.Tear.{Tear}
use Rattle.rdf_disk.specs.declared.fault.Tear.TheVariants as tear
use Rattle.plan_lang.specs.declared.why.PlanWhy.{PlanWhy}
use Rattle.plan_lang.specs.declared.why.PlanWhy.TheVariants as why
use Rattle.plan_lang.specs.Numbers.{number_in}
use Rattle.rdf_types.specs.Saying.{node_text}
use Rattle.plan_lang.specs.LineText.{Word, Number, Backup, AnyNode, Other, TearWord, word_text, FitsWord, tear_text, is_node, is_backup, same_node, place}
use Rattle.plan_lang.specs.LineReading.{◌>>=◌, next, number_within, number_at, is_text, text_at, node_in, node_within, node_at, backup_at, other_at, tear_in, tear_within, tear_at, place_at}
use Rattle.plan_lang.proofs.NumberLaws.{number_again, number_takes}
use Rattle.std.proofs.lemmas.Option.{same_Some}

-- the value of a step that did not fail
pub bind_ok : {X Y E : Type 0} (r : Result X E) (f : X → Result Y E) (y : Y) → (r >>= f) ≡ Ok y → (x : X) × (r ≡ Ok x) × (f x ≡ Ok y)
bind_ok (Ok x) f y e = (x, refl, e)
bind_ok (Err d) f y e = absurd cc

-- the same, with the value at hand for what is to be shown
pub with_ok : {X Y E : Type 0} (P : Type 0) (r : Result X E) (f : X → Result Y E) (y : Y) → (r >>= f) ≡ Ok y → ((x : X) → r ≡ Ok x → f x ≡ Ok y → P) → P
with_ok P (Ok x) f y e shown = shown x refl e
with_ok P (Err d) f y e shown = absurd cc

abbrev done : {X : Type 0} → X → Result X PlanWhy
done x = Ok x

pub ok_is : {X : Type 0} (x y : X) → done x ≡ done y → x ≡ y
ok_is x y e = cc

-- a test that let a value through
pub let_through : {X : Type 0} (b : Bool) (x y : X) (e : PlanWhy) → cond b (done x) (Err e) ≡ Ok y → (b ≡ true) × (x ≡ y)
let_through true x y e q = (refl, ok_is x y q)
let_through false x y e q = absurd cc

pub next_takes : (words : List (List ℕ)) (x : List ℕ × List (List ℕ)) → next words ≡ Ok x → words ≡ x.0 ∷ x.1
next_takes [] x e = absurd cc
next_takes (word ∷ rest) x e = ap (λ (y : List ℕ × List (List ℕ)). y.0 ∷ y.1) (ok_is (word, rest) x e)

-- these words were read from the front, and fit
pub record Took (backups : ℕ) (words : List (List ℕ)) (read : List Word) (rest : List (List ℕ)) : Type 0 where
  pub parts : words ≡ map word_text read ++ rest
  pub fits : AllByRecursion (FitsWord backups) read

pub all-append : (backups : ℕ) (xs ys : List Word) → AllByRecursion (FitsWord backups) xs → AllByRecursion (FitsWord backups) ys → AllByRecursion (FitsWord backups) (xs ++ ys)
all-append backups [] ys h k = k
all-append backups (x ∷ xs) ys h k = (h.0, all-append backups xs ys h.1 k)

texts-append : (xs ys : List Word) (rest : List (List ℕ)) → map word_text xs ++ (map word_text ys ++ rest) ≡ map word_text (xs ++ ys) ++ rest
texts-append [] ys rest = refl
texts-append (x ∷ xs) ys rest = ap (λ t. word_text x ∷ t) (texts-append xs ys rest)

pub Took-then : (backups : ℕ) (words middle rest : List (List ℕ)) (xs ys : List Word) → Took backups words xs middle → Took backups middle ys rest → Took backups words (xs ++ ys) rest
Took-then backups words middle rest xs ys p q = record {
  parts = p.parts ∙ ap (λ t. map word_text xs ++ t) q.parts ∙ texts-append xs ys rest;
  fits = all-append backups xs ys p.fits q.fits;
}

-- ---- numbers

within_takes : (from to : ℕ) (o : Option ℕ) (rest : List (List ℕ)) (x : ℕ × List (List ℕ)) → number_within from to o rest ≡ Ok x → (o ≡ Some x.0) × (rest ≡ x.1) × (from ≤ x.0) × (x.0 ≤ to)
within_takes from to None rest x e = absurd cc
within_takes from to (Some n) rest x e =
    let g = let_through (nat_le from n && nat_le n to) (n, rest) x why.Number e in
    let t = and_parts (nat_le from n) (nat_le n to) g.0 in
    let low : from ≤ n = grind (arith, nat_tests) in
    let high : n ≤ to = grind (arith, nat_tests) in
    subst (λ (y : ℕ × List (List ℕ)). (Some n ≡ Some y.0) × (rest ≡ y.1) × (from ≤ y.0) × (y.0 ≤ to)) g.1 (refl, refl, low, high)

pub number_reads : (backups from to : ℕ) (words : List (List ℕ)) (x : ℕ × List (List ℕ)) → number_at from to words ≡ Ok x → Took backups words (Number from to x.0 ∷ []) x.1
unfolding number_at
number_reads backups from to words x e =
    let w = bind_ok (next words) _ x e in
    let n = within_takes from to (number_in w.0.0) w.0.1 x w.2 in
    record {
      parts = next_takes words w.0 w.1 ∙ ap (λ (t : List ℕ). t ∷ w.0.1) (number_takes w.0.0 x.0 n.0).0 ∙ ap (λ t. decimal x.0 ∷ t) n.1;
      fits = ((n.2, n.3), tt);
    }

pub number_again_at : (from to n : ℕ) (rest : List (List ℕ)) → to < 2 ^ 32 → (from ≤ n) × (n ≤ to) → number_at from to (decimal n ∷ rest) ≡ Ok (n, rest)
unfolding number_at
number_again_at from to n rest small h =
    let low : nat_le from n ≡ true = grind (arith, nat_tests) in
    let high : nat_le n to ≡ true = grind (arith, nat_tests) in
    rw (number_again n (omega (arith, h.1)), low, high) refl

-- ---- texts

is_text-IsText : (class : ℕ → Bool) (limit : ℕ) (word : List ℕ) → is_text class limit word ≡ true → IsText class limit word
is_text-IsText class limit word e =
    let p = and_parts (nat_lt 0 (length word)) (nat_le (length word) limit && list_all class word) e in
    let q = and_parts (nat_le (length word) limit) (list_all class word) p.1 in
    record { some = ltb-true 0 (length word) p.0; few = grind (arith, nat_tests); all = AllPass-from_list_all class word q.1 }

IsText-is_text : (class : ℕ → Bool) (limit : ℕ) (word : List ℕ) → IsText class limit word → is_text class limit word ≡ true
IsText-is_text class limit word h =
    let few : length word ≤ limit = h.few in
    and_from (nat_lt 0 (length word)) (nat_le (length word) limit && list_all class word) (lt-ltb 0 (length word) h.some)
    (and_from (nat_le (length word) limit) (list_all class word) (grind (arith, nat_tests)) (list_all-from_AllPass class word h.all))

pub text_reads : (class : ℕ → Bool) (limit : ℕ) (words : List (List ℕ)) (x : List ℕ × List (List ℕ)) → text_at class limit words ≡ Ok x → (words ≡ x.0 ∷ x.1) × IsText class limit x.0
unfolding text_at
text_reads class limit words x e =
    let w = bind_ok (next words) _ x e in
    let g = let_through (is_text class limit w.0.0) w.0 x why.Name w.2 in
    subst (λ (y : List ℕ × List (List ℕ)). (words ≡ y.0 ∷ y.1) × IsText class limit y.0) g.1 (next_takes words w.0 w.1, is_text-IsText class limit w.0.0 g.0)

pub text_again_at : (class : ℕ → Bool) (limit : ℕ) (word : List ℕ) (rest : List (List ℕ)) → IsText class limit word → text_at class limit (word ∷ rest) ≡ Ok (word, rest)
unfolding text_at
text_again_at class limit word rest h = rw (IsText-is_text class limit word h) refl

-- ---- nodes

chosen : {X : Type 0} (b : Bool) (x y z : X) → cond b x y ≡ z → ((b ≡ true) × (x ≡ z)) ⊎ ((b ≡ false) × (y ≡ z))
chosen true x y z e = inl (refl, e)
chosen false x y z e = inr (refl, e)

same_bytes : (word text : List ℕ) → pointwise nat_eq word text ≡ true → word ≡ text
same_bytes word text e = (bytes_eq-Decides word text).0 e

node_names : (word : List ℕ) (node : Node) → node_in word ≡ Some node → word ≡ node_text node
node_names word node e =
    elim (chosen (pointwise nat_eq word (codes "a")) _ _ (Some node) e) [
      | inl a ↦ same_bytes word (codes "a") a.0 ∙ ap node_text (same_Some A node a.1)
      | inr na ↦ elim (chosen (pointwise nat_eq word (codes "b")) _ _ (Some node) na.1) [
        | inl b ↦ same_bytes word (codes "b") b.0 ∙ ap node_text (same_Some B node b.1)
        | inr nb ↦ elim (chosen (pointwise nat_eq word (codes "c")) _ _ (Some node) nb.1) [
          | inl c ↦ same_bytes word (codes "c") c.0 ∙ ap node_text (same_Some C node c.1)
          | inr nc ↦ absurd (let no : None ≡ Some node = nc.1 in cc)
        ]
      ]
    ]

pub node_in-again : (node : Node) → node_in (node_text node) ≡ Some node
node_in-again A = refl
node_in-again B = refl
node_in-again C = refl

node_passes : (test : Node → Bool) (o : Option Node) (rest : List (List ℕ)) (x : Node × List (List ℕ)) → node_within test o rest ≡ Ok x → (o ≡ Some x.0) × (rest ≡ x.1) × (test x.0 ≡ true)
node_passes test None rest x e = absurd cc
node_passes test (Some node) rest x e =
    let g = let_through (test node) (node, rest) x why.Name e in
    subst (λ (y : Node × List (List ℕ)). (Some node ≡ Some y.0) × (rest ≡ y.1) × (test y.0 ≡ true)) g.1 (refl, refl, g.0)

-- a word that names a node that passes
named : (test : Node → Bool) (words : List (List ℕ)) (w : List ℕ × List (List ℕ)) (x : Node × List (List ℕ)) → next words ≡ Ok w → node_within test (node_in w.0) w.1 ≡ Ok x → (words ≡ node_text x.0 ∷ x.1) × (test x.0 ≡ true)
named test words w x e f =
    let p = node_passes test (node_in w.0) w.1 x f in
    (next_takes words w e ∙ ap (λ (t : List ℕ). t ∷ w.1) (node_names w.0 x.0 p.0) ∙ ap (λ t. node_text x.0 ∷ t) p.1, p.2)

pub node_reads : (backups : ℕ) (words : List (List ℕ)) (x : Node × List (List ℕ)) → node_at backups words ≡ Ok x → Took backups words (AnyNode x.0 ∷ []) x.1
unfolding node_at
node_reads backups words x e =
    let w = bind_ok (next words) _ x e in
    let p = named (is_node backups) words w.0 x w.1 w.2 in
    record { parts = p.0; fits = (p.1, tt) }

pub backup_reads : (backups : ℕ) (words : List (List ℕ)) (x : Node × List (List ℕ)) → backup_at backups words ≡ Ok x → Took backups words (Backup x.0 ∷ []) x.1
unfolding backup_at
backup_reads backups words x e =
    let w = bind_ok (next words) _ x e in
    let p = named (is_backup backups) words w.0 x w.1 w.2 in
    record { parts = p.0; fits = (p.1, tt) }

pub other_reads : (backups : ℕ) (than : Node) (words : List (List ℕ)) (x : Node × List (List ℕ)) → other_at backups than words ≡ Ok x → Took backups words (Other than x.0 ∷ []) x.1
unfolding other_at
other_reads backups than words x e =
    let w = bind_ok (next words) _ x e in
    let p = named (λ node. is_backup backups node && not (same_node than node)) words w.0 x w.1 w.2 in
    record { parts = p.0; fits = (p.1, tt) }

pub node_again : (backups : ℕ) (node : Node) (rest : List (List ℕ)) → is_node backups node ≡ true → node_at backups (node_text node ∷ rest) ≡ Ok (node, rest)
unfolding node_at
node_again backups node rest h = rw (node_in-again node, h) refl

pub backup_again : (backups : ℕ) (node : Node) (rest : List (List ℕ)) → is_backup backups node ≡ true → backup_at backups (node_text node ∷ rest) ≡ Ok (node, rest)
unfolding backup_at
backup_again backups node rest h = rw (node_in-again node, h) refl

pub other_again : (backups : ℕ) (than node : Node) (rest : List (List ℕ)) → (is_backup backups node && not (same_node than node)) ≡ true → other_at backups than (node_text node ∷ rest) ≡ Ok (node, rest)
unfolding other_at
other_again backups than node rest h = rw (node_in-again node, h) refl

-- ---- tears

tear_names : (word : List ℕ) (t : Tear) → tear_in word ≡ Some t → word ≡ tear_text t
tear_names word t e =
    elim (chosen (pointwise nat_eq word (codes "lose")) _ _ (Some t) e) [
      | inl a ↦ same_bytes word (codes "lose") a.0 ∙ ap tear_text (same_Some tear.Lose t a.1)
      | inr na ↦ elim (chosen (pointwise nat_eq word (codes "keep")) _ _ (Some t) na.1) [
        | inl b ↦ same_bytes word (codes "keep") b.0 ∙ ap tear_text (same_Some tear.Keep t b.1)
        | inr nb ↦ elim (chosen (pointwise nat_eq word (codes "mix")) _ _ (Some t) nb.1) [
          | inl c ↦ same_bytes word (codes "mix") c.0 ∙ ap tear_text (same_Some tear.Mix t c.1)
          | inr nc ↦ absurd (let no : None ≡ Some t = nc.1 in cc)
        ]
      ]
    ]

tear_passes : (o : Option Tear) (t : Tear) → tear_within o ≡ Ok t → o ≡ Some t
tear_passes None t e = absurd cc
tear_passes (Some s) t e = ap (λ u. Some u) (ok_is s t e)

-- the word of a tear, and what stands behind it
pub tear_reads : (backups : ℕ) (words : List (List ℕ)) (t : Tear) → tear_at words ≡ Ok t → (rest : List (List ℕ)) × Took backups words (TearWord t ∷ []) rest
unfolding tear_at
tear_reads backups words t e =
    let w = bind_ok (next words) _ t e in
    (w.0.1, record { parts = next_takes words w.0 w.1 ∙ ap (λ (u : List ℕ). u ∷ w.0.1) (tear_names w.0.0 t (tear_passes (tear_in w.0.0) t w.2)); fits = (tt, tt) })

pub tear_again : (t : Tear) (rest : List (List ℕ)) → tear_at (tear_text t ∷ rest) ≡ Ok t
unfolding tear_at
tear_again tear.Lose rest = refl
tear_again tear.Keep rest = refl
tear_again tear.Mix rest = refl

-- ---- places

pub place_reads : (backups : ℕ) (words : List (List ℕ)) (x : RecKey × List (List ℕ)) → place_at words ≡ Ok x → Took backups words (place x.0) x.1
unfolding place_at
place_reads backups words x e =
    let vol = bind_ok (number_at 0 15 words) _ x e in
    let file = bind_ok (text_at is_name_byte 16 vol.0.1) _ x vol.2 in
    let key = bind_ok (text_at is_text_byte 32 file.0.1) _ x file.2 in
    let made : RecKey × List (List ℕ) = (record { vol = vol.0.0; file = file.0.0; key = key.0.0 }, key.0.1) in
    let v = number_reads backups 0 15 words vol.0 vol.1 in
    let f = text_reads is_name_byte 16 vol.0.1 file.0 file.1 in
    let k = text_reads is_text_byte 32 file.0.1 key.0 key.1 in
    let took : Took backups words (place made.0) made.1 = record {
      parts = v.parts ∙ ap (λ t. decimal vol.0.0 ∷ t) (f.0 ∙ ap (λ t. file.0.0 ∷ t) k.0);
      fits = (v.fits.0, (f.1, (k.1, tt)));
    } in
    subst (λ (y : RecKey × List (List ℕ)). Took backups words (place y.0) y.1) (ok_is made x key.2) took

pub place_again : (backups : ℕ) (k : RecKey) (rest : List (List ℕ)) → AllByRecursion (FitsWord backups) (place k) → place_at (map word_text (place k) ++ rest) ≡ Ok (k, rest)
unfolding place_at
place_again backups k rest h =
    rw (number_again_at 0 15 k.vol (k.file ∷ k.key ∷ rest) (omega arith) h.0, text_again_at is_name_byte 16 k.file (k.key ∷ rest) h.1.0, text_again_at is_text_byte 32 k.key rest h.1.1.0) refl
