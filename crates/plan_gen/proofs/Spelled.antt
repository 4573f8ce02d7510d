-- The generated plan has a text: its lines are in range, its sessions end, and it is not too long.
use Rattle.std.proofs.Common.{◌≡◌, ℕ, zero, suc, ◌+◌, ◌-◌, ◌*◌, ◌/◌, ◌%◌, ◌^◌, ◌<◌, ◌≤◌, Bool, true, false, cond, ◌==◌, nat_lt, List, [], ◌∷◌, ◌++◌, length, Option, None, refl, sym, subst, inl, inr, length-append, arith}
use Rattle.std.specs.Prelude.{decimal, if◌then◌else◌}
use Rattle.std.specs.List.{AllByRecursion}
use Rattle.std.proofs.lemmas.Bool.{cases_Bool, eqb-true}
use Rattle.rdf_types.specs.Limits.{is_text_byte}
use Rattle.rdf_types.specs.declared.records.Node.{Node}
use Rattle.rdf_types.specs.declared.records.Node.TheVariants.{A, B, C}
use Rattle.plan_lang.specs.declared.lines.Line.{Line}
use Rattle.plan_lang.specs.declared.lines.Line.TheVariants as line
use Rattle.plan_lang.specs.LineText.{Backup, FitsWord, IsLine, place}
use Rattle.plan_lang.specs.Sessions.{KeepSessions, session_after}
use Rattle.plan_lang.specs.PlanText.{IsPlan}
use Rattle.plan_gen.specs.Drawing.{drawn, later}
use Rattle.plan_gen.proofs.Texts.{key_fits, value_fits, file_fits}
use Rattle.plan_gen.specs.Generated.{row_at, own_row, shared_row, change_of, change, changes, outcome, change_count, behind_changes, transaction, behind_transaction, arrivals, message, session, sessions, round, round_behind, behind_round, load, lists, last_part, generated_plan}

pub drawn_below : (n x : ℕ) → 0 < n → drawn n x < n
unfolding drawn
drawn_below n x h = omega arith

-- ---- pieces of a plan

-- lines that may stand in a plan outside of sessions, and leave no session open; at most so many
pub record IsPiece (most : ℕ) (lines : List Line) : Type 0 where
  pub fit : AllByRecursion (IsLine 2) lines
  pub sessions : KeepSessions None lines
  pub few : length lines ≤ most

both_fit : (a b : List Line) → AllByRecursion (IsLine 2) a → AllByRecursion (IsLine 2) b → AllByRecursion (IsLine 2) (a ++ b)
both_fit [] b h k = k
both_fit (l ∷ a) b h k = (h.0, both_fit a b h.1 k)

both_keep : (a b : List Line) (of : Option Node) → KeepSessions of a → KeepSessions None b → KeepSessions of (a ++ b)
both_keep [] b of h k = subst (λ (o : Option Node). KeepSessions o b) (sym h) k
both_keep (l ∷ a) b of h k = (h.0, both_keep a b (session_after of l) h.1 k)

pub joined : (m n : ℕ) (a b : List Line) → IsPiece m a → IsPiece n b → IsPiece (m + n) (a ++ b)
joined m n a b p q = record {
  fit = both_fit a b p.fit q.fit;
  sessions = both_keep a b None p.sessions q.sessions;
  few = let f = p.few in let g = q.few in omega (arith, length-append a b);
}

within : (m n : ℕ) (a : List Line) → m ≤ n → IsPiece m a → IsPiece n a
within m n a le p = record { fit = p.fit; sessions = p.sessions; few = let f = p.few in omega arith }

nothing : IsPiece 0 []
nothing = record { fit = tt; sessions = refl; few = omega arith }

-- a choice between two
chosen : {X : Type 0} (P : X → Type 0) (b : Bool) (x y : X) → P x → P y → P (cond b x y)
chosen P true x y p q = p
chosen P false x y p q = q

-- ---- transactions

place_fits : (vol letter n : ℕ) → vol ≤ 15 → is_text_byte letter ≡ true → n < 2 ^ 32 → AllByRecursion (FitsWord 2) (place (row_at vol letter n))
place_fits vol letter n small e lt = ((omega arith, small), (file_fits, (key_fits letter n e lt, tt)))

insert_fits : (t vol letter n value : ℕ) → t ≤ 4294967295 → vol ≤ 15 → is_text_byte letter ≡ true → n < 2 ^ 32 → value < 2 ^ 32 → IsLine 2 (line.Insert t (row_at vol letter n) (decimal value))
insert_fits t vol letter n value le small e lt below = ((omega arith, le), ((omega arith, small), (file_fits, (key_fits letter n e lt, (value_fits value below, tt)))))

-- one line that may stand outside of sessions and begins none
abbrev Alone : Line → Type 0
Alone l = IsPiece 1 (l ∷ [])

one_change : (kind t vol j value : ℕ) → t ≤ 4294967295 → vol ≤ 15 → j < 2 ^ 32 → value < 2 ^ 32 → Alone (change_of kind t (shared_row vol j) value)
one_change kind t vol j value le small lt below =
    let words = insert_fits t vol 107 j value le small refl lt below in
    chosen Alone (nat_lt kind 2) (line.Insert t (shared_row vol j) (decimal value)) (cond (kind == 2) (line.Update t (shared_row vol j) (decimal value)) (line.Delete t (shared_row vol j)))
    (record { fit = (words, tt); sessions = (refl, refl); few = omega arith })
    (chosen Alone (kind == 2) (line.Update t (shared_row vol j) (decimal value)) (line.Delete t (shared_row vol j))
    (record { fit = (words, tt); sessions = (refl, refl); few = omega arith })
    (record { fit = (((omega arith, le), place_fits vol 107 j small refl lt), tt); sessions = (refl, refl); few = omega arith }))

some_changes : (c t x : ℕ) → t ≤ 4294967295 → IsPiece c (changes c t x)
some_changes zero t x le = nothing
some_changes (suc c) t x le =
    let vol = drawn_below 8 (later 1 x) (omega arith) in
    let j = drawn_below 100 (later 2 x) (omega arith) in
    let value = drawn_below 1000 (later 3 x) (omega arith) in
    let first = one_change (drawn 4 x) t (drawn 8 (later 1 x)) (drawn 100 (later 2 x)) (drawn 1000 (later 3 x)) le (omega (arith, vol)) (omega (arith, j)) (omega (arith, value)) in
    within (1 + c) (suc c) (changes (suc c) t x) (omega arith) (joined 1 c (change t x ∷ []) (changes c t (later 4 x)) first (some_changes c t (later 4 x) le))

an_outcome : (t x : ℕ) → t ≤ 4294967295 → Alone (outcome t x)
an_outcome t x le =
    let one : IsPiece 1 (line.Abort t ∷ []) = record { fit = (((omega arith, le), tt), tt); sessions = (refl, refl); few = omega arith } in
    let other : IsPiece 1 (line.Commit t ∷ []) = record { fit = (((omega arith, le), tt), tt); sessions = (refl, refl); few = omega arith } in
    chosen Alone (drawn 8 x == 0) (line.Abort t) (line.Commit t) one other

beginning : (t vol : ℕ) → t ≤ 4294967295 → vol ≤ 15 → IsPiece 2 (line.Begin t ∷ line.Insert t (own_row vol t) (decimal t) ∷ [])
beginning t vol le small = record {
  fit = (((omega arith, le), tt), (insert_fits t vol 110 t t le small refl (omega arith) (omega arith), tt));
  sessions = (refl, (refl, refl));
  few = omega arith;
}

a_transaction : (t x : ℕ) → t ≤ 4294967295 → IsPiece 6 (transaction t x)
a_transaction t x le =
    let vol = drawn_below 8 x (omega arith) in
    let c = drawn_below 4 (later 1 x) (omega arith) in
    let few = within (change_count x) 3 (changes (change_count x) t (later 2 x)) (omega (arith, c)) (some_changes (change_count x) t (later 2 x) le) in
    joined 2 4 (line.Begin t ∷ line.Insert t (own_row (drawn 8 x) t) (decimal t) ∷ []) (changes (change_count x) t (later 2 x) ++ outcome t (behind_changes x) ∷ []) (beginning t (drawn 8 x) le (omega (arith, vol)))
    (joined 3 1 (changes (change_count x) t (later 2 x)) (outcome t (behind_changes x) ∷ []) few (an_outcome t (behind_changes x) le))

-- ---- rounds

-- a backup of a system of two
abbrev IsEither : Node → Type 0
IsEither node = FitsWord 2 (Backup node)

some_arrivals : (node : Node) (q chance : ℕ) → IsEither node → q ≤ 4294967295 → IsPiece 2 (arrivals node q chance)
some_arrivals node q chance is le =
    let words : IsLine 2 (line.Deliver node q) = (is, ((omega arith, le), tt)) in
    chosen (IsPiece 2) (chance == 0) [] (cond (chance == 1) (line.Deliver node q ∷ line.Deliver node q ∷ []) (line.Deliver node q ∷ []))
    (within 0 2 [] (omega arith) nothing)
    (chosen (IsPiece 2) (chance == 1) (line.Deliver node q ∷ line.Deliver node q ∷ []) (line.Deliver node q ∷ [])
    (record { fit = (words, (words, tt)); sessions = (refl, (refl, refl)); few = omega arith })
    (record { fit = (words, tt); sessions = (refl, refl); few = omega arith }))

a_message : (node : Node) (q x : ℕ) → IsEither node → q ≤ 4294967295 → IsPiece 5 (message node q x)
a_message node q x is le =
    let front : IsPiece 3 (line.Ack node ∷ line.Rewind node ∷ line.Send node 64 ∷ []) =
    record { fit = ((is, tt), ((is, tt), ((is, ((omega arith, omega arith), tt)), tt))); sessions = (refl, (refl, (refl, refl))); few = omega arith } in
    joined 3 2 (line.Ack node ∷ line.Rewind node ∷ line.Send node 64 ∷ []) (arrivals node q (drawn 4 x)) front (some_arrivals node q (drawn 4 x) is le)

session_of : (q : ℕ) → q ≤ 4294967295 → IsPiece 10 (session B q ++ session C q)
session_of q le = record {
  fit = ((refl, tt), ((refl, ((omega arith, le), tt)), ((refl, place_fits 0 110 1 (omega arith) refl (omega arith)), (tt, ((refl, tt), ((refl, tt), ((refl, ((omega arith, le), tt)), ((refl, place_fits 0 110 1 (omega arith) refl (omega arith)), (tt, ((refl, tt), tt))))))))));
  sessions = (refl, (refl, (refl, (refl, (refl, (refl, (refl, (refl, (refl, (refl, refl))))))))));
  few = omega arith;
}

-- how many lines a round has at most, and one that may follow a transaction
abbrev sessions_most : ℕ → ℕ
sessions_most q = if q % 8 == 7 then 10 else 0

abbrev round_most : ℕ → ℕ
round_most t = if t % 4 == 0 then 10 + sessions_most (t / 4 - 1) else 0

-- a choice between two pieces, by the test that also chooses how long they may be
either_piece : (b : Bool) (m n : ℕ) (x y : List Line) → IsPiece m x → IsPiece n y → IsPiece (cond b m n) (cond b x y)
either_piece true m n x y p q = p
either_piece false m n x y p q = q

a_round : (q x : ℕ) → q ≤ 4294967295 → IsPiece (10 + sessions_most q) (round q x)
a_round q x le =
    let ends : IsPiece (sessions_most q) (sessions q) = either_piece (q % 8 == 7) 10 0 (session B q ++ session C q) [] (session_of q le) nothing in
    within (5 + (5 + sessions_most q)) (10 + sessions_most q) (round q x) (omega arith)
    (joined 5 (5 + sessions_most q) (message B q x) (message C q (later 1 x) ++ sessions q) (a_message B q x refl le)
    (joined 5 (sessions_most q) (message C q (later 1 x)) (sessions q) (a_message C q (later 1 x) refl le) ends))

a_round_behind : (t x : ℕ) → t ≤ 4294967295 → IsPiece (round_most t) (round_behind t x)
a_round_behind t x le =
    let q : t / 4 - 1 ≤ 4294967295 = omega arith in
    either_piece (t % 4 == 0) (10 + sessions_most (t / 4 - 1)) 0 (round (t / 4 - 1) x) [] (a_round (t / 4 - 1) x q) nothing

-- ---- the load

-- how many lines so many transactions from t on have at most
abbrev load_most : ℕ → ℕ → ℕ
load_most zero t = 0
load_most (suc n) t = 6 + (round_most t + load_most n (t + 1))

a_load : (n t x : ℕ) → t + n ≤ 4294967295 → IsPiece (load_most n t) (load n t x)
a_load zero t x le = nothing
a_load (suc n) t x le =
    let y = behind_transaction x in
    joined 6 (round_most t + load_most n (t + 1)) (transaction t x) (round_behind t y ++ load n (t + 1) (behind_round t y)) (a_transaction t x (omega arith))
    (joined (round_most t) (load_most n (t + 1)) (round_behind t y) (load n (t + 1) (behind_round t y)) (a_round_behind t y (omega arith)) (a_load n (t + 1) (behind_round t y) (omega arith)))

-- a round comes with each fourth transaction, and sessions with each thirty-second
round_counts : (s : ℕ) → round_most (s + 1) + (10 * (s / 4) + 10 * (s / 32)) ≤ 10 * ((s + 1) / 4) + 10 * ((s + 1) / 32)
round_counts s =
    elim (cases_Bool ((s + 1) % 4 == 0)) [
      | inl fourth ↦
          let at : (s + 1) % 4 ≡ 0 = eqb-true ((s + 1) % 4) 0 fourth in
          elim (cases_Bool (((s + 1) / 4 - 1) % 8 == 7)) [
            | inl eighth ↦
                let seventh : ((s + 1) / 4 - 1) % 8 ≡ 7 = eqb-true (((s + 1) / 4 - 1) % 8) 7 eighth in
                rw (fourth, eighth) (omega arith)
            | inr not ↦ rw (fourth, not) (omega arith)
          ]
      | inr not ↦ rw not (omega arith)
    ]

load_counts : (n s : ℕ) → load_most n (s + 1) + (10 * (s / 4) + 10 * (s / 32)) ≤ 6 * n + (10 * ((s + n) / 4) + 10 * ((s + n) / 32))
load_counts zero s = let k : s + 0 ≡ s = omega arith in rw k (omega arith)
load_counts (suc n) s =
    let k : s + suc n ≡ s + 1 + n = omega arith in
    rw k (omega (arith, round_counts s, load_counts n (s + 1)))

load_few : (n : ℕ) → n ≤ 2000 → load_most n 1 ≤ 17620
load_few n le = let k : 0 + n ≡ n = omega arith in let h = load_counts n 0 in omega (arith, h, k)

-- ---- the last part

last_lists : (node : Node) → IsEither node → IsPiece 8 (lists node 8 0)
last_lists B is = record {
  fit = ((refl, ((omega arith, omega arith), tt)), ((refl, ((omega arith, omega arith), tt)), ((refl, ((omega arith, omega arith), tt)), ((refl, ((omega arith, omega arith), tt)), ((refl, ((omega arith, omega arith), tt)), ((refl, ((omega arith, omega arith), tt)), ((refl, ((omega arith, omega arith), tt)), ((refl, ((omega arith, omega arith), tt)), tt))))))));
  sessions = (refl, (refl, (refl, (refl, (refl, (refl, (refl, (refl, refl))))))));
  few = omega arith;
}
last_lists C is = record {
  fit = ((refl, ((omega arith, omega arith), tt)), ((refl, ((omega arith, omega arith), tt)), ((refl, ((omega arith, omega arith), tt)), ((refl, ((omega arith, omega arith), tt)), ((refl, ((omega arith, omega arith), tt)), ((refl, ((omega arith, omega arith), tt)), ((refl, ((omega arith, omega arith), tt)), ((refl, ((omega arith, omega arith), tt)), tt))))))));
  sessions = (refl, (refl, (refl, (refl, (refl, (refl, (refl, (refl, refl))))))));
  few = omega arith;
}
last_lists A is = absurd cc

-- what stands between the last transaction and the lists
abbrev takeovers : ℕ → List Line
takeovers w =
    line.Ack B ∷ line.Rewind B ∷ line.Send B 64 ∷ line.Deliver B w
    ∷ line.Lose ∷ line.Takeover B ∷ line.Takeover C
    ∷ line.CopyAudit C B ∷ line.CopyAudit B C ∷ line.Takeover C ∷ line.Takeover B ∷ []

some_takeovers : (w : ℕ) → w ≤ 4294967295 → IsPiece 11 (takeovers w)
some_takeovers w le = record {
  fit = ((refl, tt), ((refl, tt), ((refl, ((omega arith, omega arith), tt)), ((refl, ((omega arith, le), tt)), (tt, ((refl, tt), ((refl, tt), ((refl, (refl, tt)), ((refl, (refl, tt)), ((refl, tt), ((refl, tt), tt)))))))))));
  sessions = (refl, (refl, (refl, (refl, (refl, (refl, (refl, (refl, (refl, (refl, (refl, refl)))))))))));
  few = omega arith;
}

a_last_part : (u w : ℕ) → u ≤ 4294967295 → w ≤ 4294967295 → IsPiece 29 (last_part u w)
a_last_part u w le small =
    joined 2 27 (line.Begin u ∷ line.Insert u (own_row 0 u) (decimal u) ∷ []) (takeovers w ++ (lists B 8 0 ++ lists C 8 0)) (beginning u 0 le (omega arith))
    (joined 11 16 (takeovers w) (lists B 8 0 ++ lists C 8 0) (some_takeovers w small) (joined 8 8 (lists B 8 0) (lists C 8 0) (last_lists B refl) (last_lists C refl)))

-- ---- the plan

pub is_plan : (seed txns : ℕ) → txns ≤ 2000 → IsPlan (generated_plan seed txns)
is_plan seed txns le =
    let few = load_few txns le in
    let whole = joined (load_most txns 1) 29 (load txns 1 seed) (last_part (txns + 1) (txns / 4)) (a_load txns 1 seed (omega arith)) (a_last_part (txns + 1) (txns / 4) (omega arith) (omega arith)) in
    record { lines = whole.fit; sessions = whole.sessions; few = let f = whole.few in omega (arith, few) }
