-- A copy message by message: alike values are copied to alike ones, and what is left of it after each message.
use Rattle.std.proofs.Common.{◌≡◌, ◌⊎◌, inl, inr, ⊎_elim, ℕ, zero, suc, ◌+◌, ◌-◌, ◌<◌, ◌≤◌, ◌&&◌, ◌==◌, min, max, nat_lt, if◌then◌else◌, Bool, true, false, List, [], ◌∷◌, ◌++◌, refl, sym, ap, ◌∙◌, subst, arith}
use Rattle.std.specs.List.{AllByRecursion}
use Rattle.std.proofs.lemmas.Bool.{lt-ltb, le-ltb, ltb-true}
use Rattle.rdf_disk.specs.Files.{Contents}
use Rattle.image_disks.specs.Blocks.{Plan}
use Rattle.image_disks.specs.Spelled.{block_of}
use Rattle.image_disks.specs.Values.{Value, Alike, Shipment, received, is_behind, with_block, written, rolled, rolls, ready, stages, stored, took}
use Rattle.image_disks.specs.Standing.{StandsFor, StandsForOne}
use Rattle.image_disks.specs.ValueLaws.{written-alike, ready-alike, alike_trans, alike_itself, if_alike}
use Rattle.image_disks.specs.StandingLaws.{stands_alike}
use Rattle.rdf_core.specs.Backup.{ends}
use Rattle.copyaudit.specs.Copying.{part_of, copied, copy_stages, message_ends, IsBetween}
use Rattle.copyaudit.specs.CopyingLaws.{next, none_copied, first_copied, first_stages}

-- a store, and a message, by alike values

stored_alike : (plan : Plan) (ship : Shipment) (v w : Value) → Alike v w → Alike (stored plan ship v) (stored plan ship w)
stored_alike plan ship v w a =
    let one = written-alike plan ship 1 (ready plan v) (ready plan w) (omega arith) (ready-alike plan v w a) in
    let two = written-alike plan ship 2 (written plan ship 1 (ready plan v)) (written plan ship 1 (ready plan w)) (omega arith) one in
    let three = written-alike plan ship 3 (written plan ship 2 (written plan ship 1 (ready plan v))) (written plan ship 2 (written plan ship 1 (ready plan w))) (omega arith) two in
    written-alike plan ship 0 (written plan ship 3 (written plan ship 2 (written plan ship 1 (ready plan v)))) (written plan ship 3 (written plan ship 2 (written plan ship 1 (ready plan w)))) (omega arith) three

took_alike : (plan : Plan) (ship : Shipment) (v w : Value) → Alike v w → Alike (took plan ship v) (took plan ship w)
took_alike plan ship v w a =
    subst (λ (n : ℕ). Alike (took plan ship v) (if nat_lt n ship.to then stored plan ship w else w)) (a.top 0 (omega arith))
    (if_alike (nat_lt (received v) ship.to) (stored plan ship v) v (stored plan ship w) w (stored_alike plan ship v w a) a)

-- place by place
abbrev AllAlike : List Value → List Value → Type 0
AllAlike [] [] = Unit {0}
AllAlike [] (w ∷ ws) = ⊥
AllAlike (v ∷ vs) [] = ⊥
AllAlike (v ∷ vs) (w ∷ ws) = Alike v w × AllAlike vs ws

one_alike : (plan : Plan) (c : Contents) (vs ws : List Value) → AllAlike vs ws → StandsForOne block_of plan vs c → StandsForOne block_of plan ws c
one_alike plan c [] [] a one = one
one_alike plan c [] (w ∷ ws) a one = elim a [ ]
one_alike plan c (v ∷ vs) [] a one = elim a [ ]
one_alike plan c (v ∷ vs) (w ∷ ws) a one =
    ⊎_elim (λ (h : StandsFor block_of plan v c). inl (stands_alike block_of plan v w c a.0 h)) (λ (h : StandsForOne block_of plan vs c). inr (one_alike plan c vs ws a.1 h)) one

stages_alike : (plan : Plan) (ship : Shipment) (v w : Value) → Alike v w → AllAlike (stages plan ship v) (stages plan ship w)
stages_alike plan ship v w a =
    let r = ready-alike plan v w a in
    let one = written-alike plan ship 1 (ready plan v) (ready plan w) (omega arith) r in
    let two = written-alike plan ship 2 (written plan ship 1 (ready plan v)) (written plan ship 1 (ready plan w)) (omega arith) one in
    let three = written-alike plan ship 3 (written plan ship 2 (written plan ship 1 (ready plan v))) (written plan ship 2 (written plan ship 1 (ready plan w))) (omega arith) two in
    (a, (r, (one, (two, (three, (stored_alike plan ship v w a, tt))))))

-- one of the values in front, or of those behind
one_in_front : (plan : Plan) (c : Contents) (vs ws : List Value) → StandsForOne block_of plan vs c → StandsForOne block_of plan (vs ++ ws) c
one_in_front plan c [] ws one = absurd one
one_in_front plan c (v ∷ vs) ws one = ⊎_elim (λ (h : StandsFor block_of plan v c). inl h) (λ (h : StandsForOne block_of plan vs c). inr (one_in_front plan c vs ws h)) one

one_behind : (plan : Plan) (c : Contents) (vs ws : List Value) → StandsForOne block_of plan ws c → StandsForOne block_of plan (vs ++ ws) c
one_behind plan c [] ws one = one
one_behind plan c (v ∷ vs) ws one = inr (one_behind plan c vs ws one)

one_of_two : (plan : Plan) (c : Contents) (vs ws : List Value) → StandsForOne block_of plan (vs ++ ws) c → StandsForOne block_of plan vs c ⊎ StandsForOne block_of plan ws c
one_of_two plan c [] ws one = inr one
one_of_two plan c (v ∷ vs) ws one =
    ⊎_elim (λ (h : StandsFor block_of plan v c). inl (inl h))
    (λ (h : StandsForOne block_of plan (vs ++ ws) c). ⊎_elim (λ (g : StandsForOne block_of plan vs c). inl (inr g)) (λ (g : StandsForOne block_of plan ws c). inr g) (one_of_two plan c vs ws h)) one

module _ (plan : Plan) (lead : Value) where
  next_alike : (to : ℕ) (v w : Value) → Alike v w → Alike (next plan lead to v) (next plan lead to w)
  next_alike to v w a = subst (λ (r : ℕ). Alike (next plan lead to v) (took plan (part_of lead r to) w)) (a.top 0 (omega arith)) (took_alike plan (part_of lead (received v) to) v w a)

  copied_alike : (es : List ℕ) (v w : Value) → Alike v w → Alike (copied plan lead es v) (copied plan lead es w)
  unfolding copied
  copied_alike [] v w a = a
  copied_alike (to ∷ more) v w a = copied_alike more (next plan lead to v) (next plan lead to w) (next_alike to v w a)

  copy_alike : (c : Contents) (es : List ℕ) (v w : Value) → Alike v w → StandsForOne block_of plan (copy_stages plan lead es v) c → StandsForOne block_of plan (copy_stages plan lead es w) c
  unfolding copy_stages
  copy_alike c [] v w a one = one_alike plan c (v ∷ []) (w ∷ []) (a, tt) one
  copy_alike c (to ∷ more) v w a one =
      ⊎_elim
      (λ (h : StandsForOne block_of plan (stages plan (part_of lead (received v) to) v) c). one_in_front plan c (stages plan (part_of lead (received w) to) w) (copy_stages plan lead more (next plan lead to w))
      (subst (λ (r : ℕ). StandsForOne block_of plan (stages plan (part_of lead r to) w) c) (a.top 0 (omega arith))
      (one_alike plan c (stages plan (part_of lead (received v) to) v) (stages plan (part_of lead (received v) to) w) (stages_alike plan (part_of lead (received v) to) v w a) h)))
      (λ (h : StandsForOne block_of plan (copy_stages plan lead more (next plan lead to v)) c). one_behind plan c (stages plan (part_of lead (received w) to) w) (copy_stages plan lead more (next plan lead to w))
      (copy_alike c more (next plan lead to v) (next plan lead to w) (next_alike to v w a) h))
      (one_of_two plan c (stages plan (part_of lead (received v) to) v) (copy_stages plan lead more (next plan lead to v)) one)

-- the received position after a message that is not behind it

ready_top : (plan : Plan) (v : Value) → received (ready plan v) ≡ received v
ready_top plan v = elim (rolls plan v) as (λ b. received (if b then rolled v else v) ≡ received v) [ true ↦ refl | false ↦ refl ]

second_top : (plan : Plan) (ship : Shipment) (t : ℕ) (v : Value) → (0 == t) ≡ false → received (written plan ship t v) ≡ received v
second_top plan ship t v other =
    elim (is_behind plan t ship v) as (λ b. received (if b then with_block plan t ship v else v) ≡ received v) [
      | true ↦ ap (λ (c : Bool). if c then ship.to else v.top 0) other
      | false ↦ refl
    ]

master_top : (plan : Plan) (ship : Shipment) (v : Value) → plan.used 0 ≡ true → received v < ship.to → received (written plan ship 0 v) ≡ ship.to
master_top plan ship v used some = ap (λ (b : Bool). received (if b then with_block plan 0 ship v else v)) (ap (λ (b : Bool). b && nat_lt (received v) ship.to) used ∙ lt-ltb (received v) ship.to some)

took_top : (plan : Plan) (ship : Shipment) (v : Value) → plan.used 0 ≡ true → received v < ship.to → received (took plan ship v) ≡ ship.to
took_top plan ship v used some =
    let one = written plan ship 1 (ready plan v) in
    let two = written plan ship 2 one in
    let three = written plan ship 3 two in
    let same : received three ≡ received v = second_top plan ship 3 two refl ∙ second_top plan ship 2 one refl ∙ second_top plan ship 1 (ready plan v) refl ∙ ready_top plan v in
    ap (λ (b : Bool). received (if b then stored plan ship v else v)) (lt-ltb (received v) ship.to some)
    ∙ master_top plan ship three used (omega (arith, same, some))

-- so much is left of the copy from the first value once it has come to this one
pub record IsLeft (plan : Plan) (lead first now : Value) (n : ℕ) : Type 0 where
  pub enough : received lead - received now ≤ n
  pub grown : received first ≤ received now
  pub few : received now ≤ max (received first) (received lead)
  pub value : Alike (copied plan lead (ends n (received now) (received lead)) now) (copied plan lead (message_ends lead first) first)
  pub passed : (c : Contents) → StandsForOne block_of plan (copy_stages plan lead (ends n (received now) (received lead)) now) c → StandsForOne block_of plan (copy_stages plan lead (message_ends lead first) first) c

pub all_left : (plan : Plan) (lead first : Value) (n : ℕ) → n ≡ received lead - received first → IsLeft plan lead first first n
all_left plan lead first n e = subst (λ (k : ℕ). IsLeft plan lead first first k) (sym e) (record {
  enough = omega arith;
  grown = omega arith;
  few = omega arith;
  value = alike_itself (copied plan lead (message_ends lead first) first);
  passed = λ c one. one;
})

module _ (plan : Plan) (lead first now : Value) where
  -- the end of the next message
  abbrev to : ℕ
  to = min (received now + 64) (received lead)

  ends_some : (n : ℕ) → received now < received lead → ends (suc n) (received now) (received lead) ≡ to ∷ ends n to (received lead)
  ends_some n some = ap (λ (b : Bool). if b then to ∷ ends n to (received lead) else []) (lt-ltb (received now) (received lead) some)

  ends_none : (n : ℕ) → received lead ≤ received now → ends n (received now) (received lead) ≡ []
  ends_none zero none = refl
  ends_none (suc n) none = ap (λ (b : Bool). if b then to ∷ ends n to (received lead) else []) (le-ltb (received now) (received lead) none)

  -- after a message
  pub less_left : (n : ℕ) (new : Value) → plan.used 0 ≡ true → received now < received lead → IsLeft plan lead first now (suc n) → Alike new (took plan (part_of lead (received now) to) now) → IsLeft plan lead first new n
  less_left n new used some left alike =
      let top : received new ≡ to = alike.top 0 (omega arith) ∙ took_top plan (part_of lead (received now) to) now used (omega (arith, some)) in
      record {
        enough = omega (arith, top, some, left.enough);
        grown = omega (arith, top, some, left.grown);
        few = omega (arith, top, some, left.few);
        value = subst (λ (r : ℕ). Alike (copied plan lead (ends n r (received lead)) new) (copied plan lead (message_ends lead first) first)) (sym top)
            (alike_trans (copied plan lead (ends n to (received lead)) new) (copied plan lead (ends n to (received lead)) (next plan lead to now)) (copied plan lead (message_ends lead first) first)
            (copied_alike plan lead (ends n to (received lead)) new (next plan lead to now) alike)
            (subst (λ (v : Value). Alike v (copied plan lead (message_ends lead first) first)) (ap (λ (es : List ℕ). copied plan lead es now) (ends_some n some) ∙ first_copied plan lead to (ends n to (received lead)) now) left.value));
        passed = λ c one. left.passed c
            (subst (λ (vs : List Value). StandsForOne block_of plan vs c) (sym (ap (λ (es : List ℕ). copy_stages plan lead es now) (ends_some n some) ∙ first_stages plan lead to (ends n to (received lead)) now))
            (one_behind plan c (stages plan (part_of lead (received now) to) now) (copy_stages plan lead (ends n to (received lead)) (next plan lead to now))
            (copy_alike plan lead c (ends n to (received lead)) new (next plan lead to now) alike
            (subst (λ (r : ℕ). StandsForOne block_of plan (copy_stages plan lead (ends n r (received lead)) new) c) top one))));
      }

  -- at a message that was broken off
  pub broken_off : (n : ℕ) (c : Contents) → received now < received lead → IsLeft plan lead first now (suc n) → StandsForOne block_of plan (stages plan (part_of lead (received now) to) now) c → StandsForOne block_of plan (copy_stages plan lead (message_ends lead first) first) c
  broken_off n c some left one = left.passed c
      (subst (λ (vs : List Value). StandsForOne block_of plan vs c) (sym (ap (λ (es : List ℕ). copy_stages plan lead es now) (ends_some n some) ∙ first_stages plan lead to (ends n to (received lead)) now))
      (one_in_front plan c (stages plan (part_of lead (received now) to) now) (copy_stages plan lead (ends n to (received lead)) (next plan lead to now)) one))

  -- nothing is left
  pub none_left : (n : ℕ) → received lead ≤ received now → IsLeft plan lead first now n → Alike now (copied plan lead (message_ends lead first) first)
  none_left n none left = subst (λ (v : Value). Alike v (copied plan lead (message_ends lead first) first)) (ap (λ (es : List ℕ). copied plan lead es now) (ends_none n none) ∙ none_copied plan lead now) left.value

  pub come_to : (n : ℕ) → received lead ≤ received now → IsLeft plan lead first now n → received now ≡ max (received first) (received lead)
  come_to n none left = omega (arith, none, left.grown, left.few)

-- what a copy passes through

all_append : (P : Value → Type 0) (vs ws : List Value) → AllByRecursion P vs → AllByRecursion P ws → AllByRecursion P (vs ++ ws)
all_append P [] ws a b = b
all_append P (v ∷ vs) ws a b = (a.0, all_append P vs ws a.1 b)

module _ (plan : Plan) (lead first : Value) (used : plan.used 0 ≡ true) where
  is_same : (v w : Value) → received w ≡ received v → IsBetween lead first v → IsBetween lead first w
  is_same v w e h = (omega (arith, e, h.0), omega (arith, e, h.1))

  -- the end of the next message
  abbrev end_from : Value → ℕ
  end_from v = min (received v + 64) (received lead)

  stages_between : (ship : Shipment) (v : Value) → received v < ship.to → ship.to ≤ max (received first) (received lead) → IsBetween lead first v → AllByRecursion (IsBetween lead first) (stages plan ship v)
  stages_between ship v some few h =
      let one = written plan ship 1 (ready plan v) in
      let two = written plan ship 2 one in
      let three = written plan ship 3 two in
      let e0 : received (ready plan v) ≡ received v = ready_top plan v in
      let e1 : received one ≡ received v = second_top plan ship 1 (ready plan v) refl ∙ e0 in
      let e2 : received two ≡ received v = second_top plan ship 2 one refl ∙ e1 in
      let e3 : received three ≡ received v = second_top plan ship 3 two refl ∙ e2 in
      let e4 : received (written plan ship 0 three) ≡ ship.to = master_top plan ship three used (omega (arith, e3, some)) in
      let last : IsBetween lead first (written plan ship 0 three) = (omega (arith, e4, h.0, some), omega (arith, e4, few)) in
      (h, (is_same v (ready plan v) e0 h, (is_same v one e1 h, (is_same v two e2 h, (is_same v three e3 h, (last, tt))))))

  left_between : (n : ℕ) (v : Value) → IsBetween lead first v → AllByRecursion (IsBetween lead first) (copy_stages plan lead (ends n (received v) (received lead)) v)
  unfolding copy_stages
  left_between zero v h = (h, tt)
  left_between (suc n) v h = one (nat_lt (received v) (received lead)) refl (λ x g. left_between n x g)
    where
      one : (b : Bool) → nat_lt (received v) (received lead) ≡ b → ((x : Value) → IsBetween lead first x → AllByRecursion (IsBetween lead first) (copy_stages plan lead (ends n (received x) (received lead)) x)) →
          AllByRecursion (IsBetween lead first) (copy_stages plan lead (if b then end_from v ∷ ends n (end_from v) (received lead) else []) v)
      one true e rest =
          let some : received v < received lead = ltb-true (received v) (received lead) e in
          let ship = part_of lead (received v) (end_from v) in
          let top : received (took plan ship v) ≡ end_from v = took_top plan ship v used (omega (arith, some)) in
          all_append (IsBetween lead first) (stages plan ship v) (copy_stages plan lead (ends n (end_from v) (received lead)) (took plan ship v))
          (stages_between ship v (omega (arith, some)) (omega (arith, some)) h)
          (subst (λ (r : ℕ). AllByRecursion (IsBetween lead first) (copy_stages plan lead (ends n r (received lead)) (took plan ship v))) top
          (rest (took plan ship v) (omega (arith, top, h.0, some), omega (arith, top, some))))
      one false e rest = (h, tt)

  pub all_between : AllByRecursion (IsBetween lead first) (copy_stages plan lead (message_ends lead first) first)
  all_between = left_between (received lead - received first) first (omega arith, omega arith)
