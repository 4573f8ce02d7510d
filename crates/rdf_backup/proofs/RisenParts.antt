-- The durable parts of a delivery and of a purge, where the volumes had risen before the line.
use Rattle.std.proofs.Common.{◌≡◌, ℕ, zero, suc, ◌≤◌, min, nat_lt, nat_le, ◌&&◌, if◌then◌else◌, Bool, true, false, List, [], ◌∷◌, ◌++◌, length, length-append, take, map, get_or, Option, Some, None, refl, sym, ap, ◌∙◌, subst, arith, IsTrue}
use Rattle.std.proofs.lemmas.Bool.Decides.{nat_tests}
use Rattle.std.proofs.lemmas.List.{length-map, map-append, append-nil}
use Rattle.rdf_types.specs.declared.layout.Layout.{Layout}
use Rattle.rdf_types.specs.declared.records.Node.{Node}
use Rattle.rdf_model.specs.Window.{low}
use Rattle.plan_lang.specs.declared.lines.Line.{Line}
use Rattle.plan_lang.specs.declared.lines.Line.TheVariants as line
use Rattle.rdf_core.specs.Effects.{after_parts, parts_unless}
use Rattle.rdf_core.specs.Layouts.{protects, point_of, least}
use Rattle.rdf_core.specs.Backup.{Backup as State, Around, Running, with_volumes, is_due, rolled, stored, drops, deliver_parts, backup_refusal}
use Rattle.rdf_core.specs.PartLaws.{Every, every_image, map_parts, none_done}
use Rattle.rdf_core.specs.Rising.{HaveRisenTo}
use Rattle.rdf_core.specs.Step.{is_of_session}
use Rattle.rdf_backup.specs.Replies.{parts_of}
use Rattle.rdf_backup.specs.SessionLaws.{around_now, GoesBy}

-- the least of points that are all at least as great is at least as great
least_rises : (flags : List Bool) (ps qs : List ℕ) (end : ℕ) → length qs ≡ length ps → ((v : ℕ) → IsTrue (get_or flags v false) → point_of ps v ≤ point_of qs v) → least flags ps end ≤ least flags qs end
least_rises [] ps qs end many each = omega arith
least_rises (f ∷ flags) [] [] end many each = by_flag f (least_rises flags [] [] end refl (λ v on. omega arith))
  where
    by_flag : (f : Bool) → least flags [] end ≤ least flags [] end → (if f then 0 else least flags [] end) ≤ (if f then 0 else least flags [] end)
    by_flag f h = omega arith
least_rises (f ∷ flags) [] (q ∷ qs) end many each = absurd (omega (arith, many))
least_rises (f ∷ flags) (p ∷ ps) [] end many each = absurd (omega (arith, many))
least_rises (f ∷ flags) (p ∷ ps) (q ∷ qs) end many each = by_flag f (λ on. each 0 on) (least_rises flags ps qs end (omega (arith, many)) (λ v on. each (suc v) on))
  where
    by_flag : (f : Bool) → (IsTrue f → p ≤ q) → least flags ps end ≤ least flags qs end → (if f then min p (least flags ps end) else least flags ps end) ≤ (if f then min q (least flags qs end) else least flags qs end)
    by_flag true here rest = omega (arith, here refl, rest)
    by_flag false here rest = rest

-- what a purge drops by a lower floor is what it drops first by a greater one
drops_more : (retain floor more : ℕ) (starts : List ℕ) → floor ≤ more → (rest : List (List ℕ)) × (drops retain more starts ≡ drops retain floor starts ++ rest)
drops_more retain floor more [] le = ([], refl)
drops_more retain floor more (s ∷ []) le = ([], refl)
drops_more retain floor more (s ∷ t ∷ starts) le = by_case (nat_lt retain (length (s ∷ t ∷ starts))) (nat_le t floor) (nat_le t more) (λ e. grind (arith, nat_tests, e, le)) (drops_more retain floor more (t ∷ starts) le)
  where
    differ : false ≡ true → ⊥
    differ e = cc

    by_case : (a b c : Bool) → (b ≡ true → c ≡ true) → (rest : List (List ℕ)) × (drops retain more (t ∷ starts) ≡ drops retain floor (t ∷ starts) ++ rest) →
        (rest : List (List ℕ)) × ((if a && c then (t ∷ starts) ∷ drops retain more (t ∷ starts) else []) ≡ (if a && b then (t ∷ starts) ∷ drops retain floor (t ∷ starts) else []) ++ rest)
    by_case false b c h r = ([], refl)
    by_case true true true h r = (r.0, ap (λ l. (t ∷ starts) ∷ l) r.1)
    by_case true true false h r = absurd (differ (h refl))
    by_case true false true h r = ((t ∷ starts) ∷ drops retain more (t ∷ starts), refl)
    by_case true false false h r = ([], refl)

-- after so many of the first ones of two lists of parts, where the first list has as many
after_first : {X : Type 0} (old : X) (xs ys : List X) (n : ℕ) → n ≤ length xs → after_parts old (xs ++ ys) n ≡ after_parts old xs n
after_first old [] ys n few = ap (λ m. after_parts old ys m) (let e : n ≡ 0 = omega (arith, few) in e) ∙ none_done old ys
after_first old (x ∷ xs) ys zero few = refl
after_first old (x ∷ xs) ys (suc n) few = after_first x xs ys n (omega (arith, few))

module _ (layout : Layout) (w : Around) (end number stops : ℕ) (starts ps qs : List ℕ) where
  -- the backup as it was, and with its volumes risen
  abbrev pub was : State
  was = record { up = true; received = end; starts = starts; number = number; volumes = Running ps; stops = stops }

  abbrev pub now : State
  now = record { up = true; received = end; starts = starts; number = number; volumes = Running qs; stops = stops }

  abbrev pub Risen : State → State
  Risen x = with_volumes x (Running qs)

  -- Nothing refuses the line behind volumes that rose, the parts before are those behind or some first ones of them, but for the volumes, and they take nothing away of what was received.
  pub record GoesOn (l : Line) : Type 0 where
    pub unrefused : backup_refusal layout (around_now layout w now) now l ≡ None
    pub few : (n : ℕ) → n ≤ length (parts_of layout w was l) → n ≤ length (parts_of layout (around_now layout w now) now l)
    pub after : (n : ℕ) → n ≤ length (parts_of layout w was l) → after_parts now (parts_of layout (around_now layout w now) now l) n ≡ Risen (after_parts was (parts_of layout w was l) n)
    pub grows : Every (λ x. end ≤ x.received) (parts_of layout w was l)

  -- the parts are others with the volumes that rose, or some first ones of these
  goes_on : (l : Line) (parts rest : List State) → backup_refusal layout (around_now layout w now) now l ≡ None → parts_of layout w was l ≡ parts → parts_of layout (around_now layout w now) now l ≡ map Risen parts ++ rest →
      Every (λ x. end ≤ x.received) parts → GoesOn l
  goes_on l parts rest unrefused is now_is grows = record {
    unrefused = unrefused;
    few = λ n few. subst (λ (xs : List State). n ≤ length xs) (sym now_is) (omega (arith, few, ap (λ (xs : List State). length xs) is, length-append (map Risen parts) rest, length-map parts Risen));
    after = λ n few.
        let less : n ≤ length parts = subst (λ (xs : List State). n ≤ length xs) is few in
        let many : n ≤ length (map Risen parts) = omega (arith, less, length-map parts Risen) in
        ap (λ (xs : List State). after_parts now xs n) now_is ∙ after_first now (map Risen parts) rest n many ∙ map_parts Risen was parts n ∙ ap (λ (xs : List State). Risen (after_parts was xs n)) (sym is);
    grows = subst (λ (xs : List State). Every (λ x. end ≤ x.received) xs) (sym is) grows;
  }

  -- what a delivery stores
  delivered : (m : Option (ℕ × ℕ)) → deliver_parts layout m now ≡ map Risen (deliver_parts layout m was)
  delivered None = refl
  delivered (Some range) = by_case (nat_lt end range.1) (is_due layout was)
    where
      by_case : (a b : Bool) → (if a then (if b then rolled now ∷ stored range.1 (rolled now) ∷ [] else stored range.1 now ∷ []) else [])
          ≡ map Risen (if a then (if b then rolled was ∷ stored range.1 (rolled was) ∷ [] else stored range.1 was ∷ []) else [])
      by_case true true = refl
      by_case true false = refl
      by_case false b = refl

  delivered_more : (m : Option (ℕ × ℕ)) → Every (λ x. end ≤ x.received) (deliver_parts layout m was)
  delivered_more None = tt
  delivered_more (Some range) = by_case (nat_lt end range.1) (is_due layout was) (λ e. grind (arith, nat_tests, e))
    where
      by_case : (a b : Bool) → (a ≡ true → end ≤ range.1) → Every (λ (x : State). end ≤ x.received) (if a then (if b then rolled was ∷ stored range.1 (rolled was) ∷ [] else stored range.1 was ∷ []) else [])
      by_case true true h = (omega arith, (h refl, tt))
      by_case true false h = (h refl, tt)
      by_case false b h = tt

  pub deliver_goes : (node : Node) (k : ℕ) → backup_refusal layout w was (line.Deliver node k) ≡ None → GoesOn (line.Deliver node k)
  deliver_goes node k unrefused = goes_on (line.Deliver node k) (deliver_parts layout w.message was) [] unrefused (ap (λ r. parts_unless r (deliver_parts layout w.message was)) unrefused)
      (ap (λ r. parts_unless r (deliver_parts layout w.message now)) unrefused ∙ delivered w.message ∙ sym (append-nil (map Risen (deliver_parts layout w.message was)))) (delivered_more w.message)

  -- what a purge drops
  abbrev floor : ℕ
  floor = least layout.protect ps (low (protects layout) (take end w.trail))

  abbrev floor_now : ℕ
  floor_now = least layout.protect qs (low (protects layout) (take end w.trail))

  again : (ls : List (List ℕ)) → map (λ l. record now { starts = l }) ls ≡ map Risen (map (λ l. record was { starts = l }) ls)
  again [] = refl
  again (l ∷ ls) = ap (λ xs. record now { starts = l } ∷ xs) (again ls)

  purged : (node : Node) → w.points ≡ ps → parts_of layout w was (line.Purge node) ≡ map (λ l. record was { starts = l }) (drops layout.retain floor starts)
  purged node by = ap (λ points. map (λ l. record was { starts = l }) (drops layout.retain (least layout.protect points (low (protects layout) (take end w.trail))) starts)) by

  purged_now : (rest : List (List ℕ)) → drops layout.retain floor_now starts ≡ drops layout.retain floor starts ++ rest →
      map (λ l. record now { starts = l }) (drops layout.retain floor_now starts) ≡ map Risen (map (λ l. record was { starts = l }) (drops layout.retain floor starts)) ++ map (λ l. record now { starts = l }) rest
  purged_now rest is = ap (λ ls. map (λ l. record now { starts = l }) ls) is ∙ map-append (λ l. record now { starts = l }) (drops layout.retain floor starts) rest
      ∙ ap (λ xs. xs ++ map (λ l. record now { starts = l }) rest) (again (drops layout.retain floor starts))

  pub purge_goes : (node : Node) → w.points ≡ ps → HaveRisenTo layout end ps qs → GoesOn (line.Purge node)
  purge_goes node by risen =
      let d = drops_more layout.retain floor floor_now starts (least_rises layout.protect ps qs (low (protects layout) (take end w.trail)) risen.many (λ v on. (risen.rise v on).0)) in
      goes_on (line.Purge node) (map (λ l. record was { starts = l }) (drops layout.retain floor starts)) (map (λ l. record now { starts = l }) d.0) refl (purged node by) (purged_now d.0 d.1)
      (every_image (λ (x : State). end ≤ x.received) (λ l. record was { starts = l }) (drops layout.retain floor starts) (λ l. omega arith))

  -- each line of a session that uses the image trails' disk goes on so
  pub line_goes : (l : Line) → is_of_session l ≡ true → GoesBy layout w was l → HaveRisenTo layout end ps qs → backup_refusal layout w was l ≡ None → GoesOn l
  line_goes (line.Deliver node k) e by risen unrefused = deliver_goes node k unrefused
  line_goes (line.Purge node) e by risen unrefused = purge_goes node by risen
  line_goes (line.Begin t) e by risen unrefused = cc
  line_goes (line.Insert t k value) e by risen unrefused = cc
  line_goes (line.Update t k value) e by risen unrefused = cc
  line_goes (line.Delete t k) e by risen unrefused = cc
  line_goes (line.Get t k) e by risen unrefused = cc
  line_goes (line.Commit t) e by risen unrefused = cc
  line_goes (line.Abort t) e by risen unrefused = cc
  line_goes (line.Send node most) e by risen unrefused = cc
  line_goes (line.Rewind node) e by risen unrefused = cc
  line_goes (line.Ack node) e by risen unrefused = cc
  line_goes line.Lose e by risen unrefused = cc
  line_goes (line.Session node) e by risen unrefused = cc
  line_goes (line.Read node key) e by risen unrefused = cc
  line_goes line.End e by risen unrefused = cc
  line_goes (line.Takeover node) e by risen unrefused = cc
  line_goes (line.CopyAudit node from) e by risen unrefused = cc
  line_goes (line.List node vol) e by risen unrefused = cc
  line_goes (line.Info node) e by risen unrefused = cc
  line_goes (line.Status node) e by risen unrefused = cc
  line_goes (line.Fuse node disk calls tear) e by risen unrefused = cc
  line_goes (line.Cut node) e by risen unrefused = cc
  line_goes (line.Restart node) e by risen unrefused = cc
