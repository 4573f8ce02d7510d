use Rattle.std.proofs.Common.{◌≡◌, ◌≤◌, ◌<◌, ℕ, ◌+◌, ◌-◌, ◌∙◌, List, [], ◌∷◌, ◌++◌, map, ap, refl, sym, subst, arith, Bor}
use Rattle.std.proofs.lemmas.List.{map-append, length-map}
use Rattle.rdf_types.specs.declared.records.Stamped.{Stamped}
use Rattle.rdf_types.specs.Entries.{Rises}
use Rattle.rdf_types.specs.EntryLaws.{rises_from}
use Rattle.image_disks.specs.Values.{listed, or_else}
use Rattle.image_disks.specs.Blocks.{found}
use Rattle.image_trails.specs.Lists.{all_of, items_in}
use Rattle.image_trails.proofs.Sorted.{each, gathered_all, gathered_most, gathered_more, rises_with, past_later}
use Rattle.image_trails.proofs.lending.lend.Goals as goal

pub returns-in-None-clause-rising : goal.returns-in-None-clause-rising
returns-in-None-clause-rising c = rises_from 0 (map (λ s. s.now) c.loop-third.entries.items) c.loop-third.at c.loop-third.invariant.rises

pub returns-in-None-clause-entries : goal.returns-in-None-clause-entries
returns-in-None-clause-entries c = λ rise.
    let e = each c.args.lists.now in
    let f0 = λ (i : ℕ). found (e 0) i in
    let f1 = λ (i : ℕ). found (e 1) i in
    let f2 = λ (i : ℕ). found (e 2) i in
    let f3 = λ (i : ℕ). found (e 3) i in
    let at = c.loop-third.at in
    let below = c.args.below in
    let past = c.loop-third.invariant.past rise in
    let second = c.earlier-later.ensures.next f2 f3 at below (c.next_of.ensures.next rise past.2) (c.next_of-last.ensures.next rise past.3) in
    let first = c.earlier-later-in-loop-third.ensures.next f1 (λ i. or_else (f2 i) (f3 i)) at below (c.next_of-in-loop-third.ensures.next rise past.1) second in
    gathered_all (all_of (items_in c.args.lists.now)) c.args.from at below c.args.most (map (λ s. s.now) c.loop-third.entries.items) (c.loop-third.invariant.so_far rise)
    (c.in-None.ensures.next f0 (λ i. or_else (f1 i) (or_else (f2 i) (f3 i))) at below (c.next_of-in-loop-third-2.ensures.next rise past.0) first)
    (omega (arith, length-map c.loop-third.entries.items (λ (s : Bor Stamped). s.now), c.loop-third.invariant.few))

pub returns-clause-rising : goal.returns-clause-rising
returns-clause-rising c = rises_from 0 (map (λ s. s.now) c.loop-third.entries.items) c.loop-third.at c.loop-third.invariant.rises

pub returns-clause-entries : goal.returns-clause-entries
returns-clause-entries c = λ rise.
    gathered_most (all_of (items_in c.args.lists.now)) c.args.from c.loop-third.at c.args.below c.args.most (map (λ s. s.now) c.loop-third.entries.items) (c.loop-third.invariant.so_far rise)
    (omega (arith, length-map c.loop-third.entries.items (λ (s : Bor Stamped). s.now), c.loop-third.invariant.few, c.loop-third-test.false, c.len.ensures))

pub loop-third-smaller : goal.loop-third-smaller
loop-third-smaller c =
    let at = c.loop-third.at in
    let below = c.args.below in
    let between : (at ≤ c.in-Some.entry.now.pos) × (c.in-Some.entry.now.pos < below) = c.in-Some.ensures.between at below c.next_of-in-loop-third-2.ensures.between
    (c.earlier-later-in-loop-third.ensures.between at below c.next_of-in-loop-third.ensures.between (c.earlier-later.ensures.between at below c.next_of.ensures.between c.next_of-last.ensures.between)) in
    omega (arith, c.saturating_add-at.ensures, between.0, between.1, c.ranges.below.fits)

pub loop-third-preserved : goal.loop-third-preserved
loop-third-preserved c =
    let l = λ (t : ℕ). each c.args.lists.now t in
    let f0 = λ (i : ℕ). found (l 0) i in
    let f1 = λ (i : ℕ). found (l 1) i in
    let f2 = λ (i : ℕ). found (l 2) i in
    let f3 = λ (i : ℕ). found (l 3) i in
    let at = c.loop-third.at in
    let below = c.args.below in
    let inv = c.loop-third.invariant in
    let s = c.in-Some.entry.now in
    let between : (at ≤ s.pos) × (s.pos < below) = c.in-Some.ensures.between at below c.next_of-in-loop-third-2.ensures.between
    (c.earlier-later-in-loop-third.ensures.between at below c.next_of-in-loop-third.ensures.between (c.earlier-later.ensures.between at below c.next_of.ensures.between c.next_of-last.ensures.between)) in
    let here : c.saturating_add-at.result ≡ s.pos + 1 = omega (arith, c.saturating_add-at.ensures, between.1, c.ranges.below.fits) in
    let later : at ≤ c.saturating_add-at.result = omega (arith, here, between.0) in
    let es = map (λ (s : Bor Stamped). s.now) c.loop-third.entries.items in
    let made : map (λ (s : Bor Stamped). s.now) c.push.new.self.items ≡ es ++ s ∷ [] = ap (λ xs. map (λ (s : Bor Stamped). s.now) xs) c.in_ok-push-in-Some.ensures.items ∙ map-append (λ (s : Bor Stamped). s.now) c.loop-third.entries.items (c.in-Some.entry ∷ []) in
    record {
      few = omega (arith, c.loop-third-test.true, c.len.ensures, c.in_ok-push-in-Some.ensures.len);
      within = (c.next_of-in-loop-third-2.ensures.within, c.next_of-in-loop-third.ensures.within, c.next_of.ensures.within, c.next_of-last.ensures.within);
      past = λ rise.
          let past = inv.past rise in (
            past_later c.next_of-in-loop-third-2.new.place at c.saturating_add-at.result (l 0) (c.next_of-in-loop-third-2.ensures.past past.0) later,
            past_later c.next_of-in-loop-third.new.place at c.saturating_add-at.result (l 1) (c.next_of-in-loop-third.ensures.past past.1) later,
            past_later c.next_of.new.place at c.saturating_add-at.result (l 2) (c.next_of.ensures.past past.2) later,
            past_later c.next_of-last.new.place at c.saturating_add-at.result (l 3) (c.next_of-last.ensures.past past.3) later,
          );
      rises = subst (λ n. Rises 0 (map (λ s. s.now) c.push.new.self.items) n) (sym here) (subst (λ xs. Rises 0 xs (s.pos + 1)) (sym made) (rises_with 0 at es s inv.rises between.0));
      so_far = λ rise.
          let f = all_of (items_in c.args.lists.now) in
          let past = inv.past rise in
          let second = c.earlier-later.ensures.next f2 f3 at below (c.next_of.ensures.next rise past.2) (c.next_of-last.ensures.next rise past.3) in
          let first = c.earlier-later-in-loop-third.ensures.next f1 (λ i. or_else (f2 i) (f3 i)) at below (c.next_of-in-loop-third.ensures.next rise past.1) second in
          let next = c.in-Some.ensures.next f0 (λ i. or_else (f1 i) (or_else (f2 i) (f3 i))) at below (c.next_of-in-loop-third-2.ensures.next rise past.0) first in
          subst (λ (n : ℕ). listed f c.args.from (below - c.args.from) ≡ map (λ s. s.now) c.push.new.self.items ++ listed f n (below - n)) (sym here)
          (subst (λ (xs : List Stamped). listed f c.args.from (below - c.args.from) ≡ xs ++ listed f (s.pos + 1) (below - (s.pos + 1))) (sym made)
          (gathered_more f c.args.from at below 0 es (inv.so_far rise) s s refl next));
    }
