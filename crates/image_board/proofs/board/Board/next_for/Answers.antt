use Rattle.std.proofs.Common.{◌≡◌, ◌≤◌, inl, inr, List, length, sym, ap, subst, ◌∙◌, arith}
use Rattle.std.proofs.lemmas.Bool.{cases_lt}
use Rattle.rdf_types.specs.declared.records.Stamped.{Stamped}
use Rattle.rdf_types.specs.Entries.{RiseFrom, since, before}
use Rattle.rdf_types.specs.EntryLaws.{rise_all, rise_since, rises_from, rises_below, before_since}
use Rattle.image_board.specs.Boards.{Published, IsPiece}
use Rattle.image_board.specs.Entries.{own}
use Rattle.image_board.proofs.board.Board.next_for.Goals as goal

pub since-entries-requires : goal.since-entries-requires
since-entries-requires g c =
    let b = c.self.inside in
    subst (λ (l : List Stamped). RiseFrom 0 l) (sym c.deref.ensures.value) (rise_all b.start b.entries.items (rises_from b.start b.entries.items b.end c.self.invariant.0))

pub position_at-upto-requires : goal.position_at-upto-requires
position_at-upto-requires g c =
    let b = c.self.inside in
    let from = c.args.from in
    let same = c.since-entries.ensures ∙ ap (since from) c.deref.ensures.value in
    record { below = subst (λ (l : List Stamped). before b.end l ≡ l) (sym same) (before_since from b.end b.entries.items ∙ ap (since from) (rises_below b.start b.entries.items b.end c.self.invariant.0)) }

pub returns : goal.returns
returns g c =
    let b = c.self.inside in
    let from = c.args.from in
    let within : from ≤ b.end = subst (λ (s : Published g.row.N.Denot). from ≤ s.end) (sym c.self.view_is) c.requires.from.1 in
    let same = c.since-entries.ensures ∙ ap (since from) c.deref.ensures.value in
    let rise = subst (λ (l : List Stamped). RiseFrom from l) (sym same) (rise_since from b.start b.entries.items (rises_from b.start b.entries.items b.end c.self.invariant.0)) in
    let cut = c.position_at-upto.ensures.cut (rise_all from c.since-entries.result.now rise) in
    subst (λ (s : Published g.row.N.Denot). IsPiece c.args.vol from c.args.most s (record { images = c.in_ok-images.images; upto = c.position_at-upto.result; ended = c.is_over-ended.result })) c.self.view_is (record {
      images = c.in_ok-images.ensures.images ∙ ap (own c.args.vol) (sym cut ∙ ap (before c.position_at-upto.result) same);
      few = c.in_ok-images.ensures.few;
      behind = c.position_at-upto.ensures.behind from within rise;
      within = c.position_at-upto.ensures.within;
      all = λ few. c.position_at-upto.ensures.past (omega (arith, c.in_ok-images.ensures.all few));
      ended = λ e. let last = c.is_over-ended.ensures.yes e in (last.0, c.position_at-upto.ensures.past (omega (arith, last.1)));
      only = λ finished at_end. c.is_over-ended.ensures.no finished (elim (cases_lt c.in_ok-images.gone_over (length c.since-entries.result.now)) [
        | inl amid ↦ absurd (omega (arith, c.position_at-upto.ensures.amid amid, at_end))
        | inr past ↦ omega (arith, past, c.in_ok-images.ensures.within)
      ]);
    })
