use Rattle.std.proofs.Common.{ℕ, List, fold, length, ap, sym, subst, ◌∙◌}
use Rattle.rdf_types.specs.declared.records.Record.{Record}
use Rattle.rdf_model.specs.Losers.{losers}
use Rattle.rdf_model.specs.Lines.{after_abort}
use Rattle.rdf_core.specs.declared.events.Standing.TheVariants.{Up}
use Rattle.rdf_core.specs.Primary.{Primary}
use Rattle.primary_machine.specs.Backouts.{AreOpen}
use Rattle.primary_machine.proofs.AddedLaws.{Adds, kept_adds, adds_none, aborts_add}
use Rattle.primary_machine.proofs.OpenLaws.{losers_are_open, down_of, idle_down, restarted_runs, restart_done}
use Rattle.primary_machine.proofs.primary.PrimaryState.restart.Goals as goal

pub back_out-requires-clause-opened : goal.back_out-requires-clause-opened
back_out-requires-clause-opened c =
    let trail = c.self.inside.trail.items in
    subst (λ (ts : List ℕ). AreOpen trail ts) (sym (c.deref.ensures.value ∙ c.in_ok-open.ensures ∙ ap (λ (p : Primary). losers p.trail) (sym c.self.view_is))) (losers_are_open trail)

pub invariant_of-self-2 : goal.invariant_of-self-2
invariant_of-self-2 c =
    let a = c.self.inside in
    let trail = a.trail.items in
    let ts = c.deref.result.now in
    let open_are = c.deref.ensures.value ∙ c.in_ok-open.ensures ∙ ap (λ (p : Primary). losers p.trail) (sym c.self.view_is) in
    let down = ap (λ (p : Primary). p.standing) c.self.view_is ∙ down_of c.args.self.now.standing c.in_default.ensures in
    record {
      kept = kept_adds trail c.back_out.new.trail.items a.places c.back_out.new.places a.used (subst (λ (l : List Record). Adds trail l) (sym c.in_ok-back_out.ensures.ok) (aborts_add trail trail ts (adds_none trail)))
          c.self.invariant.kept c.back_out.ensures.last;
      found = c.back_out.ensures.found;
      proper = restarted_runs c.restart_runs.ensures a.standing trail c.back_out.new.trail.items a.active ts c.self.invariant.proper down open_are c.in_ok-back_out.ensures.ok;
    }

pub returns-clause-ok : goal.returns-clause-ok
returns-clause-ok c =
    let a = c.self.inside in
    let now = c.args.self.now in
    let ts = c.deref.result.now in
    let open_are = c.deref.ensures.value ∙ c.in_ok-open.ensures in
    let down = ap (λ (p : Primary). p.standing) c.self.view_is ∙ down_of now.standing c.in_default.ensures in
    let trail = c.in_ok-back_out.ensures.ok ∙ ap (fold after_abort a.trail.items) open_are ∙ ap (λ (p : Primary). fold after_abort p.trail (losers now.trail)) c.self.view_is in
    let idle = idle_down a.standing a.trail.items a.active c.self.invariant.proper down in
    restart_done c.args.layout.now now (record { trail = c.back_out.new.trail.items; active = a.active; standing = Up; stops = a.stops }) c.len.result ts c.in_default.ensures open_are
    (c.len.ensures ∙ c.in_ok-open.open.ok.0 ∙ sym (ap length c.deref.ensures.value))
    (λ i. record { trail = trail i; active = idle i; standing = Up; stops = ap (λ (p : Primary). p.stops) c.self.view_is i })
