use Rattle.std.proofs.Common.{◌≡◌, ◌<◌, length, Some, Result, Ok, Err, refl, sym, ◌∙◌, subst, arith, rules}
use Rattle.rdf_types.specs.declared.layout.Layout.{Layout}
use Rattle.rdf_core.specs.State.{State}
use Rattle.rdf_system.specs.Stances.{StandsAs}
use Rattle.rdf_system.specs.States.{disk_of, layout_of, IsAtState, DisksStandFor}
use Rattle.rdf_monitor.specs.declared.fault.AnswerFault.{AnswerFault}
use Rattle.rdf_monitor.specs.declared.fault.AnswerFault.TheVariants.{Write, NoMemory}
use Rattle.rdf_run.specs.Going.{Keeps, RunGoes}
use Rattle.rdf_run.specs.Returned.{ReturnIn}
use Rattle.rdf_run.specs.RunFaults.{fault_at_node, status_of_run}
use Rattle.rdf_run.specs.Statuses.{NamesUsedDisk}
use Rattle.rdf_run.specs.Stretches.{AreInSession, ComesOfSession}
use Rattle.rdf_run.specs.declared.run_fault.RunFault.{RunFault}
use Rattle.rdf_run.specs.declared.status.Status.TheVariants as status
use Rattle.rdf_run.proofs.Drives.{in_place, open_node}
use Rattle.rdf_run.proofs.EndedBehind.{is_ended, first_unstopped}
use Rattle.rdf_run.proofs.LastLine.{counts_write, counts_none, sink_node, spares_write, told_keeps, told_spared, told_write, told_more, told_completes, told_stops, told_unsaid, why_unstopped, why_named, why_disks, why_goes}
use Rattle.rdf_run.proofs.Runs.{run_laws}
use Rattle.rdf_run.proofs.Telling.{is_told, told_within}
use Rattle.rdf_run.proofs.Unbegun.{ends_goes}
use Rattle.rdf_run.proofs.driving.perform_session.Goals as goal

is_err : {T : Type 0} (r : Result T AnswerFault) (e f : AnswerFault) → r ≡ Err e → e ≡ f → r ≡ Err f
is_err r e f p q = cc

pub fault_behind-requires : goal.fault_behind-requires
fault_behind-requires g c = λ disk. first_unstopped g.A.Answering.given g.A.Answering.faults g.D.Disk.tells g.D.Disk.files g.D.Disk.counts c.args.node c.args.lines.now c.drive_lines-answered.result.answered c.in-Some.closed.told c.args.out.now c.drive_lines-answered.result.out.now c.args.system c.in-Some.closed.system c.requires.ready c.drive_lines-answered.result.met (in_place c.drive_lines-answered.new.place c.in-Some.closed c.in-Some.is (λ k. ComesOfSession g.A.Answering.given g.A.Answering.faults g.D.Disk.tells g.D.Disk.files g.D.Disk.counts c.args.node c.args.lines.now c.drive_lines-answered.result.answered c.drive_lines-answered.result.met k.told c.args.out.now c.drive_lines-answered.result.out.now c.args.system k.system) c.drive_lines-answered.ensures.comes) disk

pub stands-requires : goal.stands-requires
stands-requires g c = record { serves = (is_ended g.A.Answering.given g.A.Answering.faults g.D.Disk.tells g.D.Disk.files g.D.Disk.counts c.args.node c.args.lines.now c.drive_lines-answered.result.answered c.in-Some.closed.told c.args.out.now c.drive_lines-answered.result.out.now c.args.system c.in-Some.closed.system c.requires.ready c.drive_lines-answered.result.met (in_place c.drive_lines-answered.new.place c.in-Some.closed c.in-Some.is (λ k. ComesOfSession g.A.Answering.given g.A.Answering.faults g.D.Disk.tells g.D.Disk.files g.D.Disk.counts c.args.node c.args.lines.now c.drive_lines-answered.result.answered c.drive_lines-answered.result.met k.told c.args.out.now c.drive_lines-answered.result.out.now c.args.system k.system) c.drive_lines-answered.ensures.comes) c.in-Some-fault_behind.fault (sym c.fault_behind.ensures ∙ c.in-Some-fault_behind.is)).serves }

pub returns-in-Some-fault_behind-clause-goes : goal.returns-in-Some-fault_behind-clause-goes
returns-in-Some-fault_behind-clause-goes g c = λ layout from before start laid inside done. ends_goes g.A.Answering.given g.A.Answering.faults g.D.Disk.tells g.D.Disk.files g.D.Disk.counts layout c.args.node c.args.lines.now c.drive_lines-answered.result.answered c.in-Some.closed.told c.args.out.now c.out-1.given.0 c.args.system c.in-Some.closed.system laid (subst (λ (of : Layout). AreInSession of c.args.node c.args.lines.now) laid c.requires.ready) (open_node c.args.node c.args.system c.requires.open) from before start done (run_laws c.volumes_move.ensures.go_on c.step_goes_on.ensures c.no_point_falls.ensures) inside (λ t s at. c.stands.ensures t layout s at) c.drive_lines-answered.result.met (subst (λ o. ComesOfSession g.A.Answering.given g.A.Answering.faults g.D.Disk.tells g.D.Disk.files g.D.Disk.counts c.args.node c.args.lines.now c.drive_lines-answered.result.answered c.drive_lines-answered.result.met c.in-Some.closed.told c.args.out.now o c.args.system c.in-Some.closed.system) (sym (c.out-1.given.1 (sym c.drive_lines-answered.ensures.same_out))) (in_place c.drive_lines-answered.new.place c.in-Some.closed c.in-Some.is (λ k. ComesOfSession g.A.Answering.given g.A.Answering.faults g.D.Disk.tells g.D.Disk.files g.D.Disk.counts c.args.node c.args.lines.now c.drive_lines-answered.result.answered c.drive_lines-answered.result.met k.told c.args.out.now c.drive_lines-answered.result.out.now c.args.system k.system) c.drive_lines-answered.ensures.comes)) c.in-Some-fault_behind.fault (sym c.fault_behind.ensures ∙ c.in-Some-fault_behind.is)

pub returns-in-Some-fault_behind-clause-keeps : goal.returns-in-Some-fault_behind-clause-keeps
returns-in-Some-fault_behind-clause-keeps g c = let e = (is_ended g.A.Answering.given g.A.Answering.faults g.D.Disk.tells g.D.Disk.files g.D.Disk.counts c.args.node c.args.lines.now c.drive_lines-answered.result.answered c.in-Some.closed.told c.args.out.now c.out-1.given.0 c.args.system c.in-Some.closed.system c.requires.ready c.drive_lines-answered.result.met (subst (λ o. ComesOfSession g.A.Answering.given g.A.Answering.faults g.D.Disk.tells g.D.Disk.files g.D.Disk.counts c.args.node c.args.lines.now c.drive_lines-answered.result.answered c.drive_lines-answered.result.met c.in-Some.closed.told c.args.out.now o c.args.system c.in-Some.closed.system) (sym (c.out-1.given.1 (sym c.drive_lines-answered.ensures.same_out))) (in_place c.drive_lines-answered.new.place c.in-Some.closed c.in-Some.is (λ k. ComesOfSession g.A.Answering.given g.A.Answering.faults g.D.Disk.tells g.D.Disk.files g.D.Disk.counts c.args.node c.args.lines.now c.drive_lines-answered.result.answered c.drive_lines-answered.result.met k.told c.args.out.now c.drive_lines-answered.result.out.now c.args.system k.system) c.drive_lines-answered.ensures.comes)) c.in-Some-fault_behind.fault (sym c.fault_behind.ensures ∙ c.in-Some-fault_behind.is)) in record { serves = e.serves; laid = e.laid; sink = e.sink }

pub returns-in-Some-fault_behind-clause-named : goal.returns-in-Some-fault_behind-clause-named
returns-in-Some-fault_behind-clause-named g c = (is_ended g.A.Answering.given g.A.Answering.faults g.D.Disk.tells g.D.Disk.files g.D.Disk.counts c.args.node c.args.lines.now c.drive_lines-answered.result.answered c.in-Some.closed.told c.args.out.now c.drive_lines-answered.result.out.now c.args.system c.in-Some.closed.system c.requires.ready c.drive_lines-answered.result.met (in_place c.drive_lines-answered.new.place c.in-Some.closed c.in-Some.is (λ k. ComesOfSession g.A.Answering.given g.A.Answering.faults g.D.Disk.tells g.D.Disk.files g.D.Disk.counts c.args.node c.args.lines.now c.drive_lines-answered.result.answered c.drive_lines-answered.result.met k.told c.args.out.now c.drive_lines-answered.result.out.now c.args.system k.system) c.drive_lines-answered.ensures.comes) c.in-Some-fault_behind.fault (sym c.fault_behind.ensures ∙ c.in-Some-fault_behind.is)).named

pub returns-in-Some-fault_behind-clause-disks : goal.returns-in-Some-fault_behind-clause-disks
returns-in-Some-fault_behind-clause-disks g c = (is_ended g.A.Answering.given g.A.Answering.faults g.D.Disk.tells g.D.Disk.files g.D.Disk.counts c.args.node c.args.lines.now c.drive_lines-answered.result.answered c.in-Some.closed.told c.args.out.now c.drive_lines-answered.result.out.now c.args.system c.in-Some.closed.system c.requires.ready c.drive_lines-answered.result.met (in_place c.drive_lines-answered.new.place c.in-Some.closed c.in-Some.is (λ k. ComesOfSession g.A.Answering.given g.A.Answering.faults g.D.Disk.tells g.D.Disk.files g.D.Disk.counts c.args.node c.args.lines.now c.drive_lines-answered.result.answered c.drive_lines-answered.result.met k.told c.args.out.now c.drive_lines-answered.result.out.now c.args.system k.system) c.drive_lines-answered.ensures.comes) c.in-Some-fault_behind.fault (sym c.fault_behind.ensures ∙ c.in-Some-fault_behind.is)).disks

pub returns-in-Some-fault_behind-clause-spared : goal.returns-in-Some-fault_behind-clause-spared
returns-in-Some-fault_behind-clause-spared g c = (is_ended g.A.Answering.given g.A.Answering.faults g.D.Disk.tells g.D.Disk.files g.D.Disk.counts c.args.node c.args.lines.now c.drive_lines-answered.result.answered c.in-Some.closed.told c.args.out.now c.drive_lines-answered.result.out.now c.args.system c.in-Some.closed.system c.requires.ready c.drive_lines-answered.result.met (in_place c.drive_lines-answered.new.place c.in-Some.closed c.in-Some.is (λ k. ComesOfSession g.A.Answering.given g.A.Answering.faults g.D.Disk.tells g.D.Disk.files g.D.Disk.counts c.args.node c.args.lines.now c.drive_lines-answered.result.answered c.drive_lines-answered.result.met k.told c.args.out.now c.drive_lines-answered.result.out.now c.args.system k.system) c.drive_lines-answered.ensures.comes) c.in-Some-fault_behind.fault (sym c.fault_behind.ensures ∙ c.in-Some-fault_behind.is)).spared

pub bounds-lines-answered : goal.bounds-lines-answered
bounds-lines-answered g c = told_within g.A.Answering.given g.A.Answering.faults g.D.Disk.tells g.D.Disk.files g.D.Disk.counts (layout_of c.args.system) c.args.node c.args.lines.now c.drive_lines-answered.result.answered c.in-Some.closed.told c.args.out.now c.drive_lines-answered.result.out.now c.args.system c.in-Some.closed.system refl c.requires.ready c.drive_lines-answered.result.met (in_place c.drive_lines-answered.new.place c.in-Some.closed c.in-Some.is (λ k. ComesOfSession g.A.Answering.given g.A.Answering.faults g.D.Disk.tells g.D.Disk.files g.D.Disk.counts c.args.node c.args.lines.now c.drive_lines-answered.result.answered c.drive_lines-answered.result.met k.told c.args.out.now c.drive_lines-answered.result.out.now c.args.system k.system) c.drive_lines-answered.ensures.comes) (sym c.in_default-fault_behind.ensures)

pub offset_bounds-lines-answered : goal.offset_bounds-lines-answered
offset_bounds-lines-answered g c = let lt : c.drive_lines-answered.result.answered < length c.args.lines.now = told_within g.A.Answering.given g.A.Answering.faults g.D.Disk.tells g.D.Disk.files g.D.Disk.counts (layout_of c.args.system) c.args.node c.args.lines.now c.drive_lines-answered.result.answered c.in-Some.closed.told c.args.out.now c.drive_lines-answered.result.out.now c.args.system c.in-Some.closed.system refl c.requires.ready c.drive_lines-answered.result.met (in_place c.drive_lines-answered.new.place c.in-Some.closed c.in-Some.is (λ k. ComesOfSession g.A.Answering.given g.A.Answering.faults g.D.Disk.tells g.D.Disk.files g.D.Disk.counts c.args.node c.args.lines.now c.drive_lines-answered.result.answered c.drive_lines-answered.result.met k.told c.args.out.now c.drive_lines-answered.result.out.now c.args.system k.system) c.drive_lines-answered.ensures.comes) (sym c.in_default-fault_behind.ensures) in first_of (omega (arith, lt), grind (arith, lt), search (rules, lt))

pub overflow_add-result : goal.overflow_add-result
overflow_add-result g c = let lt : c.drive_lines-answered.result.answered < length c.args.lines.now = told_within g.A.Answering.given g.A.Answering.faults g.D.Disk.tells g.D.Disk.files g.D.Disk.counts (layout_of c.args.system) c.args.node c.args.lines.now c.drive_lines-answered.result.answered c.in-Some.closed.told c.args.out.now c.drive_lines-answered.result.out.now c.args.system c.in-Some.closed.system refl c.requires.ready c.drive_lines-answered.result.met (in_place c.drive_lines-answered.new.place c.in-Some.closed c.in-Some.is (λ k. ComesOfSession g.A.Answering.given g.A.Answering.faults g.D.Disk.tells g.D.Disk.files g.D.Disk.counts c.args.node c.args.lines.now c.drive_lines-answered.result.answered c.drive_lines-answered.result.met k.told c.args.out.now c.drive_lines-answered.result.out.now c.args.system k.system) c.drive_lines-answered.ensures.comes) (sym c.in_default-fault_behind.ensures) in first_of (omega (arith, lt), grind (arith, lt), search (rules, lt))

pub stands-requires-in-Err-Write : goal.stands-requires-in-Err-Write
stands-requires-in-Err-Write g c = record { serves = (is_told g.A.Answering.given g.A.Answering.faults g.D.Disk.tells g.D.Disk.files g.D.Disk.counts (layout_of c.args.system) c.args.node c.args.lines.now c.drive_lines-answered.result.answered c.in-Some.closed.told c.args.out.now c.drive_lines-answered.result.out.now c.args.system c.in-Some.closed.system refl c.requires.ready c.drive_lines-answered.result.met (in_place c.drive_lines-answered.new.place c.in-Some.closed c.in-Some.is (λ k. ComesOfSession g.A.Answering.given g.A.Answering.faults g.D.Disk.tells g.D.Disk.files g.D.Disk.counts c.args.node c.args.lines.now c.drive_lines-answered.result.answered c.drive_lines-answered.result.met k.told c.args.out.now c.drive_lines-answered.result.out.now c.args.system k.system) c.drive_lines-answered.ensures.comes) (sym c.in_default-fault_behind.ensures) c.index-lines-answered.result c.index-lines-answered.is (Ok c.in-Ok.reply) c.in-Ok.is c.note_told.new.self c.note_told.ensures).does.serves }

pub of_node-requires : goal.of_node-requires
of_node-requires g c = λ disk. why_unstopped g.A.Answering.given g.A.Answering.faults g.D.Disk.tells g.D.Disk.files g.D.Disk.counts (layout_of c.args.system) c.args.node c.args.lines.now c.drive_lines-answered.result.answered c.index-lines-answered.result c.args.out.now c.drive_lines-answered.result.out.now c.drive_lines-answered.result.out.now c.args.system c.note_told.new.self c.in-Err.fault (is_told g.A.Answering.given g.A.Answering.faults g.D.Disk.tells g.D.Disk.files g.D.Disk.counts (layout_of c.args.system) c.args.node c.args.lines.now c.drive_lines-answered.result.answered c.in-Some.closed.told c.args.out.now c.drive_lines-answered.result.out.now c.args.system c.in-Some.closed.system refl c.requires.ready c.drive_lines-answered.result.met (in_place c.drive_lines-answered.new.place c.in-Some.closed c.in-Some.is (λ k. ComesOfSession g.A.Answering.given g.A.Answering.faults g.D.Disk.tells g.D.Disk.files g.D.Disk.counts c.args.node c.args.lines.now c.drive_lines-answered.result.answered c.drive_lines-answered.result.met k.told c.args.out.now c.drive_lines-answered.result.out.now c.args.system k.system) c.drive_lines-answered.ensures.comes) (sym c.in_default-fault_behind.ensures) c.index-lines-answered.result c.index-lines-answered.is (Err c.in-Err.fault) c.in-Err.is c.note_told.new.self c.note_told.ensures) disk

pub returns-in-Ok-take-clause-goes : goal.returns-in-Ok-take-clause-goes
returns-in-Ok-take-clause-goes g c = λ layout from before start laid inside done. (λ t. tt, told_completes g.A.Answering.given g.A.Answering.faults g.D.Disk.tells g.D.Disk.files g.D.Disk.counts layout c.args.node c.args.lines.now c.drive_lines-answered.result.answered c.index-lines-answered.result c.args.out.now c.out-1.given.0 c.take.new.out c.args.system c.note_told.new.self c.in-Ok.reply (is_told g.A.Answering.given g.A.Answering.faults g.D.Disk.tells g.D.Disk.files g.D.Disk.counts layout c.args.node c.args.lines.now c.drive_lines-answered.result.answered c.in-Some.closed.told c.args.out.now c.out-1.given.0 c.args.system c.in-Some.closed.system laid (subst (λ (of : Layout). AreInSession of c.args.node c.args.lines.now) laid c.requires.ready) c.drive_lines-answered.result.met (subst (λ o. ComesOfSession g.A.Answering.given g.A.Answering.faults g.D.Disk.tells g.D.Disk.files g.D.Disk.counts c.args.node c.args.lines.now c.drive_lines-answered.result.answered c.drive_lines-answered.result.met c.in-Some.closed.told c.args.out.now o c.args.system c.in-Some.closed.system) (sym (c.out-1.given.1 (sym c.drive_lines-answered.ensures.same_out))) (in_place c.drive_lines-answered.new.place c.in-Some.closed c.in-Some.is (λ k. ComesOfSession g.A.Answering.given g.A.Answering.faults g.D.Disk.tells g.D.Disk.files g.D.Disk.counts c.args.node c.args.lines.now c.drive_lines-answered.result.answered c.drive_lines-answered.result.met k.told c.args.out.now c.drive_lines-answered.result.out.now c.args.system k.system) c.drive_lines-answered.ensures.comes)) (sym c.in_default-fault_behind.ensures) c.index-lines-answered.result c.index-lines-answered.is (Ok c.in-Ok.reply) c.in-Ok.is c.note_told.new.self c.note_told.ensures) (run_laws c.volumes_move.ensures.go_on c.step_goes_on.ensures c.no_point_falls.ensures) from before start done inside (g.met.A.Answering.joins from c.out-1.given.0 c.take.new.out) c.in-Ok-take.ensures.ok)

pub returns-in-Ok-take-clause-keeps : goal.returns-in-Ok-take-clause-keeps
returns-in-Ok-take-clause-keeps g c = told_keeps g.A.Answering.given g.A.Answering.faults g.D.Disk.tells g.D.Disk.files g.D.Disk.counts (layout_of c.args.system) c.args.node c.args.lines.now c.drive_lines-answered.result.answered c.index-lines-answered.result c.args.out.now c.out-1.given.0 c.take.new.out c.args.system c.note_told.new.self (Ok c.in-Ok.reply) (is_told g.A.Answering.given g.A.Answering.faults g.D.Disk.tells g.D.Disk.files g.D.Disk.counts (layout_of c.args.system) c.args.node c.args.lines.now c.drive_lines-answered.result.answered c.in-Some.closed.told c.args.out.now c.out-1.given.0 c.args.system c.in-Some.closed.system refl c.requires.ready c.drive_lines-answered.result.met (subst (λ o. ComesOfSession g.A.Answering.given g.A.Answering.faults g.D.Disk.tells g.D.Disk.files g.D.Disk.counts c.args.node c.args.lines.now c.drive_lines-answered.result.answered c.drive_lines-answered.result.met c.in-Some.closed.told c.args.out.now o c.args.system c.in-Some.closed.system) (sym (c.out-1.given.1 (sym c.drive_lines-answered.ensures.same_out))) (in_place c.drive_lines-answered.new.place c.in-Some.closed c.in-Some.is (λ k. ComesOfSession g.A.Answering.given g.A.Answering.faults g.D.Disk.tells g.D.Disk.files g.D.Disk.counts c.args.node c.args.lines.now c.drive_lines-answered.result.answered c.drive_lines-answered.result.met k.told c.args.out.now c.drive_lines-answered.result.out.now c.args.system k.system) c.drive_lines-answered.ensures.comes)) (sym c.in_default-fault_behind.ensures) c.index-lines-answered.result c.index-lines-answered.is (Ok c.in-Ok.reply) c.in-Ok.is c.note_told.new.self c.note_told.ensures) refl status.Done (c.in-Ok-take.ensures.faults ∙ (is_told g.A.Answering.given g.A.Answering.faults g.D.Disk.tells g.D.Disk.files g.D.Disk.counts (layout_of c.args.system) c.args.node c.args.lines.now c.drive_lines-answered.result.answered c.in-Some.closed.told c.args.out.now c.out-1.given.0 c.args.system c.in-Some.closed.system refl c.requires.ready c.drive_lines-answered.result.met (subst (λ o. ComesOfSession g.A.Answering.given g.A.Answering.faults g.D.Disk.tells g.D.Disk.files g.D.Disk.counts c.args.node c.args.lines.now c.drive_lines-answered.result.answered c.drive_lines-answered.result.met c.in-Some.closed.told c.args.out.now o c.args.system c.in-Some.closed.system) (sym (c.out-1.given.1 (sym c.drive_lines-answered.ensures.same_out))) (in_place c.drive_lines-answered.new.place c.in-Some.closed c.in-Some.is (λ k. ComesOfSession g.A.Answering.given g.A.Answering.faults g.D.Disk.tells g.D.Disk.files g.D.Disk.counts c.args.node c.args.lines.now c.drive_lines-answered.result.answered c.drive_lines-answered.result.met k.told c.args.out.now c.drive_lines-answered.result.out.now c.args.system k.system) c.drive_lines-answered.ensures.comes)) (sym c.in_default-fault_behind.ensures) c.index-lines-answered.result c.index-lines-answered.is (Ok c.in-Ok.reply) c.in-Ok.is c.note_told.new.self c.note_told.ensures).sink)

pub returns-in-Ok-take-clause-disks : goal.returns-in-Ok-take-clause-disks
returns-in-Ok-take-clause-disks g c = told_spared g.A.Answering.given g.A.Answering.faults g.D.Disk.tells g.D.Disk.files g.D.Disk.counts (layout_of c.args.system) c.args.node c.args.lines.now c.drive_lines-answered.result.answered c.index-lines-answered.result c.args.out.now c.drive_lines-answered.result.out.now c.drive_lines-answered.result.out.now c.args.system c.note_told.new.self c.in-Ok.reply (is_told g.A.Answering.given g.A.Answering.faults g.D.Disk.tells g.D.Disk.files g.D.Disk.counts (layout_of c.args.system) c.args.node c.args.lines.now c.drive_lines-answered.result.answered c.in-Some.closed.told c.args.out.now c.drive_lines-answered.result.out.now c.args.system c.in-Some.closed.system refl c.requires.ready c.drive_lines-answered.result.met (in_place c.drive_lines-answered.new.place c.in-Some.closed c.in-Some.is (λ k. ComesOfSession g.A.Answering.given g.A.Answering.faults g.D.Disk.tells g.D.Disk.files g.D.Disk.counts c.args.node c.args.lines.now c.drive_lines-answered.result.answered c.drive_lines-answered.result.met k.told c.args.out.now c.drive_lines-answered.result.out.now c.args.system k.system) c.drive_lines-answered.ensures.comes) (sym c.in_default-fault_behind.ensures) c.index-lines-answered.result c.index-lines-answered.is (Ok c.in-Ok.reply) c.in-Ok.is c.note_told.new.self c.note_told.ensures)

pub returns-in-Ok-take-clause-more : goal.returns-in-Ok-take-clause-more
returns-in-Ok-take-clause-more g c = told_more g.A.Answering.given g.A.Answering.faults g.D.Disk.tells g.D.Disk.files g.D.Disk.counts (layout_of c.args.system) c.args.node c.args.lines.now c.drive_lines-answered.result.answered c.index-lines-answered.result c.args.out.now c.drive_lines-answered.result.out.now c.drive_lines-answered.result.out.now c.args.system c.note_told.new.self c.in-Ok.reply (is_told g.A.Answering.given g.A.Answering.faults g.D.Disk.tells g.D.Disk.files g.D.Disk.counts (layout_of c.args.system) c.args.node c.args.lines.now c.drive_lines-answered.result.answered c.in-Some.closed.told c.args.out.now c.drive_lines-answered.result.out.now c.args.system c.in-Some.closed.system refl c.requires.ready c.drive_lines-answered.result.met (in_place c.drive_lines-answered.new.place c.in-Some.closed c.in-Some.is (λ k. ComesOfSession g.A.Answering.given g.A.Answering.faults g.D.Disk.tells g.D.Disk.files g.D.Disk.counts c.args.node c.args.lines.now c.drive_lines-answered.result.answered c.drive_lines-answered.result.met k.told c.args.out.now c.drive_lines-answered.result.out.now c.args.system k.system) c.drive_lines-answered.ensures.comes) (sym c.in_default-fault_behind.ensures) c.index-lines-answered.result c.index-lines-answered.is (Ok c.in-Ok.reply) c.in-Ok.is c.note_told.new.self c.note_told.ensures)

pub returns-in-Err-Write-clause-goes : goal.returns-in-Err-Write-clause-goes
returns-in-Err-Write-clause-goes g c = λ layout from before start laid inside done. (λ t. tt, told_stops g.A.Answering.given g.A.Answering.faults g.D.Disk.tells g.D.Disk.files g.D.Disk.counts layout c.args.node c.args.lines.now c.drive_lines-answered.result.answered c.index-lines-answered.result c.args.out.now c.out-1.given.0 c.take.new.out c.args.system c.note_told.new.self c.in-Ok.reply (is_told g.A.Answering.given g.A.Answering.faults g.D.Disk.tells g.D.Disk.files g.D.Disk.counts layout c.args.node c.args.lines.now c.drive_lines-answered.result.answered c.in-Some.closed.told c.args.out.now c.out-1.given.0 c.args.system c.in-Some.closed.system laid (subst (λ (of : Layout). AreInSession of c.args.node c.args.lines.now) laid c.requires.ready) c.drive_lines-answered.result.met (subst (λ o. ComesOfSession g.A.Answering.given g.A.Answering.faults g.D.Disk.tells g.D.Disk.files g.D.Disk.counts c.args.node c.args.lines.now c.drive_lines-answered.result.answered c.drive_lines-answered.result.met c.in-Some.closed.told c.args.out.now o c.args.system c.in-Some.closed.system) (sym (c.out-1.given.1 (sym c.drive_lines-answered.ensures.same_out))) (in_place c.drive_lines-answered.new.place c.in-Some.closed c.in-Some.is (λ k. ComesOfSession g.A.Answering.given g.A.Answering.faults g.D.Disk.tells g.D.Disk.files g.D.Disk.counts c.args.node c.args.lines.now c.drive_lines-answered.result.answered c.drive_lines-answered.result.met k.told c.args.out.now c.drive_lines-answered.result.out.now c.args.system k.system) c.drive_lines-answered.ensures.comes)) (sym c.in_default-fault_behind.ensures) c.index-lines-answered.result c.index-lines-answered.is (Ok c.in-Ok.reply) c.in-Ok.is c.note_told.new.self c.note_told.ensures) (run_laws c.volumes_move.ensures.go_on c.step_goes_on.ensures c.no_point_falls.ensures) from before start done inside (g.met.A.Answering.joins from c.out-1.given.0 c.take.new.out) (c.take.ensures.part (is_err c.take.result c.in-Err-Write.field-0 Write c.in-Err-Write.is c.in-Err-Write.field-0-is)) (λ t s at. c.stands-in-Err-Write.ensures t layout s at))

pub returns-in-Err-Write-clause-keeps : goal.returns-in-Err-Write-clause-keeps
returns-in-Err-Write-clause-keeps g c = told_keeps g.A.Answering.given g.A.Answering.faults g.D.Disk.tells g.D.Disk.files g.D.Disk.counts (layout_of c.args.system) c.args.node c.args.lines.now c.drive_lines-answered.result.answered c.index-lines-answered.result c.args.out.now c.out-1.given.0 c.take.new.out c.args.system c.note_told.new.self (Ok c.in-Ok.reply) (is_told g.A.Answering.given g.A.Answering.faults g.D.Disk.tells g.D.Disk.files g.D.Disk.counts (layout_of c.args.system) c.args.node c.args.lines.now c.drive_lines-answered.result.answered c.in-Some.closed.told c.args.out.now c.out-1.given.0 c.args.system c.in-Some.closed.system refl c.requires.ready c.drive_lines-answered.result.met (subst (λ o. ComesOfSession g.A.Answering.given g.A.Answering.faults g.D.Disk.tells g.D.Disk.files g.D.Disk.counts c.args.node c.args.lines.now c.drive_lines-answered.result.answered c.drive_lines-answered.result.met c.in-Some.closed.told c.args.out.now o c.args.system c.in-Some.closed.system) (sym (c.out-1.given.1 (sym c.drive_lines-answered.ensures.same_out))) (in_place c.drive_lines-answered.new.place c.in-Some.closed c.in-Some.is (λ k. ComesOfSession g.A.Answering.given g.A.Answering.faults g.D.Disk.tells g.D.Disk.files g.D.Disk.counts c.args.node c.args.lines.now c.drive_lines-answered.result.answered c.drive_lines-answered.result.met k.told c.args.out.now c.drive_lines-answered.result.out.now c.args.system k.system) c.drive_lines-answered.ensures.comes)) (sym c.in_default-fault_behind.ensures) c.index-lines-answered.result c.index-lines-answered.is (Ok c.in-Ok.reply) c.in-Ok.is c.note_told.new.self c.note_told.ensures) refl status.WriteFault (counts_write c.take.result (is_err c.take.result c.in-Err-Write.field-0 Write c.in-Err-Write.is c.in-Err-Write.field-0-is) _ _ _ c.take.ensures.faults (is_told g.A.Answering.given g.A.Answering.faults g.D.Disk.tells g.D.Disk.files g.D.Disk.counts (layout_of c.args.system) c.args.node c.args.lines.now c.drive_lines-answered.result.answered c.in-Some.closed.told c.args.out.now c.out-1.given.0 c.args.system c.in-Some.closed.system refl c.requires.ready c.drive_lines-answered.result.met (subst (λ o. ComesOfSession g.A.Answering.given g.A.Answering.faults g.D.Disk.tells g.D.Disk.files g.D.Disk.counts c.args.node c.args.lines.now c.drive_lines-answered.result.answered c.drive_lines-answered.result.met c.in-Some.closed.told c.args.out.now o c.args.system c.in-Some.closed.system) (sym (c.out-1.given.1 (sym c.drive_lines-answered.ensures.same_out))) (in_place c.drive_lines-answered.new.place c.in-Some.closed c.in-Some.is (λ k. ComesOfSession g.A.Answering.given g.A.Answering.faults g.D.Disk.tells g.D.Disk.files g.D.Disk.counts c.args.node c.args.lines.now c.drive_lines-answered.result.answered c.drive_lines-answered.result.met k.told c.args.out.now c.drive_lines-answered.result.out.now c.args.system k.system) c.drive_lines-answered.ensures.comes)) (sym c.in_default-fault_behind.ensures) c.index-lines-answered.result c.index-lines-answered.is (Ok c.in-Ok.reply) c.in-Ok.is c.note_told.new.self c.note_told.ensures).sink)

pub returns-in-Err-Write-clause-disks : goal.returns-in-Err-Write-clause-disks
returns-in-Err-Write-clause-disks g c = told_write g.A.Answering.given g.A.Answering.faults g.D.Disk.tells g.D.Disk.files g.D.Disk.counts (layout_of c.args.system) c.args.node c.args.lines.now c.drive_lines-answered.result.answered c.index-lines-answered.result c.args.out.now c.drive_lines-answered.result.out.now c.drive_lines-answered.result.out.now c.args.system c.note_told.new.self c.in-Ok.reply (is_told g.A.Answering.given g.A.Answering.faults g.D.Disk.tells g.D.Disk.files g.D.Disk.counts (layout_of c.args.system) c.args.node c.args.lines.now c.drive_lines-answered.result.answered c.in-Some.closed.told c.args.out.now c.drive_lines-answered.result.out.now c.args.system c.in-Some.closed.system refl c.requires.ready c.drive_lines-answered.result.met (in_place c.drive_lines-answered.new.place c.in-Some.closed c.in-Some.is (λ k. ComesOfSession g.A.Answering.given g.A.Answering.faults g.D.Disk.tells g.D.Disk.files g.D.Disk.counts c.args.node c.args.lines.now c.drive_lines-answered.result.answered c.drive_lines-answered.result.met k.told c.args.out.now c.drive_lines-answered.result.out.now c.args.system k.system) c.drive_lines-answered.ensures.comes) (sym c.in_default-fault_behind.ensures) c.index-lines-answered.result c.index-lines-answered.is (Ok c.in-Ok.reply) c.in-Ok.is c.note_told.new.self c.note_told.ensures)

pub returns-in-Err-Write-clause-spared : goal.returns-in-Err-Write-clause-spared
returns-in-Err-Write-clause-spared g c = spares_write g.D.Disk.counts c.has_met-something.result (disk_of c.args.system) (disk_of c.note_told.new.self) (told_spared g.A.Answering.given g.A.Answering.faults g.D.Disk.tells g.D.Disk.files g.D.Disk.counts (layout_of c.args.system) c.args.node c.args.lines.now c.drive_lines-answered.result.answered c.index-lines-answered.result c.args.out.now c.drive_lines-answered.result.out.now c.drive_lines-answered.result.out.now c.args.system c.note_told.new.self c.in-Ok.reply (is_told g.A.Answering.given g.A.Answering.faults g.D.Disk.tells g.D.Disk.files g.D.Disk.counts (layout_of c.args.system) c.args.node c.args.lines.now c.drive_lines-answered.result.answered c.in-Some.closed.told c.args.out.now c.drive_lines-answered.result.out.now c.args.system c.in-Some.closed.system refl c.requires.ready c.drive_lines-answered.result.met (in_place c.drive_lines-answered.new.place c.in-Some.closed c.in-Some.is (λ k. ComesOfSession g.A.Answering.given g.A.Answering.faults g.D.Disk.tells g.D.Disk.files g.D.Disk.counts c.args.node c.args.lines.now c.drive_lines-answered.result.answered c.drive_lines-answered.result.met k.told c.args.out.now c.drive_lines-answered.result.out.now c.args.system k.system) c.drive_lines-answered.ensures.comes) (sym c.in_default-fault_behind.ensures) c.index-lines-answered.result c.index-lines-answered.is (Ok c.in-Ok.reply) c.in-Ok.is c.note_told.new.self c.note_told.ensures))

pub returns-in-Err-NoMemory-clause-goes : goal.returns-in-Err-NoMemory-clause-goes
returns-in-Err-NoMemory-clause-goes g c = λ layout from before start laid inside done. (λ t. tt, told_unsaid g.A.Answering.given g.A.Answering.faults g.D.Disk.tells g.D.Disk.files g.D.Disk.counts layout c.args.node c.args.lines.now c.drive_lines-answered.result.answered c.index-lines-answered.result c.args.out.now c.out-1.given.0 c.take.new.out c.args.system c.note_told.new.self c.in-Ok.reply (is_told g.A.Answering.given g.A.Answering.faults g.D.Disk.tells g.D.Disk.files g.D.Disk.counts layout c.args.node c.args.lines.now c.drive_lines-answered.result.answered c.in-Some.closed.told c.args.out.now c.out-1.given.0 c.args.system c.in-Some.closed.system laid (subst (λ (of : Layout). AreInSession of c.args.node c.args.lines.now) laid c.requires.ready) c.drive_lines-answered.result.met (subst (λ o. ComesOfSession g.A.Answering.given g.A.Answering.faults g.D.Disk.tells g.D.Disk.files g.D.Disk.counts c.args.node c.args.lines.now c.drive_lines-answered.result.answered c.drive_lines-answered.result.met c.in-Some.closed.told c.args.out.now o c.args.system c.in-Some.closed.system) (sym (c.out-1.given.1 (sym c.drive_lines-answered.ensures.same_out))) (in_place c.drive_lines-answered.new.place c.in-Some.closed c.in-Some.is (λ k. ComesOfSession g.A.Answering.given g.A.Answering.faults g.D.Disk.tells g.D.Disk.files g.D.Disk.counts c.args.node c.args.lines.now c.drive_lines-answered.result.answered c.drive_lines-answered.result.met k.told c.args.out.now c.drive_lines-answered.result.out.now c.args.system k.system) c.drive_lines-answered.ensures.comes)) (sym c.in_default-fault_behind.ensures) c.index-lines-answered.result c.index-lines-answered.is (Ok c.in-Ok.reply) c.in-Ok.is c.note_told.new.self c.note_told.ensures) (run_laws c.volumes_move.ensures.go_on c.step_goes_on.ensures c.no_point_falls.ensures) from before start done inside (g.met.A.Answering.joins from c.out-1.given.0 c.take.new.out) (c.take.ensures.unwritten (is_err c.take.result c.in-Err-NoMemory.field-0 NoMemory c.in-Err-NoMemory.is c.in-Err-NoMemory.field-0-is)) (c.take.ensures.done (is_err c.take.result c.in-Err-NoMemory.field-0 NoMemory c.in-Err-NoMemory.is c.in-Err-NoMemory.field-0-is)))

pub returns-in-Err-NoMemory-clause-keeps : goal.returns-in-Err-NoMemory-clause-keeps
returns-in-Err-NoMemory-clause-keeps g c = told_keeps g.A.Answering.given g.A.Answering.faults g.D.Disk.tells g.D.Disk.files g.D.Disk.counts (layout_of c.args.system) c.args.node c.args.lines.now c.drive_lines-answered.result.answered c.index-lines-answered.result c.args.out.now c.out-1.given.0 c.take.new.out c.args.system c.note_told.new.self (Ok c.in-Ok.reply) (is_told g.A.Answering.given g.A.Answering.faults g.D.Disk.tells g.D.Disk.files g.D.Disk.counts (layout_of c.args.system) c.args.node c.args.lines.now c.drive_lines-answered.result.answered c.in-Some.closed.told c.args.out.now c.out-1.given.0 c.args.system c.in-Some.closed.system refl c.requires.ready c.drive_lines-answered.result.met (subst (λ o. ComesOfSession g.A.Answering.given g.A.Answering.faults g.D.Disk.tells g.D.Disk.files g.D.Disk.counts c.args.node c.args.lines.now c.drive_lines-answered.result.answered c.drive_lines-answered.result.met c.in-Some.closed.told c.args.out.now o c.args.system c.in-Some.closed.system) (sym (c.out-1.given.1 (sym c.drive_lines-answered.ensures.same_out))) (in_place c.drive_lines-answered.new.place c.in-Some.closed c.in-Some.is (λ k. ComesOfSession g.A.Answering.given g.A.Answering.faults g.D.Disk.tells g.D.Disk.files g.D.Disk.counts c.args.node c.args.lines.now c.drive_lines-answered.result.answered c.drive_lines-answered.result.met k.told c.args.out.now c.drive_lines-answered.result.out.now c.args.system k.system) c.drive_lines-answered.ensures.comes)) (sym c.in_default-fault_behind.ensures) c.index-lines-answered.result c.index-lines-answered.is (Ok c.in-Ok.reply) c.in-Ok.is c.note_told.new.self c.note_told.ensures) refl status.NoMemory (counts_none c.take.result (is_err c.take.result c.in-Err-NoMemory.field-0 NoMemory c.in-Err-NoMemory.is c.in-Err-NoMemory.field-0-is) _ _ _ c.take.ensures.faults (is_told g.A.Answering.given g.A.Answering.faults g.D.Disk.tells g.D.Disk.files g.D.Disk.counts (layout_of c.args.system) c.args.node c.args.lines.now c.drive_lines-answered.result.answered c.in-Some.closed.told c.args.out.now c.out-1.given.0 c.args.system c.in-Some.closed.system refl c.requires.ready c.drive_lines-answered.result.met (subst (λ o. ComesOfSession g.A.Answering.given g.A.Answering.faults g.D.Disk.tells g.D.Disk.files g.D.Disk.counts c.args.node c.args.lines.now c.drive_lines-answered.result.answered c.drive_lines-answered.result.met c.in-Some.closed.told c.args.out.now o c.args.system c.in-Some.closed.system) (sym (c.out-1.given.1 (sym c.drive_lines-answered.ensures.same_out))) (in_place c.drive_lines-answered.new.place c.in-Some.closed c.in-Some.is (λ k. ComesOfSession g.A.Answering.given g.A.Answering.faults g.D.Disk.tells g.D.Disk.files g.D.Disk.counts c.args.node c.args.lines.now c.drive_lines-answered.result.answered c.drive_lines-answered.result.met k.told c.args.out.now c.drive_lines-answered.result.out.now c.args.system k.system) c.drive_lines-answered.ensures.comes)) (sym c.in_default-fault_behind.ensures) c.index-lines-answered.result c.index-lines-answered.is (Ok c.in-Ok.reply) c.in-Ok.is c.note_told.new.self c.note_told.ensures).sink)

pub returns-in-Err-NoMemory-clause-disks : goal.returns-in-Err-NoMemory-clause-disks
returns-in-Err-NoMemory-clause-disks g c = told_spared g.A.Answering.given g.A.Answering.faults g.D.Disk.tells g.D.Disk.files g.D.Disk.counts (layout_of c.args.system) c.args.node c.args.lines.now c.drive_lines-answered.result.answered c.index-lines-answered.result c.args.out.now c.drive_lines-answered.result.out.now c.drive_lines-answered.result.out.now c.args.system c.note_told.new.self c.in-Ok.reply (is_told g.A.Answering.given g.A.Answering.faults g.D.Disk.tells g.D.Disk.files g.D.Disk.counts (layout_of c.args.system) c.args.node c.args.lines.now c.drive_lines-answered.result.answered c.in-Some.closed.told c.args.out.now c.drive_lines-answered.result.out.now c.args.system c.in-Some.closed.system refl c.requires.ready c.drive_lines-answered.result.met (in_place c.drive_lines-answered.new.place c.in-Some.closed c.in-Some.is (λ k. ComesOfSession g.A.Answering.given g.A.Answering.faults g.D.Disk.tells g.D.Disk.files g.D.Disk.counts c.args.node c.args.lines.now c.drive_lines-answered.result.answered c.drive_lines-answered.result.met k.told c.args.out.now c.drive_lines-answered.result.out.now c.args.system k.system) c.drive_lines-answered.ensures.comes) (sym c.in_default-fault_behind.ensures) c.index-lines-answered.result c.index-lines-answered.is (Ok c.in-Ok.reply) c.in-Ok.is c.note_told.new.self c.note_told.ensures)

pub returns-in-Err-clause-goes : goal.returns-in-Err-clause-goes
returns-in-Err-clause-goes g c = λ layout from before start laid inside done. subst (λ (f : RunFault). RunGoes (status_of_run f) (g.A.Answering.given from c.out-1.given.0) g.D.Disk.tells g.D.Disk.counts layout before c.args.lines.now c.drive_lines-answered.result.answered start (disk_of c.note_told.new.self) (λ (s : State). IsAtState g.D.Disk.files layout s c.note_told.new.self) (λ (s : State). DisksStandFor g.D.Disk.files layout s c.note_told.new.self) (StandsAs c.note_told.new.self)) (sym c.of_node.ensures) (why_goes g.A.Answering.given g.A.Answering.faults g.D.Disk.tells g.D.Disk.files g.D.Disk.counts layout c.args.node c.args.lines.now c.drive_lines-answered.result.answered c.index-lines-answered.result c.args.out.now c.out-1.given.0 c.out-1.given.0 c.args.system c.note_told.new.self c.in-Err.fault (is_told g.A.Answering.given g.A.Answering.faults g.D.Disk.tells g.D.Disk.files g.D.Disk.counts layout c.args.node c.args.lines.now c.drive_lines-answered.result.answered c.in-Some.closed.told c.args.out.now c.out-1.given.0 c.args.system c.in-Some.closed.system laid (subst (λ (of : Layout). AreInSession of c.args.node c.args.lines.now) laid c.requires.ready) c.drive_lines-answered.result.met (subst (λ o. ComesOfSession g.A.Answering.given g.A.Answering.faults g.D.Disk.tells g.D.Disk.files g.D.Disk.counts c.args.node c.args.lines.now c.drive_lines-answered.result.answered c.drive_lines-answered.result.met c.in-Some.closed.told c.args.out.now o c.args.system c.in-Some.closed.system) (sym (c.out-1.given.1 (sym c.drive_lines-answered.ensures.same_out))) (in_place c.drive_lines-answered.new.place c.in-Some.closed c.in-Some.is (λ k. ComesOfSession g.A.Answering.given g.A.Answering.faults g.D.Disk.tells g.D.Disk.files g.D.Disk.counts c.args.node c.args.lines.now c.drive_lines-answered.result.answered c.drive_lines-answered.result.met k.told c.args.out.now c.drive_lines-answered.result.out.now c.args.system k.system) c.drive_lines-answered.ensures.comes)) (sym c.in_default-fault_behind.ensures) c.index-lines-answered.result c.index-lines-answered.is (Err c.in-Err.fault) c.in-Err.is c.note_told.new.self c.note_told.ensures) (run_laws c.volumes_move.ensures.go_on c.step_goes_on.ensures c.no_point_falls.ensures) from before start inside done)

pub returns-in-Err-clause-keeps : goal.returns-in-Err-clause-keeps
returns-in-Err-clause-keeps g c = subst (λ (f : RunFault). Keeps g.D.Disk.tells g.D.Disk.files g.D.Disk.counts (status_of_run f) (g.A.Answering.faults c.args.out.now) (g.A.Answering.faults c.out-1.given.0) c.args.system c.note_told.new.self) (sym c.of_node.ensures)
    (told_keeps g.A.Answering.given g.A.Answering.faults g.D.Disk.tells g.D.Disk.files g.D.Disk.counts (layout_of c.args.system) c.args.node c.args.lines.now c.drive_lines-answered.result.answered c.index-lines-answered.result c.args.out.now c.out-1.given.0 c.out-1.given.0 c.args.system c.note_told.new.self (Err c.in-Err.fault) (is_told g.A.Answering.given g.A.Answering.faults g.D.Disk.tells g.D.Disk.files g.D.Disk.counts (layout_of c.args.system) c.args.node c.args.lines.now c.drive_lines-answered.result.answered c.in-Some.closed.told c.args.out.now c.out-1.given.0 c.args.system c.in-Some.closed.system refl c.requires.ready c.drive_lines-answered.result.met (subst (λ o. ComesOfSession g.A.Answering.given g.A.Answering.faults g.D.Disk.tells g.D.Disk.files g.D.Disk.counts c.args.node c.args.lines.now c.drive_lines-answered.result.answered c.drive_lines-answered.result.met c.in-Some.closed.told c.args.out.now o c.args.system c.in-Some.closed.system) (sym (c.out-1.given.1 (sym c.drive_lines-answered.ensures.same_out))) (in_place c.drive_lines-answered.new.place c.in-Some.closed c.in-Some.is (λ k. ComesOfSession g.A.Answering.given g.A.Answering.faults g.D.Disk.tells g.D.Disk.files g.D.Disk.counts c.args.node c.args.lines.now c.drive_lines-answered.result.answered c.drive_lines-answered.result.met k.told c.args.out.now c.drive_lines-answered.result.out.now c.args.system k.system) c.drive_lines-answered.ensures.comes)) (sym c.in_default-fault_behind.ensures) c.index-lines-answered.result c.index-lines-answered.is (Err c.in-Err.fault) c.in-Err.is c.note_told.new.self c.note_told.ensures) refl (status_of_run (fault_at_node c.args.node c.in-Err.fault)) (sink_node c.args.node c.in-Err.fault _ _ (is_told g.A.Answering.given g.A.Answering.faults g.D.Disk.tells g.D.Disk.files g.D.Disk.counts (layout_of c.args.system) c.args.node c.args.lines.now c.drive_lines-answered.result.answered c.in-Some.closed.told c.args.out.now c.out-1.given.0 c.args.system c.in-Some.closed.system refl c.requires.ready c.drive_lines-answered.result.met (subst (λ o. ComesOfSession g.A.Answering.given g.A.Answering.faults g.D.Disk.tells g.D.Disk.files g.D.Disk.counts c.args.node c.args.lines.now c.drive_lines-answered.result.answered c.drive_lines-answered.result.met c.in-Some.closed.told c.args.out.now o c.args.system c.in-Some.closed.system) (sym (c.out-1.given.1 (sym c.drive_lines-answered.ensures.same_out))) (in_place c.drive_lines-answered.new.place c.in-Some.closed c.in-Some.is (λ k. ComesOfSession g.A.Answering.given g.A.Answering.faults g.D.Disk.tells g.D.Disk.files g.D.Disk.counts c.args.node c.args.lines.now c.drive_lines-answered.result.answered c.drive_lines-answered.result.met k.told c.args.out.now c.drive_lines-answered.result.out.now c.args.system k.system) c.drive_lines-answered.ensures.comes)) (sym c.in_default-fault_behind.ensures) c.index-lines-answered.result c.index-lines-answered.is (Err c.in-Err.fault) c.in-Err.is c.note_told.new.self c.note_told.ensures).sink))

pub returns-in-Err-clause-named : goal.returns-in-Err-clause-named
returns-in-Err-clause-named g c = subst (λ (f : RunFault). NamesUsedDisk (layout_of c.args.system) (status_of_run f)) (sym c.of_node.ensures) (why_named g.A.Answering.given g.A.Answering.faults g.D.Disk.tells g.D.Disk.files g.D.Disk.counts (layout_of c.args.system) c.args.node c.args.lines.now c.drive_lines-answered.result.answered c.index-lines-answered.result c.args.out.now c.drive_lines-answered.result.out.now c.drive_lines-answered.result.out.now c.args.system c.note_told.new.self c.in-Err.fault (is_told g.A.Answering.given g.A.Answering.faults g.D.Disk.tells g.D.Disk.files g.D.Disk.counts (layout_of c.args.system) c.args.node c.args.lines.now c.drive_lines-answered.result.answered c.in-Some.closed.told c.args.out.now c.drive_lines-answered.result.out.now c.args.system c.in-Some.closed.system refl c.requires.ready c.drive_lines-answered.result.met (in_place c.drive_lines-answered.new.place c.in-Some.closed c.in-Some.is (λ k. ComesOfSession g.A.Answering.given g.A.Answering.faults g.D.Disk.tells g.D.Disk.files g.D.Disk.counts c.args.node c.args.lines.now c.drive_lines-answered.result.answered c.drive_lines-answered.result.met k.told c.args.out.now c.drive_lines-answered.result.out.now c.args.system k.system) c.drive_lines-answered.ensures.comes) (sym c.in_default-fault_behind.ensures) c.index-lines-answered.result c.index-lines-answered.is (Err c.in-Err.fault) c.in-Err.is c.note_told.new.self c.note_told.ensures))

pub returns-in-Err-clause-disks : goal.returns-in-Err-clause-disks
returns-in-Err-clause-disks g c = subst (λ (f : RunFault). ReturnIn g.D.Disk.counts (Some c.args.node) (status_of_run f) (disk_of c.args.system) (disk_of c.note_told.new.self)) (sym c.of_node.ensures) (why_disks g.A.Answering.given g.A.Answering.faults g.D.Disk.tells g.D.Disk.files g.D.Disk.counts (layout_of c.args.system) c.args.node c.args.lines.now c.drive_lines-answered.result.answered c.index-lines-answered.result c.args.out.now c.drive_lines-answered.result.out.now c.drive_lines-answered.result.out.now c.args.system c.note_told.new.self c.in-Err.fault (is_told g.A.Answering.given g.A.Answering.faults g.D.Disk.tells g.D.Disk.files g.D.Disk.counts (layout_of c.args.system) c.args.node c.args.lines.now c.drive_lines-answered.result.answered c.in-Some.closed.told c.args.out.now c.drive_lines-answered.result.out.now c.args.system c.in-Some.closed.system refl c.requires.ready c.drive_lines-answered.result.met (in_place c.drive_lines-answered.new.place c.in-Some.closed c.in-Some.is (λ k. ComesOfSession g.A.Answering.given g.A.Answering.faults g.D.Disk.tells g.D.Disk.files g.D.Disk.counts c.args.node c.args.lines.now c.drive_lines-answered.result.answered c.drive_lines-answered.result.met k.told c.args.out.now c.drive_lines-answered.result.out.now c.args.system k.system) c.drive_lines-answered.ensures.comes) (sym c.in_default-fault_behind.ensures) c.index-lines-answered.result c.index-lines-answered.is (Err c.in-Err.fault) c.in-Err.is c.note_told.new.self c.note_told.ensures))
