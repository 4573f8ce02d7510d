use Rattle.std.proofs.Common.{rules, ◌≡◌, ℕ, ◌+◌, min, inl, refl, sym, subst, arith, Bool, true, if◌then◌else◌, nat_lt, List}
use Rattle.std.proofs.lemmas.Bool.{lt-ltb}
use Rattle.std.proofs.lemmas.Result.{on_ok_weaker, on_err_weaker}
use Rattle.rdf_disk.specs.AnswerLaws.{on_err}
use Rattle.image_disks.specs.Spelled.{block_of}
use Rattle.image_disks.specs.Values.{Shipment, Alike, received, stages, stored}
use Rattle.image_disks.specs.Standing.{StandsForOne}
use Rattle.rdf_disk.specs.Outcomes.{Durably}
use Rattle.rdf_types.specs.declared.records.Record.{Record}
use Rattle.image_disks.specs.Held.{Holds, IsPartOf}
use Rattle.image_trails.specs.Memory.{plan_in, value_in, shipment}
use Rattle.image_trails.specs.InUseLaws.{in_use_durably}
use Rattle.copyaudit.specs.Copying.{part_of}
use Rattle.copyaudit.proofs.Listing.{part_held}
use Rattle.copyaudit.proofs.copying.copy_next.Goals as goal

pub returns-in_err-ship : goal.returns-in_err-ship
returns-in_err-ship g c =
    let stands = λ (tells : g.D.Disk.tells). in_use_durably block_of c.args.lag.now.memory (g.D.Disk.files c.args.lag.now.disk) (c.requires.lag tells) in
    record {
      ok = search rules;
      value = search rules;
      phase = search rules;
      err = λ tells. on_err c.from_residual.result _ (λ x may. inl (stands tells x may));
      held = search rules;
      left = λ tells. on_err c.from_residual.result _ (λ x may. (value_in c.args.lag.now.memory, stands tells x may, λ trail both. both.1));
      stays = search rules;
    }

pub returns : goal.returns
returns g c =
    let plan = plan_in c.args.lag.now.memory in
    let v = value_in c.args.lag.now.memory in
    let w = value_in c.args.lead.now.memory in
    let ship = shipment c.in_ok-ship.ship in
    let message = part_of w (received v) (min (received v + 64) (received w)) in
    let same = λ (tells : g.D.Disk.tells). subst (λ (r : ℕ). ship ≡ part_of w r (min (r + 64) (received w))) c.received.ensures (c.in_ok-ship.ensures.part tells (c.requires.lead tells)) in
    let more : nat_lt (received v) message.to ≡ true = lt-ltb (received v) message.to (omega (arith, c.requires.some)) in
    let part = λ (tells : g.D.Disk.tells) (trail : List Record) (held : Holds plan trail w). subst (λ (s : Shipment). IsPartOf plan trail s) (sym (same tells))
    (part_held plan trail w (received v) (min (received v + 64) (received w)) refl (c.requires.kept tells) (omega arith) (omega arith) held) in
    record {
      ok = λ tells. on_ok_weaker c.store.result (λ h. h.in_use) (c.store.ensures.ok tells);
      value = λ tells. on_ok_weaker c.store.result (λ h. subst (λ (b : Bool). Alike (value_in c.store.new.self.memory) (if b then stored plan message v else v)) (sym more)
          (subst (λ (s : Shipment). Alike (value_in c.store.new.self.memory) (stored plan s v)) (same tells) h.value)) (c.store.ensures.ok tells);
      phase = search rules;
      err = λ tells. on_err_weaker c.store.result (λ h. subst (λ (s : Shipment). Durably (g.D.Disk.files c.store.new.self.disk) (StandsForOne block_of plan (stages plan s v))) (same tells) h) (c.store.ensures.err tells);
      held = λ tells. on_ok_weaker c.store.result (λ h trail both. h trail (part tells trail both.0, both.1)) (c.store.ensures.held tells);
      left = λ tells. on_err_weaker c.store.result (λ h x may. let some = h x may in (some.0, some.1, λ trail both. some.2 trail (part tells trail both.0, both.1))) (c.store.ensures.left tells);
      stays = search rules;
    }
