use Rattle.std.proofs.Common.{rules, ◌≡◌, ◌≤◌, ℕ, List, length, Err, refl, ap, arith}
use Rattle.std.proofs.lemmas.Grind.{common_steps}
use Rattle.rdf_gatelog.specs.declared.fault.LogFault.TheVariants.{NoMemory}
use Rattle.rdf_volume.specs.declared.volume.Volume.{Volume}
use Rattle.rdf_backup.specs.declared.taking.TakingOver.{TakingOver}
use Rattle.rdf_backup.specs.Parting.{Parted}
use Rattle.rdf_backup.proofs.PartingLaws.{out_flagged, out_other, out_done}
use Rattle.rdf_backup.proofs.beside.take_out.Goals as goal

pub loop-number-preserved-then-flag : goal.loop-number-preserved-then-flag
loop-number-preserved-then-flag g c =
    let R : ℕ → Volume g.row.D.Denot → TakingOver g.row.D.Denot g.row.G.Denot → Type 0 = λ k volume w. (w.volume ≡ volume) × (w.vol ≡ k) × (w.audit.now ≡ c.args.audit.now) × (w.answer ≡ Err NoMemory) in
    let T : List (TakingOver g.row.D.Denot g.row.G.Denot) → List (Volume g.row.D.Denot) → Type 0 = λ ws others. Parted R 0 c.args.flags.now c.args.volumes.now.items ws others in
    record {
      sized = omega (arith, ap (λ l. length l) c.take_first-volume.ensures.first, c.loop-number.invariant.sized);
      fits = (first_of (search rules, grind (arith, common_steps)), first_of (search rules, grind (arith, common_steps)));
      room = (first_of (search rules, grind (arith, common_steps)), first_of (search rules, grind (arith, common_steps)), first_of (search rules, grind (arith, common_steps)));
      parted = λ ws others h. out_flagged R T c.loop-number.number c.args.flags.now c.loop-number.volumes.items c.take_first-volume.new.list.items c.take_first-volume.result c.loop-number.workers.items c.loop-number.apart.items c.take_first-volume.ensures.first c.loop-number.invariant.sized c.loop-number.invariant.parted
          c.if-flag.true _ c.push_reserved.new.self.items c.push_reserved.ensures.items (refl, refl, refl, refl) ws others h;
    }

pub loop-number-preserved : goal.loop-number-preserved
loop-number-preserved g c =
    let R : ℕ → Volume g.row.D.Denot → TakingOver g.row.D.Denot g.row.G.Denot → Type 0 = λ k volume w. (w.volume ≡ volume) × (w.vol ≡ k) × (w.audit.now ≡ c.args.audit.now) × (w.answer ≡ Err NoMemory) in
    let T : List (TakingOver g.row.D.Denot g.row.G.Denot) → List (Volume g.row.D.Denot) → Type 0 = λ ws others. Parted R 0 c.args.flags.now c.args.volumes.now.items ws others in
    record {
      sized = omega (arith, ap (λ l. length l) c.take_first-volume.ensures.first, c.loop-number.invariant.sized);
      fits = (first_of (search rules, grind (arith, common_steps)), first_of (search rules, grind (arith, common_steps)));
      room = (first_of (search rules, grind (arith, common_steps)), first_of (search rules, grind (arith, common_steps)), first_of (search rules, grind (arith, common_steps)));
      parted = λ ws others h. out_other R T c.loop-number.number c.args.flags.now c.loop-number.volumes.items c.take_first-volume.new.list.items c.take_first-volume.result c.loop-number.workers.items c.loop-number.apart.items c.take_first-volume.ensures.first c.loop-number.invariant.sized c.loop-number.invariant.parted
          c.if-flag.false c.push_reserved-in-loop-number.new.self.items c.push_reserved-in-loop-number.ensures.items ws others h;
    }

pub returns-clause-parted : goal.returns-clause-parted
returns-clause-parted g c =
    let R : ℕ → Volume g.row.D.Denot → TakingOver g.row.D.Denot g.row.G.Denot → Type 0 = λ k volume w. (w.volume ≡ volume) × (w.vol ≡ k) × (w.audit.now ≡ c.args.audit.now) × (w.answer ≡ Err NoMemory) in
    let all : length c.args.flags.now ≤ c.loop-number.number = omega (arith, c.loop-number-test.false) in
    out_done R (λ ws others. Parted R 0 c.args.flags.now c.args.volumes.now.items ws others) c.loop-number.number c.args.flags.now c.loop-number.volumes.items c.loop-number.workers.items c.loop-number.apart.items all c.loop-number.invariant.sized c.loop-number.invariant.parted
