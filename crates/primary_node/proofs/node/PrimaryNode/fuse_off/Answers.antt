use Rattle.std.proofs.Common.{rules, ◌≡◌, ℕ, ◌==◌, ◌<◌, inr, inl, refl, ◌∙◌, true, length, if◌then◌else◌, arith}
use Rattle.std.specs.Vec.{with_item}
use Rattle.rdf_disk.specs.Counts.{fused}
use Rattle.rdf_disk.specs.Counts.Ending.{Fine}
use Rattle.primary_node.specs.Lines.{Tells}
use Rattle.primary_node.proofs.CutLaws.{same_length}
use Rattle.primary_node.proofs.CallLaws.{done_kept}
use Rattle.primary_node.proofs.CauseLaws.{each_off, serves_off}
use Rattle.primary_node.proofs.OffLaws.{done_no, each_none}
use Rattle.primary_node.proofs.FuseLaws.{after_fuse, put_fused, put_narrows, still_off, fuse_fine, fuse_raises, fuse_off_follows}
use Rattle.primary_node.proofs.RestLaws.{stood_still}
use Rattle.primary_node.proofs.node.PrimaryNode.fuse_off.Goals as goal

pub returns : goal.returns
returns g c =
    let within : c.args.disk < length c.args.self.now.disks.items = omega (arith, c.requires.there, c.requires.rests.many) in
    let xs = c.args.self.now.disks.items in
    let new = record c.args.self.now { disks = with_item c.args.self.now.disks c.args.disk c.fuse.new.self } in
    let put = put_fused g.D.Disk.counts xs c.args.disk c.fuse.new.self c.index_mut-fused.result.now within c.index_mut-fused.ensures.value c.fuse.ensures.counts in
    let narrows = λ (tells : g.D.Disk.tells). put_narrows g.D.Disk.counts xs c.args.disk c.fuse.new.self c.index_mut-fused.result.now within c.index_mut-fused.ensures.value g.D.Disk.files (c.fuse.ensures.files tells) in
    let Fails = λ (i : ℕ) (x y : g.row.D.Denot). Tells Fine (g.D.Disk.counts x) (g.D.Disk.counts y) in
    let Fuses = λ (i : ℕ) (x y : g.row.D.Denot). (g.D.Disk.counts y).fuses ≡ (if i == c.args.disk then (fused (g.D.Disk.counts x)).fuses else (g.D.Disk.counts x).fuses) in
    record {
      performs = λ tells layout a rise some at. fuse_off_follows g.D.Disk.files layout a rise c.args.disk c.args.calls c.args.tear c.args.self.now new at c.requires.not_up c.requires.not_up c.requires.not_lost refl c.requires.rests.many c.requires.there (narrows tells);
      serves = serves_off new c.requires.not_up g.D.Disk.tells g.D.Disk.files g.D.Disk.counts c.args.self.now.volumes refl (record {
        many = same_length (λ i x y. g.D.Disk.counts y ≡ after_fuse (i == c.args.disk) (g.D.Disk.counts x)) xs _ put ∙ c.requires.rests.many;
        off = still_off g.D.Disk.counts c.args.disk xs _ put true c.requires.rests.off;
        stood = λ tells. stood_still g.D.Disk.files xs _ (narrows tells) (c.requires.rests.stood tells);
        laid = c.requires.rests.laid;
      });
      sized = refl;
      cause = inl (each_none c.args.self.now c.requires.not_up Fails _ (each_off new c.requires.not_up Fails xs (fuse_fine g.D.Disk.counts c.args.disk xs _ put)), done_no);
      sound = λ tells. tt;
      fuses = inr (refl, each_none c.args.self.now c.requires.not_up Fuses _ (each_off new c.requires.not_up Fuses xs (fuse_raises g.D.Disk.counts c.args.disk xs _ put)));
      kept = done_kept c.args.self.now new;
      kinds = search rules;
      moved = refl;
    }
