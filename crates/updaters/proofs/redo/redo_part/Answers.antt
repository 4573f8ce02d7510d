use Rattle.std.proofs.Common.{◌≡◌, ◌∙◌, ℕ, nat_lt, map, ap, sym, subst, List, arith}
use Rattle.std.proofs.lemmas.Result.{on_err_weaker}
use Rattle.rdf_types.specs.declared.records.Stamped.{Stamped}
use Rattle.rdf_types.specs.Entries.{RiseFrom, since, before}
use Rattle.rdf_types.specs.EntryLaws.{before_twice, rise_since, rise_kept, rise_all}
use Rattle.updaters.specs.Calls.{Redoes}
use Rattle.updaters.proofs.Redoing.{stands_in_all}
use Rattle.rdf_volume.specs.Views.{disk_of, restart_of, rows_of}
use Rattle.updaters.proofs.redo.redo_part.Given.{Over}
use Rattle.updaters.proofs.redo.redo_part.Goals.{After-before-2}
use Rattle.updaters.proofs.redo.redo_part.Goals as goal

-- the entries from the restart point on
abbrev behind : (g : Over) → After-before-2 g → List Stamped
behind g c = since (restart_of c.args.volume.now) (map g.E.Held.stands c.args.part.now)

images_are : (g : Over) (c : After-before-2 g) → map g.E.Held.stands c.before-2.result.now ≡ before c.args.upto (behind g c)
images_are g c = c.before-2.ensures ∙ ap (before c.args.upto) (c.since.ensures ∙ ap (λ (p : ℕ). since p (map g.E.Held.stands c.args.part.now)) c.restart_point-at.ensures)

pub before-requires : goal.before-requires
before-requires g c =
    let entries = map g.E.Held.stands c.args.part.now in
    subst (λ (l : List Stamped). RiseFrom 0 l) (sym c.since.ensures) (rise_all c.restart_point-at.result (since c.restart_point-at.result entries) (rise_since c.restart_point-at.result 0 entries c.requires.rising))

pub redo_images-requires-clause-rising : goal.redo_images-requires-clause-rising
redo_images-requires-clause-rising g c =
    let old = restart_of c.args.volume.now in
    subst (λ (l : List Stamped). RiseFrom old l) (sym (images_are g c)) (rise_kept (λ s. nat_lt s.pos c.args.upto) old (behind g c) (rise_since old 0 (map g.E.Held.stands c.args.part.now) c.requires.rising))

pub redo_images-requires-clause-below : goal.redo_images-requires-clause-below
redo_images-requires-clause-below g c =
    subst (λ (l : List Stamped). before c.args.upto l ≡ l) (sym (images_are g c)) (before_twice c.args.upto c.args.upto (behind g c) (omega arith))

pub returns : goal.returns
returns g c =
    let shared = (goal.at.returns g c).After-before-2 in
    let old = c.args.volume.now in
    let new = c.redo_images.new.volume in
    let all : List Stamped = behind g shared in
    let images = map g.E.Held.stands c.before-2.result.now in
    let is = images_are g shared in
    let did = c.redo_images.ensures in
    let here : Redoes g.D.Disk.tells g.D.Disk.files g.D.Disk.counts c.args.vol (before c.args.upto all) images c.args.upto old c.redo_images.result new =
    subst (λ (l : List Stamped). Redoes g.D.Disk.tells g.D.Disk.files g.D.Disk.counts c.args.vol l images c.args.upto old c.redo_images.result new) is did in
    record {
      does = record {
        ok = did.ok;
        err = λ tells. on_err_weaker c.redo_images.result (stands_in_all c.args.vol images (restart_of old) c.args.upto (rows_of old) (g.D.Disk.files (disk_of new)) all is) (did.err tells);
        cause = did.cause;
      };
      sound = did.sound;
      names = did.names;
      rows = here.rows;
      restart = did.restart;
      batches = here.batches;
      idle = did.idle;
    }
