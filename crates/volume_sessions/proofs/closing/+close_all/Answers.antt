use Rattle.std.proofs.Common.{rules, List, map, ◌∷◌, [], sym, ap, ◌∙◌, subst, arith}
use Rattle.std.specs.List.{AllZip}
use Rattle.std.proofs.lemmas.List.{map-append}
use Rattle.std.proofs.lemmas.Slice.Zip.{AllZip-long}
use Rattle.rdf_types.specs.Entries.{Rises}
use Rattle.seated_lock.specs.declared.story.Story.{Story}
use Rattle.seated_lock.specs.Stories.{Begins}
use Rattle.seated_lock.specs.StoryLaws.{begins_itself}
use Rattle.volume_sessions.specs.declared.watch.Place.{Place}
use Rattle.volume_sessions.specs.Shown.{placed_by}
use Rattle.volume_sessions.specs.Watching.{IsPlaceOf}
use Rattle.volume_sessions.specs.Workers.{HasUpdated}
use Rattle.volume_sessions.specs.Leaving.{HasLeft}
use Rattle.volume_sessions.proofs.Seeing.{places_later}
use Rattle.updater_pool.specs.ZipLaws.{zip_behind}
use Rattle.volume_sessions.proofs.Zips.{zip_taken}
use Rattle.volume_sessions.proofs.closing.+close_all.Goals as goal

pub unreachable-requires : goal.unreachable-requires
unreachable-requires g t c =
    omega (arith, AllZip-long (IsPlaceOf g.D.Disk.tells g.D.Disk.files g.D.Disk.counts c.args.board.now.id c.args.pass) c.args.seats.items c.args.places.items c.requires.places, c.in-Some.ensures.cases, c.in-None-pop.ensures.cases)

pub unreachable-requires-in-None-pop-2 : goal.unreachable-requires-in-None-pop-2
unreachable-requires-in-None-pop-2 g t c =
    omega (arith, AllZip-long (HasUpdated c.args.board.now.id) c.args.seats.items c.args.ends.items c.requires.ends, c.in-Some.ensures.cases, c.in-None-pop-2.ensures.cases)

pub close_one-pass-requires-clause-place : goal.close_one-pass-requires-clause-place
close_one-pass-requires-clause-place g t c =
    let both = zip_taken (IsPlaceOf g.D.Disk.tells g.D.Disk.files g.D.Disk.counts c.args.board.now.id c.args.pass) _ _ _ _ c.in-Some.seat c.in-Some-pop.place c.in-Some.ensures.items c.in-Some-pop.ensures.items c.requires.places in
    both.1

pub close_one-pass-requires-clause-ended : goal.close_one-pass-requires-clause-ended
close_one-pass-requires-clause-ended g t c =
    let both = zip_taken (HasUpdated c.args.board.now.id) _ _ _ _ c.in-Some.seat c.in-Some-pop-2.end c.in-Some.ensures.items c.in-Some-pop-2.ensures.items c.requires.ends in
    both.1

pub close_all-all-requires : goal.close_all-all-requires
close_all-all-requires g t c κs within =
    let places = zip_taken (IsPlaceOf g.D.Disk.tells g.D.Disk.files g.D.Disk.counts c.args.board.now.id c.args.pass) _ _ _ _ c.in-Some.seat c.in-Some-pop.place c.in-Some.ensures.items c.in-Some-pop.ensures.items c.requires.places in
    let ends = zip_taken (HasUpdated c.args.board.now.id) _ _ _ _ c.in-Some.seat c.in-Some-pop-2.end c.in-Some.ensures.items c.in-Some-pop-2.ensures.items c.requires.ends in
    let pass = c.close_one-pass.result.0 in let same = c.close_one-pass.ensures.pass in (
      search rules,
      (
        search rules,
        (
          (same.0 ∙ c.requires.pass.0, same.1),
          (
            subst (λ (s : Story). Rises c.args.board.now.first.start s.entries s.number) (sym same.2) c.requires.rises,
            (
              places_later g.D.Disk.tells g.D.Disk.files g.D.Disk.counts c.args.board.now.id c.args.pass pass c.pop.new.self.items c.pop-2.new.self.items (subst (λ (s : Story). Begins c.args.pass.story s) (sym same.2) (begins_itself c.args.pass.story)) places.0,
              (ends.0, search rules),
            ),
          ),
        ),
      ),
    )

pub returns-clause-left : goal.returns-clause-left
returns-clause-left g t c =
    let rest = subst (λ (s : Story). AllZip (HasLeft g.D.Disk.tells g.D.Disk.files g.D.Disk.counts s.entries s.number) (map placed_by c.pop-2.new.self.items) c.close_all-all.result.items) c.close_one-pass.ensures.pass.2 c.close_all-all.ensures.left in
    zip_behind (HasLeft g.D.Disk.tells g.D.Disk.files g.D.Disk.counts c.args.pass.story.entries c.args.pass.story.number) _ (map placed_by c.pop-2.new.self.items) _ c.close_all-all.result.items (placed_by c.in-Some-pop.place) c.close_one-pass.result.1
    (ap (λ (l : List (Place g.row.D.Denot)). map placed_by l) c.in-Some-pop.ensures.items ∙ map-append placed_by c.pop-2.new.self.items (c.in-Some-pop.place ∷ []))
    c.push_reserved.ensures.items rest c.close_one-pass.ensures.left
