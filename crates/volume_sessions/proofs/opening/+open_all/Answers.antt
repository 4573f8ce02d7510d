use Rattle.std.proofs.Common.{rules, ◌≡◌, ℕ, ◌≤◌, List, length, sym, ap, ◌∙◌, subst, arith}
use Rattle.std.proofs.lemmas.List.{length-map}
use Rattle.std.proofs.lemmas.Slice.Zip.{AllZip-long}
use Rattle.rdf_volume.specs.Views.{InUse, restart_of}
use Rattle.seated_lock.specs.Passes.{Seeing}
use Rattle.volume_sessions.specs.declared.placed.Placed.{Placed}
use Rattle.volume_sessions.specs.Rising.{MayEnter, IsAsGiven}
use Rattle.volume_sessions.specs.Opening.{MayStart, put_in}
use Rattle.updater_pool.specs.ZipLaws.{zip_behind}
use Rattle.volume_sessions.proofs.Zips.{all_taken, one_more}
use Rattle.volume_sessions.proofs.Begun.{as_given, own_places, fresh_starts, opened_more, back_all, noted_less, noted_last}
use Rattle.volume_sessions.proofs.opening.+open_all.Goals as goal

pub open_all-requires : goal.open_all-requires
open_all-requires g t c κs within =
    let more = one_more _ c.pop.new.self.items c.in-Some.placed c.in-Some.ensures.items in
    let enter = all_taken (MayEnter c.args.board.now.first.start c.args.pass.now.story.number) _ c.pop.new.self.items c.in-Some.placed c.in-Some.ensures.items c.requires.enter in
    let space = c.requires.space in
    let seats = space.seats.1 in let places = space.places.1 in let starts = space.starts.1 in let few = c.requires.pass.1 in (
      search rules,
      (
        search rules,
        (
          search rules,
          (
            (c.requires.pass.0, omega (arith, more, few)),
            (
              enter.0,
              (
                λ it. (all_taken (λ (p : Placed g.row.D.Denot). InUse g.D.Disk.files p.volume) _ c.pop.new.self.items c.in-Some.placed c.in-Some.ensures.items (c.requires.in_use it)).0,
                (
                  noted_less c.args.board.now.first.firsts _ c.pop.new.self.items c.in-Some.placed c.in-Some.ensures.items c.requires.noted,
                  record { seats = (space.seats.0, omega (arith, more, seats)); places = (space.places.0, omega (arith, more, places)); starts = (space.starts.0, omega (arith, more, starts)) },
                ),
              ),
            ),
          ),
        ),
      ),
    )

pub push_reserved-requires : goal.push_reserved-requires
push_reserved-requires g t c =
    let refused = c.in-Err.ensures.refused in
    let long = AllZip-long (IsAsGiven g.D.Disk.tells g.D.Disk.files g.D.Disk.counts) c.pop.new.self.items c.in-Err.back.items refused.0 in
    let same = refused.1 in
    omega (arith, long, same, c.in-Err.back.ok, c.pop.new.self.ok, c.in-Some.ensures.cases, c.in-Some.ensures.capacity, c.args.lists.given.small, c.args.lists.given.ok)

pub returns-in-Err-clause-refused : goal.returns-in-Err-clause-refused
returns-in-Err-clause-refused g t c =
    let in_use = λ (it : g.D.Disk.tells). (all_taken (λ (p : Placed g.row.D.Denot). InUse g.D.Disk.files p.volume) _ c.pop.new.self.items c.in-Some.placed c.in-Some.ensures.items (c.requires.in_use it)).1 in (
      zip_behind (IsAsGiven g.D.Disk.tells g.D.Disk.files g.D.Disk.counts) _ c.pop.new.self.items _ c.in-Err.back.items c.in-Some.placed c.in-Some.placed c.in-Some.ensures.items c.push_reserved.ensures.items c.in-Err.ensures.refused.0 (as_given g.D.Disk.tells g.D.Disk.files g.D.Disk.counts c.in-Some.placed in_use),
      c.push_reserved.ensures.capacity ∙ c.in-Err.ensures.refused.1 ∙ c.in-Some.ensures.capacity,
    )

pub open_one-requires-clause-enter : goal.open_one-requires-clause-enter
open_one-requires-clause-enter g t c =
    let enter = all_taken (MayEnter c.args.board.now.first.start c.args.pass.now.story.number) _ c.pop.new.self.items c.in-Some.placed c.in-Some.ensures.items c.requires.enter in
    (enter.1.0, subst (λ (k : ℕ). restart_of c.in-Some.placed.volume ≤ k) (sym (ap (λ (p : Seeing). p.story.number) c.in-Ok.ensures.pass)) enter.1.1)

pub open_one-requires-clause-in_use : goal.open_one-requires-clause-in_use
open_one-requires-clause-in_use g t c =
    λ it. (all_taken (λ (p : Placed g.row.D.Denot). InUse g.D.Disk.files p.volume) _ c.pop.new.self.items c.in-Some.placed c.in-Some.ensures.items (c.requires.in_use it)).1

pub open_one-requires-clause-noted : goal.open_one-requires-clause-noted
open_one-requires-clause-noted g t c =
    let has = c.in-Ok.ensures.opened in
    let many : length c.pop.new.self.items ≡ length c.in-Ok.lists.seats.items = ap (λ (l : List (Placed g.row.D.Denot)). length l) has.put ∙ length-map c.in-Ok.lists.seats.items put_in in
    let last : c.len-place.result ≡ length c.in-Ok.lists.seats.items = search rules in
    noted_last c.args.board.now.first.firsts _ c.pop.new.self.items c.in-Some.placed c.len-place.result c.in-Some.ensures.items (last ∙ sym many) c.requires.noted

pub with_one-requires-clause-starts : goal.with_one-requires-clause-starts
with_one-requires-clause-starts g t c =
    let has = c.in-Ok.ensures.opened in
    let long = AllZip-long (MayStart c.args.board.now) c.in-Ok.lists.seats.items c.in-Ok.lists.starts.items has.starts in
    let many : length c.pop.new.self.items ≡ length c.in-Ok.lists.seats.items = ap (λ (l : List (Placed g.row.D.Denot)). length l) has.put ∙ length-map c.in-Ok.lists.seats.items put_in in
    let more = one_more _ c.pop.new.self.items c.in-Some.placed c.in-Some.ensures.items in
    let room = c.requires.space.starts.1 in let same = c.in-Ok.ensures.space.starts in
    omega (arith, long, many, more, room, same)

pub close_back-back-requires-clause-places : goal.close_back-back-requires-clause-places
close_back-back-requires-clause-places g t c = own_places g.D.Disk.tells g.D.Disk.files g.D.Disk.counts c.args.board.now.id c.args.pass.now c.in-Ok.lists.seats.items c.in-Ok.lists.places.items c.in-Ok.ensures.opened.places

pub close_back-back-requires-clause-starts : goal.close_back-back-requires-clause-starts
close_back-back-requires-clause-starts g t c = fresh_starts c.args.board.now c.in-Ok.lists.seats.items c.in-Ok.lists.starts.items c.in-Ok.ensures.opened.starts

pub returns-in-Ok-open_one-clause-opened : goal.returns-in-Ok-open_one-clause-opened
returns-in-Ok-open_one-clause-opened g t c =
    let one = c.in-Ok-open_one.one in let e = c.in-Ok-open_one.ensures in let w = c.with_one.ensures in
    opened_more g.D.Disk.tells g.D.Disk.files g.D.Disk.counts c.args.board.now c.args.pass.now c.open_all.new.pass _ _ c.pop.new.self.items c.in-Some.placed c.in-Ok.lists c.with_one.result one.seat one.place one.start
    c.in-Ok.ensures.opened c.in-Ok.ensures.pass c.in-Some.ensures.items e.place e.start e.placed.0 e.placed.1 w.seats w.places w.starts w.given

pub returns-in-Err-open_one-clause-refused : goal.returns-in-Err-open_one-clause-refused
returns-in-Err-open_one-clause-refused g t c =
    let in_use = λ (it : g.D.Disk.tells). (all_taken (λ (p : Placed g.row.D.Denot). InUse g.D.Disk.files p.volume) _ c.pop.new.self.items c.in-Some.placed c.in-Some.ensures.items (c.requires.in_use it)).1 in (
      back_all g.D.Disk.tells g.D.Disk.files g.D.Disk.counts _ c.pop.new.self.items c.in-Some.placed c.in-Ok.lists.seats.items c.close_back-back.result.items _ c.in-Err-open_one.placed
          c.in-Some.ensures.items c.in-Ok.ensures.opened.put c.close_back-back.ensures.back c.in-Err-open_one.ensures.refused in_use c.push_reserved-in-Err-open_one.ensures.items,
      c.push_reserved-in-Err-open_one.ensures.capacity ∙ c.close_back-back.ensures.space.0 ∙ c.in-Ok.ensures.space.given ∙ c.in-Some.ensures.capacity,
    )
