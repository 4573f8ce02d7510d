use Rattle.std.proofs.Common.{◌≡◌, ℕ, List, length, Some, refl, sym, ap, ◌∙◌, subst, arith}
use Rattle.std.proofs.lemmas.List.{length-map}
use Rattle.std.specs.List.{All, AllZip}
use Rattle.rdf_volume.specs.Views.{InUse}
use Rattle.seated_lock.specs.Passes.{Seeing}
use Rattle.volume_sessions.specs.declared.placed.Placed.{Placed}
use Rattle.volume_sessions.specs.Shown.{shown_by}
use Rattle.volume_sessions.specs.Opening.{put_in}
use Rattle.volume_sessions.specs.Rising.{MayEnter, IsAsGiven}
use Rattle.volume_sessions.proofs.Begun.{all_given, opened_places, back_given, are_noted, are_firsts}
use Rattle.volume_sessions.proofs.running.in_session.Goals as goal

pub returns-in-Err-clause-unbegun : goal.returns-in-Err-clause-unbegun
returns-in-Err-clause-unbegun g c =
    let same : c.in-Err.volumes.items ≡ c.args.volumes.items = λ i. (c.in-Err.ensures.refused i).items in
    (refl, subst (λ (l : List (Placed g.row.D.Denot)). AllZip (IsAsGiven g.D.Disk.tells g.D.Disk.files g.D.Disk.counts) c.args.volumes.items l) (sym same) (all_given g.D.Disk.tells g.D.Disk.files g.D.Disk.counts c.args.volumes.items c.requires.in_use))

pub returns-in-None-clause-unbegun : goal.returns-in-None-clause-unbegun
returns-in-None-clause-unbegun g c =
    let same : c.in-Ok.lists.given.items ≡ c.args.volumes.items = λ i. (c.in-Ok.ensures.space.0 i).items in
    (refl, subst (λ (l : List (Placed g.row.D.Denot)). AllZip (IsAsGiven g.D.Disk.tells g.D.Disk.files g.D.Disk.counts) c.args.volumes.items l) (sym same) (all_given g.D.Disk.tells g.D.Disk.files g.D.Disk.counts c.args.volumes.items c.requires.in_use))

pub open_all-requires-clause-enter : goal.open_all-requires-clause-enter
open_all-requires-clause-enter g c =
    let same : c.in-Ok.lists.given.items ≡ c.args.volumes.items = λ i. (c.in-Ok.ensures.space.0 i).items in
    let opened = c.in-Some.ensures in
    let given = subst (λ (l : List (Placed g.row.D.Denot)). All (MayEnter c.args.start c.args.end) l) (sym same) c.requires.enter in
    subst (λ (n : ℕ). All (MayEnter c.in-Some.opened.0.first.start n) c.in-Ok.lists.given.items) (sym opened.end_is)
    (subst (λ (n : ℕ). All (MayEnter n c.args.end) c.in-Ok.lists.given.items) (sym opened.start_is) given)

pub open_all-requires-clause-noted : goal.open_all-requires-clause-noted
open_all-requires-clause-noted g c = are_noted c.in-Some.opened.0.first.firsts c.deref.result.now c.in-Ok.lists.given.items (sym c.deref.ensures.value) c.in-Some.ensures.notes

pub open_all-requires-clause-in_use : goal.open_all-requires-clause-in_use
open_all-requires-clause-in_use g c =
    let same : c.in-Ok.lists.given.items ≡ c.args.volumes.items = λ i. (c.in-Ok.ensures.space.0 i).items in
    λ it. subst (λ (l : List (Placed g.row.D.Denot)). All (λ (p : Placed g.row.D.Denot). InUse g.D.Disk.files p.volume) l) (sym same) (c.requires.in_use it)

pub run_opened-requires-clause-back : goal.run_opened-requires-clause-back
run_opened-requires-clause-back g c κs within =
    let opened = c.in-Ok-open_all.ensures.opened in
    (opened.none_left, omega (arith, ap (λ (l : List (Placed g.row.D.Denot)). length l) opened.put, length-map c.in-Ok-open_all.lists.seats.items put_in, c.in-Ok-open_all.ensures.space.given))

pub run_opened-requires-clause-notes : goal.run_opened-requires-clause-notes
run_opened-requires-clause-notes g c κs within =
    are_firsts c.in-Some.opened.0.first.firsts c.deref.result.now c.in-Ok.lists.given.items c.in-Ok-open_all.lists.seats.items (sym c.deref.ensures.value) c.in-Ok-open_all.ensures.opened.put c.in-Some.ensures.notes

pub run_opened-requires-clause-places : goal.run_opened-requires-clause-places
run_opened-requires-clause-places g c κs within =
    opened_places g.D.Disk.tells g.D.Disk.files g.D.Disk.counts c.in-Some.opened.0 c.in-Some.opened.1 c.open_all.new.pass _ c.in-Ok.lists.given.items c.in-Ok-open_all.lists c.in-Ok-open_all.ensures.opened c.in-Ok-open_all.ensures.pass

pub run_opened-requires-clause-ready : goal.run_opened-requires-clause-ready
run_opened-requires-clause-ready g c κs within =
    let same : c.in-Ok.lists.given.items ≡ c.args.volumes.items = λ i. (c.in-Ok.ensures.space.0 i).items in
    let opened = c.in-Some.ensures in let lists = c.in-Ok-open_all.lists in let pass = c.in-Ok-open_all.ensures.pass in
    c.requires.ready (shown_by c.in-Some.opened.0 lists.seats.items (Some c.open_all.new.pass) c.open_all.new.pass lists.places.items) record {
      start_is = opened.start_is;
      entries = ap (λ (p : Seeing). p.story.entries) pass ∙ opened.entries;
      end_is = ap (λ (p : Seeing). p.story.number) pass ∙ opened.end_is;
      volumes_are = sym c.in-Ok-open_all.ensures.opened.shown ∙ same;
      lent = refl;
    }

pub returns-in-Ok-open_all-clause-unbegun : goal.returns-in-Ok-open_all-clause-unbegun
returns-in-Ok-open_all-clause-unbegun g c =
    let same : c.in-Ok.lists.given.items ≡ c.args.volumes.items = λ i. (c.in-Ok.ensures.space.0 i).items in
    back_given g.D.Disk.tells g.D.Disk.files g.D.Disk.counts c.args.inside c.args.volumes.items c.in-Ok-open_all.lists.seats.items c.run_opened.result (sym same ∙ c.in-Ok-open_all.ensures.opened.put) c.run_opened.ensures.unbegun
