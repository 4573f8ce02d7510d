use Rattle.std.proofs.Common.{◌≡◌, map}
use Rattle.std.specs.List.{AllZip, AllWithin}
use Rattle.volume_sessions.specs.Shown.{placed_by}
use Rattle.volume_sessions.specs.Watching.{IsPlaceOf, IsAsked}
use Rattle.volume_sessions.proofs.asking.ask_all.Given as goal

abbrev pub invariant-loop-at : goal.invariant-loop-at
invariant-loop-at g l = record {
  board : l.board ≡ record l.initial.board { notes = l.board.notes };
  places : AllZip (IsPlaceOf g.D.Disk.tells g.D.Disk.files g.D.Disk.counts l.lock.id l.seen.value) l.seats l.places.items;
  same : map placed_by l.places.items ≡ map placed_by l.initial.places.items;
  asked : AllWithin (IsAsked g.D.Disk.tells g.D.Disk.files g.D.Disk.counts l.seen.value.story) l.places.items 0 l.at;
}
