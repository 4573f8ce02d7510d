-- A failure without power is a stop.
use Rattle.std.proofs.Common.{◌≡◌, inl, inr, ℕ, Bool, true, false, List, length, Option, Some, None, Result, Ok, Err, refl, sym, ◌∙◌, ap, subst}
use Rattle.std.specs.Prelude.{IfOk}
use Rattle.rdf_disk.specs.declared.fault.DiskFault.{DiskFault}
use Rattle.rdf_disk.specs.declared.fault.DiskFault.TheVariants.{Stopped, Failed, NoMemory}
use Rattle.rdf_disk.specs.Files.{Disk, FileState, settled, touched, gone}
use Rattle.rdf_disk.specs.Outcomes.{IsOutcome, Settles, SettlesIn}
use Rattle.rdf_disk.specs.Calls.{Same, AllSettle, Looks, Syncs, Writes, Removes}
use Rattle.folder_disk.specs.Names.{Name, Names, IsLeft}
use Rattle.folder_disk.specs.Meters.{IsCounted, stops_next, is_stop}
use Rattle.folder_disk.specs.declared.meter.Meter.{Meter}
use Rattle.folder_disk.specs.Tracked.{files_if}
use Rattle.memory_folder.specs.Losses.{Lost, left_by}
use Rattle.memory_folder.specs.declared.losses.Loss.{Loss}
use Rattle.powered_disk.specs.Powered.{Turned}

-- what a loss of power leaves is one outcome of each file
settles_twice : (a b c : FileState) → Settles a b → Settles b c → Settles a c
settles_twice a b c one two =
    let there : Settles (settled one.0) c = subst (λ (f : FileState). Settles f c) one.2 two in
    (one.0, one.1, there.2 ∙ ap (λ (x : Option (List ℕ)). settled x) there.1)

pub lost_settles : (loss : Loss) (a : Disk) (was left : Names) (off : Bool) (b : Disk) → ((m : ℕ) (x : Option (List ℕ)) → IsLeft (was m) x → IsOutcome (a m) x) → ((m : ℕ) → Lost loss (was m) (left m)) →
    off ≡ false → AllSettle (files_if off left) b → AllSettle a b
lost_settles loss a was left off b may lost on cut m =
    let there : Settles (left m).file (b m) = subst (λ (o : Bool). AllSettle (files_if o left) b) on cut m in
    settles_twice (a m) (left m).file (b m) (left_by loss (was m), may m (left_by loss (was m)) (lost m).left, ap (λ (n : Name). n.file) (lost m).is) there

-- a disk that is off is one outcome already
pub off_settles : (off : Bool) (names : Names) → off ≡ true → AllSettle (files_if off names) (files_if off names)
off_settles true names is = λ m. ((names m).file.seen, refl, refl)
off_settles false names is = cc

-- and so of the files before a call that failed
settled_same : (a b c : Disk) → Same a b → AllSettle b c → AllSettle a c
settled_same a b c same settle m = subst (λ (f : FileState). Settles f (c m)) (same m) (settle m)

pub looked : {T : Type 0} (answer told : Result T DiskFault) (a b c : Disk) → Looks answer a b → Turned answer told b c → Looks told a c
looked (Ok x) told a b c is to = subst (λ (r : _). Looks r a c) (sym to.0) (subst (λ (d : Disk). Looks (Ok x) a d) (sym to.1) is)
looked (Err Stopped) told a b c is to = subst (λ (r : _). Looks r a c) (sym to.0) (subst (λ (d : Disk). AllSettle a d) (sym to.1) is)
looked (Err NoMemory) told a b c is to = subst (λ (r : _). Looks r a c) (sym to.0) (subst (λ (d : Disk). Same a d) (sym to.1) is)
looked (Err Failed) told a b c is to = elim to [
  | inl failed ↦ subst (λ (r : _). Looks r a c) (sym failed.0) (subst (λ (d : Disk). Same a d) (sym failed.1) is)
  | inr lost ↦ subst (λ (r : _). Looks r a c) (sym lost.0) (settled_same a b c is lost.1)
]

pub synced : {T : Type 0} (answer told : Result T DiskFault) (a b c : Disk) → Syncs answer a b → Turned answer told b c → Syncs told a c
synced (Ok x) told a b c is to = subst (λ (r : _). Syncs r a c) (sym to.0) (subst (λ (d : Disk). Syncs (Ok x) a d) (sym to.1) is)
synced (Err Stopped) told a b c is to = subst (λ (r : _). Syncs r a c) (sym to.0) (subst (λ (d : Disk). AllSettle a d) (sym to.1) is)
synced (Err NoMemory) told a b c is to = subst (λ (r : _). Syncs r a c) (sym to.0) (subst (λ (d : Disk). Same a d) (sym to.1) is)
synced (Err Failed) told a b c is to = elim to [
  | inl failed ↦ subst (λ (r : _). Syncs r a c) (sym failed.0) (subst (λ (d : Disk). Same a d) (sym failed.1) is)
  | inr lost ↦ subst (λ (r : _). Syncs r a c) (sym lost.0) (settled_same a b c is lost.1)
]

settled_there : (a b c : FileState) (x : Option (List ℕ)) → b ≡ record a { seen = x } → Settles b c → Settles a c
settled_there a b c x is settle = subst (λ (f : FileState). Settles f c) is settle

pub wrote : {T : Type 0} (file at : ℕ) (bytes : List ℕ) (answer told : Result T DiskFault) (a b c : Disk) → Writes file at bytes answer a b → Turned answer told b c → Writes file at bytes told a c
wrote file at bytes (Ok x) told a b c is to = subst (λ (r : _). Writes file at bytes r a c) (sym to.0) (subst (λ (d : Disk). Writes file at bytes (Ok x) a d) (sym to.1) is)
wrote file at bytes (Err Stopped) told a b c is to = subst (λ (r : _). Writes file at bytes r a c) (sym to.0) (subst (λ (d : Disk). SettlesIn file a d (touched (a file) at (length bytes) (a file).seen)) (sym to.1) is)
wrote file at bytes (Err NoMemory) told a b c is to = subst (λ (r : _). Writes file at bytes r a c) (sym to.0) (subst (λ (d : Disk). Same a d) (sym to.1) is)
wrote {T = T} file at bytes (Err Failed) told a b c is to = elim to [
  | inl failed ↦ subst (λ (r : _). Writes file at bytes r a c) (sym failed.0) (subst (λ (d : Disk). Writes {T = T} file at bytes (Err Failed) a d) (sym failed.1) is)
  | inr lost ↦ subst (λ (r : _). Writes file at bytes r a c) (sym lost.0) (record {
    this = settled_there (touched (a file) at (length bytes) (a file).seen) (b file) (c file) is.0 is.2.this (lost.1 file);
    others = λ m other. subst (λ (f : FileState). Settles f (c m)) (is.2.others m other) (lost.1 m);
  })
]

gone_settles : (f b c : FileState) (x : Option (List ℕ)) → b ≡ gone f x → Settles b c → Settles (gone f f.seen) c
gone_settles f b c x is settle = gone_by f.seen f.safe f.writes f.removed (subst (λ (g : FileState). Settles g c) is settle)
  where
    gone_by : (seen safe : Option (List ℕ)) (ws : List (ℕ × ℕ)) (removed : Bool) →
        let g : FileState = record { seen = seen; safe = safe; writes = ws; removed = removed } in Settles (gone g x) c → Settles (gone g seen) c
    gone_by None safe ws removed one = one
    gone_by (Some bytes) safe ws removed one = one

pub removed : {T : Type 0} (file : ℕ) (answer told : Result T DiskFault) (a b c : Disk) → Removes file answer a b → Turned answer told b c → Removes file told a c
removed file (Ok x) told a b c is to = subst (λ (r : _). Removes file r a c) (sym to.0) (subst (λ (d : Disk). Removes file (Ok x) a d) (sym to.1) is)
removed file (Err Stopped) told a b c is to = subst (λ (r : _). Removes file r a c) (sym to.0) (subst (λ (d : Disk). SettlesIn file a d (gone (a file) (a file).seen)) (sym to.1) is)
removed file (Err NoMemory) told a b c is to = subst (λ (r : _). Removes file r a c) (sym to.0) (subst (λ (d : Disk). Same a d) (sym to.1) is)
removed {T = T} file (Err Failed) told a b c is to = elim to [
  | inl failed ↦ subst (λ (r : _). Removes file r a c) (sym failed.0) (subst (λ (d : Disk). Removes {T = T} file (Err Failed) a d) (sym failed.1) is)
  | inr lost ↦ subst (λ (r : _). Removes file r a c) (sym lost.0) (record {
    this = gone_settles (a file) (b file) (c file) is.0 is.2.this (lost.1 file);
    others = λ m other. subst (λ (f : FileState). Settles f (c m)) (is.2.others m other) (lost.1 m);
  })
]

-- what is so of an answer is so of what is told
pub if_told : {T : Type 0} (answer told : Result T DiskFault) (b c : Disk) (P : T → Type 0) → IfOk answer P → Turned answer told b c → IfOk told P
if_told (Ok x) told b c P is to = subst (λ (r : _). IfOk r P) (sym to.0) is
if_told (Err Stopped) told b c P is to = subst (λ (r : _). IfOk r P) (sym to.0) tt
if_told (Err NoMemory) told b c P is to = subst (λ (r : _). IfOk r P) (sym to.0) tt
if_told (Err Failed) told b c P is to = elim to [
  | inl failed ↦ subst (λ (r : _). IfOk r P) (sym failed.0) tt
  | inr lost ↦ subst (λ (r : _). IfOk r P) (sym lost.0) tt
]

-- a disk without a fuse is off after a call where it was before, and has no fuse
off_after : {T : Type 0} (answer : Result T DiskFault) (old new : Meter) → IsCounted answer old new → old.fuse ≡ None → (new.off ≡ old.off) × (new.fuse ≡ None)
off_after answer old new is bare = off_by answer old.faults old.stops old.fuses old.off old.fuse new is bare
  where
    off_by : {T : Type 0} (answer : Result T DiskFault) (faults stops fuses : ℕ) (off : Bool) (fuse : Option ℕ) (new : Meter) →
        IsCounted answer (record { faults = faults; stops = stops; fuses = fuses; off = off; fuse = fuse }) new → fuse ≡ None → (new.off ≡ off) × (new.fuse ≡ None)
    off_by answer faults stops fuses off (Some n) new is bare = cc
    off_by (Ok x) faults stops fuses off None new is bare = (ap (λ (m : Meter). m.off) is.meter, ap (λ (m : Meter). m.fuse) is.meter)
    off_by (Err Failed) faults stops fuses off None new is bare = (ap (λ (m : Meter). m.off) is.meter, ap (λ (m : Meter). m.fuse) is.meter)
    off_by (Err NoMemory) faults stops fuses off None new is bare = (ap (λ (m : Meter). m.off) is.meter, ap (λ (m : Meter). m.fuse) is.meter)
    off_by (Err Stopped) faults stops fuses true None new is bare = (ap (λ (m : Meter). m.off) is.meter, ap (λ (m : Meter). m.fuse) is.meter)
    off_by (Err Stopped) faults stops fuses false None new is bare = let no : true ≡ false = is.stop in cc

pub off_same : {T : Type 0} (answer : Result T DiskFault) (old new : Meter) → IsCounted answer old new → old.fuse ≡ None → new.off ≡ old.off
off_same answer old new is bare = (off_after answer old new is bare).0

pub bare_still : {T : Type 0} (answer : Result T DiskFault) (old new : Meter) → IsCounted answer old new → old.fuse ≡ None → new.fuse ≡ None
bare_still answer old new is bare = (off_after answer old new is bare).1

-- a call that failed was made by a disk that is on, and one that stopped by one that is off
pub on_failed : {T : Type 0} (answer : Result T DiskFault) (old new : Meter) → IsCounted answer old new → old.fuse ≡ None → answer ≡ Err Failed → new.off ≡ false
on_failed answer old new is bare failed =
    off_same answer old new is bare ∙ on_by old.off old.fuse bare (sym is.stop ∙ ap is_stop failed)
  where
    on_by : (off : Bool) (fuse : Option ℕ) → fuse ≡ None → stops_next (record { faults = 0; stops = 0; fuses = 0; off = off; fuse = fuse }) ≡ false → off ≡ false
    on_by true fuse bare next = cc
    on_by false fuse bare next = refl

pub off_stopped : {T : Type 0} (answer : Result T DiskFault) (old new : Meter) → IsCounted answer old new → old.fuse ≡ None → answer ≡ Err Stopped → new.off ≡ true
off_stopped answer old new is bare stopped =
    off_same answer old new is bare ∙ off_by old.off old.fuse bare (sym is.stop ∙ ap is_stop stopped)
  where
    off_by : (off : Bool) (fuse : Option ℕ) → fuse ≡ None → stops_next (record { faults = 0; stops = 0; fuses = 0; off = off; fuse = fuse }) ≡ true → off ≡ true
    off_by true fuse bare next = refl
    off_by false None bare next = cc
    off_by false (Some n) bare next = cc
