-- The rows that a table shows.
use Rattle.std.proofs.Common.{◌≡◌, ℕ, zero, suc, ◌+◌, take, slice_get, List, [], ◌∷◌, ◌++◌, map, Option, Some, None, Result, Ok, Err, OnOk, MatchOption, refl, sym, ◌∙◌, ap, subst, append_assoc}
use Rattle.std.specs.FinMap.{empty, entries, get, same_map, get-empty, get-entries, get-from_entries}
use Rattle.std.specs.FinMap.Entries.{find}
use Rattle.rdf_types.specs.declared.records.Change.{Change}
use Rattle.rdf_types.specs.declared.records.Row.{Row}
use Rattle.rdf_types.specs.Places.{row_cmp, row_cmp_total, row_cmp_exact}
use Rattle.rdf_disk.specs.Calls.{Same}
use Rattle.rdf_disk.specs.Files.{Disk}
use Rattle.rdf_disk.specs.Outcomes.{Durably, Narrows}
use Rattle.rdf_disk.specs.OutcomeLaws.{narrows_same, narrows_settles}
use Rattle.rdf_codec.specs.declared.index_entries.IndexEntry.{IndexEntry}
use Rattle.rdf_gatelog.specs.declared.fault.LogFault.{LogFault}
use Rattle.rdf_gatelog.specs.declared.fault.LogFault.TheVariants.{Stopped, Failed, NoMemory, Damaged}
use Rattle.rdf_gatelog.specs.Log.{IsAtRest}
use Rattle.rdf_gatelog.specs.LogCalls.{OnlyLooks}
use Rattle.rdf_gatelog.specs.LogPlace.{LogPlace}
use Rattle.rdf_gatelog.specs.RestLaws.{rests_at_same, rests_open}
use Rattle.rdf_model.specs.Rows.{row_entry, row_map, list_of}
use Rattle.rdf_model.specs.Volumes.{Rows}
use Rattle.keyed_blocks.specs.Bases.{Goes}
use Rattle.keyed_blocks.specs.Indexes.{Indexes}
use Rattle.keyed_overlay.specs.Overlays.{overlaid}
use Rattle.rdf_volume.specs.Base.{GoesOn, IsIndexOf}
use Rattle.rdf_volume.specs.Changes.{changed}
use Rattle.rdf_volume.specs.InUse.{IsInUse, IsTable, IsTabled, IsSomeTable}
use Rattle.rdf_volume.specs.Stages.{Complete}
use Rattle.rdf_volume.specs.Standing.{StandsFor}
use Rattle.rdf_volume.specs.StandingLaws.{file_durably}
use Rattle.rdf_volume.specs.declared.block_cache.BlockRead.{BlockRead}
use Rattle.rdf_volume.specs.declared.table.RowTable.{RowTable}

-- a list of no rows is the map of none
pub no_rows : row_map [] ≡ empty
no_rows = same_map row_cmp_total row_cmp_exact (row_map []) empty (λ q. get-from_entries row_cmp_total [] q ∙ sym (get-empty row_cmp q))

-- more blocks behind those of the base change nothing of it
abbrev pub indexes_on : (index other : List IndexEntry) (base : List Row) (before after : List (List ℕ)) → other ≡ index → GoesOn before after → Indexes index base before → Indexes other base after
indexes_on index other base before after same on i = record {
  blocks = i.blocks;
  behind = i.behind ++ on.more;
  payloads_are = on.after_is ∙ ap (λ (l : List (List ℕ)). l ++ on.more) i.payloads_are ∙ append_assoc i.blocks i.behind on.more;
  base = i.base ∙ ap (λ (l : List IndexEntry). Goes (record { rows = base; found = l; listed = 0 })) (sym same);
}

-- a batch of changes in the log and in the table
pub table_on : (old new : RowTable) (batch : List Change) (before after : List (List ℕ)) → new.index ≡ old.index → new.blocks ≡ old.blocks → new.shown.rows ≡ changed old.shown.rows batch
    → ((base : Rows) → overlaid base new.overlay ≡ changed (overlaid base old.overlay) batch) → GoesOn before after → IsTable old before → IsTable new after
table_on old new batch before after index blocks shown overlay on t = record {
  base = t.base;
  indexes = indexes_on old.index new.index t.base before after index on t.indexes;
  rows_are = shown ∙ ap (λ (rows : Rows). changed rows batch) t.rows_are ∙ sym (overlay (row_map t.base));
  kept = λ place read is. t.kept place read (ap (λ (l : List BlockRead). slice_get l place) (sym blocks) ∙ is);
}

again : (es : List ((List ℕ × List ℕ) × List ℕ)) → map row_entry (map (λ e. record { file = e.0.0; key = e.0.1; value = e.1 }) es) ≡ es
again [] = refl
again (e ∷ es) = ap (λ (l : List ((List ℕ × List ℕ) × List ℕ)). e ∷ l) (again es)

-- the rows of a map, in order, are the map again
pub row_map-list_of : (rows : Rows) → row_map (list_of rows) ≡ rows
row_map-list_of rows = same_map row_cmp_total row_cmp_exact (row_map (list_of rows)) rows (λ q.
    get-from_entries row_cmp_total (map row_entry (list_of rows)) q
    ∙ ap (find row_cmp q) (again (entries rows))
    ∙ sym (get-entries rows q))

-- the value at a place whose changes are known
pub table_has : (table : RowTable) (payloads : List (List ℕ)) (t : IsTable table payloads) (q : List ℕ × List ℕ) (below : Option (List ℕ)) → get (overlaid (row_map t.base) table.overlay) q ≡ below → below ≡ get table.shown.rows q
table_has table payloads t q below is = sym is ∙ ap (λ (rows : Rows). get rows q) (sym t.rows_are)

-- no block is kept
pub none_kept : {T : Type 0} (l : List BlockRead) (place : ℕ) (read : BlockRead) → l ≡ [] → slice_get l place ≡ Some read → T
none_kept l place read none is = absurd (differ (sym is ∙ ap (λ (l : List BlockRead). slice_get l place) none))
  where
    differ : Some read ≡ None → ⊥
    differ e = cc

-- the first blocks of a list stand in it where they stood
taken_is : (l : List BlockRead) (many place : ℕ) (read : BlockRead) → slice_get (take many l) place ≡ Some read → slice_get l place ≡ Some read
taken_is [] zero place read is = none_kept [] place read refl is
taken_is [] (suc many) place read is = none_kept [] place read refl is
taken_is (x ∷ l) zero place read is = none_kept [] place read refl is
taken_is (x ∷ l) (suc many) zero read is = is
taken_is (x ∷ l) (suc many) (suc place) read is = taken_is l many place read is

-- of the first blocks of a list and one before them each is that one or of the list
pub kept_more : (Holds : BlockRead → Type 0) (first : BlockRead) (l : List BlockRead) (many : ℕ) → Holds first → ((place : ℕ) (read : BlockRead) → slice_get l place ≡ Some read → Holds read)
    → (place : ℕ) (read : BlockRead) → slice_get (first ∷ take many l) place ≡ Some read → Holds read
kept_more Holds first l many here each zero read is = subst Holds (some_same is) here
  where
    some_same : {x y : BlockRead} → Some x ≡ Some y → x ≡ y
    some_same e = cc
kept_more Holds first l many here each (suc place) read is = each place read (taken_is l many place read is)

-- a table over a new base, of which nothing was changed
abbrev pub table_anew : (table : RowTable) (rows : Rows) (payloads : List (List ℕ)) → table.shown.rows ≡ rows → table.blocks ≡ [] → ((base : Rows) → overlaid base table.overlay ≡ base)
    → IsIndexOf table.index rows payloads → IsTable table payloads
table_anew table rows payloads shown blocks none i = record {
  base = i.base;
  indexes = i.indexes;
  rows_are = shown ∙ i.rows_are ∙ sym (none (row_map i.base));
  kept = λ place read is. none_kept table.blocks place read blocks is;
}

pub tabled_at_rest : (disk : Disk) (file end : ℕ) (rows : Rows) (restart batches : ℕ) (u : IsInUse disk file end rows restart batches) → IsAtRest file end u.log.payloads disk
tabled_at_rest disk file end rows restart batches u = rests_open u.logs file end [] disk disk u.rests u.log

-- the files stay as they are
abbrev in_use_same : (old new : Disk) (file end : ℕ) (rows : Rows) (restart batches : ℕ) → Same old new → IsInUse old file end rows restart batches → IsInUse new file end rows restart batches
in_use_same old new file end rows restart batches same u = record {
  logs = u.logs;
  rests = λ m. rests_at_same m (u.logs m) old new (same m) (u.rests m);
  log = u.log;
  number = u.number;
  this = u.this;
  batches_are = u.batches_are;
  alone = u.alone;
}

pub tabled_same : (old new : Disk) (file end : ℕ) (table : RowTable) (restart batches : ℕ) → Same old new → IsTabled old file end table restart batches → IsTabled new file end table restart batches
tabled_same old new file end table restart batches same h = record { in_use = in_use_same old new file end table.shown.rows restart batches same h.in_use; table_is = h.table_is }

-- the files were only looked at: they are as they were, or what a stop leaves of them
only_narrows : {T : Type 0} (r : Result T LogFault) (old new : Disk) → OnlyLooks r old new → (m : ℕ) → Narrows (old m) (new m)
only_narrows (Ok x) old new looks m = narrows_same (old m) (new m) (looks m)
only_narrows (Err Stopped) old new looks m = narrows_settles (old m) (new m) (looks m)
only_narrows (Err Failed) old new looks m = narrows_same (old m) (new m) (looks m)
only_narrows (Err NoMemory) old new looks m = narrows_same (old m) (new m) (looks m)
only_narrows (Err (Damaged f at)) old new looks m = narrows_same (old m) (new m) (looks m)

pub looked_durably : {T : Type 0} (r : Result T LogFault) (old new : Disk) (file end : ℕ) (rows : Rows) (restart batches : ℕ) → OnlyLooks r old new → IsInUse old file end rows restart batches
    → Durably new (StandsFor rows restart)
looked_durably r old new file end rows restart batches looks u c may = file_durably old file end rows restart batches u c (λ m. only_narrows r old new looks m (c m) (may m))

-- what shows other rows that are the same, with a count that is the same
abbrev in_use_as : (disk : Disk) (file end : ℕ) (rows others : Rows) (restart batches count : ℕ) → others ≡ rows → count ≡ batches → IsInUse disk file end rows restart batches → IsInUse disk file end others restart count
in_use_as disk file end rows others restart batches count shown same u = record {
  logs = u.logs;
  rests = u.rests;
  log = u.log;
  number = u.number;
  this = u.this ∙ ap (λ (rows : Rows). Complete rows restart u.number) (sym shown);
  batches_are = same ∙ u.batches_are;
  alone = u.alone;
}

pub tabled_as : (disk : Disk) (file end : ℕ) (next : RowTable) (rows : Rows) (restart batches count : ℕ) → next.shown.rows ≡ rows → count ≡ batches → (w : IsInUse disk file end rows restart batches) → IsTable next w.log.payloads
    → IsTabled disk file end next restart count
tabled_as disk file end next rows restart batches count shown same w t = record { in_use = in_use_as disk file end rows next.shown.rows restart batches count shown same w; table_is = t }

-- it may still be used, with a table that shows the same
pub looked_tabled : {T : Type 0} (r : Result T LogFault) (old new : Disk) (file end : ℕ) (table next : RowTable) (restart batches : ℕ) → next.shown.rows ≡ table.shown.rows → OnlyLooks r old new
    → (u : IsInUse old file end table.shown.rows restart batches) → IsTable next u.log.payloads → OnOk r (IsTabled new file end next restart batches)
looked_tabled (Ok x) old new file end table next restart batches shown same u t =
    tabled_as new file end next table.shown.rows restart batches batches shown refl (in_use_same old new file end table.shown.rows restart batches same u) t
looked_tabled (Err e) old new file end table next restart batches shown looks u t = tt

-- the same index, whichever name it has
abbrev pub indexes_as : (index other : List IndexEntry) (base : List Row) (payloads : List (List ℕ)) → other ≡ index → Indexes index base payloads → Indexes other base payloads
indexes_as index other base payloads same i = record {
  blocks = i.blocks;
  behind = i.behind;
  payloads_are = i.payloads_are;
  base = i.base ∙ ap (λ (l : List IndexEntry). Goes (record { rows = base; found = l; listed = 0 })) (sym same);
}

-- the block that was found is that one
pub read_number : (o : Option BlockRead) (block : BlockRead) (number : ℕ) → o ≡ Some block → MatchOption o ⊥ (λ (b : BlockRead). b.number ≡ number) → block.number ≡ number
read_number o block number is h = subst (λ (o : Option BlockRead). MatchOption o ⊥ (λ (b : BlockRead). b.number ≡ number)) is h

-- the file behind the old one is in use
pub tabled_behind : (disk : Disk) (old file end : ℕ) (next : RowTable) (rows : Rows) (restart : ℕ) → file ≡ old + 1 → next.shown.rows ≡ rows → (w : IsInUse disk (old + 1) end rows restart 0) → IsTable next w.log.payloads
    → IsTabled disk file end next restart 0
tabled_behind disk old file end next rows restart file_is shown w t =
    subst (λ (n : ℕ). IsTabled disk n end next restart 0) (sym file_is) (tabled_as disk (old + 1) end next rows restart 0 0 shown refl w t)
