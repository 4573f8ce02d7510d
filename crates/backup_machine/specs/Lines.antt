-- What the calls of a backup do for their lines.
use Rattle.std.specs.Prelude.{ℕ, ◌-◌, List, Option}
use Rattle.rdf_types.specs.declared.layout.Layout.{Layout}
use Rattle.rdf_types.specs.declared.records.Record.{Record}
use Rattle.plan_lang.specs.declared.lines.Line.{Line}
use Rattle.rdf_core.specs.declared.replies.Reply.{Reply}
use Rattle.rdf_core.specs.declared.replies.NoWhy.{NoWhy}
use Rattle.rdf_core.specs.Effects.{IsDone, after_parts, parts_unless}
use Rattle.rdf_core.specs.Backup.{Around, Backup, backup_refusal, backup_after, backup_parts, backup_says, stores_parts, ends, purge_parts, points_in, floor_of}

-- the line is answered by its first refusal, and the backup is as it was, or it is done and answered as the machine says
abbrev pub Performs : Layout → Around → Line → Backup → Reply → Backup → Type 0
Performs layout w l old reply new = IsDone (backup_refusal layout w old l) (λ _. old) (backup_after layout w old l) (backup_says layout w old l) reply new

-- the backup after so many first ones of these parts, of which none is done where the line is refused
abbrev pub first_unless : Option NoWhy → Backup → List Backup → ℕ → Backup
first_unless why b parts done = after_parts b (parts_unless why parts) done

-- the backup after so many first durable parts of the line
abbrev pub first_of : Layout → Around → Line → Backup → ℕ → Backup
first_of layout w l b done = first_unless (backup_refusal layout w b l) b (backup_parts layout w b l) done

-- what is stored, part by part, of messages up to a position
abbrev pub copied_parts : Layout → ℕ → Backup → List Backup
copied_parts layout upto b = stores_parts layout (ends (upto - b.received) b.received upto) b

-- what a purge drops, part by part, by the present restart points
abbrev pub dropped_parts : Layout → List Record → Backup → List Backup
dropped_parts layout trail b = purge_parts layout trail (points_in layout trail b.volumes) b

-- the position that no purge may pass, by the same points
abbrev pub present_floor : Layout → List Record → Backup → ℕ
present_floor layout trail b = floor_of layout trail (points_in layout trail b.volumes) b
