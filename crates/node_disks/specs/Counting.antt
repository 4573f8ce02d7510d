-- What the disks of a node count over a line.
use Rattle.std.specs.Prelude.{◌≡◌, ℕ, ◌≤◌, ◌==◌, if◌then◌else◌, Bool, true, false, Result, Ok, Err}
use Rattle.rdf_types.specs.Counts.{Rose}
use Rattle.rdf_disk.specs.Counts.{Counts, Ending, fused}
use Rattle.rdf_disk.specs.Counts.Ending.{Fine, Stop, Fault}
use Rattle.plan_lang.specs.declared.lines.Line.{Line}
use Rattle.plan_lang.specs.declared.lines.Line.TheVariants as line
pub use Rattle.plan_lang.specs.PlanShown.{is_fuse}
use Rattle.node_faults.specs.declared.NodeFault.{NodeFault}
use Rattle.rdf_core.specs.declared.replies.Reply.{Reply}
use Rattle.rdf_core.specs.declared.replies.Reply.TheVariants.{Done}

-- a count rose, or stands where it stays, or it is the same; the others are the same
abbrev pub Tells : Ending → Counts → Counts → Type 0
Tells Fine old new = (new.faults ≡ old.faults) × (new.stops ≡ old.stops)
Tells Stop old new = (new.faults ≡ old.faults) × (old.stops ≤ new.stops) × Rose old.stops new.stops
Tells Fault old new = (old.faults ≤ new.faults) × Rose old.faults new.faults × (new.stops ≡ old.stops)

-- how many fuses the disk of that number was given once the line gave it one
abbrev pub fuses_of : Line → ℕ → Counts → ℕ
fuses_of (line.Fuse node disk calls tear) i c = if i == disk then (fused c).fuses else c.fuses
fuses_of _ i c = c.fuses

-- the answer is that the line is done
abbrev pub is_done : Result Reply NodeFault → Bool
is_done (Ok Done) = true
is_done (Ok _) = false
is_done (Err why) = false
