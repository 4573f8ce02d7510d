-- What an extractor sends of a trail, and how far it is.
use Rattle.std.specs.Prelude.{ℕ, ◌+◌, Bool, false, nat_lt, min, max, get_or, take, List, length, Option, Some, None, if◌then◌else◌}
use Rattle.rdf_types.specs.declared.layout.Layout.{Layout}
use Rattle.rdf_types.specs.declared.records.Record.{Record}
use Rattle.rdf_codec.specs.declared.ships.Ship.{Ship}
use Rattle.rdf_codec.specs.declared.messages.Message.{Message}
use Rattle.rdf_codec.specs.declared.messages.Message.TheVariants as message
use Rattle.rdf_model.specs.Window.{part}

-- how far an extractor is: the next position to send, and the position that was acknowledged
pub record Progress : Type 0 where
  pub next : ℕ
  pub acked : ℕ

-- nothing sent, nothing acknowledged
abbrev pub at_start : Progress
at_start = record { next = 0; acked = 0 }

-- the volume is protected
abbrev pub protects : Layout → ℕ → Bool
protects layout vol = get_or layout.protect vol false

-- the trail's part on the positions from one to below another
abbrev pub extract : (ℕ → Bool) → List Record → ℕ → ℕ → Ship
extract protects trail from to = record { from = from; to = to; part = part protects from (take to trail) }

-- the end of the next message
abbrev pub send_end : ℕ → ℕ → Progress → ℕ
send_end len most p = min (p.next + most) len

-- the next message, where a position of the trail is left to send
abbrev pub next_message : (ℕ → Bool) → List Record → ℕ → Progress → Option Message
next_message protects trail most p =
    if nat_lt p.next (length trail) then Some (message.Ship (extract protects trail p.next (send_end (length trail) most p))) else None

-- once it is built
abbrev pub after_build : ℕ → ℕ → Progress → Progress
after_build len most p = if nat_lt p.next len then record p { next = send_end len most p } else p

-- the backup has received the positions below this one
abbrev pub after_ack : ℕ → Progress → Progress
after_ack received p = record p { acked = max p.acked received }

-- what was not acknowledged is sent again
abbrev pub after_rewind : Progress → Progress
after_rewind p = record p { next = p.acked }
