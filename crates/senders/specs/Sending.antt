-- What was sent of a trail, and the senders to all nodes.
use Rattle.std.specs.Prelude.{◌≡◌, ℕ, ◌+◌, ◌<◌, ◌≤◌, min, List, [], ◌∷◌, ◌++◌, length, Option, Some, None}
use Rattle.std.specs.List.{All}
use Rattle.rdf_types.specs.declared.layout.Layout.{Layout}
use Rattle.rdf_types.specs.declared.records.Node.{Node}
use Rattle.rdf_types.specs.declared.records.Record.{Record}
use Rattle.by_node.specs.Each.{Each, at, with_at}
use Rattle.rdf_codec.specs.declared.ships.Ship.{Ship}
use Rattle.extractor.specs.Extract.{Progress, extract}
use Rattle.rdf_core.specs.declared.replies.Reply.{Reply}
use Rattle.rdf_core.specs.declared.replies.Reply.TheVariants.{Sent, NoneSent}
use Rattle.rdf_core.specs.Layouts.{protects}
use Rattle.rdf_core.specs.Sender.{Sender}
use Rattle.rdf_wire.specs.Shipping.{IsSent}

-- how far the extractor of each node is, and the messages that were sent to it
pub record Sending : Type 0 where
  pub progress : Each Progress
  pub messages : Each (List (List ℕ))

-- one message more to a node, which leaves its extractor so far
abbrev pub with_sent : Sending → Node → Progress → List ℕ → Sending
with_sent s node progress bytes = record { progress = with_at s.progress node progress; messages = with_at s.messages node (at s.messages node ++ bytes ∷ []) }

-- the bytes are the message of some shipment
abbrev pub IsSomeSent : List ℕ → Type 0
IsSomeSent bytes = (ship : Ship) × IsSent bytes ship

-- each message is that of some shipment
abbrev pub AreSomeSent : Each (List (List ℕ)) → Type 0
AreSomeSent messages = (node : Node) → All IsSomeSent (at messages node)

-- the bytes are the message on that range of the trail, as an extractor sends it
pub record IsMessage (layout : Layout) (trail : List Record) (range : ℕ × ℕ) (bytes : List ℕ) : Type 0 where
  pub within : range.1 ≤ length trail
  pub sent : IsSent bytes (extract (protects layout) trail range.0 range.1)

-- the messages are those on these ranges, one for each, in their order
abbrev pub AreMessages : Layout → List Record → List (ℕ × ℕ) → List (List ℕ) → Type 0
AreMessages layout trail [] [] = Unit {0}
AreMessages layout trail [] (bytes ∷ messages) = ⊥
AreMessages layout trail (range ∷ ranges) [] = ⊥
AreMessages layout trail (range ∷ ranges) (bytes ∷ messages) = IsMessage layout trail range bytes × AreMessages layout trail ranges messages

-- the extractor is as far as the machine's sender, and what was sent is the messages on its ranges
pub record IsSender (layout : Layout) (trail : List Record) (s : Sender) (progress : Progress) (posted : List (List ℕ)) : Type 0 where
  pub next : progress.next ≡ s.next
  pub acked : progress.acked ≡ s.acked
  pub messages : AreMessages layout trail s.sent posted

-- the same of each node
abbrev pub AreSenders : Layout → List Record → Each Sender → Sending → Type 0
AreSenders layout trail machine sending = (node : Node) → IsSender layout trail (at machine node) (at sending.progress node) (at sending.messages node)

-- what an extractor builds of a trail: nothing where it is at the trail's end, else the message on the next positions, behind which it then is
abbrev pub Builds : Layout → List Record → ℕ → Progress → Option (List ℕ) → Progress → Type 0
Builds layout trail most old None new = (length trail ≤ old.next) × (new ≡ old)
Builds layout trail most old (Some bytes) new =
    (old.next < length trail) × (new ≡ record { next = min (old.next + most) (length trail); acked = old.acked }) × IsMessage layout trail (old.next, min (old.next + most) (length trail)) bytes

-- a reply to `send`: a message went out, or nothing was left to send
abbrev pub IsOfSend : Reply → Type 0
IsOfSend (Sent k from to) = Unit {0}
IsOfSend NoneSent = Unit {0}
IsOfSend _ = ⊥
