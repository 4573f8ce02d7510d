-- Messages on ranges of a trail: one more, the one under a number, and a trail that grows.
use Rattle.std.proofs.Common.{◌≡◌, ℕ, zero, suc, ◌+◌, ◌-◌, ◌^◌, Bool, ◌<◌, min, max, nat_lt, if◌then◌else◌, true, List, [], ◌∷◌, ◌++◌, length, Option, Some, None, refl, sym, ap, ◌∙◌, subst, arith, length-append}
use Rattle.std.specs.Prelude.{slice_get, MatchOption, IfSome, option_map}
use Rattle.std.specs.List.{All}
use Rattle.std.proofs.lemmas.Bool.{lt-ltb}
use Rattle.std.proofs.lemmas.List.Elements.{All-append, All-cons, All-nil}
use Rattle.std.proofs.lemmas.Option.{slice_get_within, get_or_from_slice_get}
use Rattle.std.proofs.lemmas.List.{take-append-le}
use Rattle.rdf_types.specs.declared.layout.Layout.{Layout}
use Rattle.rdf_types.specs.declared.records.Record.{Record}
use Rattle.rdf_types.specs.declared.records.Node.{Node}
use Rattle.rdf_types.specs.declared.records.Node.TheVariants.{A, B, C}
use Rattle.rdf_model.specs.Window.{part}
use Rattle.extractor.specs.Extract.{Progress, at_start}
use Rattle.extractor.specs.Extract.{after_ack as acked, after_rewind as rewound}
use Rattle.rdf_core.specs.declared.replies.Reply.TheVariants.{Sent}
use Rattle.rdf_core.specs.Layouts.{protects}
use Rattle.rdf_core.specs.Sender.{Sender, send_end, after_send, after_ack, after_rewind, forgotten, send_reply}
use Rattle.by_node.specs.Each.{Each, at, with_at, every, map_each, with_at-still, with_at-keeps, at-every, at-map_each}
use Rattle.rdf_wire.specs.Shipping.{IsSent}
use Rattle.senders.specs.Sending.{Sending, with_sent, IsSomeSent, AreSomeSent, IsMessage, AreMessages, IsSender, AreSenders, Builds}

-- one message more
one_more : (layout : Layout) (trail : List Record) (ranges : List (ℕ × ℕ)) (messages : List (List ℕ)) (range : ℕ × ℕ) (bytes : List ℕ) → AreMessages layout trail ranges messages → IsMessage layout trail range bytes →
    AreMessages layout trail (ranges ++ range ∷ []) (messages ++ bytes ∷ [])
one_more layout trail [] [] range bytes are is = (is, tt)
one_more layout trail [] (m ∷ messages) range bytes are is = elim are [ ]
one_more layout trail (r ∷ ranges) [] range bytes are is = elim are [ ]
one_more layout trail (r ∷ ranges) (m ∷ messages) range bytes are is = (are.0, one_more layout trail ranges messages range bytes are.1 is)

-- there are as many as ranges
as_many : (layout : Layout) (trail : List Record) (ranges : List (ℕ × ℕ)) (messages : List (List ℕ)) → AreMessages layout trail ranges messages → length messages ≡ length ranges
as_many layout trail [] [] are = refl
as_many layout trail [] (m ∷ messages) are = elim are [ ]
as_many layout trail (r ∷ ranges) [] are = elim are [ ]
as_many layout trail (r ∷ ranges) (m ∷ messages) are = ap (λ n. suc n) (as_many layout trail ranges messages are.1)

-- the one under a number
message_under : (layout : Layout) (trail : List Record) (ranges : List (ℕ × ℕ)) (messages : List (List ℕ)) (k : ℕ) → AreMessages layout trail ranges messages →
    MatchOption (slice_get messages k) (slice_get ranges k ≡ None) (λ bytes. (range : ℕ × ℕ) × (slice_get ranges k ≡ Some range) × IsMessage layout trail range bytes)
message_under layout trail [] [] k are = refl
message_under layout trail [] (m ∷ messages) k are = elim are [ ]
message_under layout trail (r ∷ ranges) [] k are = elim are [ ]
message_under layout trail (r ∷ ranges) (m ∷ messages) zero are = (r, refl, are.0)
message_under layout trail (r ∷ ranges) (m ∷ messages) (suc k) are = message_under layout trail ranges messages k are.1

-- a message on a range of a trail is one of a longer trail
message_longer : (layout : Layout) (trail more : List Record) (range : ℕ × ℕ) (bytes : List ℕ) → IsMessage layout trail range bytes → IsMessage layout (trail ++ more) range bytes
message_longer layout trail more range bytes is = record {
  within = omega (arith, is.within, length-append trail more);
  sent = subst (λ (l : List Record). IsSent bytes (record { from = range.0; to = range.1; part = part (protects layout) range.0 l })) (sym (take-append-le range.1 trail more is.within)) is.sent;
}

messages_longer : (layout : Layout) (trail more : List Record) (ranges : List (ℕ × ℕ)) (messages : List (List ℕ)) → AreMessages layout trail ranges messages → AreMessages layout (trail ++ more) ranges messages
messages_longer layout trail more [] [] are = tt
messages_longer layout trail more [] (m ∷ messages) are = elim are [ ]
messages_longer layout trail more (r ∷ ranges) [] are = elim are [ ]
messages_longer layout trail more (r ∷ ranges) (m ∷ messages) are = (message_longer layout trail more r m are.0, messages_longer layout trail more ranges messages are.1)

sender_longer : (layout : Layout) (trail more : List Record) (s : Sender) (progress : Progress) (messages : List (List ℕ)) → IsSender layout trail s progress messages → IsSender layout (trail ++ more) s progress messages
sender_longer layout trail more s progress messages is = record { next = is.next; acked = is.acked; messages = messages_longer layout trail more s.sent messages is.messages }

pub senders_longer : (layout : Layout) (trail more : List Record) (machine : Each Sender) (sending : Sending) → AreSenders layout trail machine sending → AreSenders layout (trail ++ more) machine sending
senders_longer layout trail more machine sending are node = sender_longer layout trail more (at machine node) (at sending.progress node) (at sending.messages node) (are node)

-- another sender of a node, with what it sent, or with what was sent before
pub senders_with : (layout : Layout) (trail : List Record) (machine : Each Sender) (sending : Sending) (node : Node) (s : Sender) (progress : Progress) (messages : List (List ℕ)) → AreSenders layout trail machine sending →
    IsSender layout trail s progress messages → AreSenders layout trail (with_at machine node s) (record { progress = with_at sending.progress node progress; messages = with_at sending.messages node messages })
senders_with layout trail machine sending A s progress messages are is A = is
senders_with layout trail machine sending A s progress messages are is B = are B
senders_with layout trail machine sending A s progress messages are is C = are C
senders_with layout trail machine sending B s progress messages are is A = are A
senders_with layout trail machine sending B s progress messages are is B = is
senders_with layout trail machine sending B s progress messages are is C = are C
senders_with layout trail machine sending C s progress messages are is A = are A
senders_with layout trail machine sending C s progress messages are is B = are B
senders_with layout trail machine sending C s progress messages are is C = is

pub sender_with : (layout : Layout) (trail : List Record) (machine : Each Sender) (sending : Sending) (node : Node) (s : Sender) (progress : Progress) → AreSenders layout trail machine sending →
    IsSender layout trail s progress (at sending.messages node) → AreSenders layout trail (with_at machine node s) (record { progress = with_at sending.progress node progress; messages = sending.messages })
sender_with layout trail machine sending node s progress are is =
    subst (λ (m : Each (List (List ℕ))). AreSenders layout trail (with_at machine node s) (record { progress = with_at sending.progress node progress; messages = m })) (with_at-still sending.messages node (at sending.messages node) refl)
    (senders_with layout trail machine sending node s progress (at sending.messages node) are is)

-- an acknowledgement, and a sender that goes back
pub acked_with : (layout : Layout) (trail : List Record) (machine : Each Sender) (sending : Sending) (node : Node) (received : ℕ) (progress : Progress) → progress ≡ acked received (at sending.progress node) →
    AreSenders layout trail machine sending → AreSenders layout trail (with_at machine node (after_ack received (at machine node))) (record { progress = with_at sending.progress node progress; messages = sending.messages })
acked_with layout trail machine sending node received progress is are = sender_with layout trail machine sending node (after_ack received (at machine node)) progress are
    (subst (λ (p : Progress). IsSender layout trail (after_ack received (at machine node)) p (at sending.messages node)) (sym is)
    (record { next = (are node).next; acked = ap (λ n. max n received) (are node).acked; messages = (are node).messages }))

pub rewound_with : (layout : Layout) (trail : List Record) (machine : Each Sender) (sending : Sending) (node : Node) (progress : Progress) → progress ≡ rewound (at sending.progress node) →
    AreSenders layout trail machine sending → AreSenders layout trail (with_at machine node (after_rewind (at machine node))) (record { progress = with_at sending.progress node progress; messages = sending.messages })
rewound_with layout trail machine sending node progress is are = sender_with layout trail machine sending node (after_rewind (at machine node)) progress are
    (subst (λ (p : Progress). IsSender layout trail (after_rewind (at machine node)) p (at sending.messages node)) (sym is)
    (record { next = (are node).acked; acked = (are node).acked; messages = (are node).messages }))

-- how far all were is forgotten
pub forgotten_with : (layout : Layout) (trail : List Record) (machine : Each Sender) (sending : Sending) → AreSenders layout trail machine sending → AreSenders layout trail (map_each forgotten machine) (record { progress = every at_start; messages = sending.messages })
forgotten_with layout trail machine sending are node =
    subst (λ (s : Sender). IsSender layout trail s (at (every at_start) node) (at sending.messages node)) (sym (at-map_each forgotten machine node))
    (subst (λ (p : Progress). IsSender layout trail (forgotten (at machine node)) p (at sending.messages node)) (sym (at-every at_start node))
    (record { next = refl; acked = refl; messages = (are node).messages }))

-- a reference's value, for a look-up
pub looked_up : {X : Type 0} (now : X → List ℕ) (o : Option X) (found : Option (List ℕ)) (P : Type 0) (Q : List ℕ → Type 0) → option_map now o ≡ found → MatchOption found P Q → MatchOption o P (λ x. Q (now x))
looked_up now None found P Q e h = subst (λ f. MatchOption f P Q) (sym e) h
looked_up now (Some x) found P Q e h = subst (λ f. MatchOption f P Q) (sym e) h

-- a message of a node, under a number
pub message_at : (layout : Layout) (trail : List Record) (machine : Each Sender) (sending : Sending) (node : Node) (k : ℕ) → AreSenders layout trail machine sending →
    MatchOption (slice_get (at sending.messages node) k) (slice_get (at machine node).sent k ≡ None) (λ bytes. (range : ℕ × ℕ) × (slice_get (at machine node).sent k ≡ Some range) × IsMessage layout trail range bytes)
message_at layout trail machine sending node k are = message_under layout trail (at machine node).sent (at sending.messages node) k (are node).messages

-- each message is that of some shipment
some_under : (messages : List (List ℕ)) (k : ℕ) → All IsSomeSent messages → MatchOption (slice_get messages k) (Unit {0}) IsSomeSent
some_under messages k all = cases (slice_get messages k) refl
  where
    cases : (o : Option (List ℕ)) → slice_get messages k ≡ o → MatchOption o (Unit {0}) IsSomeSent
    cases None e = tt
    cases (Some bytes) e = subst IsSomeSent (get_or_from_slice_get messages k bytes [] e) (all k [] (slice_get_within messages k bytes e))

pub some_at : (messages : Each (List (List ℕ))) (node : Node) (k : ℕ) → AreSomeSent messages → MatchOption (slice_get (at messages node) k) (Unit {0}) IsSomeSent
some_at messages node k all = some_under (at messages node) k (all node)

pub if_some : {X : Type 0} (P : X → Type 0) (o : Option X) → MatchOption o (Unit {0}) P → IfSome o P
if_some P None h = h
if_some P (Some x) h = h

-- one more of them
pub some_more : (messages : Each (List (List ℕ))) (node : Node) (bytes : List ℕ) → AreSomeSent messages → IsSomeSent bytes → AreSomeSent (with_at messages node (at messages node ++ bytes ∷ []))
some_more messages node bytes all is = with_at-keeps (λ _ (m : List (List ℕ)). All IsSomeSent m) messages node (at messages node ++ bytes ∷ []) all
    (All-append IsSomeSent (at messages node) (bytes ∷ []) (all node) (All-cons IsSomeSent bytes [] is (All-nil IsSomeSent)))

-- what a sender sends next
one_sent : (layout : Layout) (trail : List Record) (most : ℕ) (s : Sender) (old new : Progress) (messages : List (List ℕ)) (bytes : List ℕ) → Builds layout trail most old (Some bytes) new → IsSender layout trail s old messages →
    IsSender layout trail (after_send (length trail) most s) new (messages ++ bytes ∷ [])
one_sent layout trail most s old new messages bytes builds is =
    let behind : nat_lt s.next (length trail) ≡ true = lt-ltb s.next (length trail) (omega (arith, is.next, builds.0)) in
    let end_is : min (old.next + most) (length trail) ≡ min (s.next + most) (length trail) = ap (λ n. min (n + most) (length trail)) is.next in
    subst (λ (m : Bool). IsSender layout trail (if m then record { next = send_end (length trail) most s; acked = s.acked; sent = s.sent ++ (s.next, send_end (length trail) most s) ∷ [] } else s) new (messages ++ bytes ∷ [])) (sym behind)
    (record {
      next = ap (λ p. p.next) builds.1 ∙ end_is;
      acked = ap (λ p. p.acked) builds.1 ∙ is.acked;
      messages = one_more layout trail s.sent messages (s.next, min (s.next + most) (length trail)) bytes is.messages (subst (λ (n : ℕ). IsMessage layout trail (n, min (n + most) (length trail)) bytes) is.next builds.2);
    })

-- a line `send`, by what was built for it
module _ (layout : Layout) (trail : List Record) (most : ℕ) (machine : Each Sender) (sending : Sending) (node : Node) (moved new : Progress) (sent : Option (List ℕ)) (bytes : List ℕ) where
  builds : moved ≡ at sending.progress node → sent ≡ Some bytes → Builds layout trail most moved sent new → Builds layout trail most (at sending.progress node) (Some bytes) new
  builds start some h = subst (λ (o : Option (List ℕ)). Builds layout trail most (at sending.progress node) o new) some (subst (λ (p : Progress). Builds layout trail most p sent new) start h)

  pub sent_reply : (k from to : ℕ) → moved ≡ at sending.progress node → sent ≡ Some bytes → Builds layout trail most moved sent new → k ≡ length (at sending.messages node) → k < 2 ^ 32 → from ≡ (at sending.progress node).next → to ≡ new.next →
      AreSenders layout trail machine sending → Sent k from to ≡ send_reply (length trail) most (at machine node)
  sent_reply k from to start some h number few from_is to_is are =
      let is = are node in
      let built = builds start some h in
      let n_is : (at sending.progress node).next ≡ (at machine node).next = is.next in
      let behind : (at machine node).next < length trail = omega (arith, n_is, built.0) in
      let many : length (at sending.messages node) ≡ length (at machine node).sent = as_many layout trail (at machine node).sent (at sending.messages node) is.messages in
      let k_is : k ≡ min (length (at machine node).sent) (2 ^ 32 - 1) = omega (arith, number, many, few) in
      let end_is : to ≡ min ((at machine node).next + most) (length trail) = to_is ∙ ap (λ p. p.next) built.1 ∙ ap (λ n. min (n + most) (length trail)) n_is in
      rw (lt-ltb (at machine node).next (length trail) behind, k_is, from_is, n_is, end_is) refl

  pub sent_senders : moved ≡ at sending.progress node → sent ≡ Some bytes → Builds layout trail most moved sent new → AreSenders layout trail machine sending →
      AreSenders layout trail (with_at machine node (after_send (length trail) most (at machine node))) (with_sent sending node new bytes)
  sent_senders start some h are =
      senders_with layout trail machine sending node (after_send (length trail) most (at machine node)) new (at sending.messages node ++ bytes ∷ []) are
      (one_sent layout trail most (at machine node) (at sending.progress node) new (at sending.messages node) bytes (builds start some h) (are node))
