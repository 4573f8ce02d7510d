-- What a line needs of the rest of the system, from what the system is at.
use Rattle.std.proofs.Common.{◌≡◌, ℕ, Bool, true, false, List, [], Option, Some, None, refl, sym, ap, ◌∙◌, subst, arith}
use Rattle.std.specs.Prelude.{MatchOption}
use Rattle.std.specs.Option.{option_map}
use Rattle.rdf_types.specs.declared.layout.Layout.{Layout}
use Rattle.rdf_types.specs.declared.records.Node.{Node}
use Rattle.rdf_disk.specs.Files.{Disk}
use Rattle.rdf_disk.specs.Counts.{Counts}
use Rattle.rdf_disk.specs.declared.disk.Disk.{Ghosts}
use Rattle.audit_trail.specs.declared.trail.AuditTrail.{AuditTrail}
use Rattle.audit_trail.specs.InUse.{trail_of}
use Rattle.plan_lang.specs.declared.lines.Line.{Line}
use Rattle.plan_lang.specs.declared.lines.Line.TheVariants as line
use Rattle.plan_lang.specs.Sessions.{goes_in}
use Rattle.rdf_core.specs.declared.events.Standing.{Standing}
use Rattle.rdf_core.specs.declared.replies.NoWhy.{NoWhy}
use Rattle.rdf_core.specs.Backup.{points_in}
use Rattle.rdf_core.specs.Happens.{points_for}
use Rattle.rdf_core.specs.Lines.{around, message_of}
use Rattle.rdf_core.specs.Primary.{Primary as State, needs_up, is_lost}
use Rattle.by_node.specs.Each.{at}
use Rattle.rdf_core.specs.State.{State as Whole}
use Rattle.rdf_primary.specs.declared.primary.Primary.{Primary}
use Rattle.primary_node.specs.declared.node.PrimaryNode.{PrimaryNode}
use Rattle.primary_node.specs.Nodes.{HasLayout, MayRest, MayRun, MayServe, IsAt, IsUpAt, IsOffAt, standing_off}
use Rattle.primary_node.specs.Lines.{why_off}
use Rattle.extractor.specs.Extract.{extract}
use Rattle.rdf_core.specs.Layouts.{protects}
use Rattle.rdf_backup.specs.Parts.{PartIsPart}
use Rattle.senders.specs.Sending.{IsMessage}
use Rattle.rdf_system.specs.Kinds.{bar_by, bar_of}
use Rattle.rdf_system.specs.NodeLines.{is_on_backup, Suits}
use Rattle.rdf_system.specs.OpenLines.{IsOwnLine}
use Rattle.rdf_system.proofs.PlaceLaws.{some_none}
use Rattle.rdf_system.proofs.Telling.{same_is}

lost_off : (b : Bool) → is_lost (standing_off b) ≡ b
lost_off true = refl
lost_off false = refl

refused_off : (b : Bool) (a : State) → a.standing ≡ standing_off b → needs_up a ≡ Some (why_off b)
refused_off true a e = ap refusal e
  where
    refusal : Standing → Option NoWhy
    refusal s = needs_up (record a { standing = s })
refused_off false a e = ap refusal e
  where
    refusal : Standing → Option NoWhy
    refusal s = needs_up (record a { standing = s })

module _ {D : Type 0} {d : Ghosts D} (tells : Type 0) (files : D → Disk) (counts : D → Counts) (layout : Layout) (a : State) (n : PrimaryNode D d) where
  -- the node knows whether the primary is lost
  pub standing_lost : MayServe tells files counts n → IsAt files layout a n → is_lost a.standing ≡ n.lost
  standing_lost serves is = go n.primary serves is
    where
      go : (o : Option (Primary D d)) → MatchOption o (MayRest tells files counts n.volumes n.disks.items) (λ p. MayRun tells files counts n.volumes p × (n.lost ≡ false) × HasLayout n.volumes) →
          MatchOption o (IsOffAt files layout a (standing_off n.lost) n.disks.items) (λ p. IsUpAt layout a p) → is_lost a.standing ≡ n.lost
      go None s h = ap is_lost h.stood ∙ lost_off n.lost
      go (Some p) s h = ap (λ (x : State). is_lost x.standing) h.state ∙ sym s.1

-- a primary's node with a trail bars no line on the sender's side, and one without does
module _ {D : Type 0} {d : Ghosts D} (n : PrimaryNode D d) {X : Type 0} (trail_in : X → AuditTrail D) (found : Option X) (finds : MatchOption n.primary (found ≡ None) (λ p. MatchOption found ⊥ (λ t. trail_in t ≡ p.tmf.store.trail))) where
  pub unbarred : (t : X) → found ≡ Some t → bar_of n ≡ None
  unbarred t e = go n.primary finds
    where
      go : (o : Option (Primary D d)) → MatchOption o (found ≡ None) (λ p. MatchOption found ⊥ (λ x. trail_in x ≡ p.tmf.store.trail)) → bar_by o n.lost ≡ None
      go None f = some_none (sym e ∙ f)
      go (Some p) f = refl

  pub barred : found ≡ None → bar_of n ≡ Some (why_off n.lost)
  barred e = go n.primary finds
    where
      go : (o : Option (Primary D d)) → MatchOption o (found ≡ None) (λ p. MatchOption found ⊥ (λ x. trail_in x ≡ p.tmf.store.trail)) → bar_by o n.lost ≡ Some (why_off n.lost)
      go None f = refl
      go (Some p) f = absurd (subst (λ (o : Option X). MatchOption o ⊥ (λ x. trail_in x ≡ p.tmf.store.trail)) e f)

module _ {D : Type 0} {d : Ghosts D} (files : D → Disk) (layout : Layout) (a : State) (n : PrimaryNode D d) where
  module _ {X : Type 0} (trail_in : X → AuditTrail D) (found : Option X) (finds : MatchOption n.primary (found ≡ None) (λ p. MatchOption found ⊥ (λ t. trail_in t ≡ p.tmf.store.trail))) (is : IsAt files layout a n) where
    -- one without a trail refuses what needs a primary that runs
    pub off_is : found ≡ None → needs_up a ≡ Some (why_off n.lost)
    off_is e = go n.primary finds is
      where
        go : (o : Option (Primary D d)) → MatchOption o (found ≡ None) (λ p. MatchOption found ⊥ (λ t. trail_in t ≡ p.tmf.store.trail)) →
            MatchOption o (IsOffAt files layout a (standing_off n.lost) n.disks.items) (λ p. IsUpAt layout a p) → needs_up a ≡ Some (why_off n.lost)
        go None f h = refused_off n.lost a h.stood
        go (Some p) f h = absurd (subst (λ (o : Option X). MatchOption o ⊥ (λ t. trail_in t ≡ p.tmf.store.trail)) e f)

    never_none : {Y : Type 0} (t : X) → found ≡ Some t → found ≡ None → Y
    never_none t e f = some_none ((sym e ∙ f))

    -- and one with a trail refuses nothing for that
    pub on_is : (t : X) → found ≡ Some t → needs_up a ≡ None
    on_is t e = go n.primary finds is
      where
        go : (o : Option (Primary D d)) → MatchOption o (found ≡ None) (λ p. MatchOption found ⊥ (λ t. trail_in t ≡ p.tmf.store.trail)) →
            MatchOption o (IsOffAt files layout a (standing_off n.lost) n.disks.items) (λ p. IsUpAt layout a p) → needs_up a ≡ None
        go None f h = never_none t e f
        go (Some p) f h = ap needs_up h.state

    pub trail_is : (t : X) → found ≡ Some t → trail_of (trail_in t) ≡ a.trail
    trail_is t e = go n.primary finds is
      where
        go : (o : Option (Primary D d)) → MatchOption o (found ≡ None) (λ p. MatchOption found ⊥ (λ t. trail_in t ≡ p.tmf.store.trail)) →
            MatchOption o (IsOffAt files layout a (standing_off n.lost) n.disks.items) (λ p. IsUpAt layout a p) → trail_of (trail_in t) ≡ a.trail
        go None f h = never_none t e f
        go (Some p) f h = ap trail_of (subst (λ (o : Option X). MatchOption o ⊥ (λ u. trail_in u ≡ p.tmf.store.trail)) e f) ∙ sym (ap (λ (x : State). x.trail) h.state)

-- the message that was sent is the one that the line names: a shipment that is the trail's part on its range
module _ {X : Type 0} (bytes_in : X → List ℕ) (found : Option X) (parts : PartIsPart) (layout : Layout) (s : Whole) where
  pub suits : (own : Layout) (name : Node) (l : Line) → own ≡ layout → is_on_backup name l →
      MatchOption found (message_of s l ≡ None) (λ x. (range : ℕ × ℕ) × (message_of s l ≡ Some range) × IsMessage layout s.primary.trail range (bytes_in x)) → Suits own l (option_map bytes_in found) layout (around (points_for layout s l) s l) (at s.backups name)
  suits own name (line.Deliver node k) same on h = go found h
    where
      go : (o : Option X) → MatchOption o (message_of s (line.Deliver node k) ≡ None) (λ x. (range : ℕ × ℕ) × (message_of s (line.Deliver node k) ≡ Some range) × IsMessage layout s.primary.trail range (bytes_in x)) →
          Suits own (line.Deliver node k) (option_map bytes_in o) layout (around [] s (line.Deliver node k)) (at s.backups name)
      go None f = f
      go (Some x) f = (
        extract (protects layout) s.primary.trail f.0.0 f.0.1,
        f.2.sent,
        record { range = f.1; part = (parts layout s.primary.trail f.0.0 f.0.1 (omega (arith, f.2.sent.limits.spelled.some)) f.2.within).0 },
      )
  suits own name (line.List node vol) same on h = tt
  suits own name (line.Info node) same on h = tt
  suits own name (line.Status node) same on h = tt
  suits own name (line.Fuse node disk calls tear) same on h = tt
  suits own name (line.Cut node) same on h = tt
  suits own name (line.Purge node) same on h = ap (λ (n : Node). points_in layout s.primary.trail (at s.backups n).volumes) on
  suits own name (line.Restart node) same on h = sym same
  suits own name (line.Session node) same on h = tt
  suits own name _ same on h = absurd on

  -- so it is in an open session, whose reads need nothing of the rest
  pub own_suits : (own : Layout) (name : Node) (l : Line) → own ≡ layout → IsOwnLine l → goes_in name l ≡ true →
      MatchOption found (message_of s l ≡ None) (λ x. (range : ℕ × ℕ) × (message_of s l ≡ Some range) × IsMessage layout s.primary.trail range (bytes_in x)) → Suits own l (option_map bytes_in found) layout (around (points_for layout s l) s l) (at s.backups name)
  own_suits own name (line.Deliver node k) same is e h = suits own name (line.Deliver node k) same (sym (same_is name node e)) h
  own_suits own name (line.Purge node) same is e h = suits own name (line.Purge node) same (sym (same_is name node e)) h
  own_suits own name (line.Read node key) same is e h = tt
  own_suits own name _ same is e h = absurd is
