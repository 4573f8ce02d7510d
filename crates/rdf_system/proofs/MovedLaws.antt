-- How a line of the system moves the nodes.
use Rattle.std.proofs.Common.{◌≡◌, ◌⊎◌, inl, inr, true, false, if◌then◌else◌, Option, Some, refl, sym, ap, ◌∙◌, subst}
use Rattle.rdf_types.specs.declared.layout.Layout.{Layout}
use Rattle.rdf_types.specs.declared.records.Node.{Node}
use Rattle.rdf_types.specs.declared.records.Node.TheVariants.{A, B, C}
use Rattle.rdf_types.specs.declared.records.Phase.{Phase}
use Rattle.rdf_disk.specs.declared.disk.Disk.{Ghosts}
use Rattle.plan_lang.specs.declared.lines.Line.{Line}
use Rattle.plan_lang.specs.declared.lines.Line.TheVariants as line
use Rattle.plan_lang.specs.LineText.{same_node}
use Rattle.rdf_core.specs.declared.events.Standing.{Standing}
use Rattle.rdf_core.specs.declared.replies.NoWhy.{NoWhy}
use Rattle.rdf_core.specs.declared.replies.Reply.{Reply}
use Rattle.rdf_core.specs.declared.replies.Reply.TheVariants.{No}
use Rattle.by_node.specs.Each.{at-with_at}
use Rattle.rdf_core.specs.Allowed.{is_backup}
use Rattle.rdf_core.specs.NodeLaws.{at_other}
use Rattle.rdf_core.specs.SessionLaws.{same_self}
use Rattle.primary_node.specs.Moves.{standing_behind}
use Rattle.backup_node.specs.declared.node.BackupNode.{BackupNode}
use Rattle.backup_node.specs.Moves.{phase_at, Moves}
use Rattle.backup_node.specs.MoveLaws.{moves_no}
use Rattle.rdf_system.specs.declared.session.SessionState.{SessionState}
use Rattle.rdf_system.specs.declared.session.SessionState.TheVariants as system
use Rattle.rdf_system.specs.declared.site.Site.{Site}
use Rattle.rdf_system.specs.declared.system.System.{System}
use Rattle.rdf_system.specs.Kinds.{IsQuiet}
use Rattle.rdf_system.specs.Moves.{phase_in, phase_of, MovesAt, primary_behind}
use Rattle.rdf_system.specs.NodeLines.{with_site}
use Rattle.rdf_system.specs.OnNodes.{is_on_primary, is_of_sender, is_of_backup, is_done_by, site_at}
use Rattle.rdf_system.proofs.PlaceLaws.{not_so}
use Rattle.rdf_system.proofs.Telling.{either, same_is}

-- which node does a line

-- two that do it are one
pub same_owner : (l : Line) (a b : Node) → is_done_by a l → is_done_by b l → a ≡ b
same_owner (line.Deliver node k) a b h i = sym h ∙ i
same_owner (line.Takeover node) a b h i = sym h ∙ i
same_owner (line.List node vol) a b h i = sym h ∙ i
same_owner (line.Info node) a b h i = sym h ∙ i
same_owner (line.Purge node) a b h i = sym h ∙ i
same_owner (line.Status node) a b h i = sym h ∙ i
same_owner (line.Fuse node disk calls tear) a b h i = sym h ∙ i
same_owner (line.Cut node) a b h i = sym h ∙ i
same_owner (line.Restart node) a b h i = sym h ∙ i
same_owner (line.CopyAudit node from) a b h i = sym h ∙ i
same_owner (line.Session node) a b h i = sym h ∙ i
same_owner (line.Read node key) a b h i = sym h ∙ i
same_owner _ a b h i = absurd h

-- a line on the primary is done by the primary's node
on_a : (l : Line) (name : Node) → is_on_primary l ≡ true → is_done_by name l → A ≡ name
on_a (line.List A vol) name e h = h
on_a (line.List B vol) name e h = not_so e
on_a (line.List C vol) name e h = not_so e
on_a (line.Status A) name e h = h
on_a (line.Status B) name e h = not_so e
on_a (line.Status C) name e h = not_so e
on_a (line.Fuse A disk calls tear) name e h = h
on_a (line.Fuse B disk calls tear) name e h = not_so e
on_a (line.Fuse C disk calls tear) name e h = not_so e
on_a (line.Cut A) name e h = h
on_a (line.Cut B) name e h = not_so e
on_a (line.Cut C) name e h = not_so e
on_a (line.Restart A) name e h = h
on_a (line.Restart B) name e h = not_so e
on_a (line.Restart C) name e h = not_so e
on_a (line.Deliver node k) name e h = not_so e
on_a (line.Takeover node) name e h = not_so e
on_a (line.Info node) name e h = not_so e
on_a (line.Purge node) name e h = not_so e
on_a (line.CopyAudit node from) name e h = not_so e
on_a (line.Session node) name e h = not_so e
on_a (line.Read node key) name e h = not_so e
on_a _ name e h = absurd h

-- one that a backup's node does is none on the primary
pub off_primary : (layout : Layout) (l : Line) (name : Node) → is_backup layout name ≡ true → is_done_by name l → is_on_primary l ≡ false
off_primary layout l name placed own = by (either (is_on_primary l))
  where
    never : is_backup layout A ≡ true → ⊥
    never e = not_so e

    by : ((is_on_primary l ≡ true) ⊎ (is_on_primary l ≡ false)) → is_on_primary l ≡ false
    by (inl on) = absurd (never (subst (λ n. is_backup layout n ≡ true) (sym (on_a l name on own)) placed))
    by (inr off) = off

-- nor is one on the sender's side, or one that is answered quietly in a session
pub off_sender : (l : Line) → is_of_sender l ≡ true → is_on_primary l ≡ false
off_sender (line.Send node most) e = refl
off_sender (line.Rewind node) e = refl
off_sender (line.Ack node) e = refl
off_sender _ e = not_so e

pub off_quiet : (ss : SessionState) (l : Line) (reply : Reply) → IsQuiet ss l reply → is_on_primary l ≡ false
off_quiet (system.Refused of bar) (line.Read node key) reply h = refl
off_quiet (system.Open of true) (line.Read node key) reply h = refl
off_quiet (system.Refused of bar) line.End reply h = refl
off_quiet (system.Open of true) line.End reply h = refl
off_quiet ss l reply h = absurd h

-- and one on the sender's side is done by none
of_none : (l : Line) (name : Node) → is_of_sender l ≡ true → is_done_by name l → ⊥
of_none (line.Send node most) name e h = h
of_none (line.Rewind node) name e h = h
of_none (line.Ack node) name e h = h
of_none _ name e h = not_so e

-- one that changes a backup alone is done by that one
pub done_of : (l : Line) (name : Node) → is_of_backup name l → is_done_by name l
done_of (line.Session node) name h = absurd h
done_of (line.Read node key) name h = absurd h
done_of _ name h = h

-- how it moves the primary's node

pub primary_moves : (l : Line) (reply : Reply) (old new : Standing) → is_on_primary l ≡ true → new ≡ standing_behind l reply old → new ≡ primary_behind l reply old
primary_moves l reply old new on moved = moved ∙ ap (λ b. if b then standing_behind l reply old else old) (sym on)

pub primary_stays : (l : Line) (reply : Reply) (old : Standing) → is_on_primary l ≡ false → old ≡ primary_behind l reply old
primary_stays l reply old off = ap (λ b. if b then standing_behind l reply old else old) (sym off)

-- how it moves a backup's

-- a line that the node does not do leaves it
pub stays_apart : (name : Node) (l : Line) (reply : Reply) (old new : Option Phase) → (is_done_by name l → ⊥) → new ≡ old → MovesAt name l reply old new
stays_apart name l reply old new never same = (λ own. absurd (never own), λ n. inl same)

-- one on the primary
pub stays_on_primary : (layout : Layout) (l : Line) → is_on_primary l ≡ true → (name : Node) → is_backup layout name ≡ true → (reply : Reply) (p : Option Phase) → MovesAt name l reply p p
stays_on_primary layout l on name placed reply p = stays_apart name l reply p p (λ own. never (subst (λ n. is_backup layout n ≡ true) (sym (on_a l name on own)) placed)) refl
  where
    never : is_backup layout A ≡ true → ⊥
    never e = not_so e

-- one on the sender's side
pub stays_of_sender : (l : Line) → is_of_sender l ≡ true → (name : Node) (reply : Reply) (p : Option Phase) → MovesAt name l reply p p
stays_of_sender l on name reply p = stays_apart name l reply p p (of_none l name on) refl

-- a read and the end of a session that was refused, or whose node is down
pub stays_quiet : (ss : SessionState) (l : Line) (reply : Reply) → IsQuiet ss l reply → (name : Node) (p : Option Phase) → MovesAt name l reply p p
stays_quiet ss l reply quiet name p = (λ own. by ss l reply quiet own, λ n. inl refl)
  where
    refused : (l : Line) (r : Reply) (why : NoWhy) → r ≡ No why → Moves l r p p
    refused l r why e = subst (λ (x : Reply). Moves l x p p) (sym e) (moves_no l why p)

    by : (ss : SessionState) (l : Line) (reply : Reply) → IsQuiet ss l reply → is_done_by name l → Moves l reply p p
    by (system.Refused of bar) (line.Read node key) reply (inl e) own = refused (line.Read node key) reply _ e
    by (system.Refused of bar) (line.Read node key) reply (inr e) own = refused (line.Read node key) reply _ e
    by (system.Open of true) (line.Read node key) reply e own = refused (line.Read node key) reply _ e
    by (system.Refused of bar) line.End reply e own = absurd own
    by (system.Open of true) line.End reply e own = absurd own
    by ss l reply h own = absurd h

-- the line of a node, at whose site stands what it left
module _ {D : Type 0} {d : Ghosts D} (old : System D d) (name : Node) (site : Site D d) (ss : SessionState) where
  abbrev New : System D d
  New = with_site old name site ss

  pub here_in : (was now : BackupNode D d) → (site_at old name).node ≡ Some was → site.node ≡ Some now → (M : Option Phase → Option Phase → Type 0) → M (phase_at was) (phase_at now) → M (phase_of old name) (phase_of New name)
  here_in was now was-is now-is M moved = subst (λ (o : Option (BackupNode D d)). M (phase_in o) (phase_of New name)) (sym was-is)
      (subst (λ (x : Site D d). M (phase_at was) (phase_in x.node)) (sym (at-with_at old.sites name site)) (subst (λ (o : Option (BackupNode D d)). M (phase_at was) (phase_in o)) (sym now-is) moved))

  pub site_moves : (l : Line) (reply : Reply) → ((other : Node) → is_done_by other l → name ≡ other) → MovesAt name l reply (phase_of old name) (phase_of New name) → (other : Node) → MovesAt other l reply (phase_of old other) (phase_of New other)
  site_moves l reply owner here other = by (either (same_node name other))
    where
      by : ((same_node name other ≡ true) ⊎ (same_node name other ≡ false)) → MovesAt other l reply (phase_of old other) (phase_of New other)
      by (inl near) = subst (λ (n : Node). MovesAt n l reply (phase_of old n) (phase_of New n)) (same_is name other near) here
      by (inr far) = stays_apart other l reply (phase_of old other) (phase_of New other) (λ own. apart (owner other own)) (ap (λ (x : Site D d). phase_in x.node) (at_other old.sites name site other far))
        where
          apart : name ≡ other → ⊥
          apart e = not_so (sym (subst (λ (n : Node). same_node name n ≡ false) (sym e) far) ∙ same_self name)
