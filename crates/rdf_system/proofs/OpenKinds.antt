-- Where a line of an open session goes, by its kind.
use Rattle.std.proofs.Common.{◌≡◌, ◌≢◌, inl, inr, ℕ, true, refl}
use Rattle.rdf_types.specs.declared.records.Node.{Node}
use Rattle.rdf_types.specs.declared.records.RecKey.{RecKey}
use Rattle.plan_lang.specs.declared.lines.Line.{Line}
use Rattle.plan_lang.specs.declared.lines.Line.TheVariants as line
use Rattle.plan_lang.specs.Sessions.{goes_in}
use Rattle.rdf_core.specs.Step.{is_for_primary}
use Rattle.rdf_system.specs.OpenLines.{IsSideLine}
use Rattle.rdf_system.proofs.PlaceLaws.{not_so}

-- one that the session's node does not do, and that is no end, is on the primary or on the sender's side
pub side_of : (name : Node) (l : Line) → goes_in name l ≡ true → l ≢ line.End → ((node : Node) (k : ℕ) → l ≢ line.Deliver node k) → ((node : Node) (key : RecKey) → l ≢ line.Read node key) → ((node : Node) → l ≢ line.Purge node) → IsSideLine l
side_of name (line.Begin t) e end deliver read purge = inl refl
side_of name (line.Insert t k value) e end deliver read purge = inl refl
side_of name (line.Update t k value) e end deliver read purge = inl refl
side_of name (line.Delete t k) e end deliver read purge = inl refl
side_of name (line.Get t k) e end deliver read purge = inl refl
side_of name (line.Commit t) e end deliver read purge = inl refl
side_of name (line.Abort t) e end deliver read purge = inl refl
side_of name (line.Send node most) e end deliver read purge = inr refl
side_of name (line.Rewind node) e end deliver read purge = inr refl
side_of name (line.Ack node) e end deliver read purge = inr refl
side_of name (line.Deliver node k) e end deliver read purge = absurd (deliver node k refl)
side_of name (line.Read node key) e end deliver read purge = absurd (read node key refl)
side_of name (line.Purge node) e end deliver read purge = absurd (purge node refl)
side_of name line.End e end deliver read purge = absurd (end refl)
side_of name _ e end deliver read purge = not_so e

-- and one that is none of the sender's side is on the primary
pub primary_of : (l : Line) → IsSideLine l → ((node : Node) (most : ℕ) → l ≢ line.Send node most) → ((node : Node) → l ≢ line.Rewind node) → ((node : Node) → l ≢ line.Ack node) → is_for_primary l ≡ true
primary_of l (inl e) send rewind ack = e
primary_of (line.Send node most) (inr e) send rewind ack = absurd (send node most refl)
primary_of (line.Rewind node) (inr e) send rewind ack = absurd (rewind node refl)
primary_of (line.Ack node) (inr e) send rewind ack = absurd (ack node refl)
primary_of _ (inr e) send rewind ack = not_so e
