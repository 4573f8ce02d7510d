-- A line on the session's own node feeds its updaters on, whatever it answers.
use Rattle.std.proofs.Common.{◌≡◌, ℕ, true, List, Option, Result, Ok, sym, subst}
use Rattle.rdf_types.specs.declared.layout.Layout.{Layout}
use Rattle.rdf_types.specs.declared.records.Record.{Record}
use Rattle.rdf_disk.specs.Files.{Disk}
use Rattle.rdf_disk.specs.Counts.{Counts}
use Rattle.rdf_disk.specs.declared.disk.Disk.{Ghosts}
use Rattle.plan_lang.specs.declared.lines.Line.{Line}
use Rattle.plan_lang.specs.declared.lines.Line.TheVariants as line
use Rattle.plan_lang.specs.Sessions.{goes_in}
use Rattle.node_faults.specs.declared.NodeFault.{NodeFault}
use Rattle.rdf_core.specs.declared.replies.Reply.{Reply}
use Rattle.by_node.specs.Each.{at}
use Rattle.rdf_core.specs.State.{State}
use Rattle.rdf_backup.specs.Sessions.{Open, IsFed}
use Rattle.rdf_system.specs.NodeLines.{Suits, about}
use Rattle.rdf_system.specs.OpenLines.{IsOwnLine, MeetsFor, FeedsOn}
use Rattle.rdf_system.specs.Opened.{OpenView, shown, IsOpenAt, IsFedAt}
use Rattle.rdf_system.specs.States.{IsAtState}
use Rattle.rdf_system.proofs.Feeding.{line_still}
use Rattle.rdf_system.proofs.OpenKeeps.{left_it}
use Rattle.rdf_system.proofs.ShownSites.{up_at}
use Rattle.rdf_system.proofs.Telling.{same_is}

-- what the line needs of the rest
abbrev pub IsSuited : {D : Type 0} {d : Ghosts D} → Type 0 → (D → Disk) → OpenView D d → Option (List ℕ) → Line → Type 0
IsSuited tells files x message l = tells → (layout : Layout) (s : State) → IsAtState files layout s (shown x) → Suits x.system.layout l message layout (about layout s l) (at s.backups x.node.name)

module _ {D : Type 0} {d : Ghosts D} {tells : Type 0} {files : D → Disk} {counts : D → Counts} (x : OpenView D d) (is_open : IsOpenAt tells files counts x) (new : Open D d) (message : Option (List ℕ)) where
  -- they are fed with the trail of the state before it
  pub own_fed : (result : Result Reply NodeFault) (l : Line) → IsOwnLine l → goes_in x.node.name l ≡ true → IsSuited tells files x message l → MeetsFor tells files counts message l result x.node x.session new →
      tells → (layout : Layout) (s : State) → IsAtState files layout s (shown x) → IsFedAt s x → IsFed s.primary.trail new
  own_fed result (line.Deliver node k) own e suits meets t layout s is = (meets (sym (same_is x.node.name node e))).fed t layout (about layout s (line.Deliver node k)) (at s.backups x.node.name) (suits t layout s is)
      (up_at x.node x.system files layout s x.session is)
  own_fed result (line.Read node key) own e suits meets t layout s is = (meets (sym (same_is x.node.name node e))).fed t layout (about layout s (line.Read node key)) (at s.backups x.node.name) tt
      (up_at x.node x.system files layout s x.session is)
  own_fed result (line.Purge node) own e suits meets t layout s is = (meets (sym (same_is x.node.name node e))).fed t layout (about layout s (line.Purge node)) (at s.backups x.node.name)
      (up_at x.node x.system files layout s x.session is)
  own_fed result _ own e suits meets t layout s is = absurd own

  -- and with that of the state behind it
  pub own_feeds : (reply : Reply) (l : Line) → IsOwnLine l → goes_in x.node.name l ≡ true → IsSuited tells files x message l → MeetsFor tells files counts message l (Ok reply) x.node x.session new →
      tells → FeedsOn files l reply x (left_it x new)
  own_feeds reply l own e suits meets t layout s mid next is fed drifts step now =
      subst (λ (trail : List Record). IsFed trail new) (sym (line_still layout s mid next l reply own drifts step)) (own_fed (Ok reply) l own e suits meets t layout s is fed)
