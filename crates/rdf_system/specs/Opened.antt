-- A system of which one node lent its backup to an open session, and the system as the session shows it.
use Rattle.std.specs.Prelude.{◌≡◌, true, false, Some, None}
use Rattle.rdf_types.specs.declared.records.Node.{Node}
use Rattle.rdf_disk.specs.Files.{Disk}
use Rattle.rdf_disk.specs.Counts.{Counts}
use Rattle.rdf_disk.specs.declared.disk.Disk.{Ghosts}
use Rattle.plan_lang.specs.LineText.{same_node}
use Rattle.by_node.specs.Each.{at, with_at}
use Rattle.rdf_core.specs.Allowed.{is_backup}
use Rattle.rdf_core.specs.State.{State}
use Rattle.rdf_backup.specs.Sessions.{Open, IsFed, HasCome}
use Rattle.primary_node.specs.Nodes.{MayServe as PrimaryMayServe}
use Rattle.backup_node.specs.declared.node.BackupNode.{BackupNode}
use Rattle.backup_node.specs.Open.{in_open, Runs}
use Rattle.rdf_system.specs.declared.opened.OpenSystem.{OpenSystem}
use Rattle.rdf_system.specs.declared.session.SessionState.TheVariants as system
use Rattle.rdf_system.specs.declared.site.Site.{Site}
use Rattle.rdf_system.specs.declared.system.System.{System}
use Rattle.rdf_system.specs.NodeLines.{site_at, HasNode}
use Rattle.rdf_system.specs.States.{layout_of, MayServe}

-- what contracts see of it: the session, the node as it was when it lent its backup, and the system without this node
pub record OpenView (D : Type 0) (d : Ghosts D) : Type 0 where
  pub session : Open D d
  pub node : BackupNode D d
  pub system : System D d

abbrev pub view_of : {D : Type 0} {d : Ghosts D} → Open D d → OpenSystem D d → OpenView D d
view_of o x = record { session = o; node = x.lent.value; system = x.system }

-- a site with the node as the session shows it
abbrev pub site_in : {D : Type 0} {d : Ghosts D} → Open D d → BackupNode D d → Site D d → Site D d
site_in o n site = record site { node = Some (in_open o n) }

-- the system as the session shows it, which no memory holds
abbrev pub shown_in : {D : Type 0} {d : Ghosts D} → Open D d → BackupNode D d → System D d → System D d
shown_in o n sys = record sys { sites = with_at sys.sites n.name (site_in o n (at sys.sites n.name)) }

abbrev pub shown : {D : Type 0} {d : Ghosts D} → OpenView D d → System D d
shown x = shown_in x.session x.node x.system

-- while the node is lent: the primary may be used, that node is out of its site, and each other backup that the layout has is there
pub record MayLend {D : Type 0} {d : Ghosts D} (tells : Type 0) (files : D → Disk) (counts : D → Counts) (n : BackupNode D d) (sys : System D d) : Type 0 where
  pub primary : PrimaryMayServe tells files counts sys.primary
  pub away : (site_at sys n.name).node ≡ None
  pub others : (name : Node) → is_backup (layout_of sys) name ≡ true → same_node n.name name ≡ false → HasNode (λ other. Unit {0}) (site_at sys name)

-- The session is open on the node: what it shows may be used and runs, the system knows that session, in which no stop is noted, and the disks count no more than what is shown.
pub record IsOpenAt {D : Type 0} {d : Ghosts D} (tells : Type 0) (files : D → Disk) (counts : D → Counts) (x : OpenView D d) : Type 0 where
  pub serves : MayServe tells files counts (shown x)
  pub open_is : x.system.session ≡ system.Open x.node.name false
  pub placed : is_backup (layout_of x.system) x.node.name ≡ true
  pub runs : Runs (in_open x.session x.node)
  pub since : HasCome counts x.session.shown x.session

-- the updaters are fed with the trail of that state
abbrev pub IsFedAt : {D : Type 0} {d : Ghosts D} → State → OpenView D d → Type 0
IsFedAt s x = IsFed s.primary.trail x.session

-- the same session, whatever the ghosts of the disks that its type names
pub record IsSameOpen {D : Type 0} {d e : Ghosts D} (x : Open D d) (y : Open D e) : Type 0 where
  pub trails : y.shown.trails ≡ x.shown.trails
  pub volumes : y.shown.volumes ≡ x.shown.volumes
  pub txns : y.shown.txns ≡ x.shown.txns
  pub room : y.shown.room ≡ x.shown.room
  pub disk : y.disk ≡ x.disk
  pub entries : y.entries ≡ x.entries
  pub met : y.met ≡ x.met

-- A session may be begun on the node: the system knows one that is open on it, which was not refused and in which no stop is noted, and its backup runs.
pub record MayOpen {D : Type 0} {d : Ghosts D} (name : Node) (sys : System D d) : Type 0 where
  pub open_is : sys.session ≡ system.Open name false
  pub runs : HasNode Runs (site_at sys name)
