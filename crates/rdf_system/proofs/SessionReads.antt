-- A read in an open session as what the system does.
use Rattle.std.proofs.Common.{◌≡◌, inl, inr, ℕ, ◌+◌, ◌<◌, Bool, true, false, not, ◌||◌, nat_lt, if◌then◌else◌, List, length, take, Option, Some, None, Result, IsTrue, refl, sym, ap, ◌∙◌, subst}
use Rattle.std.specs.List.{list_any}
use Rattle.std.proofs.lemmas.List.{length-set}
use Rattle.rdf_types.specs.declared.layout.Layout.{Layout}
use Rattle.rdf_types.specs.declared.records.Node.{Node}
use Rattle.rdf_types.specs.declared.records.RecKey.{RecKey}
use Rattle.rdf_types.specs.declared.records.Record.{Record}
use Rattle.rdf_model.specs.Contents.{nothing}
use Rattle.rdf_model.specs.Trail.{raw}
use Rattle.rdf_disk.specs.Files.{Disk}
use Rattle.rdf_disk.specs.Counts.{Counts}
use Rattle.rdf_disk.specs.declared.disk.Disk.{Ghosts}
use Rattle.plan_lang.specs.declared.lines.Line.{Line}
use Rattle.plan_lang.specs.declared.lines.Line.TheVariants as line
use Rattle.node_faults.specs.declared.NodeFault.{NodeFault}
use Rattle.rdf_core.specs.StopLaws.{stopped_is}
use Rattle.rdf_core.specs.declared.replies.NoWhy.TheVariants as no
use Rattle.rdf_core.specs.declared.replies.Reply.{Reply}
use Rattle.rdf_core.specs.declared.replies.Reply.TheVariants.{No, Stopped}
use Rattle.plan_lang.specs.Sessions.{fits_session}
use Rattle.rdf_core.specs.Allowed.{is_backup, allowed}
use Rattle.rdf_core.specs.Run.{Drifts}
use Rattle.rdf_core.specs.Backup.{Backup, is_running, points_in, read_reply, backup_fallen}
use Rattle.rdf_core.specs.Effects.{count_u64}
use Rattle.rdf_core.specs.Layouts.{protects, point_of}
use Rattle.rdf_core.specs.Rising.{HasRisen, VolumesRise, read_answer}
use Rattle.rdf_core.specs.Sessions.{Session, Closed, Refused, Open, Opened, met_stop, with_halt, is_backup_node}
use Rattle.by_node.specs.Each.{Each, at, with_at, at-with_at}
use Rattle.rdf_core.specs.State.{State, with_backup, with_session}
use Rattle.rdf_core.specs.Step.{StepEnds, halted_backup}
use Rattle.backup_node.specs.declared.node.BackupNode.{BackupNode}
use Rattle.backup_node.specs.Rising.{ReadAt, FellRisen}
use Rattle.rdf_system.specs.declared.session.SessionState.{SessionState}
use Rattle.rdf_system.specs.declared.session.SessionState.TheVariants as system
use Rattle.rdf_system.proofs.Telling.{no_stop_is}
use Rattle.rdf_system.specs.declared.site.Site.{Site}
use Rattle.rdf_system.specs.declared.system.System.{System}
use Rattle.rdf_system.specs.Sessions.{node_of, IsOpen, IsSession}
use Rattle.rdf_system.specs.AllowedLaws.{line_allowed}
use Rattle.rdf_system.specs.States.{MayServe, IsAtState}
use Rattle.rdf_system.specs.NodeLines.{SiteDoes}
use Rattle.rdf_system.specs.Lines.{Before, Follows}
use Rattle.rdf_system.specs.Noting.{noted}
use Rattle.rdf_system.proofs.Falling.{site_turned}
use Rattle.rdf_system.proofs.OnSite.{Asked, site_at, with_site}
use Rattle.rdf_system.proofs.PlaceLaws.{backup_node_is}
use Rattle.rdf_system.proofs.SiteStates.{Beside, Turned, rests, now_stands, leave_at, follow_at}
use Rattle.rdf_core.specs.SessionLaws.{same_self}
use Rattle.rdf_system.proofs.Reading.{Halts, Joins, ReadOn, below_flags, drift_halted, drift_risen, halt_met, read_halts, reads_on}

-- volumes that have risen

pub risen_up : (layout : Layout) (b new : Backup) → HasRisen layout b new → new.up ≡ b.up
risen_up layout b new h = ap (λ (x : Backup). x.up) h.is

pub risen_stops : (layout : Layout) (b new : Backup) → HasRisen layout b new → new.stops ≡ b.stops
risen_stops layout b new h = ap (λ (x : Backup). x.stops) h.is

pub risen_runs : (layout : Layout) (b new : Backup) → HasRisen layout b new → is_running new.volumes ≡ true
risen_runs layout b new h = ap (λ (x : Backup). is_running x.volumes) h.is

-- what a read answers is no stop
read_no_stop : (layout : Layout) (trail : List Record) (b : Backup) (key : RecKey) (reply : Reply) → reply ≡ read_answer layout trail b key → (node : Node) → reply ≡ Stopped node → ⊥
read_no_stop layout trail b key reply says node e = by_volume (nat_lt key.vol layout.volumes) (raw nothing (take (point_of (points_in layout trail b.volumes) key.vol) trail) key) (sym says ∙ e)
  where
    of_value : (p : ℕ) (o : Option (List ℕ)) → read_reply p o ≡ Stopped node → ⊥
    of_value p None f = cc
    of_value p (Some value) f = cc

    by_volume : (v : Bool) (o : Option (List ℕ)) → (if v then read_reply (point_of (points_in layout trail b.volumes) key.vol) o else No no.Volume) ≡ Stopped node → ⊥
    by_volume true o f = of_value (point_of (points_in layout trail b.volumes) key.vol) o f
    by_volume false o f = cc

-- the session behind the line is open
pub open_now : (layout : Layout) (backups : Each Backup) (o : Opened) (name : Node) (b : Backup) (stopped : Bool) → o.node ≡ name → is_backup_node name ≡ true → length o.halted ≡ length layout.protect → met_stop o ≡ stopped → b.up ≡ not stopped → is_running b.volumes ≡ true →
    IsOpen layout (with_at backups name b) o name stopped
open_now layout backups o name b stopped node placed many met up runs = record {
  node_is = node;
  placed = placed;
  many = many;
  met = met;
  up = ap (λ (x : Backup). x.up) (at-with_at backups name b) ∙ up;
  runs = ap (λ (x : Backup). is_running x.volumes) (at-with_at backups name b) ∙ runs;
}

same_met : (o other : Opened) → other.halted ≡ o.halted → other.cut ≡ o.cut → met_stop other ≡ met_stop o
same_met o other h c = ap (λ (x : Bool). x || list_any (λ (y : Bool). y) other.halted) c ∙ ap (λ (x : List Bool). o.cut || list_any (λ (y : Bool). y) x) h

-- a session of the backup that is open, as the machine has it
pub record OpenIn (layout : Layout) (s : State) (name : Node) (stopped : Bool) : Type 0 where
  pub session : Opened
  pub is : s.session ≡ Open session
  pub open_is : IsOpen layout s.backups session name stopped

pub open_in : (layout : Layout) (s : State) (name : Node) (stopped : Bool) (ss : SessionState) → ss ≡ system.Open name stopped → IsSession layout s.backups s.session ss → OpenIn layout s name stopped
open_in layout s name stopped ss e h = go s.session refl (subst (λ (x : SessionState). IsSession layout s.backups s.session x) e h)
  where
    go : (session : Session) → s.session ≡ session → IsSession layout s.backups session (system.Open name stopped) → OpenIn layout s name stopped
    go Closed f k = absurd k
    go (Refused of why) f k = absurd k
    go (Open o) f k = record { session = o; is = f; open_is = k }

-- the laws of volumes that rise
pub record Laws : Type 0 where
  pub rise : VolumesRise
  pub stop : Halts
  pub join : Joins

-- a read

module _ {D : Type 0} {d : Ghosts D} {tells : Type 0} {files : D → Disk} {counts : D → Counts} {old : System D d} (name : Node) (site : Site D d) (key : RecKey) (serves : MayServe tells files counts old) (placed : is_backup old.layout name ≡ true)
    (open_is : old.session ≡ system.Open name false) (beside : tells → Beside files old) (laws : Laws) where
  abbrev l : Line
  l = line.Read name key

  pub asked_read : {P : BackupNode D d → BackupNode D d → Type 0} (result : Result Reply NodeFault) → SiteDoes tells files counts old.layout P l result (site_at old name) site → Asked tells files counts old name P l result site
  asked_read result does = record {
    serves = serves;
    placed = placed;
    only = λ node e. some_is node e;
    ended = λ e. absurd (never e);
    own = tt;
    on = refl;
    does = does;
  }
    where
      some_is : (node : Node) → Some name ≡ Some node → node ≡ name
      some_is node e = cc

      never : l ≡ line.End → ⊥
      never e = cc

  module _ (turned : Turned tells files old name site) (t : tells) (layout : Layout) (s : State) (is : IsAtState files layout s old) where
    abbrev b : Backup
    b = at s.backups name

    pub opened_is : OpenIn layout s name false
    opened_is = open_in layout s name false old.session open_is is.session

    abbrev o : Opened
    o = opened_is.session

    abbrev k : IsOpen layout s.backups o name false
    k = opened_is.open_is

    backup_is : is_backup_node name ≡ true
    backup_is = backup_node_is old.layout name placed

    only_here : (node : Node) → Some name ≡ Some node → node ≡ name
    only_here node e = cc

    may : (mid : State) → Drifts layout s mid → allowed layout mid.session l ≡ true
    may mid drifts = line_allowed layout s mid old.session l (subst (λ (x : Layout). is_backup x name ≡ true) is.laid placed)
        (subst (λ (x : SessionState). fits_session (node_of x) l ≡ true) (sym open_is) (same_self name)) is.session drifts

    -- a row was read, or there is no such volume
    pub read_well : (reply : Reply) (rise : ℕ) → ReadAt files layout s.primary.trail key b reply turned.now → Follows files layout s (Some name) l rise reply (with_site old name site (noted old.session reply))
    read_well reply rise r =
        let on : ReadOn layout s o r.next name key reply = reads_on layout s o opened_is.is name k.node_is backup_is k.met r.next key reply (risen_up layout b r.next r.rise_is ∙ k.up) r.says in
        let m : State = with_session (with_backup s name r.next) (Open o) in
        let drift : Drifts layout s m = drift_risen layout s o opened_is.is name k.node_is backup_is k.met laws.rise r.next r.rise_is in
        follow_at turned layout s (rests name is) (noted old.session reply) (Some name) only_here rise reply m drift r.next (Open on.behind) (may m drift, on.step) r.at
        (session_is on) (inl ((λ e. read_no_stop layout s.primary.trail r.next key reply r.says name e), risen_stops layout b r.next r.rise_is)) (λ node e. absurd (read_no_stop layout s.primary.trail r.next key reply r.says node e))
        (λ ne. leave_at turned layout s (rests name is) (noted old.session reply) (beside t) r.next r.next (Open on.behind) (Open o) m drift (Before refl) (now_stands turned layout s (rests name is) t r.next r.at) (λ n f. f))
      where
        noted_is : noted old.session reply ≡ system.Open name false
        noted_is = ap (λ (x : SessionState). noted x reply) open_is ∙ ap (λ (x : Bool). system.Open name x) (no_stop_is name reply (read_no_stop layout s.primary.trail r.next key reply r.says))

        session_is : (on : ReadOn layout s o r.next name key reply) → IsSession layout (with_at s.backups name r.next) (Open on.behind) (noted old.session reply)
        session_is on = subst (λ (x : SessionState). IsSession layout (with_at s.backups name r.next) (Open on.behind) x) (sym noted_is)
            (open_now layout s.backups on.behind name r.next false (on.node_same ∙ k.node_is) backup_is (ap (λ (x : List Bool). length x) on.halted_same ∙ k.many) (same_met o on.behind on.halted_same on.cut_same ∙ k.met)
            (risen_up layout b r.next r.rise_is ∙ k.up) (risen_runs layout b r.next r.rise_is))

    -- the disk of its volume stopped
    pub read_cut : (reply : Reply) (rise : ℕ) → 0 < rise → reply ≡ Stopped name → IsTrue (protects layout key.vol) → FellRisen files layout s.primary.trail b rise turned.now → Follows files layout s (Some name) l rise reply (with_site old name site (noted old.session reply))
    read_cut reply rise some e p f =
        let m : State = with_session (with_backup s name (halted_backup rise f.next)) (Open (with_halt o key.vol)) in
        let drift : Drifts layout s m = drift_halted layout s o opened_is.is name k.node_is backup_is k.met laws.rise laws.stop laws.join f.next rise key.vol p some f.rise_is in
        follow_at turned layout s (rests name is) (noted old.session reply) (Some name) only_here rise reply m drift (backup_fallen rise f.next) (Open (with_halt o key.vol))
        (may m drift, subst (λ (r : Reply). StepEnds layout m l r (with_session (with_backup s name (backup_fallen rise f.next)) (Open (with_halt o key.vol)))) (sym e) (read_halts layout s o opened_is.is name k.node_is backup_is f.next rise key (risen_up layout b f.next f.rise_is ∙ k.up) p k.many)) f.at
        session_is (inr (e, ap (λ n. count_u64 (n + rise)) (risen_stops layout b f.next f.rise_is))) (λ node g. ap (λ (n : Node). Some n) (stopped_is name node (sym e ∙ g)))
        (λ ne. leave_at turned layout s (rests name is) (noted old.session reply) (beside t) (backup_fallen rise f.next) (halted_backup rise f.next) (Open (with_halt o key.vol)) (Open (with_halt o key.vol)) m drift (Before refl)
        (site_turned files layout s.primary.trail f.next.up (count_u64 (f.next.stops + rise)) (backup_fallen rise f.next) site (now_stands turned layout s (rests name is) t (backup_fallen rise f.next) f.at)) (λ n g. g))
      where
        noted_is : noted old.session reply ≡ system.Open name true
        noted_is = ap (λ (x : SessionState). noted x reply) open_is ∙ ap (λ (r : Reply). noted (system.Open name false) r) e ∙ ap (λ (x : Bool). system.Open name x) (same_self name)

        session_is : IsSession layout (with_at s.backups name (backup_fallen rise f.next)) (Open (with_halt o key.vol)) (noted old.session reply)
        session_is = subst (λ (x : SessionState). IsSession layout (with_at s.backups name (backup_fallen rise f.next)) (Open (with_halt o key.vol)) x) (sym noted_is)
            (open_now layout s.backups (with_halt o key.vol) name (backup_fallen rise f.next) true k.node_is backup_is (length-set o.halted key.vol true ∙ k.many)
            (halt_met o key.vol (subst (λ n. key.vol < n) (sym k.many) (below_flags layout key.vol p))) refl (risen_runs layout b f.next f.rise_is))
