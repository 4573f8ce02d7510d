-- A line on the primary or the senders that was answered, from what is known of the node that it is on.
use Rattle.std.proofs.Common.{◌≡◌, ◌≢◌, ◌⊎◌, inl, ℕ, ◌+◌, true, false, [], Some, refl, sym, ◌∙◌}
use Rattle.rdf_types.specs.declared.layout.Layout.{Layout}
use Rattle.rdf_types.specs.declared.records.Node.{Node}
use Rattle.rdf_disk.specs.Files.{Disk}
use Rattle.rdf_disk.specs.declared.disk.Disk.{Ghosts}
use Rattle.plan_lang.specs.declared.lines.Line.{Line}
use Rattle.rdf_core.specs.declared.replies.Reply.{Reply}
use Rattle.rdf_core.specs.declared.replies.Reply.TheVariants.{Stopped}
use Rattle.rdf_core.specs.Effects.{count_u64}
use Rattle.plan_lang.specs.LineText.{same_node}
use Rattle.rdf_core.specs.State.{State}
use Rattle.rdf_core.specs.Step.{Step, disks_of}
use Rattle.rdf_system.specs.declared.session.SessionState.{SessionState}
use Rattle.rdf_system.specs.declared.system.System.{System}
use Rattle.rdf_system.specs.Sessions.{used_by}
use Rattle.rdf_system.specs.States.{IsAtState, DisksStandFor}
use Rattle.rdf_system.specs.Lines.{stops_in, Follows}
use Rattle.rdf_system.proofs.Leaving.{Left, leaving, are_left_stops, keeps_all}
use Rattle.rdf_system.proofs.NearLines.{told}
use Rattle.rdf_system.proofs.Telling.{is_near, count_stops, used_near}
use Rattle.rdf_system.proofs.Falling.{left_stands}

module _ {D : Type 0} {d : Ghosts D} (files : D → Disk) (layout : Layout) (s : State) (session : SessionState) (l : Line) (rise : ℕ) (reply : Reply) (next : State) (new : System D d) where
  pub follows : (named : Node) → is_near l ≡ true → ((node : Node) → disks_of l ≡ Some node → node ≡ named) →
      ((node : Node) → same_node named node ≡ false → stops_in next node ≡ stops_in s node) →
      ((reply ≢ Stopped named) × (stops_in next named ≡ stops_in s named)) ⊎ ((reply ≡ Stopped named) × (stops_in next named ≡ count_u64 (stops_in s named + rise))) →
      Step layout s l reply next → IsAtState files layout next new → DisksStandFor files layout next new → Follows files layout s (used_by session l) l rise reply new
  follows named near only others own step is stands = record {
    mid = s;
    drifts = ([], refl);
    next = next;
    step = step;
    at = is;
    stops = count_stops named reply rise s next (used_by session l) (λ node e. only node (sym (used_near session l near) ∙ e)) (λ e. used_near session l near ∙ told layout s l reply next near step.1 named e) others own;
    told = λ node e. inl (used_near session l near ∙ told layout s l reply next near step.1 node e);
    leaves = λ ne. let left : Left layout s l next = leaving layout s l reply next near ne step.1 in record {
      mid = s;
      drifts = ([], refl);
      left = left.left;
      leaves = left.leaves;
      stands = left_stands files layout next left.left new left.are stands;
      stops = keeps_all next left.left (are_left_stops next left.left left.are);
    };
  }
