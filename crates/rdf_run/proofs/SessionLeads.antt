-- The session of the machine along the lines of a plan.
use Rattle.std.proofs.Common.{◌≡◌, ℕ, zero, suc, true, false, inl, inr, List, [], ◌∷◌, map, get_or, None, if◌then◌else◌, refl, sym, subst}
use Rattle.rdf_types.specs.declared.layout.Layout.{Layout}
use Rattle.rdf_types.specs.declared.records.Node.{Node}
use Rattle.rdf_types.specs.declared.records.Node.TheVariants.{A, B, C}
use Rattle.rdf_types.specs.declared.records.RecKey.{RecKey}
use Rattle.plan_lang.specs.declared.lines.Line.{Line}
use Rattle.plan_lang.specs.declared.lines.Line.TheVariants as line
use Rattle.plan_lang.specs.Sessions as lang
use Rattle.rdf_core.specs.declared.replies.NoWhy.{NoWhy}
use Rattle.rdf_core.specs.declared.replies.Reply.{Reply}
use Rattle.rdf_core.specs.Happens.{Does, points_for}
use Rattle.rdf_core.specs.Layouts.{point_of, points_at}
use Rattle.rdf_core.specs.Lines.{refusal, kept, after, says, after_read, after_end, points_of, session_refusal, with_points}
use Rattle.rdf_core.specs.Backup.{with_up}
use Rattle.rdf_core.specs.Sessions.{Session, Closed, Refused, Open, has_halted, met_stop, opened, with_seen}
use Rattle.by_node.specs.Each.{at}
use Rattle.rdf_core.specs.State.{State, with_backup, with_session}
use Rattle.rdf_core.specs.PartLaws.{refused_or_done}
use Rattle.rdf_core.specs.Allowed.{open_node}

-- no disk of the session stopped
abbrev pub IsFree : Session → Type 0
IsFree Closed = Unit {0}
IsFree (Refused of why) = Unit {0}
IsFree (Open o) = (v : ℕ) → has_halted o v ≡ false

-- what a line makes of the session

-- the session's node is the one that the plan says, and no disk of it stopped
pub record Leads (old : Session) (l : Line) (new : Session) : Type 0 where
  pub node : open_node new ≡ lang.session_after (open_node old) l
  pub free : IsFree old → IsFree new

none_halted : (points : List ℕ) (v : ℕ) → get_or (map (λ _. false) points) v false ≡ false
none_halted [] v = refl
none_halted (p ∷ points) zero = refl
none_halted (p ∷ points) (suc v) = none_halted points v

stays : (old : Session) (l : Line) → open_node old ≡ lang.session_after (open_node old) l → Leads old l old
stays old l e = record { node = e; free = λ h. h }

opens : (old : Session) (node : Node) (points : List ℕ) → Leads old (line.Session node) (Open (opened node points))
opens old node points = record { node = refl; free = λ h v. none_halted points v }

refuses : (old : Session) (node : Node) (why : NoWhy) → Leads old (line.Session node) (Refused node why)
refuses old node why = record { node = refl; free = λ h. tt }

closes : (old : Session) → Leads old line.End Closed
closes old = record { node = refl; free = λ h. tt }

kept_leads : (s : State) (l : Line) (why : NoWhy) → Leads s.session l (kept s l why).session
kept_leads s (line.Session node) why = refuses s.session node why
kept_leads s line.End why = closes s.session
kept_leads s l why = stays s.session l refl

read_leads : (layout : Layout) (s : State) (node : Node) (key : RecKey) (session : Session) → s.session ≡ session → Leads session (line.Read node key) (after_read layout s key session).session
read_leads layout s node key Closed e = subst (λ (x : Session). Leads Closed (line.Read node key) x) (sym e) (stays Closed (line.Read node key) refl)
read_leads layout s node key (Refused of why) e = subst (λ (x : Session). Leads (Refused of why) (line.Read node key) x) (sym e) (stays (Refused of why) (line.Read node key) refl)
read_leads layout s node key (Open o) e =
    elim (has_halted o key.vol) as (λ m. let x : State = if m then with_backup s o.node (with_up (at s.backups o.node) false) else with_session s (Open (with_seen o key.vol (point_of (points_of layout s o) key.vol))) in Leads (Open o) (line.Read node key) x.session) [
      | true ↦ subst (λ (x : Session). Leads (Open o) (line.Read node key) x) (sym e) (stays (Open o) (line.Read node key) refl)
      | false ↦ record { node = refl; free = λ h. h }
    ]

end_leads : (layout : Layout) (s : State) (session : Session) → s.session ≡ session → session_refusal session ≡ None → Leads session line.End (after_end layout s session).session
end_leads layout s Closed e h = subst (λ (x : Session). Leads Closed line.End x) (sym e) (stays Closed line.End refl)
end_leads layout s (Refused of why) e h = absurd cc
end_leads layout s (Open o) e h =
    elim (met_stop o) as (λ m. let x : State = if m then with_session (with_backup s o.node (with_up (at s.backups o.node) false)) Closed else with_session (with_backup s o.node (with_points (at s.backups o.node) (points_at layout (at s.backups o.node).received))) Closed in Leads (Open o) line.End x.session) [
      | true ↦ closes (Open o)
      | false ↦ closes (Open o)
    ]

after_leads : (layout : Layout) (points : List ℕ) (s : State) (l : Line) → refusal layout s l ≡ None → Leads s.session l (after layout points s l).session
after_leads layout points s (line.Session node) e = opens s.session node _
after_leads layout points s (line.Read node key) e = read_leads layout s node key s.session refl
after_leads layout points s line.End e = end_leads layout s s.session refl e
after_leads layout points s (line.Cut A) e = stays s.session (line.Cut A) refl
after_leads layout points s (line.Cut B) e = stays s.session (line.Cut B) refl
after_leads layout points s (line.Cut C) e = stays s.session (line.Cut C) refl
after_leads layout points s (line.Restart A) e = stays s.session (line.Restart A) refl
after_leads layout points s (line.Restart B) e = stays s.session (line.Restart B) refl
after_leads layout points s (line.Restart C) e = stays s.session (line.Restart C) refl
after_leads layout points s l e = stays s.session l refl

-- a line that was done or refused
pub does_leads : (layout : Layout) (s : State) (l : Line) (reply : Reply) (new : State) → Does layout s l reply new → Leads s.session l new.session
does_leads layout s l reply new d =
    elim (refused_or_done (refusal layout s l) (kept s l) (after layout (points_for layout s l) s l) (says layout (points_for layout s l) s l) reply new d) [
      | inl ref ↦ subst (λ (x : State). Leads s.session l x.session) (sym ref.2) (kept_leads s l ref.0)
      | inr did ↦ subst (λ (x : State). Leads s.session l x.session) (sym did.2) (after_leads layout (points_for layout s l) s l did.0)
    ]
