-- In a quiet run no session meets a stop, and no reply tells of one.
use Rattle.std.proofs.Common.{◌≡◌, ℕ, Bool, true, false, nat_lt, inl, inr, List, [], ◌∷◌, map, length, take, Option, Some, None, if◌then◌else◌, refl, sym, ap, ◌∙◌, subst}
use Rattle.std.specs.List.{list_any}
use Rattle.std.proofs.lemmas.List.Elements.{All-nil, All-cons}
use Rattle.rdf_types.specs.declared.layout.Layout.{Layout}
use Rattle.rdf_types.specs.declared.records.Node.TheVariants.{A}
use Rattle.rdf_types.specs.declared.records.RecKey.{RecKey}
use Rattle.rdf_model.specs.Contents.{nothing}
use Rattle.rdf_model.specs.Trail.{raw}
use Rattle.plan_lang.specs.declared.lines.Line.{Line}
use Rattle.plan_lang.specs.declared.lines.Line.TheVariants as line
use Rattle.rdf_core.specs.MoveLaws.{apply_session}
use Rattle.rdf_core.specs.declared.events.Standing.{Standing}
use Rattle.rdf_core.specs.declared.events.Standing.TheVariants.{Up, Down, Lost}
use Rattle.rdf_core.specs.declared.replies.NoWhy.{NoWhy}
use Rattle.rdf_core.specs.declared.replies.Reply.{Reply}
use Rattle.rdf_core.specs.declared.replies.Reply.TheVariants.{Number, Rows, Sent, NoneSent, NodeDown, Stopped, No}
use Rattle.rdf_core.specs.Effects.{count_u32}
use Rattle.rdf_core.specs.Layouts.{point_of, points_at}
use Rattle.rdf_core.specs.Primary.{Primary, got, primary_status, primary_says}
use Rattle.rdf_core.specs.Sender.{Sender, send_reply, send_end}
use Rattle.rdf_core.specs.Backup.{Backup, with_up, listed_at, read_reply, backup_status, says_rows}
use Rattle.rdf_core.specs.Sessions.{Session, Closed, Refused, Open, Opened, opened, met_stop, with_seen}
use Rattle.by_node.specs.Each.{at}
use Rattle.rdf_core.specs.State.{State, with_backup, with_session, blank}
use Rattle.rdf_core.specs.Rule.{Says}
use Rattle.rdf_core.specs.Lines.{refusal, kept, after, says, after_read, after_end, points_of, with_points, read_says, answer_of_end}
use Rattle.rdf_core.specs.Step.{after_apply}
use Rattle.rdf_core.specs.PartLaws.{refused_or_done}
use Rattle.rdf_core.specs.SessionLaws.{none_halted, none_met}
use Rattle.quiet_runs.specs.Quiet.{QuietStep, Rise, QuietFrom, QuietRun}
use Rattle.quiet_runs.specs.Told.{names_stop, NoneNamesStop}

-- no disk of the open session's backup has stopped
abbrev pub HasMetNone : Session → Type 0
HasMetNone Closed = Unit {0}
HasMetNone (Refused of why) = Unit {0}
HasMetNone (Open o) = met_stop o ≡ false

-- a read and the end of a session that met no stop

pub read_open : (layout : Layout) (s : State) (key : RecKey) (o : Opened) → met_stop o ≡ false →
    after_read layout s key (Open o) ≡ with_session s (Open (with_seen o key.vol (point_of (points_of layout s o) key.vol)))
read_open layout s key o e =
    ap (λ m. if m then with_backup s o.node (with_up (at s.backups o.node) false) else with_session s (Open (with_seen o key.vol (point_of (points_of layout s o) key.vol)))) (none_halted o e key.vol)

pub end_open : (layout : Layout) (s : State) (o : Opened) → met_stop o ≡ false →
    after_end layout s (Open o) ≡ with_session (with_backup s o.node (with_points (at s.backups o.node) (points_at layout (at s.backups o.node).received))) Closed
end_open layout s o e =
    ap (λ m. if m then with_session (with_backup s o.node (with_up (at s.backups o.node) false)) Closed else with_session (with_backup s o.node (with_points (at s.backups o.node) (points_at layout (at s.backups o.node).received))) Closed) e

-- sessions

read_met : (layout : Layout) (s : State) (key : RecKey) (session : Session) → s.session ≡ session → HasMetNone session → HasMetNone (after_read layout s key session).session
read_met layout s key Closed e met = subst HasMetNone (sym e) met
read_met layout s key (Refused of why) e met = subst HasMetNone (sym e) met
read_met layout s key (Open o) e met = subst (λ (x : State). HasMetNone x.session) (sym (read_open layout s key o met)) met

end_met : (layout : Layout) (s : State) (session : Session) → s.session ≡ session → HasMetNone session → HasMetNone (after_end layout s session).session
end_met layout s Closed e met = subst HasMetNone (sym e) met
end_met layout s (Refused of why) e met = subst HasMetNone (sym e) met
end_met layout s (Open o) e met = subst (λ (x : State). HasMetNone x.session) (sym (end_open layout s o met)) tt

after_met : (layout : Layout) (points : List ℕ) (s : State) (l : Line) → HasMetNone s.session → HasMetNone (after layout points s l).session
after_met layout points s (line.Session node) met = none_met (points_of layout s (opened node []))
after_met layout points s (line.Read node key) met = read_met layout s key s.session refl met
after_met layout points s line.End met = end_met layout s s.session refl met
after_met layout points s (line.Cut A) met = met
after_met layout points s (line.Cut node) met = met
after_met layout points s (line.Restart A) met = met
after_met layout points s (line.Restart node) met = met
after_met layout points s _ met = met

kept_met : (s : State) (l : Line) (why : NoWhy) → HasMetNone s.session → HasMetNone (kept s l why).session
kept_met s (line.Session node) why met = tt
kept_met s line.End why met = tt
kept_met s _ why met = met

pub step_met : (layout : Layout) (old : State) (l : Line) (reply : Reply) (new : State) → QuietStep layout old l reply new → HasMetNone old.session → HasMetNone new.session
step_met layout old l reply new step met =
    elim (refused_or_done (refusal layout old l) (kept old l) (after layout step.points old l) (says layout step.points old l) reply new step.done) [
      | inl ref ↦ subst (λ (s : State). HasMetNone s.session) (sym ref.2) (kept_met old l ref.0 met)
      | inr did ↦ subst (λ (s : State). HasMetNone s.session) (sym did.2) (after_met layout step.points old l met)
    ]

pub rises_met : (layout : Layout) (rises : List (ℕ × ℕ)) (old new : State) → Rise layout old rises new → HasMetNone old.session → HasMetNone new.session
rises_met layout [] old new m met = subst (λ (s : State). HasMetNone s.session) (sym m) met
rises_met layout (r ∷ rises) old new m met =
    rises_met layout rises (after_apply old old.session r.0 r.1) new m.1 (subst HasMetNone (sym (apply_session old old.session r.0 r.1)) met)

-- replies

as_said : (x reply : Reply) → names_stop x ≡ false → reply ≡ x → names_stop reply ≡ false
as_said x reply e h = subst (λ (r : Reply). names_stop r ≡ false) (sym h) e

got_names : (value : Option (List ℕ)) → names_stop (got value) ≡ false
got_names None = refl
got_names (Some value) = refl

read_names : (at : ℕ) (value : Option (List ℕ)) → names_stop (read_reply at value) ≡ false
read_names at None = refl
read_names at (Some value) = refl

send_names : (len most : ℕ) (x : Sender) → names_stop (send_reply len most x) ≡ false
send_names len most x = elim (nat_lt x.next len) as (λ m. names_stop (if m then Sent (count_u32 (length x.sent)) x.next (send_end len most x) else NoneSent) ≡ false) [ true ↦ refl | false ↦ refl ]

standing_names : (standing : Standing) (a : Primary) → names_stop (primary_status standing a) ≡ false
standing_names Up a = refl
standing_names Down a = refl
standing_names Lost a = refl

status_names : (up : Bool) (reply : Reply) → names_stop reply ≡ false → names_stop (if up then reply else NodeDown) ≡ false
status_names true reply e = e
status_names false reply e = refl

primary_names : (a : Primary) (l : Line) (reply : Reply) → primary_says a l reply → names_stop reply ≡ false
primary_names a (line.Begin t) reply h = as_said _ reply refl h
primary_names a (line.Insert t k value) reply h = as_said _ reply refl h
primary_names a (line.Update t k value) reply h = as_said _ reply refl h
primary_names a (line.Delete t k) reply h = as_said _ reply refl h
primary_names a (line.Get t k) reply h = as_said (got (raw nothing a.trail k)) reply (got_names (raw nothing a.trail k)) h
primary_names a (line.Commit t) reply h = as_said _ reply refl h
primary_names a (line.Abort t) reply h = as_said _ reply refl h
primary_names a line.Lose reply h = as_said _ reply refl h
primary_names a (line.List node vol) reply h = as_said (Rows (length a.trail) h.0) reply refl h.1
primary_names a (line.Status node) reply h = as_said (primary_status a.standing a) reply (standing_names a.standing a) h
primary_names a (line.Fuse node disk calls tear) reply h = as_said _ reply refl h
primary_names a (line.Cut node) reply h = as_said _ reply refl h
primary_names a (line.Restart node) reply h = as_said _ reply refl h
primary_names a _ reply h = absurd h

read_tells : (layout : Layout) (s : State) (key : RecKey) (session : Session) (reply : Reply) → HasMetNone session → read_says layout s key session reply → names_stop reply ≡ false
read_tells layout s key Closed reply met h = absurd h
read_tells layout s key (Refused of why) reply met h = absurd h
read_tells layout s key (Open o) reply met h =
    let p : ℕ = point_of (points_of layout s o) key.vol in
    let answer : Reply = read_reply p (raw nothing (take p s.primary.trail) key) in
    as_said answer reply (read_names p (raw nothing (take p s.primary.trail) key)) (h ∙ ap (λ m. if m then Stopped o.node else answer) (none_halted o met key.vol))

end_tells : (s : State) (session : Session) (reply : Reply) → HasMetNone session → Says (answer_of_end s session) reply → names_stop reply ≡ false
end_tells s Closed reply met h = absurd h
end_tells s (Refused of why) reply met h = absurd h
end_tells s (Open o) reply met h = as_said (Number (at s.backups o.node).received) reply refl (h ∙ ap (λ m. if m then Stopped o.node else Number (at s.backups o.node).received) met)

rows_tell : (layout : Layout) (s : State) (b : Backup) (vol : ℕ) (reply : Reply) → says_rows layout s.primary.trail b vol reply → names_stop reply ≡ false
rows_tell layout s b vol reply h = as_said (Rows (listed_at b.volumes vol) h.0) reply refl h.1

says_none : (layout : Layout) (points : List ℕ) (s : State) (l : Line) (reply : Reply) → HasMetNone s.session → says layout points s l reply → names_stop reply ≡ false
says_none layout points s (line.Send node most) reply met h = as_said (send_reply (length s.primary.trail) most (at s.senders node)) reply (send_names (length s.primary.trail) most (at s.senders node)) h
says_none layout points s (line.Rewind node) reply met h = as_said _ reply refl h
says_none layout points s (line.Ack node) reply met h = as_said _ reply refl h
says_none layout points s (line.Deliver node k) reply met h = as_said _ reply refl h
says_none layout points s (line.Session node) reply met h = as_said _ reply refl h
says_none layout points s (line.Read node key) reply met h = read_tells layout s key s.session reply met h
says_none layout points s (line.Purge node) reply met h = as_said _ reply refl h
says_none layout points s line.End reply met h = end_tells s s.session reply met h
says_none layout points s (line.Takeover node) reply met h = as_said _ reply refl h
says_none layout points s (line.CopyAudit node from) reply met h = as_said _ reply refl h
says_none layout points s (line.List A vol) reply met h = primary_names s.primary (line.List A vol) reply h
says_none layout points s (line.List node vol) reply met h = rows_tell layout s (at s.backups node) vol reply h
says_none layout points s (line.Info node) reply met h = as_said _ reply refl h
says_none layout points s (line.Status A) reply met h = primary_names s.primary (line.Status A) reply h
says_none layout points s (line.Status node) reply met h = as_said (backup_status layout s.primary.trail (at s.backups node)) reply (status_names (at s.backups node).up _ refl) h
says_none layout points s (line.Fuse A disk calls tear) reply met h = as_said _ reply refl h
says_none layout points s (line.Fuse node disk calls tear) reply met h = as_said _ reply refl h
says_none layout points s (line.Cut A) reply met h = as_said _ reply refl h
says_none layout points s (line.Cut node) reply met h = as_said _ reply refl h
says_none layout points s (line.Restart A) reply met h = as_said _ reply refl h
says_none layout points s (line.Restart node) reply met h = as_said _ reply refl h
says_none layout points s l reply met h = primary_names s.primary l reply h

step_names : (layout : Layout) (old : State) (l : Line) (reply : Reply) (new : State) → QuietStep layout old l reply new → HasMetNone old.session → names_stop reply ≡ false
step_names layout old l reply new step met =
    elim (refused_or_done (refusal layout old l) (kept old l) (after layout step.points old l) (says layout step.points old l) reply new step.done) [
      | inl ref ↦ as_said (No ref.0) reply refl ref.1
      | inr did ↦ says_none layout step.points old l reply met did.1
    ]

pub none_names : (layout : Layout) (lines : List Line) (replies : List Reply) (old last : State) → QuietFrom layout old lines replies last → HasMetNone old.session → NoneNamesStop replies
none_names layout [] [] old last r met = All-nil (λ reply. names_stop reply ≡ false)
none_names layout [] (reply ∷ replies) old last r met = absurd r
none_names layout (l ∷ lines) [] old last r met = absurd r
none_names layout (l ∷ lines) (reply ∷ replies) old last r met =
    let mid : HasMetNone r.0.session = rises_met layout r.2.0 old r.0 r.2.1 met in
    All-cons (λ x. names_stop x ≡ false) reply replies (step_names layout r.0 l reply r.1 r.3 mid) (none_names layout lines replies r.1 last r.4 (step_met layout r.0 l reply r.1 r.3 mid))

pub no_reply_names : (layout : Layout) (lines : List Line) (replies : List Reply) (last : State) → QuietRun layout lines replies last → NoneNamesStop replies
no_reply_names layout lines replies last r = none_names layout lines replies (blank layout) last r tt
