-- In a quiet run the replies tell which backups are up, and which have taken over.
use Rattle.std.proofs.Common.{◌≡◌, ℕ, Bool, true, false, ◌||◌, inl, inr, List, [], ◌∷◌, Option, refl, sym, ap, ◌∙◌, subst}
use Rattle.std.proofs.lemmas.Bool.{and_parts}
use Rattle.rdf_types.specs.declared.layout.Layout.{Layout}
use Rattle.rdf_types.specs.declared.records.Node.{Node}
use Rattle.rdf_types.specs.declared.records.Node.TheVariants.{A, B, C}
use Rattle.rdf_types.specs.declared.records.RecKey.{RecKey}
use Rattle.rdf_types.specs.declared.records.Record.{Record}
use Rattle.plan_lang.specs.declared.lines.Line.{Line}
use Rattle.plan_lang.specs.declared.lines.Line.TheVariants as line
use Rattle.rdf_core.specs.declared.replies.NoWhy.{NoWhy}
use Rattle.rdf_core.specs.declared.replies.Reply.{Reply}
use Rattle.rdf_core.specs.declared.replies.Reply.TheVariants.{No}
use Rattle.rdf_core.specs.Effects.{after_all}
use Rattle.rdf_core.specs.Layouts.{points_at}
use Rattle.rdf_core.specs.Backup.{Backup, Volumes, Running, Taking, Taken, is_taken, with_volumes, drops, floor_of, deliver_parts, purge_parts, takeover_parts, copy_parts, marks}
use Rattle.rdf_core.specs.Sessions.{Session, Closed, Refused, Open, is_backup_node}
use Rattle.plan_lang.specs.LineText.{same_node}
use Rattle.by_node.specs.Each.{at, at-with_at, with_at-keeps, at-every}
use Rattle.rdf_core.specs.State.{State, with_backup, with_session, blank, blank_backup}
use Rattle.rdf_core.specs.Lines.{refusal, kept, message, after, says, after_read, after_end, run_at, with_points}
use Rattle.rdf_core.specs.Step.{with_point, moved_backup, after_apply}
use Rattle.rdf_core.specs.Agreement.{is_ok, takes}
use Rattle.rdf_core.specs.AgreementLaws.{taken_over}
use Rattle.rdf_core.specs.PartLaws.{every_all, every_image, refused_or_done}
use Rattle.rdf_core.specs.SessionLaws.{node_same}
use Rattle.quiet_runs.specs.Quiet.{QuietStep, Rise, QuietFrom, QuietRun}
use Rattle.quiet_runs.specs.Told.{up_behind, up_behind_all, is_up_behind, has_taken_over}
use Rattle.quiet_runs.proofs.Counts.{deliver_keeps, copy_keeps}
use Rattle.quiet_runs.proofs.Stops.{HasMetNone, read_open, end_open, step_met, rises_met}

-- it stays up or down, and what it has taken over
pub record Stays (b x : Backup) : Type 0 where
  pub up : x.up ≡ b.up
  pub taken : is_taken b.volumes ≡ true → is_taken x.volumes ≡ true

stays_itself : (b : Backup) → Stays b b
stays_itself b = record { up = refl; taken = λ h. h }

abbrev pub AllStay : State → State → Type 0
AllStay old new = (node : Node) → Stays (at old.backups node) (at new.backups node)

all_stay : (s : State) → AllStay s s
all_stay s node = stays_itself (at s.backups node)

stay_with : (s : State) (node : Node) (x : Backup) → Stays (at s.backups node) x → AllStay s (with_backup s node x)
stay_with s node x h = with_at-keeps (λ of (b : Backup). Stays (at s.backups of) b) s.backups node x (all_stay s) h

-- lines on a backup

delivered : (layout : Layout) (b : Backup) (m : Option (ℕ × ℕ)) → Stays b (after_all b (deliver_parts layout m b))
delivered layout b m = every_all (Stays b) b (deliver_parts layout m b) (stays_itself b) (deliver_keeps (Stays b) (λ x h. record { up = h.up; taken = h.taken }) (λ x to h. record { up = h.up; taken = h.taken }) layout b m (stays_itself b))

copied : (layout : Layout) (b lead : Backup) → Stays b (after_all b (copy_parts layout b lead))
copied layout b lead = every_all (Stays b) b (copy_parts layout b lead) (stays_itself b) (copy_keeps (Stays b) (λ x h. record { up = h.up; taken = h.taken }) (λ x to h. record { up = h.up; taken = h.taken }) layout b lead (stays_itself b))

purged : (layout : Layout) (trail : List Record) (points : List ℕ) (b : Backup) → Stays b (after_all b (purge_parts layout trail points b))
purged layout trail points b =
    every_all (Stays b) b (purge_parts layout trail points b) (stays_itself b)
    (every_image (Stays b) (λ starts. record b { starts = starts }) (drops layout.retain (floor_of layout trail points b) b.starts) (λ starts. record { up = refl; taken = λ h. h }))

now_taken : (b : Backup) → is_taken (after_all b (takeover_parts b)).volumes ≡ true
now_taken b = ap is_taken (taken_over b b.volumes refl).volumes

took_over : (b : Backup) → Stays b (after_all b (takeover_parts b))
took_over b = record {
  up = every_all (λ (x : Backup). x.up ≡ b.up) b (takeover_parts b) refl (every_image (λ (x : Backup). x.up ≡ b.up) (with_volumes b) (marks b.received b.volumes) (λ v. refl));
  taken = λ h. now_taken b;
}

run_at-taken : (points : List ℕ) (v : Volumes) → is_taken v ≡ true → is_taken (run_at points v) ≡ true
run_at-taken points (Running old) e = e
run_at-taken points Taking e = e
run_at-taken points (Taken upto) e = e

with_point-taken : (v : Volumes) (vol upto : ℕ) → is_taken v ≡ true → is_taken (with_point v vol upto) ≡ true
with_point-taken (Running points) vol upto e = e
with_point-taken Taking vol upto e = e
with_point-taken (Taken s) vol upto e = e

pointed : (b : Backup) (points : List ℕ) → Stays b (with_points b points)
pointed b points = record { up = refl; taken = run_at-taken points b.volumes }

read_stay : (layout : Layout) (s : State) (key : RecKey) (session : Session) → HasMetNone session → AllStay s (after_read layout s key session)
read_stay layout s key Closed met = all_stay s
read_stay layout s key (Refused of why) met = all_stay s
read_stay layout s key (Open o) met = subst (AllStay s) (sym (read_open layout s key o met)) (all_stay s)

closed_stay : (s new : State) → AllStay s new → AllStay s (with_session new Closed)
closed_stay s new h = h

end_stay : (layout : Layout) (s : State) (session : Session) → HasMetNone session → AllStay s (after_end layout s session)
end_stay layout s Closed met = all_stay s
end_stay layout s (Refused of why) met = all_stay s
end_stay layout s (Open o) met =
    subst (AllStay s) (sym (end_open layout s o met))
    (closed_stay s (with_backup s o.node (with_points (at s.backups o.node) (points_at layout (at s.backups o.node).received)))
    (stay_with s o.node (with_points (at s.backups o.node) (points_at layout (at s.backups o.node).received)) (pointed (at s.backups o.node) (points_at layout (at s.backups o.node).received))))

-- lines that turn nodes on or off
abbrev turns : Line → Bool
turns (line.Cut node) = true
turns (line.Restart node) = true
turns _ = false

not_so : true ≡ false → ⊥
not_so e = cc

after_stay : (layout : Layout) (points : List ℕ) (s : State) (l : Line) → turns l ≡ false → HasMetNone s.session → AllStay s (after layout points s l)
after_stay layout points s (line.Cut node) e met = absurd (not_so e)
after_stay layout points s (line.Restart node) e met = absurd (not_so e)
after_stay layout points s (line.Deliver node k) e met = stay_with s node (after_all (at s.backups node) (deliver_parts layout (message s node k) (at s.backups node))) (delivered layout (at s.backups node) (message s node k))
after_stay layout points s (line.Read node key) e met = read_stay layout s key s.session met
after_stay layout points s (line.Purge node) e met = stay_with s node (after_all (at s.backups node) (purge_parts layout s.primary.trail points (at s.backups node))) (purged layout s.primary.trail points (at s.backups node))
after_stay layout points s line.End e met = end_stay layout s s.session met
after_stay layout points s (line.Takeover node) e met = stay_with s node (after_all (at s.backups node) (takeover_parts (at s.backups node))) (took_over (at s.backups node))
after_stay layout points s (line.CopyAudit node from) e met = stay_with s node (after_all (at s.backups node) (copy_parts layout (at s.backups node) (at s.backups from))) (copied layout (at s.backups node) (at s.backups from))
after_stay layout points s _ e met = all_stay s

-- what is told of a backup

pub record IsTold (of : Node) (old : State) (l : Line) (reply : Reply) (new : State) : Type 0 where
  pub up : (at new.backups of).up ≡ up_behind of (at old.backups of).up l reply
  pub taken : is_taken (at old.backups of).volumes ≡ true → is_taken (at new.backups of).volumes ≡ true

told_stays : (of : Node) (old : State) (l : Line) (reply : Reply) (new : State) → AllStay old new → up_behind of (at old.backups of).up l reply ≡ (at old.backups of).up → IsTold of old l reply new
told_stays of old l reply new h e = record { up = (h of).up ∙ sym e; taken = (h of).taken }

told_as : (of : Node) (old : State) (l : Line) (x reply : Reply) (new : State) → reply ≡ x → IsTold of old l x new → IsTold of old l reply new
told_as of old l x reply new e h = subst (λ (r : Reply). IsTold of old l r new) (sym e) h

after_told : (of : Node) (layout : Layout) (points : List ℕ) (s : State) (l : Line) (reply : Reply) → is_backup_node of ≡ true → HasMetNone s.session → says layout points s l reply →
    IsTold of s l reply (after layout points s l)
after_told A layout points s l reply b met h = cc
after_told of layout points s (line.Cut A) reply b met h = told_as of s (line.Cut A) _ reply (after layout points s (line.Cut A)) h (record { up = refl; taken = λ g. g })
after_told of layout points s (line.Cut B) reply b met h = told_as of s (line.Cut B) _ reply (after layout points s (line.Cut B)) h (record { up = refl; taken = λ g. g })
after_told of layout points s (line.Cut C) reply b met h = told_as of s (line.Cut C) _ reply (after layout points s (line.Cut C)) h (record { up = refl; taken = λ g. g })
after_told of layout points s (line.Restart A) reply b met h = told_as of s (line.Restart A) _ reply (after layout points s (line.Restart A)) h (record { up = refl; taken = λ g. g })
after_told of layout points s (line.Restart B) reply b met h = told_as of s (line.Restart B) _ reply (after layout points s (line.Restart B)) h (record { up = refl; taken = λ g. g })
after_told of layout points s (line.Restart C) reply b met h = told_as of s (line.Restart C) _ reply (after layout points s (line.Restart C)) h (record { up = refl; taken = λ g. g })
after_told of layout points s l reply b met h = told_stays of s l reply (after layout points s l) (after_stay layout points s l refl met) refl

up_refused : (of : Node) (up : Bool) (l : Line) (why : NoWhy) → up_behind of up l (No why) ≡ up
up_refused of up (line.Cut node) why = refl
up_refused of up (line.Restart node) why = refl
up_refused of up _ why = refl

kept_stay : (s : State) (l : Line) (why : NoWhy) → AllStay s (kept s l why)
kept_stay s (line.Session node) why = all_stay s
kept_stay s line.End why = all_stay s
kept_stay s _ why = all_stay s

step_told : (of : Node) (layout : Layout) (old : State) (l : Line) (reply : Reply) (new : State) → is_backup_node of ≡ true → QuietStep layout old l reply new → HasMetNone old.session → IsTold of old l reply new
step_told of layout old l reply new b step met =
    elim (refused_or_done (refusal layout old l) (kept old l) (after layout step.points old l) (says layout step.points old l) reply new step.done) [
      | inl ref ↦ told_as of old l (No ref.0) reply new ref.1 (told_stays of old l (No ref.0) new (subst (AllStay old) (sym ref.2) (kept_stay old l ref.0)) (up_refused of (at old.backups of).up l ref.0))
      | inr did ↦ subst (IsTold of old l reply) (sym did.2) (after_told of layout step.points old l reply b met did.1)
    ]

-- between lines

moved : (b : Backup) (vol upto : ℕ) → Stays b (moved_backup b vol upto)
moved b vol upto = record { up = refl; taken = with_point-taken b.volumes vol upto }

apply_stay : (s : State) (session : Session) (vol upto : ℕ) → AllStay s (after_apply s session vol upto)
apply_stay s Closed vol upto = all_stay s
apply_stay s (Refused of why) vol upto = all_stay s
apply_stay s (Open o) vol upto = stay_with s o.node (moved_backup (at s.backups o.node) vol upto) (moved (at s.backups o.node) vol upto)

stays_then : (a b c : Backup) → Stays a b → Stays b c → Stays a c
stays_then a b c g h = record { up = h.up ∙ g.up; taken = λ e. h.taken (g.taken e) }

rises_stay : (layout : Layout) (rises : List (ℕ × ℕ)) (old new : State) → Rise layout old rises new → AllStay old new
rises_stay layout [] old new m = subst (AllStay old) (sym m) (all_stay old)
rises_stay layout (r ∷ rises) old new m =
    let mid : State = after_apply old old.session r.0 r.1 in
    let one : AllStay old mid = apply_stay old old.session r.0 r.1 in
    let more : AllStay mid new = rises_stay layout rises mid new m.1 in
    λ node. stays_then (at old.backups node) (at mid.backups node) (at new.backups node) (one node) (more node)

-- runs

runs_told : (of : Node) (layout : Layout) (lines : List Line) (replies : List Reply) (old last : State) → is_backup_node of ≡ true → QuietFrom layout old lines replies last → HasMetNone old.session →
    (at last.backups of).up ≡ up_behind_all of (at old.backups of).up lines replies
runs_told of layout [] [] old last b r met = (rises_stay layout r.0 old last r.1 of).up
runs_told of layout [] (reply ∷ replies) old last b r met = absurd r
runs_told of layout (l ∷ lines) [] old last b r met = absurd r
runs_told of layout (l ∷ lines) (reply ∷ replies) old last b r met =
    let mid : HasMetNone r.0.session = rises_met layout r.2.0 old r.0 r.2.1 met in
    let one : (at r.1.backups of).up ≡ up_behind of (at old.backups of).up l reply =
    (step_told of layout r.0 l reply r.1 b r.3 mid).up ∙ ap (λ up. up_behind of up l reply) (rises_stay layout r.2.0 old r.0 r.2.1 of).up in
    runs_told of layout lines replies r.1 last b r.4 (step_met layout r.0 l reply r.1 r.3 mid) ∙ ap (λ up. up_behind_all of up lines replies) one

runs_taken : (of : Node) (layout : Layout) (lines : List Line) (replies : List Reply) (old last : State) → is_backup_node of ≡ true → QuietFrom layout old lines replies last → HasMetNone old.session →
    is_taken (at old.backups of).volumes ≡ true → is_taken (at last.backups of).volumes ≡ true
runs_taken of layout [] [] old last b r met t = (rises_stay layout r.0 old last r.1 of).taken t
runs_taken of layout [] (reply ∷ replies) old last b r met t = absurd r
runs_taken of layout (l ∷ lines) [] old last b r met t = absurd r
runs_taken of layout (l ∷ lines) (reply ∷ replies) old last b r met t =
    let mid : HasMetNone r.0.session = rises_met layout r.2.0 old r.0 r.2.1 met in
    runs_taken of layout lines replies r.1 last b r.4 (step_met layout r.0 l reply r.1 r.3 mid)
    ((step_told of layout r.0 l reply r.1 b r.3 mid).taken ((rises_stay layout r.2.0 old r.0 r.2.1 of).taken t))

-- a takeover that is answered ok
takeover_takes : (layout : Layout) (old : State) (node : Node) (reply : Reply) (new : State) → QuietStep layout old (line.Takeover node) reply new → is_ok reply ≡ true → is_taken (at new.backups node).volumes ≡ true
takeover_takes layout old node reply new step e =
    elim (refused_or_done (refusal layout old (line.Takeover node)) (kept old (line.Takeover node)) (after layout step.points old (line.Takeover node)) (says layout step.points old (line.Takeover node)) reply new step.done) [
      | inl ref ↦ absurd (refused ref.0 (sym (ap is_ok ref.1) ∙ e))
      | inr did ↦ subst (λ (s : State). is_taken (at s.backups node).volumes ≡ true) (sym did.2)
          (subst (λ (b : Backup). is_taken b.volumes ≡ true) (sym (at-with_at old.backups node (after_all (at old.backups node) (takeover_parts (at old.backups node))))) (now_taken (at old.backups node)))
    ]
  where
    refused : (why : NoWhy) → is_ok (No why) ≡ true → ⊥
    refused why f = cc

step_takes : (of : Node) (layout : Layout) (old : State) (l : Line) (reply : Reply) (new : State) → QuietStep layout old l reply new → takes of l reply ≡ true → is_taken (at new.backups of).volumes ≡ true
step_takes of layout old (line.Takeover node) reply new step e =
    let both : (same_node of node ≡ true) × (is_ok reply ≡ true) = and_parts (same_node of node) (is_ok reply) e in
    subst (λ x. is_taken (at new.backups x).volumes ≡ true) (sym (node_same of node both.0)) (takeover_takes layout old node reply new step both.1)
step_takes of layout old _ reply new step e = cc

runs_take : (of : Node) (layout : Layout) (lines : List Line) (replies : List Reply) (old last : State) → is_backup_node of ≡ true → QuietFrom layout old lines replies last → HasMetNone old.session →
    has_taken_over of lines replies ≡ true → is_taken (at last.backups of).volumes ≡ true
runs_take of layout [] replies old last b r met e = cc
runs_take of layout (l ∷ lines) [] old last b r met e = absurd r
runs_take of layout (l ∷ lines) (reply ∷ replies) old last b r met e =
    let mid : HasMetNone r.0.session = rises_met layout r.2.0 old r.0 r.2.1 met in
    let next : HasMetNone r.1.session = step_met layout r.0 l reply r.1 r.3 mid in
    elim (takes of l reply) as (λ m. takes of l reply ≡ m → (m || has_taken_over of lines replies) ≡ true → is_taken (at last.backups of).volumes ≡ true) [
      | true ↦ λ f g. runs_taken of layout lines replies r.1 last b r.4 next (step_takes of layout r.0 l reply r.1 r.3 f)
      | false ↦ λ f g. runs_take of layout lines replies r.1 last b r.4 next g
    ] refl e

up_at_first : (layout : Layout) (of : Node) → (at (blank layout).backups of).up ≡ true
up_at_first layout of = ap (λ (b : Backup). b.up) (at-every (blank_backup layout) of)

-- which backups are up, and which have taken over
pub up_told : (layout : Layout) (lines : List Line) (replies : List Reply) (last : State) (of : Node) → QuietRun layout lines replies last → is_backup_node of ≡ true →
    (at last.backups of).up ≡ is_up_behind of lines replies
up_told layout lines replies last of r b = runs_told of layout lines replies (blank layout) last b r tt ∙ ap (λ up. up_behind_all of up lines replies) (up_at_first layout of)

pub taken_told : (layout : Layout) (lines : List Line) (replies : List Reply) (last : State) (of : Node) → QuietRun layout lines replies last → is_backup_node of ≡ true →
    has_taken_over of lines replies ≡ true → is_taken (at last.backups of).volumes ≡ true
taken_told layout lines replies last of r b e = runs_take of layout lines replies (blank layout) last b r tt e
