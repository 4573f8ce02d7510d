-- The backup of a session that was not refused, along a run: it runs until a disk of it stopped, and is down from then on.
use Rattle.std.proofs.Common.{◌≡◌, ◌⊎◌, inl, inr, ℕ, zero, suc, ◌||◌, Bool, true, false, List, [], ◌∷◌, take, Option, Some, None, refl, sym, ap, ◌∙◌, subst}
use Rattle.std.proofs.lemmas.Bool.{false≢true}
use Rattle.std.proofs.lemmas.List.Elements.{recursion_from_All}
use Rattle.std.proofs.lemmas.Option.{none-some, same_Some}
use Rattle.std.specs.List.{AllByRecursion, AllPass}
use Rattle.rdf_types.specs.declared.layout.Layout.{Layout}
use Rattle.rdf_types.specs.declared.records.Node.{Node}
use Rattle.rdf_types.specs.declared.records.Node.TheVariants.{A}
use Rattle.rdf_types.specs.declared.records.Phase.{Phase}
use Rattle.rdf_types.specs.declared.records.Phase.TheVariants.{Running, Taking, Taken}
use Rattle.rdf_disk.specs.declared.disk.Disk.{Ghosts}
use Rattle.by_node.specs.Each.{at}
use Rattle.plan_lang.specs.LineText.{same_node}
use Rattle.plan_lang.specs.Sessions.{fits_session, goes_in, session_after, KeepSessions}
use Rattle.plan_lang.specs.declared.lines.Line.{Line}
use Rattle.plan_lang.specs.declared.lines.Line.TheVariants as line
use Rattle.rdf_core.specs.Allowed.{has_names, is_backup}
use Rattle.rdf_core.specs.SessionLaws.{node_same, same_self}
use Rattle.rdf_core.specs.declared.replies.NoWhy.{NoWhy}
use Rattle.rdf_core.specs.declared.replies.NoWhy.TheVariants as no
use Rattle.rdf_core.specs.declared.replies.Reply.{Reply}
use Rattle.rdf_core.specs.declared.replies.Reply.TheVariants.{No, Number, Stopped}
use Rattle.backup_node.specs.Kinds.{IsSaid}
use Rattle.backup_node.specs.Moves.{Stays}
use Rattle.rdf_system.specs.Moves.{MovesAt}
use Rattle.rdf_system.specs.Noting.{begun, behind, behind_node, is_stop_of, noted}
use Rattle.rdf_system.specs.Sessions.{node_of, IsPlacedAt}
use Rattle.rdf_system.specs.Stances.{Stances, stances_of, fresh, phase_while, running_by, IsHeld, IsHeldBy, IsJudgedBy, IsUnbarred, MovesTo, StandsAs}
use Rattle.rdf_system.specs.declared.session.SessionState.{SessionState}
use Rattle.rdf_system.specs.declared.session.SessionState.TheVariants as system
use Rattle.rdf_system.specs.declared.system.System.{System}
use Rattle.rdf_run.specs.Judging.{AreJudged}
use Rattle.rdf_run.specs.Replies.{AllGet, MayGet, MayTellStop}
use Rattle.rdf_run.proofs.LastLine.{away_from}

-- ---- lines that may stand where they do

-- the layout knows the words of each line, and each fits the session that is open there
abbrev pub Fit : Layout → Option Node → List Line → Type 0
Fit layout of [] = Unit {0}
Fit layout of (l ∷ lines) = (has_names layout l ≡ true) × ((fits_session of l ≡ true) × Fit layout (session_after of l) lines)

fit_take : (layout : Layout) (of : Option Node) (lines : List Line) (i : ℕ) → AllByRecursion (λ (l : Line). has_names layout l ≡ true) lines → KeepSessions of lines → Fit layout of (take i lines)
fit_take layout of lines zero names keep = tt
fit_take layout of [] (suc i) names keep = tt
fit_take layout of (l ∷ lines) (suc i) names keep = (names.0, (keep.0, fit_take layout (session_after of l) lines i names.1 keep.1))

-- ---- one line

-- where a reply tells that the node stopped it is down, and the stop is noted
told_down : (of : Node) (stopped : Bool) (q : Option Phase) → q ≡ None → q ≡ phase_while (stopped || is_stop_of of (Stopped of))
told_down of true q e = e
told_down of false q e = e ∙ sym (ap phase_while (same_self of))

-- else it stands as it did
still_up : (of : Node) (stopped : Bool) (reply : Reply) (p q : Option Phase) → is_stop_of of reply ≡ false → p ≡ phase_while stopped → q ≡ p → q ≡ phase_while (stopped || is_stop_of of reply)
still_up of true reply p q none held same = same ∙ held
still_up of false reply p q none held same = same ∙ held ∙ sym (ap phase_while none)

-- a line that the node does
own_held : (of : Node) (stopped : Bool) (reply : Reply) (p q : Option Phase) → p ≡ phase_while stopped → ((n : Node) → reply ≡ Stopped n → n ≡ of) → Stays reply p q → q ≡ phase_while (stopped || is_stop_of of reply)
own_held of stopped (Stopped n) p q held told h = subst (λ (m : Node). q ≡ phase_while (stopped || is_stop_of of (Stopped m))) (sym (told n refl)) (told_down of stopped q h)
own_held of stopped reply p q held told h = still_up of stopped reply p q refl held h

-- and one that it does not
apart_held : (of : Node) (stopped : Bool) (reply : Reply) (p q : Option Phase) → p ≡ phase_while stopped → ((n : Node) → reply ≡ Stopped n → same_node of n ≡ false) → (q ≡ p) ⊎ ((reply ≡ Stopped of) × (q ≡ None)) → q ≡ phase_while (stopped || is_stop_of of reply)
apart_held of stopped reply p q held told (inl same) = still_up of stopped reply p q (unstopped reply told) held same
  where
    unstopped : (r : Reply) → ((n : Node) → r ≡ Stopped n → same_node of n ≡ false) → is_stop_of of r ≡ false
    unstopped (Stopped n) h = h n refl
    unstopped _ h = refl
apart_held of stopped reply p q held told (inr h) = subst (λ (r : Reply). q ≡ phase_while (stopped || is_stop_of of r)) (sym h.0) (told_down of stopped q h.1)

-- a line of a session of the node, but its end
module _ (of : Node) (stopped : Bool) (reply : Reply) (p q : Option Phase) (held : p ≡ phase_while stopped) (far : same_node of A ≡ false) where
  -- which node it may tell to have stopped
  told_by : (l : Line) (P : Node → Type 0) → ((n : Node) → MayTellStop (Some of) l n → P n) → MayGet (Some of) l reply → (n : Node) → reply ≡ Stopped n → P n
  told_by l P h got n e = h n (subst (λ (r : Reply). MayGet (Some of) l r) e got)

  none : (n : Node) → None ≡ Some n → same_node of n ≡ false
  none n e = absurd (none-some n e)

  primary : (n : Node) → Some A ≡ Some n → same_node of n ≡ false
  primary n e = ap (λ (m : Node). same_node of m) (sym (same_Some A n e)) ∙ far

  own : (node : Node) → node ≡ of → (n : Node) → Some node ≡ Some n → n ≡ of
  own node same n e = sym (same_Some node n e) ∙ same

  line_held : (l : Line) → goes_in of l ≡ true → MayGet (Some of) l reply → MovesAt of l reply p q → (l ≡ line.End → ⊥) → q ≡ phase_while (stopped || is_stop_of of reply)
  line_held (line.Begin t) fits got moves ends = apart_held of stopped reply p q held (told_by (line.Begin t) (λ n. same_node of n ≡ false) none got) (moves.1 (λ h. h))
  line_held (line.Insert t k value) fits got moves ends = apart_held of stopped reply p q held (told_by (line.Insert t k value) (λ n. same_node of n ≡ false) primary got) (moves.1 (λ h. h))
  line_held (line.Update t k value) fits got moves ends = apart_held of stopped reply p q held (told_by (line.Update t k value) (λ n. same_node of n ≡ false) primary got) (moves.1 (λ h. h))
  line_held (line.Delete t k) fits got moves ends = apart_held of stopped reply p q held (told_by (line.Delete t k) (λ n. same_node of n ≡ false) primary got) (moves.1 (λ h. h))
  line_held (line.Get t k) fits got moves ends = apart_held of stopped reply p q held (told_by (line.Get t k) (λ n. same_node of n ≡ false) primary got) (moves.1 (λ h. h))
  line_held (line.Commit t) fits got moves ends = apart_held of stopped reply p q held (told_by (line.Commit t) (λ n. same_node of n ≡ false) primary got) (moves.1 (λ h. h))
  line_held (line.Abort t) fits got moves ends = apart_held of stopped reply p q held (told_by (line.Abort t) (λ n. same_node of n ≡ false) primary got) (moves.1 (λ h. h))
  line_held (line.Send node most) fits got moves ends = apart_held of stopped reply p q held (told_by (line.Send node most) (λ n. same_node of n ≡ false) none got) (moves.1 (λ h. h))
  line_held (line.Rewind node) fits got moves ends = apart_held of stopped reply p q held (told_by (line.Rewind node) (λ n. same_node of n ≡ false) none got) (moves.1 (λ h. h))
  line_held (line.Ack node) fits got moves ends = apart_held of stopped reply p q held (told_by (line.Ack node) (λ n. same_node of n ≡ false) none got) (moves.1 (λ h. h))
  line_held (line.Deliver node k) fits got moves ends = let same : node ≡ of = sym (node_same of node fits) in own_held of stopped reply p q held (told_by (line.Deliver node k) (λ n. n ≡ of) (own node same) got) (moves.0 same)
  line_held (line.Purge node) fits got moves ends = let same : node ≡ of = sym (node_same of node fits) in own_held of stopped reply p q held (told_by (line.Purge node) (λ n. n ≡ of) (own node same) got) (moves.0 same)
  line_held (line.Read node key) fits got moves ends = let same : node ≡ of = sym (node_same of node fits) in own_held of stopped reply p q held (told_by (line.Read node key) (λ n. n ≡ of) (λ n e. e ∙ same) got) (moves.0 same)
  line_held line.End fits got moves ends = absurd (ends refl)
  line_held _ fits got moves ends = absurd (false≢true fits)

-- the backup of a session stands so, and the layout has it
pub record Held (layout : Layout) (s : Stances) : Type 0 where
  pub held : IsHeld s
  pub placed : IsPlacedAt layout (node_of s.session)

module _ (layout : Layout) (reply : Reply) (old new : Stances) where
  -- the line opens a session: of a backup that runs, where it was not refused
  opened_held : (o : Option Node) (node : Node) (r : Reply) → MayGet o (line.Session node) r → IsJudgedBy old (line.Session node) r → MovesAt node (line.Session node) r (at old.phases node) (at new.phases node) → IsHeldBy new.phases (begun node r)
  opened_held o node (No why) got judged moves = tt
  opened_held o node (Stopped n) got judged moves = absurd (none-some n got)
  opened_held o node (Number n) got judged moves = moves.0 refl ∙ runs (at old.phases node) judged
    where
      never : {X : Type 0} (why : NoWhy) → Number n ≡ No why → X
      never why e = absurd cc

      runs : (p : Option Phase) → IsSaid (running_by p) IsUnbarred (Number n) → p ≡ Some Running
      runs None h = never no.Down h
      runs (Some Running) h = refl
      runs (Some Taking) h = never no.Taking h
      runs (Some (Taken upto)) h = never no.Taken h
  opened_held o node _ got judged moves = absurd got

  -- it stands in the session that is open before
  noted_held : (l : Line) (ss : SessionState) → (l ≡ line.End → ⊥) → fits_session (node_of ss) l ≡ true → MayGet (node_of ss) l reply → ((node : Node) → is_backup layout node ≡ true → MovesAt node l reply (at old.phases node) (at new.phases node)) →
      IsPlacedAt layout (node_of ss) → IsHeldBy old.phases ss → IsHeldBy new.phases (noted ss reply)
  noted_held l system.Closed ends fits got moves placed held = tt
  noted_held l (system.Refused node bar) ends fits got moves placed held = tt
  noted_held l (system.Open of stopped) ends fits got moves placed held = line_held of stopped reply (at old.phases of) (at new.phases of) held (away_from layout of placed) l fits got (moves of placed) ends

  behind_held : (l : Line) → has_names layout l ≡ true → fits_session (node_of old.session) l ≡ true → MayGet (node_of old.session) l reply → IsJudgedBy old l reply → MovesTo layout l reply old new → Held layout old → IsHeldBy new.phases (behind old.session l reply)
  behind_held (line.Session node) names fits got judged moves h = opened_held (node_of old.session) node reply got judged (moves.phases node names)
  behind_held line.End names fits got judged moves h = tt
  behind_held l names fits got judged moves h = noted_held l old.session (λ e. cc) fits got moves.phases h.placed h.held

  behind_placed : (l : Line) (o : Option Node) → has_names layout l ≡ true → IsPlacedAt layout o → IsPlacedAt layout (session_after o l)
  behind_placed (line.Session node) o names placed = names
  behind_placed line.End o names placed = tt
  behind_placed _ o names placed = placed

  held_on : (l : Line) → has_names layout l ≡ true → fits_session (node_of old.session) l ≡ true → MayGet (node_of old.session) l reply → IsJudgedBy old l reply → MovesTo layout l reply old new → Held layout old → Held layout new
  held_on l names fits got judged moves h = record {
    held = subst (λ (ss : SessionState). IsHeldBy new.phases ss) (sym moves.session) (behind_held l names fits got judged moves h);
    placed = subst (λ (o : Option Node). IsPlacedAt layout o) (sym (ap node_of moves.session ∙ behind_node old.session l reply)) (behind_placed l (node_of old.session) names h.placed);
  }

-- ---- a run

held_along : (layout : Layout) (s : Stances) (lines : List Line) (replies : List Reply) (Now : Stances → Type 0) → Fit layout (node_of s.session) lines → AllGet (node_of s.session) lines replies → AreJudged layout s lines replies Now → Held layout s → (last : Stances) × (Now last × Held layout last)
held_along layout s [] [] Now fit got judged h = (s, (judged, h))
held_along layout s [] (r ∷ replies) Now fit got judged h = absurd got
held_along layout s (l ∷ lines) [] Now fit got judged h = absurd got
held_along layout s (l ∷ lines) (reply ∷ replies) Now fit got judged h =
    let next : Stances = judged.1.0 in
    let moves : MovesTo layout l reply s next = judged.1.1.0 in
    let node : session_after (node_of s.session) l ≡ node_of next.session = sym (ap node_of moves.session ∙ behind_node s.session l reply) in
    held_along layout next lines replies Now (subst (λ (o : Option Node). Fit layout o lines) node fit.1.1) (subst (λ (o : Option Node). AllGet o lines replies) node got.1) judged.1.1.1
    (held_on layout reply s next l fit.0 fit.1.0 got.0 judged.0 moves h)

-- from the start to how the nodes of a system stand behind some lines of a plan
pub held_now : {D : Type 0} {d : Ghosts D} (layout : Layout) (lines : List Line) (i : ℕ) (replies : List Reply) (sys : System D d) → AllPass (has_names layout) lines → KeepSessions None lines →
    AllGet None (take i lines) replies → AreJudged layout (fresh layout) (take i lines) replies (StandsAs sys) → IsHeld (stances_of sys)
held_now layout lines i replies sys names keep got judged =
    let it = held_along layout (fresh layout) (take i lines) replies (StandsAs sys) (fit_take layout None lines i (recursion_from_All (λ (l : Line). has_names layout l ≡ true) lines names) keep) got judged (record { held = tt; placed = tt }) in
    subst (λ (s : Stances). IsHeld s) it.1.0 it.1.1.held
