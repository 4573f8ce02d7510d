-- The lines of an open session, one after another.
use Rattle.std.proofs.Common.{◌≡◌, ◌≢◌, ℕ, ◌+◌, ◌<◌, ◌≤◌, true, false, List, [], ◌∷◌, ◌++◌, length, take, drop, get_or, Option, Some, None, Result, Ok, Err, refl, sym, ap, ◌∙◌, subst, append_assoc, append-nil, drop-cons, add-one}
use Rattle.std.proofs.lemmas.Bool.{true≢false}
use Rattle.std.proofs.lemmas.List.{take_more, drop_all}
use Rattle.rdf_types.specs.declared.layout.Layout.{Layout}
use Rattle.rdf_types.specs.declared.records.Node.{Node}
use Rattle.rdf_disk.specs.Files.{Disk}
use Rattle.rdf_disk.specs.Counts.{Counts}
use Rattle.rdf_disk.specs.declared.disk.Disk.{Ghosts}
use Rattle.rdf_ports.specs.Counts.{Faulted}
use Rattle.plan_lang.specs.declared.lines.Line.{Line}
use Rattle.plan_lang.specs.declared.lines.Line.TheVariants as line
use Rattle.plan_lang.specs.Sessions.{goes_in, session_after, session_behind, KeepSessions}
use Rattle.backup_node.specs.declared.node.BackupNode.{BackupNode}
use Rattle.rdf_core.specs.declared.replies.Reply.{Reply}
use Rattle.rdf_core.specs.declared.replies.Reply.TheVariants.{Done, Number}
use Rattle.rdf_core.specs.Allowed.{has_names}
use Rattle.rdf_disk.specs.Counts.Ending.{Fine}
use Rattle.rdf_monitor.specs.declared.fault.AnswerFault.{AnswerFault}
use Rattle.rdf_monitor.specs.declared.fault.AnswerFault.TheVariants as answer
use Rattle.rdf_monitor.specs.Faults.{CountsAnswer}
use Rattle.rdf_monitor.specs.Output.{Output, Joins}
use Rattle.rdf_system.specs.declared.opened.Broken.{Broken}
use Rattle.rdf_system.specs.Opened.{OpenView, shown, MayLend, IsOpenAt}
use Rattle.rdf_system.specs.OpenLines.{IsOpenLine, AnswersOpen, OpenDoes, KeepsLent}
use Rattle.rdf_system.specs.Sessions.{used_by}
use Rattle.rdf_system.specs.Stances.{StandsAs}
use Rattle.rdf_system.specs.States.{disk_of, layout_of}
use Rattle.rdf_run.specs.Going.{Completes}
use Rattle.rdf_run.specs.declared.session_lines.Met.TheVariants as met
use Rattle.rdf_run.specs.Stretches.{is_end, AreInSession, IsShownAt, CompletesMore, StopsMore, IsOpenOn, NextIs, EndsStretch, Drove}
use Rattle.rdf_run.proofs.InSession.{open_on, open_half}
use Rattle.rdf_run.proofs.Returns.{returned_same, returned_then, returned_reply, fine_no_stop}
use Rattle.rdf_run.proofs.Runs.{RunLaws}
use Rattle.rdf_run.proofs.Settling.{session_joins, stays_in, next_fits}

module _ {D O : Type 0} {d : Ghosts D} (given : O → O → Output) (tells : Type 0) (files : D → Disk) (counts : D → Counts) where
  -- no line yet
  pub none_more : (out : O) (x : OpenView D d) → CompletesMore given tells files counts [] out out x x
  none_more out x = λ layout from before start laid c.
      subst (λ (ls : List Line). Completes (given from out) tells counts layout ls start (disk_of (shown x)) (IsShownAt files layout x) (StandsAs (shown x))) (sym (append-nil before)) c

  pub open_still : (x : OpenView D d) → IsOpenAt tells files counts x → x.session.met ≡ None → IsOpenOn tells files counts x x
  open_still x is unmet = record {
    is_open = is;
    unmet = unmet;
    laid = refl;
    lent = refl;
    disks = λ node i. returned_same counts (disk_of (shown x) node i) (disk_of (shown x) node i) refl;
  }

  module _ (laws : RunLaws) (lines : List Line) (l : Line) (reply : Reply) (out mid now_out : O) (joins : (a : O) → Joins (given a mid) (given mid now_out) (given a now_out)) (old between new : OpenView D d)
      (unended : l ≢ line.End) (laid : layout_of between.system ≡ layout_of old.system) (a : AnswersOpen tells files counts l reply between new) (more : CompletesMore given tells files counts lines out mid old between) where
    -- one line more was answered
    pub one_more : (given mid now_out).whole (l ∷ []) (reply ∷ []) → CompletesMore given tells files counts (lines ++ l ∷ []) out now_out old new
    one_more wrote = λ layout from before start is c.
        let so : Completes (given from mid) tells counts layout (before ++ lines) start (disk_of (shown between)) (IsShownAt files layout between) (StandsAs (shown between)) = more layout from before start is c in
        subst (λ (ls : List Line). Completes (given from now_out) tells counts layout ls start (disk_of (shown new)) (IsShownAt files layout new) (StandsAs (shown new))) (append_assoc before lines (l ∷ []))
        (record {
          replies = so.replies ++ reply ∷ [];
          wrote = (joins from).whole (before ++ lines) so.replies l reply so.wrote wrote;
          went = open_on laws tells files counts layout (before ++ lines) so.replies start between (laid ∙ is) so.went new l reply unended a;
          spared = λ node i. returned_then counts false Fine fine_no_stop (start node i) (disk_of (shown between) node i) (disk_of (shown new) node i) (so.spared node i)
              (returned_reply counts (layout_of (shown between)) (disk_of (shown between)) (disk_of (shown new)) (used_by between.system.session l) l reply a.does.cause node i);
        })

    -- and of its reply a first part is out
    pub half_more : (given mid now_out).part [] [] l reply → StopsMore given tells files counts lines l out now_out old new
    half_more wrote = λ layout from before start is c.
        let so : Completes (given from mid) tells counts layout (before ++ lines) start (disk_of (shown between)) (IsShownAt files layout between) (StandsAs (shown between)) = more layout from before start is c in
        record {
          replies = so.replies;
          reply = reply;
          wrote = (joins from).part (before ++ lines) so.replies l reply so.wrote wrote;
          went = open_half laws tells files counts layout (before ++ lines) so.replies start between (laid ∙ is) so.went new l reply unended a;
        }

  -- nothing of a reply is out
  pub unsaid_more : (lines : List Line) (out mid now_out : O) → ((a : O) → Joins (given a mid) (given mid now_out) (given a now_out)) → (given mid now_out).none → (old new : OpenView D d) →
      CompletesMore given tells files counts lines out mid old new → CompletesMore given tells files counts lines out now_out old new
  unsaid_more lines out mid now_out joins none old new more = λ layout from before start is c.
      let so : Completes (given from mid) tells counts layout (before ++ lines) start (disk_of (shown new)) (IsShownAt files layout new) (StandsAs (shown new)) = more layout from before start is c in
      record {
        replies = so.replies;
        wrote = (joins from).none (before ++ lines) so.replies so.wrote none;
        went = so.went;
        spared = so.spared;
      }

  -- the session is open on behind a line more
  pub open_more : (l : Line) (reply : Reply) (old between new : OpenView D d) → IsOpenOn tells files counts old between → AnswersOpen tells files counts l reply between new → IsOpenAt tells files counts new → new.node ≡ between.node → IsOpenOn tells files counts old new
  open_more l reply old between new h a is lent = record {
    is_open = is;
    unmet = a.unmet;
    laid = a.does.laid ∙ h.laid;
    lent = lent ∙ h.lent;
    disks = λ node i. returned_then counts false Fine fine_no_stop (disk_of (shown old) node i) (disk_of (shown between) node i) (disk_of (shown new) node i) (h.disks node i)
        (returned_reply counts (layout_of (shown between)) (disk_of (shown between)) (disk_of (shown new)) (used_by between.system.session l) l reply a.does.cause node i);
  }

-- so many lines of the session and one more, none of which ended it
pub kept_more : (node : Node) (lines : List Line) (i : ℕ) (l : Line) → i < length lines → l ≡ get_or lines i l → session_behind (Some node) (take i lines) ≡ Some node → goes_in node l ≡ true → l ≢ line.End → session_behind (Some node) (take (i + 1) lines) ≡ Some node
kept_more node lines i l lt is h fits ne =
    ap (λ (ls : List Line). session_behind (Some node) ls) (take_more lines i l lt ∙ ap (λ (k : Line). take i lines ++ k ∷ []) (sym is))
    ∙ session_joins (Some node) (take i lines) (l ∷ [])
    ∙ ap (λ (of : Option Node). session_behind of (l ∷ [])) h
    ∙ stays_in node l fits ne

-- the line that ends a session, and any other one
pub end_is : (l : Line) → is_end l ≡ true → l ≡ line.End
end_is line.End e = refl
end_is _ e = absurd (true≢false (sym e))

pub no_end : (l : Line) → is_end l ≡ false → l ≢ line.End
no_end l e q = true≢false (sym (ap (λ (k : Line). is_end k) q) ∙ e)

-- the lines from some number on
drop_at : (lines : List Line) (n : ℕ) (l : Line) → n < length lines → l ≡ get_or lines n l → drop n lines ≡ l ∷ drop (n + 1) lines
drop_at lines n l lt is =
    drop-cons lines n l lt
    ∙ ap (λ k. get_or lines n l ∷ drop k lines) (sym (add-one n))
    ∙ ap (λ (k : Line). k ∷ drop (n + 1) lines) (sym is)

next_at : (P : Line → Type 0) (lines : List Line) (n : ℕ) (l : Line) → n < length lines → l ≡ get_or lines n l → P l → NextIs P (drop n lines)
next_at P lines n l lt is h = subst (λ (rest : List Line). NextIs P rest) (sym (drop_at lines n l lt is)) h

-- a session that is open does not end with its lines
pub never_out : (node : Node) (lines : List Line) (n : ℕ) → length lines ≤ n → KeepSessions (Some node) (drop n lines) → ⊥
never_out node lines n le h = clash (subst (λ (rest : List Line). KeepSessions (Some node) rest) (drop_all n lines le) h)
  where
    clash : (let of : Option Node = Some node in of ≡ None) → ⊥
    clash e = cc

-- what one line keeps behind others
pub kept_on : {D : Type 0} {d : Ghosts D} (tells : Type 0) (files : D → Disk) (counts : D → Counts) (old between new : OpenView D d) → KeepsLent tells files counts old between → KeepsLent tells files counts between new → KeepsLent tells files counts old new
kept_on tells files counts old between new h k = record {
  lends = k.lends;
  lent = k.lent ∙ h.lent;
  laid = k.laid ∙ h.laid;
  placed = k.placed ∙ h.placed;
  comes = λ first came. k.comes first (h.comes first came);
}

-- these lines were answered in the session, which is open on
pub record SoFar {D O : Type 0} {d : Ghosts D} (given : O → O → Output) (tells : Type 0) (files : D → Disk) (counts : D → Counts) (lines : List Line) (out now_out : O) (opened now : OpenView D d) : Type 0 where
  pub goes : IsOpenOn tells files counts opened now
  pub more : CompletesMore given tells files counts lines out now_out opened now

-- so many lines were performed, none of which ended the session
pub record HasDone {D O : Type 0} {d : Ghosts D} (given : O → O → Output) (faults : O → ℕ) (tells : Type 0) (files : D → Disk) (counts : D → Counts) (lines : List Line) (answered : ℕ) (out now_out : O) (opened now : OpenView D d) : Type 0 where
  pub keeps : KeepsLent tells files counts opened now
  pub sink : faults now_out ≡ faults out
  pub rest : KeepSessions (Some opened.node.name) (drop answered lines)
  pub kept : session_behind (Some opened.node.name) (take answered lines) ≡ Some opened.node.name
  pub so_far : IsOpenAt tells files counts opened → opened.session.met ≡ None → SoFar given tells files counts (take answered lines) out now_out opened now

module _ {D O : Type 0} {d : Ghosts D} (given : O → O → Output) (faults : O → ℕ) (tells : Type 0) (files : D → Disk) (counts : D → Counts) (lines : List Line) (out : O) (opened : OpenView D d) where
  -- no line yet
  pub begun : MayLend tells files counts opened.node opened.system → KeepSessions (Some opened.node.name) lines → HasDone given faults tells files counts lines 0 out out opened opened
  begun lends sessions = record {
    keeps = record { lends = lends; lent = refl; laid = refl; placed = refl; comes = λ first came. came };
    sink = refl;
    rest = sessions;
    kept = refl;
    so_far = λ is unmet. record { goes = open_still given tells files counts opened is unmet; more = none_more given tells files counts out opened };
  }

  module _ (n : ℕ) (mid : O) (between : OpenView D d) (h : HasDone given faults tells files counts lines n out mid opened between) (i : ℕ) (same : n ≡ i) (l : Line) (below : i < length lines) (there : l ≡ get_or lines i l) where
    lt : n < length lines
    lt = subst (λ k. k < length lines) (sym same) below

    is : l ≡ get_or lines n l
    is = subst (λ k. l ≡ get_or lines k l) (sym same) there

    following : (goes_in opened.node.name l ≡ true) × KeepSessions (session_after (Some opened.node.name) l) (drop (n + 1) lines)
    following = subst (λ (rest : List Line). KeepSessions (Some opened.node.name) rest) (drop_at lines n l lt is) h.rest

    -- the next line may be performed in the session, where it does not end it
    pub may_go : AreInSession (layout_of opened.system) opened.node.name lines → l ≢ line.End → IsOpenLine between.node between.system l
    may_go ready ne = record {
      names = subst (λ (of : Layout). has_names of l ≡ true) (sym h.keeps.laid) (next_fits (layout_of opened.system) opened.node.name lines n l (drop (n + 1) lines) ready.names ready.sessions h.kept (drop_at lines n l lt is)).0;
      fits = subst (λ (b : BackupNode D d). goes_in b.name l ≡ true) (sym h.keeps.lent) following.0;
      unended = ne;
    }

    module _ (laws : RunLaws) (joins : (a b c : O) → Joins (given a b) (given b c) (given a c)) (unended : l ≢ line.End) where
      -- it was answered, and its reply is out
      pub done_on : (reply : Reply) (now_out : O) (new : OpenView D d) → KeepsLent tells files counts between new →
          (between.session.met ≡ None → IsOpenAt tells files counts between → OpenDoes tells files counts l (Ok reply) between new) →
          (given mid now_out).whole (l ∷ []) (reply ∷ []) → faults now_out ≡ faults mid → HasDone given faults tells files counts lines (n + 1) out now_out opened new
      done_on reply now_out new keeps does wrote sink = record {
        keeps = kept_on tells files counts opened between new h.keeps keeps;
        sink = sink ∙ h.sink;
        rest = subst (λ (of : Option Node). KeepSessions of (drop (n + 1) lines)) (stays_in opened.node.name l following.0 unended) following.1;
        kept = kept_more opened.node.name lines n l lt is h.kept following.0 unended;
        so_far = λ at unmet.
            let so : SoFar given tells files counts (take n lines) out mid opened between = h.so_far at unmet in
            let did : OpenDoes tells files counts l (Ok reply) between new = does so.goes.unmet so.goes.is_open in
            record {
              goes = open_more given tells files counts l reply opened between new so.goes did.ends did.still_open keeps.lent;
              more = subst (λ (ls : List Line). CompletesMore given tells files counts ls out now_out opened new) (sym longer)
                  (one_more given tells files counts laws (take n lines) l reply out mid now_out (λ a. joins a mid now_out) opened between new unended so.goes.laid did.ends so.more wrote);
            };
      }
        where
          longer : take (n + 1) lines ≡ take n lines ++ l ∷ []
          longer = take_more lines n l lt ∙ ap (λ (k : Line). take n lines ++ k ∷ []) (sym is)

      -- it was answered, and its reply was not written whole
      pub unwritten_so : (reply : Reply) (now_out : O) (closed : OpenView D d) (fault : AnswerFault) (took : Result (Unit {0}) AnswerFault) → took ≡ Err fault →
          (between.session.met ≡ None → IsOpenAt tells files counts between → OpenDoes tells files counts l (Ok reply) between closed) →
          (took ≡ Err answer.Write → (given mid now_out).part [] [] l reply) → (took ≡ Err answer.NoMemory → (given mid now_out).none) → (took ≡ Err answer.NoMemory → reply ≢ Done) →
          ((k : ℕ) → took ≡ Err answer.NoMemory → reply ≢ Number k) → CountsAnswer took (faults mid) (faults now_out) →
          IsOpenAt tells files counts opened → opened.session.met ≡ None → Drove given faults tells files counts lines n (met.Unwritten fault) out now_out opened closed
      unwritten_so reply now_out closed answer.Write took e does part none undone unnumbered counted at unmet =
          let so : SoFar given tells files counts (take n lines) out mid opened between = h.so_far at unmet in
          let did : OpenDoes tells files counts l (Ok reply) between closed = does so.goes.unmet so.goes.is_open in
          record {
            before = between;
            still_open = did.still_open;
            goes = so.goes;
            kept = h.kept;
            next = next_at (λ k. EndsStretch given tells files counts (met.Unwritten answer.Write) (take n lines) k out now_out opened between closed) lines n l lt is (
              half_more given tells files counts laws (take n lines) l reply out mid now_out (λ a. joins a mid now_out) opened between closed unended so.goes.laid did.ends so.more (part e),
              record { reply = reply; answers = did.ends; unended = unended },
            );
            sink = subst (λ k. Faulted k (faults now_out)) h.sink (subst (λ (r : Result (Unit {0}) AnswerFault). CountsAnswer r (faults mid) (faults now_out)) e counted);
          }
      unwritten_so reply now_out closed answer.NoMemory took e does part none undone unnumbered counted at unmet =
          let so : SoFar given tells files counts (take n lines) out mid opened between = h.so_far at unmet in
          let did : OpenDoes tells files counts l (Ok reply) between closed = does so.goes.unmet so.goes.is_open in
          record {
            before = between;
            still_open = did.still_open;
            goes = so.goes;
            kept = h.kept;
            next = next_at (λ k. EndsStretch given tells files counts (met.Unwritten answer.NoMemory) (take n lines) k out now_out opened between closed) lines n l lt is (
              unsaid_more given tells files counts (take n lines) out mid now_out (λ a. joins a mid now_out) (none e) opened between so.more,
              record { reply = reply; answers = did.ends; unended = unended; undone = undone e; unnumbered = λ k. unnumbered k e },
            );
            sink = subst (λ (r : Result (Unit {0}) AnswerFault). CountsAnswer r (faults mid) (faults now_out)) e counted ∙ h.sink;
          }

      -- it was not answered
      pub broken_so : (why : Broken) (closed : OpenView D d) → (between.session.met ≡ None → IsOpenAt tells files counts between → OpenDoes tells files counts l (Err why) between closed) →
          IsOpenAt tells files counts opened → opened.session.met ≡ None → Drove given faults tells files counts lines n (met.Broken why) out mid opened closed
      broken_so why closed does at unmet =
          let so : SoFar given tells files counts (take n lines) out mid opened between = h.so_far at unmet in
          let did : OpenDoes tells files counts l (Err why) between closed = does so.goes.unmet so.goes.is_open in
          record {
            before = between;
            still_open = did.still_open;
            goes = so.goes;
            kept = h.kept;
            next = next_at (λ k. EndsStretch given tells files counts (met.Broken why) (take n lines) k out mid opened between closed) lines n l lt is (so.more, unended, did.ends);
            sink = h.sink;
          }

    -- it ends the session
    pub ended_so : l ≡ line.End → IsOpenAt tells files counts opened → opened.session.met ≡ None → Drove given faults tells files counts lines n met.End out mid opened between
    ended_so end at unmet =
        let so : SoFar given tells files counts (take n lines) out mid opened between = h.so_far at unmet in
        record {
          before = between;
          still_open = so.goes.is_open;
          goes = so.goes;
          kept = h.kept;
          next = next_at (λ k. EndsStretch given tells files counts met.End (take n lines) k out mid opened between between) lines n l lt is (so.more, end, refl);
          sink = h.sink;
        }
