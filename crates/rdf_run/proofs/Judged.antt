-- What the lines of a run are answered for how the nodes stand: with one line more, and of less that is known of how they stand then.
use Rattle.std.proofs.Common.{◌≡◌, ℕ, Bool, List, [], ◌∷◌, ◌++◌, Option, Ok, refl, sym, ◌∙◌, subst}
use Rattle.rdf_types.specs.declared.layout.Layout.{Layout}
use Rattle.rdf_types.specs.declared.records.Node.{Node}
use Rattle.rdf_disk.specs.Counts.{Counts}
use Rattle.rdf_disk.specs.declared.disk.Disk.{Ghosts}
use Rattle.plan_lang.specs.declared.lines.Line.{Line}
use Rattle.rdf_core.specs.declared.replies.Reply.{Reply}
use Rattle.rdf_system.specs.declared.system.System.{System}
use Rattle.rdf_system.specs.Stances.{Stances, stances_of, fresh, IsJudgedBy, MovesTo, IsJudged, IsMoved, StandsAs}
use Rattle.rdf_system.specs.States.{layout_of}
use Rattle.rdf_run.specs.Going.{Went}
use Rattle.rdf_run.specs.Judging.{AreJudged, Anyhow}

-- wherever the nodes stood so, the line is answered so for that, and moves them to where they stand so now
abbrev pub JudgesOn : Layout → Line → Reply → (Stances → Type 0) → (Stances → Type 0) → Type 0
JudgesOn layout l reply Was Now = (old : Stances) → Was old → IsJudgedBy old l reply × ((next : Stances) × (MovesTo layout l reply old next × Now next))

-- with one line more
pub judged_on : (layout : Layout) (s : Stances) (lines : List Line) (replies : List Reply) (l : Line) (reply : Reply) (Was Now : Stances → Type 0) → JudgesOn layout l reply Was Now →
    AreJudged layout s lines replies Was → AreJudged layout s (lines ++ l ∷ []) (replies ++ reply ∷ []) Now
judged_on layout s [] [] l reply Was Now judges h = judges s h
judged_on layout s [] (r ∷ replies) l reply Was Now judges h = absurd h
judged_on layout s (k ∷ lines) [] l reply Was Now judges h = absurd h
judged_on layout s (k ∷ lines) (r ∷ replies) l reply Was Now judges h = (h.0, (h.1.0, (h.1.1.0, judged_on layout h.1.0 lines replies l reply Was Now judges h.1.1.1)))

-- what follows from how the nodes stand then
pub judged_along : (layout : Layout) (s : Stances) (lines : List Line) (replies : List Reply) (Was Now : Stances → Type 0) → ((old : Stances) → Was old → Now old) →
    AreJudged layout s lines replies Was → AreJudged layout s lines replies Now
judged_along layout s [] [] Was Now so h = so s h
judged_along layout s [] (r ∷ replies) Was Now so h = absurd h
judged_along layout s (k ∷ lines) [] Was Now so h = absurd h
judged_along layout s (k ∷ lines) (r ∷ replies) Was Now so h = (h.0, (h.1.0, (h.1.1.0, judged_along layout h.1.0 lines replies Was Now so h.1.1.1)))

-- however they stand then
pub judged_anyhow : (layout : Layout) (s : Stances) (lines : List Line) (replies : List Reply) (Was : Stances → Type 0) → AreJudged layout s lines replies Was → AreJudged layout s lines replies Anyhow
judged_anyhow layout s lines replies Was h = judged_along layout s lines replies Was Anyhow (λ old was. tt) h

-- the same of a run over lines
pub went_anyhow : {D : Type 0} (all : Bool) (tells : Type 0) (counts : D → Counts) (layout : Layout) (lines : List Line) (replies : List Reply) (x y : Node → ℕ → Option D) (E : (Node → ℕ) → Type 0) (Was : Stances → Type 0) →
    Went all tells counts layout lines replies x y E Was → Went all tells counts layout lines replies x y E Anyhow
went_anyhow all tells counts layout lines replies x y E Was h = record {
  many = h.many;
  kinds = h.kinds;
  judged = judged_anyhow layout (fresh layout) lines replies Was h.judged;
  stops = h.stops;
  told = h.told;
  disks = h.disks;
  run = h.run;
}

-- a line that a system answered so for how its nodes stood, and that moved them
pub judges_on : {D : Type 0} {d : Ghosts D} (layout : Layout) (l : Line) (reply : Reply) (old new : System D d) → layout_of old ≡ layout → IsJudged l (Ok reply) old → IsMoved l (Ok reply) old new → JudgesOn layout l reply (StandsAs old) (StandsAs new)
judges_on layout l reply old new laid judged moved = λ was is.
    let at : stances_of old ≡ was = sym is in
    let said : IsJudgedBy was l reply = subst (λ (s : Stances). IsJudgedBy s l reply) at judged in
    let from : MovesTo (layout_of old) l reply was (stances_of new) = subst (λ (s : Stances). MovesTo (layout_of old) l reply s (stances_of new)) at moved in
    let moves : MovesTo layout l reply was (stances_of new) = subst (λ (of : Layout). MovesTo of l reply was (stances_of new)) laid from in
    (said, (stances_of new, (moves, refl)))

-- a system whose nodes stand as those of another one
pub stands_too : {D : Type 0} {d : Ghosts D} (old new : System D d) → stances_of new ≡ stances_of old → (s : Stances) → StandsAs old s → StandsAs new s
stands_too old new same s is = is ∙ sym same
