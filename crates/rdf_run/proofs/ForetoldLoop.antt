-- The loop over a plan's lines: so far, with one line more, and ended by one.
use Rattle.std.proofs.Common.{◌≡◌, ℕ, ◌+◌, ◌<◌, List, [], ◌∷◌, ◌++◌, length, take, drop, get_or, refl, sym, ap, ◌∙◌, subst}
use Rattle.std.proofs.lemmas.List.{take_more}
use Rattle.rdf_types.specs.declared.layout.Layout.{Layout}
use Rattle.plan_lang.specs.declared.lines.Line.{Line}
use Rattle.rdf_core.specs.declared.replies.Reply.{Reply}
use Rattle.rdf_core.specs.State.{State, blank}
use Rattle.rdf_monitor.specs.Written.{Wrote, WrotePart}
use Rattle.rdf_monitor.specs.Joining.{wrote_none, wrote_then, part_then}
use Rattle.rdf_run.specs.Predicted.{Foretold, IsAnswered}
use Rattle.rdf_run.specs.Writing.{WroteAll, WrotePartly, WroteSome}
use Rattle.rdf_run.proofs.ForetoldRuns.{foretold_more}
use Rattle.rdf_run.proofs.LineLaws.{cut_at}

-- these lines were answered as is foretold, which leads to the state, and the replies are written
pub record SoFar (tells : Type 0) (layout : Layout) (lines : List Line) (old new : List ℕ) (s : State) : Type 0 where
  pub replies : List Reply
  pub foretold : Foretold layout (blank layout) lines replies s
  pub wrote : tells → Wrote replies old new

one_longer : (lines : List Line) (i : ℕ) (l : Line) → i < length lines → l ≡ get_or lines i l → take i lines ++ l ∷ [] ≡ take (i + 1) lines
one_longer lines i l lt is = ap (λ (k : Line). take i lines ++ k ∷ []) is ∙ sym (take_more lines i l lt)

-- no line yet
pub begun : (tells : Type 0) (layout : Layout) (old : List ℕ) (s : State) → s ≡ blank layout → SoFar tells layout [] old old s
begun tells layout old s e = record { replies = []; foretold = e; wrote = λ t. wrote_none old }

module _ (tells : Type 0) (layout : Layout) (lines : List Line) (i : ℕ) (l : Line) (lt : i < length lines) (is : l ≡ get_or lines i l) (old mid new : List ℕ) (s next : State) (so_far : SoFar tells layout (take i lines) old mid s) where
  -- one line more
  pub more_done : IsAnswered layout s l next (λ reply. tells → Wrote (reply ∷ []) mid new) → SoFar tells layout (take (i + 1) lines) old new next
  more_done a = record {
    replies = so_far.replies ++ a.reply ∷ [];
    foretold = subst (λ (ls : List Line). Foretold layout (blank layout) ls (so_far.replies ++ a.reply ∷ []) next) (one_longer lines i l lt is)
        (foretold_more layout (blank layout) s next (take i lines) so_far.replies l a.reply so_far.foretold a.may a.does);
    wrote = λ t. wrote_then so_far.replies (a.reply ∷ []) old mid new (so_far.wrote t) (a.written t);
  }

  -- the sink failed in the line's reply
  pub ended_writing : tells → IsAnswered layout s l next (λ reply. tells → WrotePart [] reply mid new) → WrotePartly layout lines old new
  ended_writing t a = record {
    before = take i lines;
    line = l;
    behind = drop (i + 1) lines;
    parts = cut_at lines i l lt is;
    replies = so_far.replies;
    reply = a.reply;
    predicted = (next, foretold_more layout (blank layout) s next (take i lines) so_far.replies l a.reply so_far.foretold a.may a.does);
    wrote = part_then so_far.replies a.reply old mid new (so_far.wrote t) (a.written t);
  }

-- there was no memory for the next line
pub ended_short : (tells : Type 0) (layout : Layout) (lines : List Line) (i : ℕ) (old mid new : List ℕ) (s : State) → new ≡ mid → tells → SoFar tells layout (take i lines) old mid s → WroteSome layout lines old new
ended_short tells layout lines i old mid new s e t so_far = record {
  many = i;
  wrote = record { replies = so_far.replies; predicted = (s, so_far.foretold); wrote = e ∙ so_far.wrote t };
}

-- all lines are done
pub ended : (tells : Type 0) (layout : Layout) (lines : List Line) (i : ℕ) (old new : List ℕ) (s : State) → take i lines ≡ lines → tells → SoFar tells layout (take i lines) old new s → WroteAll layout lines old new
ended tells layout lines i old new s e t so_far = record {
  replies = so_far.replies;
  predicted = (s, subst (λ (ls : List Line). Foretold layout (blank layout) ls so_far.replies s) e so_far.foretold);
  wrote = so_far.wrote t;
}

-- there was none at all
pub none_written : (layout : Layout) (lines : List Line) (old : List ℕ) → WroteSome layout lines old old
none_written layout lines old = record {
  many = 0;
  wrote = record { replies = []; predicted = (blank layout, refl); wrote = wrote_none old };
}
