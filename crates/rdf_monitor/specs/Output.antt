-- What is out of the replies to a plan's lines.
use Rattle.std.specs.Prelude.{◌≡◌, ℕ, List, [], ◌∷◌, ◌++◌}
use Rattle.plan_lang.specs.declared.lines.Line.{Line}
use Rattle.rdf_core.specs.declared.replies.Reply.{Reply}
use Rattle.rdf_monitor.specs.Written.{Wrote, WrotePart}

-- nothing; the replies to these lines; or these and a first part of the reply to one more
pub record Output : Type 1 where
  pub none : Type 0
  pub whole : List Line → List Reply → Type 0
  pub part : List Line → List Reply → Line → Reply → Type 0

-- what came out first and what came out then are together what is out
pub record Joins (first then all : Output) : Type 0 where
  pub whole : (lines : List Line) (replies : List Reply) (l : Line) (reply : Reply) → first.whole lines replies → then.whole (l ∷ []) (reply ∷ []) → all.whole (lines ++ l ∷ []) (replies ++ reply ∷ [])
  pub part : (lines : List Line) (replies : List Reply) (l : Line) (reply : Reply) → first.whole lines replies → then.part [] [] l reply → all.part lines replies l reply
  pub none : (lines : List Line) (replies : List Reply) → first.whole lines replies → then.none → all.whole lines replies

-- the replies' texts, behind what was written before
abbrev pub texts_out : Type 0 → List ℕ → List ℕ → Output
texts_out sink_tells written now_written = record {
  none = now_written ≡ written;
  whole = λ lines replies. sink_tells → Wrote replies written now_written;
  part = λ lines replies l reply. sink_tells → WrotePart replies reply written now_written;
}
