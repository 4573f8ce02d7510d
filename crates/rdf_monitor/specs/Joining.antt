-- Texts that are written one after the other.
use Rattle.std.specs.Prelude.{ℕ, List, [], ◌∷◌, ◌++◌, take, ◌≡◌}
use Rattle.std.proofs.Common.{sym, ap, ◌∙◌, append_assoc}
use Rattle.std.proofs.lemmas.List.{append-nil}
use Rattle.std.proofs.lemmas.Grind.{flat_map-append}
use Rattle.rdf_core.specs.declared.replies.Reply.{Reply}
use Rattle.rdf_core.specs.Text.{text, texts}
use Rattle.rdf_monitor.specs.Written.{Wrote, WrotePart}
use Rattle.rdf_monitor.specs.Output.{Joins, texts_out}

texts-append : (a b : List Reply) → texts (a ++ b) ≡ texts a ++ texts b
texts-append a b = flat_map-append text a b

pub wrote_none : (old : List ℕ) → Wrote [] old old
wrote_none old = sym (append-nil old)

pub wrote_then : (a b : List Reply) (old mid new : List ℕ) → Wrote a old mid → Wrote b mid new → Wrote (a ++ b) old new
wrote_then a b old mid new p q = q ∙ ap (λ t. t ++ texts b) p ∙ append_assoc old (texts a) (texts b) ∙ ap (λ t. old ++ t) (sym (texts-append a b))

-- some replies, and then a first part of one
pub part_then : (a : List Reply) (reply : Reply) (old mid new : List ℕ) → Wrote a old mid → WrotePart [] reply mid new → WrotePart a reply old new
part_then a reply old mid new p q = record {
  most = q.most;
  short = q.short;
  wrote = q.wrote ∙ ap (λ t. t ++ take q.most (text reply)) (append-nil mid ∙ p);
}

-- nothing is written yet
pub no_text : (sink_tells : Type 0) (old : List ℕ) → (texts_out sink_tells old old).whole [] []
no_text sink_tells old = λ t. wrote_none old

-- texts, and those behind them
pub texts_join : (sink_tells : Type 0) (old mid new : List ℕ) → Joins (texts_out sink_tells old mid) (texts_out sink_tells mid new) (texts_out sink_tells old new)
texts_join sink_tells old mid new = record {
  whole = λ lines replies l reply p q. λ t. wrote_then replies (reply ∷ []) old mid new (p t) (q t);
  part = λ lines replies l reply p q. λ t. part_then replies reply old mid new (p t) (q t);
  none = λ lines replies p e. λ t. e ∙ p t;
}
