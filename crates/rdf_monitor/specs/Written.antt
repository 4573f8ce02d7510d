-- What is written of the replies to a plan's lines.
use Rattle.std.specs.Prelude.{◌≡◌, ℕ, ◌<◌, List, ◌++◌, length, take}
use Rattle.rdf_core.specs.declared.replies.Reply.{Reply}
use Rattle.rdf_core.specs.Text.{text, texts}

-- the texts of these replies were written behind what stood there
abbrev pub Wrote : List Reply → List ℕ → List ℕ → Type 0
Wrote replies old new = new ≡ old ++ texts replies

-- the texts of these replies were written, and of the last one a first part that is not all of it
pub record WrotePart (replies : List Reply) (last : Reply) (old new : List ℕ) : Type 0 where
  pub most : ℕ
  pub short : most < length (text last)
  pub wrote : new ≡ (old ++ texts replies) ++ take most (text last)
