-- The text of a plan.
use Rattle.std.specs.Prelude.{ℕ, ◌≤◌, ◌+◌, Bool, true, false, List, [], ◌∷◌, ◌++◌, length, map, None, decimal, codes}
use Rattle.std.specs.List.{AllByRecursion, flat_map}
use Rattle.rdf_types.specs.declared.layout.Layout.{Layout}
use Rattle.plan_lang.specs.declared.lines.Plan.{Plan}
use Rattle.plan_lang.specs.Words.{text_line}
use Rattle.plan_lang.specs.LineText.{line_words, IsLine}
use Rattle.plan_lang.specs.Sessions.{KeepSessions}

-- whether a volume is protected
abbrev pub flag_text : Bool → List ℕ
flag_text true = codes "1"
flag_text false = codes "0"

-- the header's first lines: how many backups and volumes there are
abbrev pub sizes_words : Layout → List (List (List ℕ))
sizes_words layout = (codes "rdfplan" ∷ codes "1" ∷ []) ∷ (codes "backups" ∷ decimal layout.backups ∷ []) ∷ (codes "volumes" ∷ decimal layout.volumes ∷ []) ∷ []

-- then the image trail of each volume, and whether it is protected
abbrev pub volumes_words : Layout → List (List (List ℕ))
volumes_words layout = (codes "trail" ∷ map decimal layout.trail_of) ∷ (codes "protect" ∷ map flag_text layout.protect) ∷ []

-- then how the audit is kept, and the header's end
abbrev pub keeping_words : Layout → List (List (List ℕ))
keeping_words layout = (codes "extent" ∷ decimal layout.extent ∷ []) ∷ (codes "retain" ∷ decimal layout.retain ∷ []) ∷ (codes "go" ∷ []) ∷ []

-- the words of the header's lines
abbrev pub header_words : Layout → List (List (List ℕ))
header_words layout = sizes_words layout ++ (volumes_words layout ++ keeping_words layout)

-- a plan as it is printed
abbrev pub plan_text : Plan → List ℕ
plan_text plan = flat_map text_line (header_words plan.layout ++ map line_words plan.lines)

-- a plan that has a text; its layout is within its limits by its type
pub record IsPlan (plan : Plan) : Type 0 where
  pub lines : AllByRecursion (IsLine plan.layout.backups) plan.lines
  pub sessions : KeepSessions None plan.lines
  pub few : 8 + length plan.lines ≤ 20000
