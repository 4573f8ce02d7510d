-- What the header of a plan says, and where its lines may stand.
use Rattle.std.specs.Prelude.{◌≡◌, ℕ, ◌≤◌, ◌==◌, Bool, List, length, map, take, Option, Some, None, Result, Ok, Err, if◌then◌else◌}
use Rattle.std.specs.List.{AllPass}
use Rattle.rdf_types.specs.Limits.{is_trail}
use Rattle.rdf_types.specs.declared.records.Node.{Node}
use Rattle.rdf_types.specs.declared.layout.Layout.{Layout}
use Rattle.plan_lang.specs.declared.lines.Line.{Line}
use Rattle.plan_lang.specs.declared.why.PlanWhy.{PlanWhy}
use Rattle.plan_lang.specs.declared.why.PlanWhy.TheVariants.{SessionOpen, NotInSession}
use Rattle.plan_lang.specs.declared.header.Header.{Header}
use Rattle.plan_lang.specs.Sessions.{goes_in, goes_outside}

-- what the header says
pub record Heading : Type 0 where
  pub backups : ℕ
  pub volumes : ℕ
  pub trails : List ℕ
  pub protect : List Bool
  pub extent : ℕ
  pub retain : ℕ

-- within the limits
pub record IsHeading (h : Heading) : Type 0 where
  pub some_backup : 1 ≤ h.backups
  pub few_backups : h.backups ≤ 2
  pub some_volume : 1 ≤ h.volumes
  pub few_volumes : h.volumes ≤ 16
  pub a_trail_each : length h.trails ≡ h.volumes
  pub few_trails : AllPass is_trail h.trails
  pub a_flag_each : length h.protect ≡ h.volumes
  pub some_extent : 1 ≤ h.extent
  pub small_extent : h.extent ≤ 10000
  pub some_retained : 2 ≤ h.retain
  pub few_retained : h.retain ≤ 64

-- what a layout's header says
abbrev pub heading_of : Layout → Heading
heading_of layout = record { backups = layout.backups; volumes = layout.volumes; trails = layout.trail_of; protect = layout.protect; extent = layout.extent; retain = layout.retain }

-- the number is one, which in the header sets a flag
abbrev pub is_one : ℕ → Bool
is_one n = n == 1

-- what was read of a header
abbrev pub heading_read : Header → Heading
heading_read h = record { backups = h.backups; volumes = h.volumes; trails = take h.volumes h.trails; protect = map is_one (take h.volumes h.protect); extent = h.extent; retain = h.retain }

-- the line, if it may stand where the session of this node is open, or none
abbrev pub placed : Option Node → Line → Result Line PlanWhy
placed None l = if goes_outside l then Ok l else Err NotInSession
placed (Some of) l = if goes_in of l then Ok l else Err SessionOpen

-- the line that was read, if it may stand there; what was no line stays a fault
abbrev pub placed_or : Option Node → Result Line PlanWhy → Result Line PlanWhy
placed_or of (Ok l) = placed of l
placed_or of (Err e) = Err e
