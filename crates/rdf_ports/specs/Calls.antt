-- The calls of a source or a sink in memory.
use Rattle.std.specs.Prelude.{ℕ, ◌+◌, min, Bool, List, if◌then◌else◌, ◌==◌}
use Rattle.std.specs.List.{list_any}
use Rattle.rdf_types.specs.Counts.{most}

-- how many calls came, the numbers of those that are to fail, and how many of these came
pub record Calls : Type 0 where
  pub came : ℕ
  pub fails : List ℕ
  pub failed : ℕ

-- no call came yet
abbrev pub no_calls : List ℕ → Calls
no_calls fails = record { came = 0; fails = fails; failed = 0 }

-- one more, up to where a count stays
abbrev pub one_more : ℕ → ℕ
one_more n = min (n + 1) most

-- whether the next call is to fail
abbrev pub is_listed : Calls → Bool
is_listed c = list_any (λ k. k == c.came) c.fails

-- after the next call
abbrev pub after_call : Calls → Calls
after_call c = record { came = one_more c.came; fails = c.fails; failed = (if is_listed c then one_more c.failed else c.failed) }
