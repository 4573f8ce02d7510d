-- What the updaters of a session are fed, and where their volumes are.
use Rattle.std.specs.Prelude.{ℕ, suc, min, Bool, true, List, [], ◌∷◌}
use Rattle.rdf_volume.specs.Views.{restart_of}
use Rattle.volume_sessions.specs.declared.placed.Placed.{Placed}

-- how many are flagged
abbrev pub flagged : List Bool → ℕ
flagged [] = 0
flagged (true ∷ flags) = suc (flagged flags)
flagged (_ ∷ flags) = flagged flags

-- the least of a position and the restart points of volumes
abbrev pub least_of : {D : Type 0} → ℕ → List (Placed D) → ℕ
least_of low [] = low
least_of low (p ∷ placed) = least_of (min low (restart_of p.volume)) placed
