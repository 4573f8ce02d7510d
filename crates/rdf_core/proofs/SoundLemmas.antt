-- Every durable part of a line on a backup keeps its positions sound.
use Rattle.std.proofs.Common.{ℕ, zero, suc, ◌+◌, ◌-◌, ◌≤◌, min, true, false, ◌==◌, nat_lt, List, [], ◌∷◌, map, length, if◌then◌else◌, arith}
use Rattle.rdf_types.specs.declared.layout.Layout.{Layout}
use Rattle.rdf_types.specs.declared.records.Record.{Record}
use Rattle.rdf_core.specs.Effects.{after_all}
use Rattle.rdf_core.specs.Backup.{Backup, Volumes, Running, Taking, Taken, marks, with_volumes, store_parts, stores_parts, ends, copy_parts}
use Rattle.rdf_core.specs.Sound.{IsSound}
use Rattle.rdf_core.specs.PartLaws.{Every, every_all, every_append}
use Rattle.rdf_core.specs.SoundLaws.{sound_store}

-- a longer trail

-- messages

pub sound_stores : (layout : Layout) (trail : List Record) (upto n from : ℕ) (b : Backup) → upto ≤ length trail → IsSound layout trail b → Every (IsSound layout trail) (stores_parts layout (ends n from upto) b)
sound_stores layout trail upto zero from b w s = tt
sound_stores layout trail upto (suc n) from b w s =
    elim (nat_lt from upto) as (λ m. Every (IsSound layout trail) (stores_parts layout (if m then min (from + 64) upto ∷ ends n (min (from + 64) upto) upto else []) b)) [
      | true ↦ every_append (IsSound layout trail) (store_parts layout to b) (stores_parts layout (ends n to upto) (after_all b (store_parts layout to b))) one
          (sound_stores layout trail upto n to (after_all b (store_parts layout to b)) w (every_all (IsSound layout trail) b (store_parts layout to b) s one))
      | false ↦ tt
    ]
  where
    to : ℕ
    to = min (from + 64) upto

    near : (f u t : ℕ) → u ≤ t → min (f + 64) u ≤ t
    near f u t h = grind (arith, h)

    one : Every (IsSound layout trail) (store_parts layout to b)
    one = sound_store layout trail b to (near from upto (length trail) w) s

pub sound_copy : (layout : Layout) (trail : List Record) (lag lead : Backup) → IsSound layout trail lead → IsSound layout trail lag → Every (IsSound layout trail) (copy_parts layout lag lead)
sound_copy layout trail lag lead l s = sound_stores layout trail lead.received (lead.received - lag.received) lag.received lag l.within s

-- marks

sound_taking : (layout : Layout) (trail : List Record) (b : Backup) → IsSound layout trail b → IsSound layout trail (with_volumes b Taking)
sound_taking layout trail b s = record { within = s.within; some = s.some; low = s.low; volumes = tt }

sound_taken : (layout : Layout) (trail : List Record) (b : Backup) → IsSound layout trail b → IsSound layout trail (with_volumes b (Taken b.received))
sound_taken layout trail b s = record { within = s.within; some = s.some; low = s.low; volumes = (itself b.received, λ v p. s.low) }
  where
    itself : (n : ℕ) → n ≤ n
    itself n = omega arith

pub sound_marks : (layout : Layout) (trail : List Record) (b : Backup) (v : Volumes) → IsSound layout trail b → Every (IsSound layout trail) (map (with_volumes b) (marks b.received v))
sound_marks layout trail b (Running points) s = (sound_taking layout trail b s, (sound_taken layout trail b s, tt))
sound_marks layout trail b Taking s = (sound_taken layout trail b s, tt)
sound_marks layout trail b (Taken u) s =
    elim (u == b.received) as (λ m. Every (IsSound layout trail) (map (with_volumes b) (if m then [] else Taking ∷ Taken b.received ∷ []))) [
      | true ↦ tt
      | false ↦ (sound_taking layout trail b s, (sound_taken layout trail b s, tt))
    ]

-- purges
