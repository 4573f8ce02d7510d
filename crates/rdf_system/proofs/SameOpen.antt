-- Sessions that are told by the same parts are one.
use Rattle.std.proofs.Common.{◌≡◌, ℕ, List, Option, refl, sym, ap, subst, ◌∙◌}
use Rattle.std.proofs.Props.{props}
use Rattle.std.specs.Prelude.{◌+◌, ◌≤◌, length, vec_len, vec_capacity}
use Rattle.std.specs.Global.{Vec}
use Rattle.rdf_types.specs.declared.records.Stamped.{Stamped}
use Rattle.rdf_disk.specs.declared.disk.Disk.{Ghosts}
use Rattle.image_trails.specs.declared.trails.ImageTrails.{ImageTrails}
use Rattle.rdf_volume.specs.declared.volume.Volume.{Volume}
use Rattle.rdf_backup.specs.declared.session.Met.{Met}
use Rattle.rdf_backup.specs.Sessions.{Open}
use Rattle.rdf_system.specs.Opened.{IsSameOpen}

-- what tells a session
record Told (D : Type 0) : Type 0 where
  pub trails : ImageTrails D
  pub volumes : Vec (Volume D)
  pub txns : List (ℕ × ℕ)
  pub room : Vec D
  pub disk : D
  pub entries : List Stamped
  pub met : Option Met

-- its backup is one
record IsBackup {D : Type 0} (t : Told D) : Type 0 where
  pub sized : length t.volumes.items ≡ t.trails.memory.layout.volumes
  pub empty : vec_len t.room ≡ 0
  pub roomy : vec_len t.volumes + 1 ≤ vec_capacity t.room

backup_prop : {D : Type 0} (t : Told D) → IsProp (IsBackup t)
backup_prop t = hlevel props

module _ {D : Type 0} {d : Ghosts D} where
  abbrev open_from : (t : Told D) → IsBackup t → Open D d
  open_from t is = record {
    shown = record { trails = t.trails; volumes = t.volumes; txns = t.txns; room = t.room; sized = is.sized; empty = is.empty; roomy = is.roomy };
    disk = t.disk;
    entries = t.entries;
    met = t.met;
  }

  abbrev told_of : Open D d → Told D
  told_of o = record { trails = o.shown.trails; volumes = o.shown.volumes; txns = o.shown.txns; room = o.shown.room; disk = o.disk; entries = o.entries; met = o.met }

  abbrev is_backup : (o : Open D d) → IsBackup (told_of o)
  is_backup o = record { sized = o.shown.sized; empty = o.shown.empty; roomy = o.shown.roomy }

  same_from : (t u : Told D) → t ≡ u → (f : IsBackup t) (g : IsBackup u) → open_from t f ≡ open_from u g
  same_from t u e f = subst (λ (x : Told D). (g : IsBackup x) → open_from t f ≡ open_from x g) e (λ g. ap (open_from t) (backup_prop t f g))

  same_told : (o p : Open D d) → IsSameOpen o p → told_of p ≡ told_of o
  same_told o p h =
      ap (λ (x : ImageTrails D). let r : Told D = record (told_of p) { trails = x } in r) h.trails
      ∙ ap (λ (x : Vec (Volume D)). let r : Told D = record (told_of p) { trails = o.shown.trails; volumes = x } in r) h.volumes
      ∙ ap (λ (x : List (ℕ × ℕ)). let r : Told D = record (told_of p) { trails = o.shown.trails; volumes = o.shown.volumes; txns = x } in r) h.txns
      ∙ ap (λ (x : Vec D). let r : Told D = record (told_of p) { trails = o.shown.trails; volumes = o.shown.volumes; txns = o.shown.txns; room = x } in r) h.room
      ∙ ap (λ (x : D). let r : Told D = record (told_of p) { trails = o.shown.trails; volumes = o.shown.volumes; txns = o.shown.txns; room = o.shown.room; disk = x } in r) h.disk
      ∙ ap (λ (x : List Stamped). let r : Told D = record (told_of o) { entries = x; met = p.met } in r) h.entries
      ∙ ap (λ (x : Option Met). let r : Told D = record (told_of o) { met = x } in r) h.met

  pub same_open : (o p : Open D d) → IsSameOpen o p → p ≡ o
  same_open o p h = same_from (told_of p) (told_of o) (same_told o p h) (is_backup p) (is_backup o)

  -- what holds of two sessions holds of those that are the same
  pub for_same : (P : Open D d → Open D d → Type 0) (a b : Open D d) → P a b → (o c : Open D d) → IsSameOpen a o → IsSameOpen b c → P o c
  for_same P a b h o c e f = subst (λ (x : Open D d). P x c) (sym (same_open a o e)) (subst (λ (x : Open D d). P a x) (sym (same_open b c f)) h)

  pub same_self : (o : Open D d) → IsSameOpen o o
  same_self o = record { trails = refl; volumes = refl; txns = refl; room = refl; disk = refl; entries = refl; met = refl }
