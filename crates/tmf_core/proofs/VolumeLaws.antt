-- What a look at one volume leaves of a store.
use Rattle.std.proofs.Common.{◌≡◌, ◌≢◌, ◌==◌, ℕ, zero, suc, Bool, true, false, List, [], ◌∷◌, ◌++◌, take, Option, Some, IfSome, Vec, refl, sym, ap, ◌∙◌, subst, arith, append-nil}
use Rattle.std.specs.Prelude.{slice_get, if◌then◌else◌}
use Rattle.std.specs.List.{slice_set}
use Rattle.std.specs.Option.{option_map}
use Rattle.std.proofs.lemmas.Bool.{eq-eqb, ne_eqb}
use Rattle.std.proofs.lemmas.Option.{IfSome_then}
use Rattle.std.specs.declared.alloc.Global.{Global}
use Rattle.rdf_types.specs.declared.records.Record.{Record}
use Rattle.rdf_types.specs.declared.records.Row.{Row}
use Rattle.rdf_disk.specs.Files.{Disk}
use Rattle.rdf_disk.specs.Counts.{Counts, fused}
use Rattle.rdf_disk.specs.Outcomes.{Durably}
use Rattle.rdf_model.specs.Contents.{nothing}
use Rattle.rdf_model.specs.Trail.{raw}
use Rattle.rdf_model.specs.Rows.{list_of}
use Rattle.rdf_volume.specs.declared.volume.Volume.{Volume}
use Rattle.rdf_volume.specs.Standing.{StandsFor}
use Rattle.rdf_volume.specs.Views.{rows_of, restart_of, disk_of}
use Rattle.tmf_core.specs.declared.store.Store.{Store}
use Rattle.tmf_core.specs.Stores.{trail_in, Shows, Stored, StandsWithin, Left, counts_at}
use Rattle.tmf_core.specs.LeftLaws.{LawSpells, LawStands, left_store}
use Rattle.tmf_core.specs.Answers.{AreRowsOn}
use Rattle.tmf_core.specs.States.{FusedAt}
use Rattle.tmf_core.proofs.StoreLaws.{each_set, called}

abbrev no_records : List Record
no_records = []

nothing_taken : (k : ℕ) → take k no_records ≡ no_records
nothing_taken k = grind arith

module _ {D : Type 0} (files : D → Disk) (s : Store D) (h : Stored files s) (n : ℕ) (was : Volume D) (there : slice_get s.volumes.items n ≡ Some was) where
  shown : Shows files (trail_in s) n was
  shown = called files s h n was there

  -- the rows that the volume lists
  pub rows_listed : (vol : ℕ) (rows : List Row) → n ≡ vol → rows ≡ list_of (rows_of was) → AreRowsOn vol (raw nothing (trail_in s)) rows
  rows_listed vol rows same listed = subst (λ v. AreRowsOn v (raw nothing (trail_in s)) rows) same (record { map_of = rows_of was; are_on = shown.shows; listed = listed })

  -- the volume's disk stands for the same
  pub left_looked : LawSpells → LawStands files → (is : Volume D) (volumes : Vec (Volume D) Global) → volumes.items ≡ slice_set s.volumes.items n is → Durably (files (disk_of is)) (StandsFor (rows_of was) (restart_of was)) →
      Left files (trail_in s) [] (record { trail = s.trail; volumes = volumes })
  left_looked spells stands is volumes set_is same =
      let whole = left_store files spells stands s s h [] refl in
      record {
        kept = whole.kept;
        few = whole.few;
        spells = whole.spells;
        volume = λ v. subst (λ (vs : List (Volume D)). IfSome (slice_get vs v) (λ volume. Durably (files (disk_of volume)) (StandsWithin v (trail_in s ++ take whole.kept [])))) (sym set_is)
            (each_set (λ k volume. Durably (files (disk_of volume)) (StandsWithin k (trail_in s ++ take whole.kept []))) s.volumes.items n is
            (λ k. IfSome_then (slice_get s.volumes.items k) {P = λ y. Durably (files (disk_of y)) (StandsWithin k (trail_in s ++ take whole.kept []))} {Q = λ y. k ≢ n → Durably (files (disk_of y)) (StandsWithin k (trail_in s ++ take whole.kept []))} (whole.volume k) (λ y held ne. held))
            (subst (λ t. Durably (files (disk_of is)) (StandsWithin n t)) (sym (none whole.kept)) (λ c may. (restart_of was, (rows_of was, (shown.behind, shown.stood, same c may))))) v);
      }
    where
      none : (k : ℕ) → trail_in s ++ take k [] ≡ trail_in s
      none k = ap (λ (l : List Record). trail_in s ++ l) (nothing_taken k) ∙ append-nil (trail_in s)

-- counts that a test gives no fuse, or one
unfused : (b : Bool) (o : Option Counts) → b ≡ false → o ≡ (if b then option_map fused o else o)
unfused true o off = cc
unfused false o off = refl

with_fuse : (b : Bool) (o : Option Counts) → b ≡ true → option_map fused o ≡ (if b then option_map fused o else o)
with_fuse true o on = refl
with_fuse false o on = cc

-- the counts after the disk of one volume was given a fuse, by a test of which one it is
set_fused : {D : Type 0} (counts : D → Counts) (is_this : ℕ → Bool) (vs : List (Volume D)) (n : ℕ) (was is : Volume D) → slice_get vs n ≡ Some was → counts (disk_of is) ≡ fused (counts (disk_of was)) → is_this n ≡ true →
    ((v : ℕ) → v ≢ n → is_this v ≡ false) → (v : ℕ) →
    option_map (λ x. counts (disk_of x)) (slice_get (slice_set vs n is) v) ≡ (if is_this v then option_map fused (option_map (λ x. counts (disk_of x)) (slice_get vs v)) else option_map (λ x. counts (disk_of x)) (slice_get vs v))
set_fused counts is_this [] n was is there now this others v = cc
set_fused counts is_this (x ∷ vs) zero was is there now this others zero = ap (λ c. Some c) (now ∙ ap (λ y. fused (counts (disk_of y))) (some_same was x (sym there))) ∙ with_fuse (is_this zero) (Some (counts (disk_of x))) this
  where
    some_same : {X : Type 0} (a b : X) → Some a ≡ Some b → a ≡ b
    some_same a b e = cc
set_fused counts is_this (x ∷ vs) zero was is there now this others (suc v) = unfused (is_this (suc v)) (option_map (λ x. counts (disk_of x)) (slice_get vs v)) (others (suc v) (λ e. absurd (omega arith)))
set_fused counts is_this (x ∷ vs) (suc n) was is there now this others zero = unfused (is_this zero) (Some (counts (disk_of x))) (others zero (λ e. absurd (omega arith)))
set_fused counts is_this (x ∷ vs) (suc n) was is there now this others (suc v) = set_fused counts (λ k. is_this (suc k)) vs n was is there now this (λ k ne. others (suc k) (λ e. ne (omega arith))) v

-- the disk of one volume was given a fuse
pub fused_one : {D : Type 0} (counts : D → Counts) (s : Store D) (n disk : ℕ) (was is : Volume D) (volumes : Vec (Volume D) Global) → disk ≡ suc n → volumes.items ≡ slice_set s.volumes.items n is → slice_get s.volumes.items n ≡ Some was →
    counts (disk_of is) ≡ fused (counts (disk_of was)) → FusedAt counts disk s (record { trail = s.trail; volumes = volumes })
fused_one counts s n disk was is volumes disk_is set_is there now zero = unfused (zero == disk) (counts_at counts s zero) (ne_eqb zero disk (λ e. absurd (omega (arith, e, disk_is))))
fused_one {D = D} counts s n disk was is volumes disk_is set_is there now (suc v) =
    ap (λ (vs : List (Volume D)). option_map (λ x. counts (disk_of x)) (slice_get vs v)) set_is
    ∙ set_fused counts (λ k. suc k == disk) s.volumes.items n was is there now (eq-eqb (suc n) disk (sym disk_is)) (λ k ne. ne_eqb (suc k) disk (λ e. ne (omega (arith, e, disk_is)))) v
