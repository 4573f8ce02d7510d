-- Damage of a backup's disks has its cause.
use Rattle.std.proofs.Common.{◌≡◌, ℕ, ◌≤◌, suc, true, false, List, Some, Result, Ok, Err, IfErr, IsTrue, refl, sym, ap, ◌∙◌, subst, arith}
use Rattle.std.specs.Prelude.{slice_get}
use Rattle.rdf_types.specs.declared.layout.Layout.{Layout}
use Rattle.rdf_gatelog.specs.declared.fault.LogFault.{LogFault}
use Rattle.rdf_gatelog.specs.declared.fault.LogFault.TheVariants as log
use Rattle.rdf_gatelog.specs.LogCauses.{NotDamaged}
use Rattle.rdf_volume.specs.declared.volume.Volume.{Volume}
use Rattle.rdf_volume.specs.Views.{file_of}
use Rattle.node_faults.specs.declared.NodeFault.{NodeFault}
use Rattle.node_faults.specs.declared.NodeFault.TheVariants as node
use Rattle.node_faults.specs.Faults.{fault_at, is_damage}
use Rattle.rdf_core.specs.Layouts.{protects}
use Rattle.rdf_backup.specs.Damage.{IsTooFar, IsWrong}

-- one volume

-- damage that the answer tells is of a file of the volume's, from its own on
abbrev pub NamesFrom : {D T : Type 0} → Volume D → Result T LogFault → Type 0
NamesFrom volume answer = (file at : ℕ) → answer ≡ Err (log.Damaged file at) → file_of volume ≤ file

-- the volume's file is no later than that of what came of it
pub names_later : {D T : Type 0} (old mid : Volume D) (r : Result T LogFault) → file_of old ≤ file_of mid → ((file at : ℕ) → r ≡ Err (log.Damaged file at) → file ≡ file_of mid) → NamesFrom old r
names_later old mid r rises names file at e = omega (arith, rises, names file at e)

module _ {D : Type 0} (tells : Type 0) (upto : ℕ) where
  by_fault : (volume : Volume D) (f : LogFault) → (tells → (file at : ℕ) → f ≡ log.Damaged file at → ⊥) → ((file at : ℕ) → f ≡ log.Damaged file at → file_of volume ≤ file) → IsTooFar tells upto volume f
  by_fault volume log.Stopped h from = tt
  by_fault volume log.Failed h from = tt
  by_fault volume log.NoMemory h from = tt
  by_fault volume (log.Damaged file at) h from = record {
    beyond = λ t. absurd (h t file at refl);
    file_is = λ t. absurd (h t file at refl);
    at_is = λ t. absurd (h t file at refl);
    own = from file at refl;
  }

  -- an answer that tells no damage over disks that tell what they hold
  pub none_too_far : {T : Type 0} (volume : Volume D) (r : Result T LogFault) → (tells → NotDamaged r) → NamesFrom volume r → IfErr r (IsTooFar tells upto volume)
  none_too_far volume (Ok x) h from = tt
  none_too_far {T = T} volume (Err f) h from = by_fault volume f (λ t file at e. h t file at (ap (λ (x : LogFault). let r : Result T LogFault = Err x in r) e)) (λ file at e. from file at (ap (λ (x : LogFault). let r : Result T LogFault = Err x in r) e))

  -- a fault that is passed on
  pub passed_too_far : {T : Type 0} (volume : Volume D) (r : Result T LogFault) (y x : LogFault) → r ≡ Err y → y ≡ x → IsTooFar tells upto volume x → IfErr r (IsTooFar tells upto volume)
  passed_too_far {T = T} volume r y x is same h = subst (λ (r : Result T LogFault). IfErr r (IsTooFar tells upto volume)) (sym is) (subst (λ f. IsTooFar tells upto volume f) (sym same) h)

  pub passed_sound : {T U : Type 0} (volume : Volume D) (r : Result T LogFault) (y x : LogFault) → r ≡ Err y → y ≡ x → (tells → NotDamaged {T = U} (Err x)) → NamesFrom {T = U} volume (Err x) → IfErr r (IsTooFar tells upto volume)
  passed_sound {U = U} volume r y x is same h from = passed_too_far volume r y x is same (none_too_far {T = U} volume (Err x) h from)

-- the volumes

module _ {D : Type 0} (tells : Type 0) (layout : Layout) (upto : ℕ) (volumes : List (Volume D)) where
  -- a volume's fault as the node's
  pub told_at : (n m : ℕ) (f : LogFault) (said : NodeFault) (was : Volume D) → said ≡ fault_at m f → m ≡ suc n → IsTrue (protects layout n) → slice_get volumes n ≡ Some was → IsTooFar tells upto was f → IsWrong tells layout upto volumes said
  told_at n m f said was is next on there far = subst (λ s. IsWrong tells layout upto volumes s) (sym (is ∙ ap (λ k. fault_at k f) next)) (by_case f far)
    where
      by_case : (f : LogFault) → IsTooFar tells upto was f → IsWrong tells layout upto volumes (fault_at (suc n) f)
      by_case log.Stopped h = tt
      by_case log.Failed h = tt
      by_case log.NoMemory h = tt
      by_case (log.Damaged file at) h = record { on = on; volume = was; there = there; far = h }

  -- a fault that tells no damage
  pub sound_told : (f : NodeFault) → is_damage f ≡ false → IsWrong tells layout upto volumes f
  sound_told (node.Stopped disk) h = tt
  sound_told (node.Failed disk) h = tt
  sound_told node.NoMemory h = tt
  sound_told (node.Damaged disk file at) h = absurd (differ h)
    where
      differ : true ≡ false → ⊥
      differ e = cc

  -- a fault that is passed on
  pub passed_wrong : {T : Type 0} (r : Result T NodeFault) (y x : NodeFault) → r ≡ Err y → y ≡ x → IsWrong tells layout upto volumes x → IfErr r (IsWrong tells layout upto volumes)
  passed_wrong {T = T} r y x is same h = subst (λ (r : Result T NodeFault). IfErr r (IsWrong tells layout upto volumes)) (sym is) (subst (λ f. IsWrong tells layout upto volumes f) (sym same) h)

  -- the same, of a position that is the other one
  pub passed_upto : {T : Type 0} (r : Result T NodeFault) (y x : NodeFault) (end : ℕ) → end ≡ upto → r ≡ Err y → y ≡ x → IsWrong tells layout end volumes x → IfErr r (IsWrong tells layout upto volumes)
  passed_upto r y x end all is same h = passed_wrong r y x is same (subst (λ n. IsWrong tells layout n volumes x) all h)
