-- The first refusal, as the transactions have it and as the machine has it.
use Rattle.std.proofs.Common.{◌≡◌, ℕ, Bool, true, false, not, ◌==◌, ◌||◌, nat_lt, List, [], ◌∷◌, map, Option, Some, None, refl, sym, ap, ◌∙◌, subst}
use Rattle.std.specs.FinSet as set
use Rattle.rdf_types.specs.declared.layout.Layout.{Layout}
use Rattle.rdf_types.specs.declared.records.RecKey.{RecKey}
use Rattle.rdf_disk.specs.declared.disk.Disk.{Ghosts}
use Rattle.rdf_model.specs.Trail.{owner}
use Rattle.rdf_model.specs.Running.{is_used}
use Rattle.plan_lang.specs.declared.lines.Line.TheVariants as line
use Rattle.tmf_core.specs.declared.fault.TmfFault.{TmfFault}
use Rattle.tmf_core.specs.declared.fault.TmfFault.TheVariants as tmf
use Rattle.tmf_core.specs.States.{tmf_trail, tmf_active, tmf_volumes}
use Rattle.tmf_core.specs.Refusals as ours
use Rattle.tmf_core.specs.declared.tmf.Tmf.{Tmf}
use Rattle.rdf_core.specs.declared.replies.NoWhy.{NoWhy}
use Rattle.rdf_core.specs.declared.replies.NoWhy.TheVariants as no
use Rattle.rdf_core.specs.Effects as core
use Rattle.rdf_core.specs.Primary as machine
use Rattle.rdf_primary.specs.declared.primary.Primary.{Primary}
use Rattle.rdf_primary.specs.States.{state_of, IsLaidOut, IsUp}
use Rattle.rdf_primary.specs.Replies.{reason, NoneEarly}

-- the word of a refusal, where there is one
abbrev pub reasons : Option TmfFault → Option NoWhy
reasons None = None
reasons (Some why) = Some (reason why)

first_same : (l : List (Option TmfFault)) → reasons (ours.first l) ≡ core.first (map reasons l)
first_same [] = refl
first_same (None ∷ rest) = first_same rest
first_same (Some why ∷ rest) = refl

when_same : (b : Bool) (why : TmfFault) → reasons (ours.when b why) ≡ core.when b (reason why)
when_same true why = refl
when_same false why = refl

locked_same : (t : ℕ) (o : Option ℕ) → reasons (ours.locked_for t o) ≡ machine.locked_for t o
locked_same t None = refl
locked_same t (Some u) = when_same (not (u == t)) (tmf.Locked u)

module _ {D : Type 0} {d : Ghosts D} (s : Primary D d) (layout : Layout) (stops : ℕ) (laid : IsLaidOut layout s) (up : IsUp s) where
  off_same : reasons (ours.is_off s.tmf) ≡ machine.needs_up (state_of stops s)
  off_same = ap (λ b. reasons (ours.when b tmf.Down)) up

  volume_same : (v : ℕ) → reasons (ours.is_beyond s.tmf v) ≡ core.when (not (nat_lt v layout.volumes)) no.Volume
  volume_same v = when_same (not (nat_lt v (tmf_volumes s.tmf))) tmf.NoVolume ∙ ap (λ n. core.when (not (nat_lt v n)) no.Volume) (sym laid)

  idle_same : (t : ℕ) → reasons (ours.is_idle s.tmf t) ≡ machine.needs_active (state_of stops s) t
  idle_same t = when_same (not (set.contains (tmf_active s.tmf) t)) tmf.NoTxn

  two_same : (a b : Option TmfFault) (x y : Option NoWhy) → reasons a ≡ x → reasons b ≡ y → reasons (ours.first (a ∷ b ∷ [])) ≡ core.first (x ∷ y ∷ [])
  two_same a b x y e f = first_same (a ∷ b ∷ []) ∙ ap (λ z. core.first (z ∷ reasons b ∷ [])) e ∙ ap (λ z. core.first (x ∷ z ∷ [])) f

  pub use_same : (t : ℕ) (k : RecKey) → reasons (ours.cannot_use s.tmf t k) ≡ machine.cannot_use layout (state_of stops s) t k
  use_same t k =
      first_same (ours.is_off s.tmf ∷ ours.is_idle s.tmf t ∷ ours.is_beyond s.tmf k.vol ∷ ours.locked_for t (owner (tmf_trail s.tmf) k) ∷ [])
      ∙ ap (λ z. core.first (z ∷ reasons (ours.is_idle s.tmf t) ∷ reasons (ours.is_beyond s.tmf k.vol) ∷ reasons (ours.locked_for t (owner (tmf_trail s.tmf) k)) ∷ [])) off_same
      ∙ ap (λ z. core.first (machine.needs_up (state_of stops s) ∷ z ∷ reasons (ours.is_beyond s.tmf k.vol) ∷ reasons (ours.locked_for t (owner (tmf_trail s.tmf) k)) ∷ [])) (idle_same t)
      ∙ ap (λ z. core.first (machine.needs_up (state_of stops s) ∷ machine.needs_active (state_of stops s) t ∷ z ∷ reasons (ours.locked_for t (owner (tmf_trail s.tmf) k)) ∷ [])) (volume_same k.vol)
      ∙ ap (λ z. core.first (machine.needs_up (state_of stops s) ∷ machine.needs_active (state_of stops s) t ∷ core.when (not (nat_lt k.vol layout.volumes)) no.Volume ∷ z ∷ [])) (locked_same t (owner (tmf_trail s.tmf) k))

  pub begin_same : (t : ℕ) → machine.primary_refusal layout (state_of stops s) (line.Begin t) ≡ reasons (ours.begin_refusal s.tmf t)
  begin_same t = sym (two_same (ours.is_off s.tmf) (ours.when (set.contains (tmf_active s.tmf) t || is_used t (tmf_trail s.tmf)) tmf.TxnUsed) (machine.needs_up (state_of stops s))
      (core.when (set.contains (tmf_active s.tmf) t || is_used t (tmf_trail s.tmf)) no.Used) off_same (when_same (set.contains (tmf_active s.tmf) t || is_used t (tmf_trail s.tmf)) tmf.TxnUsed))

  pub end_same : (t : ℕ) → core.first (machine.needs_up (state_of stops s) ∷ machine.needs_active (state_of stops s) t ∷ []) ≡ reasons (ours.end_refusal s.tmf t)
  end_same t = sym (two_same (ours.is_off s.tmf) (ours.is_idle s.tmf t) (machine.needs_up (state_of stops s)) (machine.needs_active (state_of stops s) t) off_same (idle_same t))

  pub insert_same : (t : ℕ) (k : RecKey) → core.first (machine.cannot_use layout (state_of stops s) t k ∷ core.when (machine.stands (tmf_trail s.tmf) k) no.Exists ∷ []) ≡ reasons (ours.insert_refusal s.tmf t k)
  insert_same t k = sym (two_same (ours.cannot_use s.tmf t k) (ours.when (ours.stands (tmf_trail s.tmf) k) tmf.Exists) (machine.cannot_use layout (state_of stops s) t k)
      (core.when (machine.stands (tmf_trail s.tmf) k) no.Exists) (use_same t k) (when_same (ours.stands (tmf_trail s.tmf) k) tmf.Exists))

  pub value_same : (t : ℕ) (k : RecKey) → machine.needs_value layout (state_of stops s) t k ≡ reasons (ours.value_refusal s.tmf t k)
  value_same t k = sym (two_same (ours.cannot_use s.tmf t k) (ours.when (not (ours.stands (tmf_trail s.tmf) k)) tmf.Missing) (machine.cannot_use layout (state_of stops s) t k)
      (core.when (not (machine.stands (tmf_trail s.tmf) k)) no.Missing) (use_same t k) (when_same (not (ours.stands (tmf_trail s.tmf) k)) tmf.Missing))

  pub scan_same : (vol : ℕ) → core.first (machine.needs_up (state_of stops s) ∷ core.when (not (nat_lt vol layout.volumes)) no.Volume ∷ []) ≡ reasons (ours.scan_refusal s.tmf vol)
  scan_same vol = sym (two_same (ours.is_off s.tmf) (ours.is_beyond s.tmf vol) (machine.needs_up (state_of stops s)) (core.when (not (nat_lt vol layout.volumes)) no.Volume) off_same (volume_same vol))

-- nothing that is judged in memory refuses a line where nothing refuses its call before a disk is asked
pub early_only : (refusal : Option TmfFault) → refusal ≡ None → NoneEarly (reasons refusal)
early_only refusal none = subst (λ o. NoneEarly (reasons o)) (sym none) tt

pub early_at : {D : Type 0} {d : Ghosts D} (needs : Bool) (s : Tmf D d) (t : ℕ) (k : RecKey) → ours.cannot_use s t k ≡ None → NoneEarly (reasons (ours.place_refusal needs s t k))
early_at needs s t k none = subst (λ o. NoneEarly (reasons (ours.first (o ∷ ours.mismatch needs (ours.stands (tmf_trail s) k) ∷ [])))) (sym none) (by_case needs (ours.stands (tmf_trail s) k))
  where
    by_case : (needs stands : Bool) → NoneEarly (reasons (ours.first (None ∷ ours.mismatch needs stands ∷ [])))
    by_case true true = tt
    by_case true false = refl
    by_case false true = refl
    by_case false false = tt
