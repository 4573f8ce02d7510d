-- What is refused of a backup, by its phase and by numbers.
use Rattle.std.proofs.Common.{◌≡◌, ◌≢◌, ℕ, ◌<◌, ◌≤◌, get_or, not, nat_lt, List, [], ◌∷◌, map, Option, Some, None, Result, Ok, Err, IfOk, refl, sym, ap, ◌∙◌, subst, arith}
use Rattle.std.proofs.lemmas.Bool.{lt-ltb, le-ltb}
use Rattle.rdf_types.specs.declared.records.Row.{Row}
use Rattle.rdf_types.specs.declared.records.Phase.{Phase}
use Rattle.rdf_types.specs.declared.records.Phase.TheVariants as phase
use Rattle.rdf_disk.specs.declared.disk.Disk.{Ghosts}
use Rattle.image_disks.specs.Values.{received, kept, first_of}
use Rattle.rdf_volume.specs.Views.{restart_of}
use Rattle.node_faults.specs.declared.NodeFault.{NodeFault}
use Rattle.copyaudit.specs.Copying.{IsPurgedRightly}
use Rattle.copyaudit.specs.declared.CopyFault.{CopyFault}
use Rattle.copyaudit.specs.declared.CopyFault.TheVariants as copy
use Rattle.rdf_core.specs.declared.replies.NoWhy.{NoWhy}
use Rattle.rdf_core.specs.declared.replies.NoWhy.TheVariants as no
use Rattle.rdf_core.specs.declared.replies.Reply.{Reply}
use Rattle.rdf_core.specs.declared.replies.Reply.TheVariants.{No, Rows}
use Rattle.rdf_core.specs.Effects.{when, first}
use Rattle.rdf_core.specs.Backup.{Backup as State, kept_of, deliver_refusal, list_refusal, copy_refusal, needs_volumes}
use Rattle.rdf_backup.specs.declared.backup.Backup.{Backup}
use Rattle.rdf_backup.specs.Copying.{not_taken, not_copied}
use Rattle.rdf_backup.specs.Refusals.{IsRefusal, IsJudged, IsNumber, AreRowsAt, read_refusal}
use Rattle.rdf_backup.specs.Replies.{not_running}
use Rattle.rdf_backup.specs.States.{volumes_by, state_of, layout_of, value_of}

-- where the kept part begins, as image trails and as the machine tell it
pub first_start : (starts : List ℕ) (b : State) → b.starts ≡ starts → first_of starts ≡ kept_of b
first_start starts b is = go starts ∙ ap (λ (ss : List ℕ). get_or ss 0 0) (sym is)
  where
    go : (starts : List ℕ) → first_of starts ≡ get_or starts 0 0
    go [] = refl
    go (s ∷ rest) = refl

first_one : (o : Option NoWhy) → first (o ∷ []) ≡ o
first_one None = refl
first_one (Some why) = refl

-- a line with a first refusal, and one without
pub refused_so : {X : Type 0} (refusal : Option NoWhy) (why : NoWhy) (says : Reply → Type 0) (r : Result Reply NodeFault) (old new : X) → refusal ≡ Some why → r ≡ Ok (No why) → new ≡ old → IsJudged refusal says r old new
refused_so refusal why says r old new is answer same = subst (λ o. IsJudged o says r old new) (sym is) (answer, same)

pub let_through : {X : Type 0} (refusal : Option NoWhy) (says : Reply → Type 0) (r : Result Reply NodeFault) (old new : X) → refusal ≡ None → IfOk r says → IsJudged refusal says r old new
let_through refusal says r old new is answer = subst (λ o. IsJudged o says r old new) (sym is) answer

-- what is answered otherwise is no refusal
pub no_refusal : (says : Reply → Type 0) (r : Result Reply NodeFault) → ((reply : Reply) (why : NoWhy) → says reply → reply ≡ No why → ⊥) → IfOk r says → IsRefusal r → ⊥
no_refusal says (Ok reply) other h is = other reply is.0 h is.1
no_refusal says (Err fault) other h is = is

pub number_is : (n : ℕ) (reply : Reply) (why : NoWhy) → IsNumber n reply → reply ≡ No why → ⊥
number_is n reply why h e = cc

pub rows_are : (at : ℕ) (reply : Reply) (why : NoWhy) → AreRowsAt at reply → reply ≡ No why → ⊥
rows_are at reply why h e = other h.0 h.1 e
  where
    other : (rows : List Row) → reply ≡ Rows at rows → reply ≡ No why → ⊥
    other rows i e = cc

pub unpurged : (f : CopyFault) (at kept : ℕ) (says : Reply → Type 0) → kept ≤ at → IsPurgedRightly at kept (Err f) → IfOk (not_copied f) says
unpurged (copy.Purged first) at kept says joins h = absurd (omega (arith, joins, h.0))
unpurged (copy.Log f) at kept says joins h = tt

module _ {D : Type 0} {d : Ghosts D} (old : Backup D d) where
  abbrev points : List ℕ
  points = map (λ volume. restart_of volume) old.volumes.items

  abbrev by_phase : ℕ → Phase → State
  by_phase stops p = record (state_of stops old) { volumes = volumes_by p points }

  abbrev at : ℕ
  at = received (value_of old)

  abbrev gap : ℕ → Option NoWhy
  gap from = when (nat_lt at from) (no.Gap at)

  -- in Running only a gap is refused
  pub delivery_is : (stops from to : ℕ) → (value_of old).phase ≡ phase.Running → deliver_refusal (state_of stops old) (Some (from, to)) ≡ gap from
  delivery_is stops from to running = ap (λ p. deliver_refusal (by_phase stops p) (Some (from, to))) running ∙ first_one (gap from)

  -- a takeover under way, and nothing else, refuses a purge
  pub purge_barred : (stops : ℕ) → (value_of old).phase ≡ phase.Taking → needs_volumes (state_of stops old) ≡ Some no.Taking
  purge_barred stops taking = ap (λ p. needs_volumes (by_phase stops p)) taking

  pub purge_free : (stops : ℕ) → (value_of old).phase ≢ phase.Taking → needs_volumes (state_of stops old) ≡ None
  purge_free stops still = by_case (value_of old).phase still
    where
      by_case : (p : Phase) → p ≢ phase.Taking → needs_volumes (by_phase stops p) ≡ None
      by_case phase.Running h = refl
      by_case phase.Taking h = absurd (h refl)
      by_case (phase.Taken upto) h = refl

  -- it refuses a list, too, and so does a volume that is not there
  pub list_barred : (stops vol : ℕ) → (value_of old).phase ≡ phase.Taking → list_refusal (layout_of old) (state_of stops old) vol ≡ Some no.Taking
  list_barred stops vol taking = ap (λ p. list_refusal (layout_of old) (by_phase stops p) vol) taking

  abbrev beyond : ℕ → Option NoWhy
  beyond vol = when (not (nat_lt vol (layout_of old).volumes)) no.Volume

  list_is : (stops vol : ℕ) → (value_of old).phase ≢ phase.Taking → list_refusal (layout_of old) (state_of stops old) vol ≡ beyond vol
  list_is stops vol still = by_case (value_of old).phase still
    where
      by_case : (p : Phase) → p ≢ phase.Taking → list_refusal (layout_of old) (by_phase stops p) vol ≡ beyond vol
      by_case phase.Running h = first_one (beyond vol)
      by_case phase.Taking h = absurd (h refl)
      by_case (phase.Taken upto) h = first_one (beyond vol)

  pub list_beyond : (stops vol : ℕ) → (value_of old).phase ≢ phase.Taking → (layout_of old).volumes ≤ vol → list_refusal (layout_of old) (state_of stops old) vol ≡ Some no.Volume
  list_beyond stops vol still far = list_is stops vol still ∙ ap (λ c. when (not c) no.Volume) (le-ltb vol (layout_of old).volumes far)

  pub list_there : (stops vol : ℕ) → (value_of old).phase ≢ phase.Taking → vol < (layout_of old).volumes → list_refusal (layout_of old) (state_of stops old) vol ≡ None
  list_there stops vol still there = list_is stops vol still ∙ ap (λ c. when (not c) no.Volume) (lt-ltb vol (layout_of old).volumes there)

  -- a read is refused once a takeover has begun, and of a volume that is not there
  pub read_barred : (stops vol : ℕ) (why : NoWhy) → not_running (value_of old).phase ≡ Some why → read_refusal (layout_of old) (state_of stops old) vol ≡ Some why
  read_barred stops vol why is = by_case (value_of old).phase is
    where
      by_case : (p : Phase) → not_running p ≡ Some why → read_refusal (layout_of old) (by_phase stops p) vol ≡ Some why
      by_case phase.Running is = cc
      by_case phase.Taking is = is
      by_case (phase.Taken upto) is = is

  -- copies
  module _ (lead : Backup D d) where
    abbrev lead_by : ℕ → Phase → State
    lead_by k p = record (state_of k lead) { volumes = volumes_by p (map (λ volume. restart_of volume) lead.volumes.items) }

    abbrev purged : ℕ → Option NoWhy
    purged k = when (nat_lt at (kept_of (state_of k lead))) (no.Purged at)

    -- the backup has not taken over, or the other one has not
    pub copy_barred : (stops k : ℕ) (why : NoWhy) → not_taken (value_of old).phase ≡ Some why → copy_refusal (state_of stops old) (state_of k lead) ≡ Some why
    copy_barred stops k why is = by_case (value_of old).phase is
      where
        by_case : (p : Phase) → not_taken p ≡ Some why → copy_refusal (by_phase stops p) (state_of k lead) ≡ Some why
        by_case phase.Running is = is
        by_case phase.Taking is = is
        by_case (phase.Taken upto) is = cc

    pub lead_barred : (stops k : ℕ) (why : NoWhy) → not_taken (value_of old).phase ≡ None → not_taken (value_of lead).phase ≡ Some why → copy_refusal (state_of stops old) (state_of k lead) ≡ Some why
    lead_barred stops k why taken is = by_case (value_of old).phase (value_of lead).phase taken is
      where
        by_case : (p q : Phase) → not_taken p ≡ None → not_taken q ≡ Some why → copy_refusal (by_phase stops p) (lead_by k q) ≡ Some why
        by_case phase.Running q h is = cc
        by_case phase.Taking q h is = cc
        by_case (phase.Taken upto) phase.Running h is = is
        by_case (phase.Taken upto) phase.Taking h is = is
        by_case (phase.Taken upto) (phase.Taken other) h is = cc

    -- between two that have, only what is purged is refused
    pub copying_is : (stops k : ℕ) → not_taken (value_of old).phase ≡ None → not_taken (value_of lead).phase ≡ None → copy_refusal (state_of stops old) (state_of k lead) ≡ when (nat_lt at (kept (value_of lead))) (no.Purged at)
    copying_is stops k taken lead_taken = by_case (value_of old).phase (value_of lead).phase taken lead_taken ∙ first_one (purged k) ∙ ap (λ n. when (nat_lt at n) (no.Purged at)) (sym (first_start (value_of lead).starts (state_of k lead) refl))
      where
        by_case : (p q : Phase) → not_taken p ≡ None → not_taken q ≡ None → copy_refusal (by_phase stops p) (lead_by k q) ≡ first (purged k ∷ [])
        by_case phase.Running q h g = cc
        by_case phase.Taking q h g = cc
        by_case (phase.Taken upto) phase.Running h g = cc
        by_case (phase.Taken upto) phase.Taking h g = cc
        by_case (phase.Taken upto) (phase.Taken other) h g = refl

    pub copy_purged : (stops k : ℕ) → not_taken (value_of old).phase ≡ None → not_taken (value_of lead).phase ≡ None → at < kept (value_of lead) → copy_refusal (state_of stops old) (state_of k lead) ≡ Some (no.Purged at)
    copy_purged stops k taken lead_taken behind = copying_is stops k taken lead_taken ∙ ap (λ c. when c (no.Purged at)) (lt-ltb at (kept (value_of lead)) behind)

    pub copy_free : (stops k : ℕ) → not_taken (value_of old).phase ≡ None → not_taken (value_of lead).phase ≡ None → kept (value_of lead) ≤ at → copy_refusal (state_of stops old) (state_of k lead) ≡ None
    copy_free stops k taken lead_taken joins = copying_is stops k taken lead_taken ∙ ap (λ c. when c (no.Purged at)) (le-ltb at (kept (value_of lead)) joins)
