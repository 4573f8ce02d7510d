-- The files of a generation that is begun, and of one that is dropped.
use Rattle.std.proofs.Common.{◌≡◌, ◌≢◌, ◌⊎◌, inl, inr, ⊎_elim, ℕ, ◌+◌, Bool, true, false, if◌then◌else◌, List, [], Option, Some, None, Result, Ok, Err, OnErr, OnOk, sym, ◌∙◌, ap, subst, arith}
use Rattle.rdf_disk.specs.Files.{Disk, Contents, settled}
use Rattle.rdf_gatelog.specs.Log.{IsAtRest}
use Rattle.rdf_disk.specs.Outcomes.{Durably}
use Rattle.rdf_gatelog.specs.Logs.{Logs, Reads, RestsAt, Rests, IsOpenIn, ReadsEither, with_log, pushed}
use Rattle.rdf_gatelog.specs.RestLaws.{with_other}
use Rattle.image_disks.specs.Blocks.{Plan}
use Rattle.image_trails.specs.Generations.{IsFreeFrom, ReadsOne, with_trail, without_trail, begun, before_start, after_drop}

pub on_err_map : {T E : Type 0} (r : Result T E) (P Q : Type 0) → (P → Q) → OnErr r P → OnErr r Q
on_err_map (Ok v) P Q f h = tt
on_err_map (Err e) P Q f h = f h

pub on_ok_map : {T E : Type 0} (r : Result T E) (P Q : Type 0) → (P → Q) → OnOk r P → OnOk r Q
on_ok_map (Ok v) P Q f h = f h
on_ok_map (Err e) P Q f h = tt

pub trail_made : (plan : Plan) (master t : ℕ) (logs : Logs) (b : Bool) → b ≡ plan.used t → b ≡ true → with_trail plan master t logs ≡ with_log logs (master + t) (Some [])
trail_made plan master t logs b is used = ap (λ (c : Bool). if c then with_log logs (master + t) (Some []) else logs) (sym is ∙ used)

pub trail_gone : (plan : Plan) (master t : ℕ) (logs : Logs) (b : Bool) → b ≡ plan.used t → b ≡ true → without_trail plan master t logs ≡ with_log logs (master + t) None
trail_gone plan master t logs b is used = ap (λ (c : Bool). if c then with_log logs (master + t) None else logs) (sym is ∙ used)

pub trail_absent : (plan : Plan) (master t f : ℕ) (logs : Logs) → f ≢ master + t → logs f ≡ None → with_trail plan master t logs f ≡ None
trail_absent plan master t f logs differs absent =
    elim (plan.used t) as (λ b. (if b then with_log logs (master + t) (Some []) else logs) f ≡ None) [
      | true ↦ with_other logs (master + t) (Some []) f differs ∙ absent
      | false ↦ absent
    ]

-- the stages at which a new generation may be left
module _ (plan : Plan) (master : ℕ) (start : List ℕ) (logs : Logs) where
  abbrev pub l1 : Logs
  l1 = with_trail plan master 1 logs

  abbrev pub l2 : Logs
  l2 = with_trail plan master 2 l1

  abbrev pub l3 : Logs
  l3 = with_trail plan master 3 l2

  abbrev pub l4 : Logs
  l4 = with_log l3 master (Some [])

  abbrev pub Left : Contents → Type 0
  Left c = ReadsOne (before_start plan master logs) c ⊎ Reads (begun plan master start logs) c

  pub absent_2 : IsFreeFrom master logs → l1 (master + 2) ≡ None
  absent_2 free = trail_absent plan master 1 (master + 2) logs (λ e. omega (arith, e)) (free (master + 2) (omega arith))

  pub absent_3 : IsFreeFrom master logs → l2 (master + 3) ≡ None
  absent_3 free = trail_absent plan master 2 (master + 3) l1 (λ e. omega (arith, e)) (trail_absent plan master 1 (master + 3) logs (λ e. omega (arith, e)) (free (master + 3) (omega arith)))

  pub absent_master : IsFreeFrom master logs → l3 master ≡ None
  absent_master free =
      trail_absent plan master 3 master l2 (λ e. omega (arith, e))
      (trail_absent plan master 2 master l1 (λ e. omega (arith, e)) (trail_absent plan master 1 master logs (λ e. omega (arith, e)) (free master (omega arith))))

  pub left_1 : (d : Disk) → Durably d (ReadsEither logs l1) → Durably d Left
  left_1 d either c may = ⊎_elim (λ (h : Reads logs c). inl (inl h)) (λ (h : Reads l1 c). inl (inr (inl h))) (either c may)

  pub left_2 : (d : Disk) → Durably d (ReadsEither l1 l2) → Durably d Left
  left_2 d either c may = ⊎_elim (λ (h : Reads l1 c). inl (inr (inl h))) (λ (h : Reads l2 c). inl (inr (inr (inl h)))) (either c may)

  pub left_3 : (d : Disk) → Durably d (ReadsEither l2 l3) → Durably d Left
  left_3 d either c may = ⊎_elim (λ (h : Reads l2 c). inl (inr (inr (inl h)))) (λ (h : Reads l3 c). inl (inr (inr (inr (inl h))))) (either c may)

  pub left_4 : (d : Disk) → Durably d (ReadsEither l3 l4) → Durably d Left
  left_4 d either c may = ⊎_elim (λ (h : Reads l3 c). inl (inr (inr (inr (inl h))))) (λ (h : Reads l4 c). inl (inr (inr (inr (inr (inl h)))))) (either c may)

  pub left_5 : (d : Disk) → Durably d (ReadsEither l4 (pushed l4 master start)) → Durably d Left
  left_5 d either c may = ⊎_elim (λ (h : Reads l4 c). inl (inr (inr (inr (inr (inl h)))))) (λ (h : Reads (pushed l4 master start) c). inr h) (either c may)

-- the stages at which a drop may be left
module _ (plan : Plan) (master : ℕ) (logs : Logs) where
  abbrev pub d0 : Logs
  d0 = with_log logs master None

  abbrev pub d1 : Logs
  d1 = without_trail plan master 1 d0

  abbrev pub d2 : Logs
  d2 = without_trail plan master 2 d1

  abbrev pub d3 : Logs
  d3 = without_trail plan master 3 d2

  abbrev pub Kept : Contents → Type 0
  Kept c = Reads logs c ⊎ ReadsOne (after_drop plan master logs) c

  pub kept_all : (d : Disk) → Durably d (Reads logs) → Durably d Kept
  kept_all d all c may = inl (all c may)

  pub kept_0 : (d : Disk) → Durably d (ReadsEither logs d0) → Durably d Kept
  kept_0 d either c may = ⊎_elim (λ (h : Reads logs c). inl h) (λ (h : Reads d0 c). inr (inl h)) (either c may)

  pub kept_1 : (d : Disk) → Durably d (ReadsEither d0 d1) → Durably d Kept
  kept_1 d either c may = ⊎_elim (λ (h : Reads d0 c). inr (inl h)) (λ (h : Reads d1 c). inr (inr (inl h))) (either c may)

  pub kept_2 : (d : Disk) → Durably d (ReadsEither d1 d2) → Durably d Kept
  kept_2 d either c may = ⊎_elim (λ (h : Reads d1 c). inr (inr (inl h))) (λ (h : Reads d2 c). inr (inr (inr (inl h)))) (either c may)

  pub kept_3 : (d : Disk) → Durably d (ReadsEither d2 d3) → Durably d Kept
  kept_3 d either c may = ⊎_elim (λ (h : Reads d2 c). inr (inr (inr (inl h)))) (λ (h : Reads d3 c). inr (inr (inr (inr (inl h))))) (either c may)

-- what a call asks of a disk at rest, of a file that is open and of one that isn't there
pub at_rest : (logs : Logs) (file end : ℕ) (disk : Disk) → Rests logs disk → IsOpenIn logs file end → (payloads : List (List ℕ)) × IsAtRest file end payloads disk
at_rest logs file end disk rests o = (o.payloads, subst (λ (e : ℕ). IsAtRest file e o.payloads disk) (sym o.end_is) (subst (λ (x : Option (List (List ℕ))). RestsAt file x disk) o.there (rests file)))

pub absent_at : (logs : Logs) (file : ℕ) (disk : Disk) → Rests logs disk → logs file ≡ None → disk file ≡ settled None
absent_at logs file disk rests none = subst (λ (x : Option (List (List ℕ))). RestsAt file x disk) none (rests file)
