-- A line that a stop cuts off: what the part that it uses does is what the whole does.
use Rattle.std.proofs.lemmas.Option.{same_Some}
use Rattle.std.proofs.Common.{◌≡◌, ◌≤◌, ℕ, true, false, List, map, length, Option, Some, Result, Ok, Err, IfOk, OnErr, IsTrue, refl, sym, ap, ◌∙◌, subst}
use Rattle.std.proofs.lemmas.List.{length-map}
use Rattle.std.proofs.lemmas.Result.{IfOk-weaker}
use Rattle.rdf_types.specs.declared.layout.Layout.{Layout}
use Rattle.rdf_types.specs.declared.records.Node.{Node}
use Rattle.rdf_types.specs.declared.records.Node.TheVariants.{A}
use Rattle.plan_lang.specs.declared.lines.Line.{Line}
use Rattle.plan_lang.specs.declared.lines.Line.TheVariants as line
use Rattle.rdf_core.specs.declared.replies.NoWhy.{NoWhy}
use Rattle.rdf_core.specs.declared.replies.Reply.{Reply}
use Rattle.rdf_core.specs.declared.replies.Reply.TheVariants.{Stopped}
use Rattle.rdf_core.specs.Effects.{after_parts, reaches_disks, parts_unless}
use Rattle.rdf_core.specs.Primary.{Primary, primary_refusal, primary_parts}
use Rattle.by_node.specs.Each.{at}
use Rattle.rdf_core.specs.State.{State, with_backup, with_primary, fallen}
use Rattle.rdf_core.specs.Step.{disks_of, points_now}
use Rattle.rdf_core.specs.Happens.{CanStop, Stops, points_for, parts_of}
use Rattle.rdf_core.specs.Backup.{backup_parts, backup_refusal, list_rule, restart_rule}
use Rattle.rdf_core.specs.Lines.{around, on_primary, on_backup, parts, refusal, restarted}
use Rattle.rdf_core.specs.GrowthLaws.{Grows, grows_not}
use Rattle.rdf_core.specs.PartLaws.{map_unless, map_parts}
use Rattle.rdf_core.specs.RowLaws.{of_backup, put_back}
use Rattle.rdf_core.specs.Rule.{Rule}
use Rattle.rdf_machine.proofs.MachineLaws.{parts_grown}
use Rattle.rdf_machine.specs.OfNodes.{is_on_backup}
use Rattle.primary_machine.specs.Stops.{CanCut, first_parts}

module _ (layout : Layout) (s : State) (l : Line) where
  -- the refusal and the durable parts of a line are those of a part of the state
  record IsOf {X : Type 0} (f : X → State) (refused : Option NoWhy) (xs : List X) : Type 0 where
    pub refusal_is : refusal layout s l ≡ refused
    pub parts_are : parts layout (points_for layout s l) s l ≡ map f xs

  module _ {X : Type 0} (f : X → State) (refused : Option NoWhy) (xs : List X) (is : IsOf f refused xs) where
    all_of : parts_of layout s l ≡ map f (parts_unless refused xs)
    all_of = ap (λ (o : Option NoWhy). parts_unless o (parts layout (points_for layout s l) s l)) is.refusal_is ∙ ap (parts_unless refused) is.parts_are ∙ map_unless f refused xs

    -- the first parts of the line
    first_of : (old : X) → f old ≡ s → (done : ℕ) → f (after_parts old (parts_unless refused xs) done) ≡ after_parts s (parts_of layout s l) done
    first_of old e done =
        sym (map_parts f old (parts_unless refused xs) done) ∙ ap (λ (x : State). after_parts x (map f (parts_unless refused xs)) done) e ∙ ap (λ (ys : List State). after_parts s ys done) (sym all_of)

module _ (layout : Layout) (s : State) where
  abbrev OfPrimary : Line → Type 0
  OfPrimary l = IsOf layout s l (with_primary s) (primary_refusal layout s.primary l) (primary_parts s.primary l)

  -- a line that uses the disks of the primary
  of_primary : (l : Line) (node : Node) → is_on_backup l ≡ false → disks_of l ≡ Some node → (A ≡ node) × OfPrimary l
  of_primary (line.Insert t k value) node e of = (same_Some A node of, record { refusal_is = refl; parts_are = refl })
  of_primary (line.Update t k value) node e of = (same_Some A node of, record { refusal_is = refl; parts_are = refl })
  of_primary (line.Delete t k) node e of = (same_Some A node of, record { refusal_is = refl; parts_are = refl })
  of_primary (line.Get t k) node e of = (same_Some A node of, record { refusal_is = refl; parts_are = refl })
  of_primary (line.Commit t) node e of = (same_Some A node of, record { refusal_is = refl; parts_are = refl })
  of_primary (line.Abort t) node e of = (same_Some A node of, record { refusal_is = refl; parts_are = refl })
  of_primary (line.List A vol) node e of = (same_Some A node of, record { refusal_is = refl; parts_are = refl })
  of_primary (line.Restart A) node e of = (same_Some A node of, record { refusal_is = refl; parts_are = refl })
  of_primary _ node e of = cc

  abbrev OfBackup : Node → Line → Type 0
  OfBackup node l = IsOf layout s l (with_backup s node) (backup_refusal layout (around (points_now layout s node) s l) (at s.backups node) l) (backup_parts layout (around (points_now layout s node) s l) (at s.backups node) l)

  -- and one that uses those of a backup
  on_one : (l : Line) (node : Node) → is_on_backup l ≡ true → disks_of l ≡ Some node → OfBackup node l
  on_one (line.Deliver n k) node e of = subst (λ (m : Node). OfBackup m (line.Deliver n k)) (same_Some n node of) (record { refusal_is = refl; parts_are = refl })
  on_one (line.Purge n) node e of = subst (λ (m : Node). OfBackup m (line.Purge n)) (same_Some n node of) (record { refusal_is = refl; parts_are = refl })
  on_one (line.Takeover n) node e of = subst (λ (m : Node). OfBackup m (line.Takeover n)) (same_Some n node of) (record { refusal_is = refl; parts_are = refl })
  on_one (line.CopyAudit n from) node e of = subst (λ (m : Node). OfBackup m (line.CopyAudit n from)) (same_Some n node of) (record { refusal_is = refl; parts_are = refl })
  on_one (line.List n vol) node e of = subst (λ (m : Node). OfBackup m (line.List n vol)) (same_Some n node of)
      (let row = of_backup n (on_primary s (line.List n vol)) (on_backup s n (list_rule layout s.primary.trail vol)) e in record { refusal_is = ap (λ (r : Rule State). r.refusal layout) row; parts_are = ap (λ (r : Rule State). r.parts) row })
  on_one (line.Restart n) node e of = subst (λ (m : Node). OfBackup m (line.Restart n)) (same_Some n node of)
      (let row = of_backup n (record (on_primary s (line.Restart n)) { after = restarted s (line.Restart n) }) (on_backup s n restart_rule) e in record { refusal_is = ap (λ (r : Rule State). r.refusal layout) row; parts_are = ap (λ (r : Rule State). r.parts) row })
  on_one _ node e of = cc

  module _ (node : Node) (l : Line) (done : ℕ) (can : CanStop layout s node l done) where
    -- the first parts of a line on a backup, and the node's fall, are a stop of the whole
    pub backup_stops : (mid new : State) → is_on_backup l ≡ true →
        (let w = around (points_now layout s node) s l in let b = at s.backups node in
        mid ≡ with_backup s node (after_parts b (parts_unless (backup_refusal layout w b l) (backup_parts layout w b l)) done)) → new ≡ fallen node 1 mid → Stops layout s node l done (Stopped node) new
    backup_stops mid new e first falls =
        let w = around (points_now layout s node) s l in
        let b = at s.backups node in
        (refl, falls ∙ ap (fallen node 1) (first ∙ first_of layout s l (with_backup s node) (backup_refusal layout w b l) (backup_parts layout w b l) (on_one l node e can.of) b (put_back s node) done))

    module _ {E : Type 0} (r : Result Reply E) (new : Primary) (e : is_on_backup l ≡ false)
        (ok : IfOk r (λ reply. CanCut layout s.primary l done → (reply ≡ Stopped A) × (new ≡ first_parts layout s.primary l done))) where
      is : (A ≡ node) × OfPrimary l
      is = of_primary l node e can.of

      can_cut : CanCut layout s.primary l done
      can_cut =
          let refused = primary_refusal layout s.primary l in
          let xs = primary_parts s.primary l in
          record {
            reaches = subst (λ (o : Option NoWhy). IsTrue (reaches_disks o)) is.1.refusal_is can.reaches;
            few = subst (λ n. done ≤ n) (ap (λ (ys : List State). length ys) (all_of layout s l (with_primary s) refused xs is.1) ∙ length-map (parts_unless refused xs) (with_primary s)) can.few;
          }

      stop : (reply : Reply) → (reply ≡ Stopped A) × (new ≡ first_parts layout s.primary l done) → Stops layout s node l done reply (with_primary s new)
      stop reply h = subst (λ (n : Node). Stops layout s n l done reply (with_primary s new)) is.0
          (h.0, ap (with_primary s) h.1 ∙ ap (fallen A 1) (first_of layout s l (with_primary s) (primary_refusal layout s.primary l) (primary_parts s.primary l) is.1 s.primary refl done))

      -- the primary's part of a stop is a stop of the whole
      pub primary_stops : IfOk r (λ reply. Stops layout s node l done reply (with_primary s new))
      primary_stops = IfOk-weaker r _ _ (λ reply h. stop reply (h can_cut)) ok

      -- and only adds records
      pub stop_grows : OnErr r (new ≡ s.primary) → Grows s.primary.trail new.trail
      stop_grows err = by_case r ok err
        where
          by_case : (r : Result Reply E) → IfOk r (λ reply. CanCut layout s.primary l done → (reply ≡ Stopped A) × (new ≡ first_parts layout s.primary l done)) → OnErr r (new ≡ s.primary) →
              Grows s.primary.trail new.trail
          by_case (Ok reply) h g = subst (λ (a : Primary). Grows s.primary.trail a.trail) (sym (h can_cut).1) (parts_grown s.primary (primary_refusal layout s.primary l) l done)
          by_case (Err x) h g = subst (λ (a : Primary). Grows s.primary.trail a.trail) (sym g) (grows_not s.primary.trail)
