-- Lines on a node that is not up, and lines that take it down.
use Rattle.std.proofs.Common.{◌≡◌, ◌≢◌, ℕ, Bool, true, false, not, ◌||◌, nat_lt, List, [], ◌∷◌, Option, Some, None, refl, sym, ap, ◌∙◌, subst}
use Rattle.std.specs.Prelude.{MatchOption}
use Rattle.std.specs.FinSet as set
use Rattle.rdf_types.specs.declared.layout.Layout.{Layout}
use Rattle.rdf_types.specs.declared.records.RecKey.{RecKey}
use Rattle.rdf_types.specs.declared.records.Node.TheVariants.{A}
use Rattle.rdf_disk.specs.Files.{Disk, Contents}
use Rattle.rdf_disk.specs.Counts.{Counts}
use Rattle.rdf_disk.specs.Outcomes.{Narrows}
use Rattle.rdf_disk.specs.declared.disk.Disk.{Ghosts}
use Rattle.rdf_model.specs.Trail.{owner}
use Rattle.rdf_model.specs.Running.{is_used}
use Rattle.plan_lang.specs.declared.lines.Line.{Line}
use Rattle.plan_lang.specs.declared.lines.Line.TheVariants as line
use Rattle.tmf_core.specs.Stores.{StandsWithin}
use Rattle.rdf_core.specs.PartLaws.{first_some}
use Rattle.rdf_core.specs.declared.events.Standing.TheVariants.{Down, Lost}
use Rattle.rdf_core.specs.declared.replies.NoWhy.{NoWhy}
use Rattle.rdf_core.specs.declared.replies.NoWhy.TheVariants as no
use Rattle.rdf_core.specs.declared.replies.Reply.{Reply}
use Rattle.rdf_core.specs.declared.replies.Reply.TheVariants.{No, Done, Stopped}
use Rattle.rdf_core.specs.Effects.{when, first}
use Rattle.rdf_core.specs.Primary.{Primary as State, primary_refusal, primary_status, needs_up, is_lost, is_down, needs_active, locked_for, cannot_use, stands}
use Rattle.rdf_primary.specs.declared.primary.Primary.{Primary}
use Rattle.rdf_primary.specs.States.{state_of, disks_in, IsRunning}
use Rattle.rdf_primary.specs.Standing.{PrimaryStandsFor, VolumeStandsFor}
use Rattle.rdf_primary.specs.StandingLaws.{running_stands}
use Rattle.primary_node.specs.declared.node.PrimaryNode.{PrimaryNode}
use Rattle.primary_node.specs.Cuts.{Each, AreCut}
use Rattle.primary_node.specs.Nodes.{IsAt, IsUpAt, IsOffAt, HasLayout, MayRest, MayRun, MayServe, standing_off, disks_at, disks_among}
use Rattle.primary_node.specs.Lines.{Follows, NeedsUp, why_off, status_off}
use Rattle.primary_node.proofs.CutLaws.{goes_off, cut_narrows, each_same}
use Rattle.primary_node.proofs.NodeLaws.{at_off, off_at, up_at, refused_follows, done_follows}

off_is : (a : State) (lost : Bool) → a.standing ≡ standing_off lost → needs_up a ≡ Some (why_off lost)
off_is a lost e = ap (λ s. first (when (is_lost s) no.Lost ∷ when (is_down s) no.Down ∷ [])) e ∙ go lost
  where
    go : (b : Bool) → first (when (is_lost (standing_off b)) no.Lost ∷ when (is_down (standing_off b)) no.Down ∷ []) ≡ Some (why_off b)
    go true = refl
    go false = refl

module _ (layout : Layout) (a : State) (lost : Bool) (e : a.standing ≡ standing_off lost) where
  abbrev why : NoWhy
  why = why_off lost

  off_use : (t : ℕ) (k : RecKey) → cannot_use layout a t k ≡ Some why
  off_use t k = first_some (needs_up a) (needs_active a t ∷ when (not (nat_lt k.vol layout.volumes)) no.Volume ∷ locked_for t (owner a.trail k) ∷ []) why (off_is a lost e)

  -- a node that is not up refuses what needs one that is
  pub off_refused : (l : Line) → NeedsUp l → primary_refusal layout a l ≡ Some why
  off_refused (line.Begin t) h = first_some (needs_up a) (when (set.contains a.active t || is_used t a.trail) no.Used ∷ []) why (off_is a lost e)
  off_refused (line.Insert t k value) h = first_some (cannot_use layout a t k) (when (stands a.trail k) no.Exists ∷ []) why (off_use t k)
  off_refused (line.Update t k value) h = first_some (cannot_use layout a t k) (when (not (stands a.trail k)) no.Missing ∷ []) why (off_use t k)
  off_refused (line.Delete t k) h = first_some (cannot_use layout a t k) (when (not (stands a.trail k)) no.Missing ∷ []) why (off_use t k)
  off_refused (line.Get t k) h = first_some (cannot_use layout a t k) (when (not (stands a.trail k)) no.Missing ∷ []) why (off_use t k)
  off_refused (line.Commit t) h = first_some (needs_up a) (needs_active a t ∷ []) why (off_is a lost e)
  off_refused (line.Abort t) h = first_some (needs_up a) (needs_active a t ∷ []) why (off_is a lost e)
  off_refused (line.List node vol) h = first_some (needs_up a) (when (not (nat_lt vol layout.volumes)) no.Volume ∷ []) why (off_is a lost e)
  off_refused _ h = absurd h

  pub cut_refused : primary_refusal layout a (line.Cut A) ≡ Some why
  cut_refused = off_is a lost e

status_of : (a : State) (lost : Bool) → a.standing ≡ standing_off lost → status_off lost ≡ primary_status a.standing a
status_of a lost e = sym (ap (λ s. primary_status s a) e ∙ go lost)
  where
    go : (b : Bool) → primary_status (standing_off b) a ≡ status_off b
    go true = refl
    go false = refl

pub done_no : Done ≢ Stopped A
done_no e = cc

module _ {D : Type 0} {d : Ghosts D} (files : D → Disk) (layout : Layout) (a : State) (rise : ℕ) (old new : PrimaryNode D d) (at : IsAt files layout a old) where
  -- a node that stays as it is, and is not up
  module _ (was : old.primary ≡ None) (is : new.primary ≡ None) (lost : new.lost ≡ old.lost) (disks : new.disks.items ≡ old.disks.items) where
    stays : IsAt files layout a new
    stays =
        let h = off_at files layout a old was at in
        at_off files layout a new is (record {
          stood = h.stood ∙ sym (ap standing_off lost);
          none_active = h.none_active;
          stands = subst (λ ds. PrimaryStandsFor files layout a ds) (sym disks) h.stands;
        })

    pub off_refuses : (l : Line) (w : NoWhy) → NeedsUp l → w ≡ why_off old.lost → Follows files layout a l rise (No w) new
    off_refuses l w needs e = refused_follows files layout a l rise w new (off_refused layout a old.lost (off_at files layout a old was at).stood l needs ∙ ap (λ x. Some x) (sym e)) stays

    pub off_no_cut : (w : NoWhy) → w ≡ why_off old.lost → Follows files layout a (line.Cut A) rise (No w) new
    off_no_cut w e = refused_follows files layout a (line.Cut A) rise w new (cut_refused layout a old.lost (off_at files layout a old was at).stood ∙ ap (λ x. Some x) (sym e)) stays

    pub off_status : (reply : Reply) → reply ≡ status_off old.lost → Follows files layout a (line.Status A) rise reply new
    off_status reply e = done_follows files layout a (line.Status A) rise reply new refl (e ∙ status_of a old.lost (off_at files layout a old was at).stood) stays refl

  -- a node that is lost for good
  pub off_lost : old.primary ≡ None → old.lost ≡ false → new.primary ≡ None → new.lost ≡ true → new.disks.items ≡ old.disks.items → Follows files layout a line.Lose rise Done new
  off_lost was not_lost is lost disks =
      let h = off_at files layout a old was at in
      let b : State = record a { standing = Lost; active = set.empty } in
      done_follows files layout a line.Lose rise Done new (ap (λ s. when (is_lost s) no.Lost) (h.stood ∙ ap standing_off not_lost)) refl
      (at_off files layout b new is (record {
        stood = sym (ap standing_off lost);
        none_active = refl;
        stands = subst (λ ds. PrimaryStandsFor files layout b ds) (sym disks) (goes_off files layout a b old.disks.items old.disks.items refl (λ v c k. k)
            (each_same (λ i x y. (m : ℕ) → Narrows (files x m) (files y m)) old.disks.items (λ i x m c k. k)) h.stands);
      })) refl

  -- the primary goes down
  module _ (p : Primary D d) (was : old.primary ≡ Some p) (is : new.primary ≡ None) (tells : Type 0) (counts : D → Counts) (they : tells) (runs : IsRunning files p) (cut : AreCut tells files counts (disks_in p) new.disks.items) where
    abbrev u : IsUpAt layout a p
    u = up_at files layout a old p was at

    fallen_stands : (b : State) → b.trail ≡ a.trail → ((v : ℕ) (c : Contents) → StandsWithin v b.trail c → VolumeStandsFor b.standing v b.trail c) → PrimaryStandsFor files layout b new.disks.items
    fallen_stands b same off = goes_off files layout (state_of a.stops p) b (disks_in p) new.disks.items (same ∙ ap (λ s. s.trail) u.state) off (cut_narrows tells files counts they (disks_in p) new.disks.items cut)
        (running_stands files p runs layout a.stops u.laid)

    pub cut_done : new.lost ≡ false → Follows files layout a (line.Cut A) rise Done new
    cut_done not_lost =
        let b : State = record a { standing = Down; active = set.empty } in
        done_follows files layout a (line.Cut A) rise Done new (ap (λ s. needs_up s) u.state) refl
        (at_off files layout b new is (record { stood = sym (ap standing_off not_lost); none_active = refl; stands = fallen_stands b refl (λ v c k. k) })) refl

    pub lose_done : new.lost ≡ true → Follows files layout a line.Lose rise Done new
    lose_done lost =
        let b : State = record a { standing = Lost; active = set.empty } in
        done_follows files layout a line.Lose rise Done new (ap (λ (s : State). when (is_lost s.standing) no.Lost) u.state) refl
        (at_off files layout b new is (record { stood = sym (ap standing_off lost); none_active = refl; stands = fallen_stands b refl (λ v c k. k) })) refl

module _ {D : Type 0} {d : Ghosts D} (n : PrimaryNode D d) where
  -- a node that is lost is not up
  pub lost_at : (tells : Type 0) (files : D → Disk) (counts : D → Counts) (layout : Layout) (a : State) → n.lost ≡ true → MayServe tells files counts n → IsAt files layout a n → a.standing ≡ Lost
  lost_at tells files counts layout a lost serves at = go n.primary serves at
    where
      go : (o : Option (Primary D d)) → MatchOption o (MayRest tells files counts n.volumes n.disks.items) (λ p. MayRun tells files counts n.volumes p × (n.lost ≡ false) × HasLayout n.volumes) → MatchOption o (IsOffAt files layout a (standing_off n.lost) n.disks.items) (λ p. IsUpAt layout a p) → a.standing ≡ Lost
      go None s h = h.stood ∙ ap standing_off lost
      go (Some p) s h = absurd (differ (sym lost ∙ s.1))
        where
          differ : true ≡ false → ⊥
          differ e = cc

  pub serves_up : (tells : Type 0) (files : D → Disk) (counts : D → Counts) (p : Primary D d) → n.primary ≡ Some p → MayServe tells files counts n → MayRun tells files counts n.volumes p × (n.lost ≡ false) × HasLayout n.volumes
  serves_up tells files counts p e h = subst (λ (o : Option (Primary D d)). MatchOption o (MayRest tells files counts n.volumes n.disks.items) (λ q. MayRun tells files counts n.volumes q × (n.lost ≡ false) × HasLayout n.volumes)) e h

  pub serves_none : (tells : Type 0) (files : D → Disk) (counts : D → Counts) → n.primary ≡ None → MayServe tells files counts n → MayRest tells files counts n.volumes n.disks.items
  serves_none tells files counts e h = subst (λ (o : Option (Primary D d)). MatchOption o (MayRest tells files counts n.volumes n.disks.items) (λ q. MayRun tells files counts n.volumes q × (n.lost ≡ false) × HasLayout n.volumes)) e h

  pub each_up : (p : Primary D d) → n.primary ≡ Some p → (R : ℕ → D → D → Type 0) (ys : List D) → Each R (disks_in p) ys → Each R (disks_at n) ys
  each_up p e R ys h = subst (λ (o : Option (Primary D d)). Each R (disks_among o n.disks.items) ys) (sym e) h

  pub each_none : n.primary ≡ None → (R : ℕ → D → D → Type 0) (ys : List D) → Each R n.disks.items ys → Each R (disks_at n) ys
  each_none e R ys h = subst (λ (o : Option (Primary D d)). Each R (disks_among o n.disks.items) ys) (sym e) h

  -- the disks of a node stand for the state that it is at
  pub node_stands : (tells : Type 0) (files : D → Disk) (counts : D → Counts) (they : tells) → MayServe tells files counts n → (layout : Layout) (a : State) → IsAt files layout a n → PrimaryStandsFor files layout a (disks_at n)
  node_stands tells files counts they serves layout a at = go n.primary serves at
    where
      go : (o : Option (Primary D d)) → MatchOption o (MayRest tells files counts n.volumes n.disks.items) (λ p. MayRun tells files counts n.volumes p × (n.lost ≡ false) × HasLayout n.volumes) → MatchOption o (IsOffAt files layout a (standing_off n.lost) n.disks.items) (λ p. IsUpAt layout a p) →
          PrimaryStandsFor files layout a (disks_among o n.disks.items)
      go None s h = h.stands
      go (Some p) s h = subst (λ b. PrimaryStandsFor files layout b (disks_in p)) (sym h.state) (running_stands files p (s.0.runs they) layout a.stops h.laid)
