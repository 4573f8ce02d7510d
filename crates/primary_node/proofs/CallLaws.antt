-- What the node does for a line, from what its primary does or from how the node stands.
use Rattle.std.proofs.Common.{◌≡◌, inl, ℕ, Bool, true, false, ◌&&◌, Some, None, Result, Ok, Err, refl, sym, ◌∙◌, subst}
use Rattle.rdf_types.specs.declared.records.Node.TheVariants.{A}
use Rattle.rdf_disk.specs.Files.{Disk}
use Rattle.rdf_disk.specs.Counts.{Counts}
use Rattle.rdf_disk.specs.Counts.Ending.{Fine}
use Rattle.rdf_disk.specs.declared.disk.Disk.{Ghosts}
use Rattle.plan_lang.specs.declared.lines.Line.{Line}
use Rattle.node_faults.specs.declared.NodeFault.{NodeFault}
use Rattle.node_faults.specs.Faults.{ending_at, IsNamed}
use Rattle.tmf_core.specs.CauseLaws.{same_volumes}
use Rattle.tmf_core.specs.States.{tmf_volumes}
use Rattle.rdf_core.specs.declared.events.Standing.TheVariants.{Up}
use Rattle.rdf_core.specs.declared.replies.NoWhy.{NoWhy}
use Rattle.rdf_core.specs.declared.replies.Reply.{Reply}
use Rattle.rdf_core.specs.declared.replies.Reply.TheVariants.{Done, No, Stopped}
use Rattle.rdf_primary.specs.declared.primary.Primary.{Primary}
use Rattle.rdf_primary.specs.States.{disks_in}
use Rattle.rdf_primary.specs.Replies.{IsAnswered, Keeps, is_by_volume}
use Rattle.rdf_primary.specs.Lines as primary
use Rattle.primary_node.specs.declared.node.PrimaryNode.{PrimaryNode}
use Rattle.primary_node.specs.Cuts.{AreCut}
use Rattle.primary_node.specs.Nodes.{MayServe, disks_at}
use Rattle.primary_node.specs.Lines.{Tells, Performs, WasLooked, stop_told, why_off, is_fuse}
use Rattle.primary_node.specs.Kinds.{IsReplied}
use Rattle.primary_node.specs.Moves.{standing_at, IsMoved}
use Rattle.primary_node.specs.Calls.{Does}
use Rattle.primary_node.proofs.CutLaws.{each_same}
use Rattle.primary_node.proofs.NodeLaws.{goes_follows, told_ends, no_fuse}
use Rattle.primary_node.proofs.CauseLaws.{by_disk, none_fails, none_fuses, still_on, fails_cut, fuses_stay, cut_fine, cut_fuses, are_off, told_caused, told_sound, many_of, each_off, serves_off}
use Rattle.primary_node.proofs.OffLaws.{done_no, serves_up, each_up}
use Rattle.primary_node.proofs.RestLaws.{broken_rests, fallen_rests}
use Rattle.primary_node.proofs.KindLaws.{goes_replied, told_replied, goes_kept, told_kept}
use Rattle.primary_node.proofs.MovedLaws.{no_moves, goes_moves, told_moves}

-- the word in which a node that is not up refuses a line is judged in memory
pub off_by : (lost : Bool) (why : NoWhy) → why ≡ why_off lost → is_by_volume why ≡ false
off_by lost why is = subst (λ w. is_by_volume w ≡ false) (sym is) (go lost)
  where
    go : (b : Bool) → is_by_volume (why_off b) ≡ false
    go true = refl
    go false = refl

and_no : (b : Bool) → (b && false) ≡ false
and_no true = refl
and_no false = refl

-- a line that is done is no refusal
pub done_kept : {D : Type 0} {d : Ghosts D} (old new : PrimaryNode D d) → Keeps WasLooked (Ok Done) old new
done_kept old new = record { still = λ why e early. absurd (never why e); looked = λ why e shown. absurd (never why e) }
  where
    never : (why : NoWhy) → ◌≡◌ {A = Result Reply NodeFault} (Ok Done) (Ok (No why)) → ⊥
    never why e = cc

module _ {D : Type 0} {d : Ghosts D} (tells : Type 0) (files : D → Disk) (counts : D → Counts) where
  -- a line that is refused by what is judged in memory
  pub refused_does : (n : PrimaryNode D d) (l : Line) (why : NoWhy) → MayServe tells files counts n → is_by_volume why ≡ false → (tells → Performs files l (Ok (No why)) n n) → IsReplied l (Ok (No why)) n → Does tells files counts l (Ok (No why)) n n
  refused_does n l why serves by performs kinds = record {
    performs = performs;
    serves = serves;
    sized = refl;
    cause = inl (each_same (λ i x y. Tells Fine (counts x) (counts y)) (disks_at n) (λ i x. (refl, refl)), λ e. no_stop e);
    sound = λ t. tt;
    fuses = inl (each_same (λ i x y. (counts y).fuses ≡ (counts x).fuses) (disks_at n) (λ i x. refl), and_no (is_fuse l));
    kept = record { still = λ w e early. refl; looked = λ w e shown. absurd (not_both w (same_word w e) shown) };
    kinds = kinds;
    moved = no_moves l why (standing_at n);
  }
    where
      no_stop : No why ≡ Stopped A → ⊥
      no_stop e = cc

      same_word : (w : NoWhy) → ◌≡◌ {A = Result Reply NodeFault} (Ok (No why)) (Ok (No w)) → why ≡ w
      same_word w e = cc

      not_both : (w : NoWhy) → why ≡ w → is_by_volume w ≡ true → ⊥
      not_both w same shown = differ (sym shown ∙ subst (λ x. is_by_volume x ≡ false) same by)
        where
          differ : true ≡ false → ⊥
          differ e = cc

  -- a line that takes the primary down
  pub cut_does : (old new : PrimaryNode D d) (l : Line) (p : Primary D d) → old.primary ≡ Some p → new.primary ≡ None → new.volumes ≡ old.volumes → AreCut tells files counts (disks_in p) new.disks.items → MayServe tells files counts old →
      is_fuse l ≡ false → (tells → Performs files l (Ok Done) old new) → IsReplied l (Ok Done) old → IsMoved l (Ok Done) old new → Does tells files counts l (Ok Done) old new
  cut_does old new l p was off volumes cut serves fuse performs kinds moved =
      let s = serves_up old tells files counts p was serves in
      record {
        performs = performs;
        serves = serves_off new off tells files counts old.volumes volumes
            (are_off counts tells files p old.volumes new.disks.items s.0.sized (λ t. fallen_rests tells files counts t old.volumes s.2 p new.disks.items s.0.sized (s.0.runs t) cut) s.2 cut);
        sized = volumes;
        cause = inl (each_up old p was (λ i x y. Tells Fine (counts x) (counts y)) (disks_at new) (each_off new off (λ i x y. Tells Fine (counts x) (counts y)) (disks_in p) (cut_fine counts tells files (disks_in p) new.disks.items cut)), done_no);
        sound = λ t. tt;
        fuses = inl (
          each_up old p was (λ i x y. (counts y).fuses ≡ (counts x).fuses) (disks_at new) (each_off new off (λ i x y. (counts y).fuses ≡ (counts x).fuses) (disks_in p) (cut_fuses counts tells files (disks_in p) new.disks.items cut)),
          no_fuses (is_fuse l) fuse,
        );
        kept = done_kept old new;
        kinds = kinds;
        moved = moved;
      }
    where
      no_fuses : (b : Bool) → b ≡ false → (b && true) ≡ false
      no_fuses true e = e
      no_fuses false e = refl

  module _ (n : PrimaryNode D d) (p q : Primary D d) (l : Line) (answered : IsAnswered l) (serves : MayServe tells files counts (record n { primary = Some p })) where
    -- a line that the primary answers, which is up
    pub goes_does : (reply : Reply) → primary.Does tells files counts l (Ok reply) p q → Does tells files counts l (Ok reply) (record n { primary = Some p }) (record n { primary = Some q })
    goes_does reply does =
        let r : Result Reply NodeFault = Ok reply in
        let each = by_disk counts r p.tmf.store q.tmf.store does.cause in
        record {
          performs = λ t layout a rise some u. goes_follows files layout a l rise reply p q (record n { primary = Some q }) refl u (does.ends t);
          serves = (
            record {
              up = does.up;
              runs = λ t. (does.ends t).runs;
              sized = same_volumes counts r p.tmf.store q.tmf.store does.cause ∙ serves.0.sized;
              on = still_on counts (disks_in p) (disks_in q) each serves.0.on;
            },
            serves.1,
            serves.2,
          );
          sized = refl;
          cause = inl (none_fails counts (disks_in p) (disks_in q) each, does.plain);
          sound = λ t. tt;
          fuses = inl (none_fuses counts (disks_in p) (disks_in q) each, no_fuse l r answered);
          kept = goes_kept n p q r does.kept;
          kinds = goes_replied n p l reply answered does.kinds;
          moved = goes_moves l reply answered does.kinds;
        }

    -- a line that a fault of the node ends, with the primary taken down
    pub told_does : (new : PrimaryNode D d) (why : NodeFault) (result : Result Reply NodeFault) → result ≡ stop_told why → primary.Does tells files counts l (Err why) p q → new.primary ≡ None → new.lost ≡ n.lost → new.volumes ≡ n.volumes →
        AreCut tells files counts (disks_in q) new.disks.items → Does tells files counts l result (record n { primary = Some p }) new
    told_does new why result is does off lost volumes cut =
        let r : Result Reply NodeFault = Err why in
        let each = by_disk counts r p.tmf.store q.tmf.store does.cause in
        let Fails = λ (i : ℕ) (x y : D). Tells (ending_at i why) (counts x) (counts y) in
        let Fuses = λ (i : ℕ) (x y : D). (counts y).fuses ≡ (counts x).fuses in
        record {
          performs = λ t layout a rise some u. told_ends files layout tells counts t a l rise p q new off (lost ∙ serves.1) u answered (does.ends t) cut (serves.0.runs t) does.still some why result is does.memory;
          serves = serves_off new off tells files counts n.volumes volumes
              (are_off counts tells files q n.volumes new.disks.items (same_volumes counts r p.tmf.store q.tmf.store does.cause ∙ serves.0.sized)
              (λ t. broken_rests tells files counts t n.volumes serves.2 l p q new.disks.items serves.0.sized (does.ends t) cut) serves.2 cut);
          sized = volumes;
          cause = told_caused counts why (record n { primary = Some p }) new result is (
            subst (λ m. IsNamed m why) (sym (many_of counts p (tmf_volumes p.tmf) refl)) does.cause.0,
            each_off new off Fails (disks_in p) (fails_cut counts tells files why (disks_in p) (disks_in q) new.disks.items each cut serves.0.on),
          );
          sound = λ t. told_sound why result is (does.sound t);
          fuses = inl (each_off new off Fuses (disks_in p) (fuses_stay counts tells files why (disks_in p) (disks_in q) new.disks.items each cut), no_fuse l result answered);
          kept = told_kept (record n { primary = Some p }) new why result is;
          kinds = told_replied n p l why result is answered does.memory;
          moved = told_moves new off l why result Up is (lost ∙ serves.1);
        }
