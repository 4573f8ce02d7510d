-- Backups over a trail that grows, and what a run tells of them.
use Rattle.std.proofs.Common.{◌≡◌, ℕ, ◌≤◌, List, length, take, refl, sym, ap, ◌∙◌, subst, arith}
use Rattle.std.proofs.lemmas.List.{take-append-le, length-append}
use Rattle.rdf_types.specs.declared.layout.Layout.{Layout}
use Rattle.rdf_types.specs.declared.records.Record.{Record}
use Rattle.rdf_model.specs.Contents.{nothing}
use Rattle.rdf_model.specs.Legal.{Legal}
use Rattle.rdf_model.specs.Window.{part, low}
use Rattle.open_txns.specs.Noted.{all_noted}
use Rattle.plan_lang.specs.declared.lines.Line.{Line}
use Rattle.rdf_core.specs.declared.events.Standing.{Standing}
use Rattle.rdf_core.specs.declared.events.Standing.TheVariants.{Up, Down, Lost}
use Rattle.rdf_core.specs.declared.replies.Reply.{Reply}
use Rattle.rdf_core.specs.Layouts.{protects}
use Rattle.rdf_core.specs.Primary.{Primary}
use Rattle.rdf_core.specs.Proper.{IsProper, IsProperAt}
use Rattle.rdf_core.specs.Run.{Run}
use Rattle.rdf_core.specs.Sound.{AllSound, AreSound, IsSound}
use Rattle.rdf_core.specs.State.{State}
use Rattle.rdf_core.specs.GrowthLaws.{Grows}
use Rattle.backup_machine.specs.declared.backup.BackupState.{BackupState}
use Rattle.backup_machine.specs.declared.volumes.VolumesState.{VolumesState}
use Rattle.backup_machine.specs.declared.volumes.VolumesState.TheVariants as state
use Rattle.backup_machine.specs.Kept.{IsKept, IsLowAt, backup_of, volumes_of}
use Rattle.rdf_machine.specs.declared.index.TrailIndex.{TrailIndex}
use Rattle.rdf_machine.specs.Images.{positions_of}
use Rattle.rdf_machine.specs.Index.{IsIndexOf}
use Rattle.rdf_machine.specs.declared.parts.Parts.{Parts}
use Rattle.by_node.specs.Each.{Each, at, at-map_each}
use Rattle.rdf_core.specs.Backup.{Backup}
use Rattle.rdf_machine.specs.Machines.{AreFitted, AreFollowing, AreKept, IsFollowing, IsTakenWithin, state_of}

-- a first part of a longer trail
first_same : (trail new : List Record) (n : ℕ) → n ≤ length trail → Grows trail new → take n new ≡ take n trail
first_same trail new n few g = ap (take n) g.1 ∙ take-append-le n trail g.0 few

low_grows : (layout : Layout) (trail new : List Record) (received : ℕ) (v : VolumesState) (at : ℕ) → received ≤ length trail → IsTakenWithin v received → Grows trail new → IsLowAt layout trail v at → IsLowAt layout new v at
low_grows layout trail new received (state.Running points) at few taken g h = tt
low_grows layout trail new received state.Taking at few taken g h = tt
low_grows layout trail new received (state.Taken upto) at few taken g h = h ∙ ap (low (protects layout)) (sym (first_same trail new upto (omega (arith, few, taken)) g))

-- what is kept of a trail is kept of a longer one
kept_grows : (layout : Layout) (trail new : List Record) (b : BackupState) → IsFollowing layout trail b → Grows trail new → IsKept layout new b
kept_grows layout trail new b following g =
    let f = following.follows in
    record {
      early = f.kept.early;
      opens = f.kept.opens ∙ ap (λ (l : List Record). all_noted (part (protects layout) 0 l)) (sym (first_same trail new b.noted (omega (arith, f.kept.early, f.within)) g));
      low = low_grows layout trail new b.received b.volumes b.low f.within following.taken g f.kept.low;
    }

-- an index of a trail is one of a longer one
index_grows : (trail new : List Record) (index : TrailIndex) → IsIndexOf trail index → Grows trail new → IsIndexOf new index
index_grows trail new index h g = record {
  within = omega (arith, h.within, ap length g.1, length-append trail g.0);
  each = λ q. h.each q ∙ ap (positions_of q) (sym (first_same trail new index.noted h.within g));
}

pub all_grow : (layout : Layout) (p : Parts) (new : List Record) → AreFollowing layout p → Grows p.primary.trail new → (q : Parts) → q.primary.trail ≡ new → q.backups ≡ p.backups → q.index ≡ p.index → AreKept layout q
all_grow layout p new f g q trail backups index = record {
  backups = λ node. subst (λ (x : Each BackupState). IsKept layout q.primary.trail (at x node)) (sym backups)
      (subst (λ (l : List Record). IsKept layout l (at p.backups node)) (sym trail) (kept_grows layout p.primary.trail new (at p.backups node) (f.backups node) g));
  index = subst (λ (x : TrailIndex). IsIndexOf q.primary.trail x) (sym index) (subst (λ (l : List Record). IsIndexOf l p.index) (sym trail) (index_grows p.primary.trail new p.index f.index g));
}

legal_of : (standing : Standing) (a : Primary) → a.standing ≡ standing → IsProper a → Legal nothing a.trail
legal_of Up a e h = let r = subst (λ (s : Standing). IsProperAt s a.trail a.active) e h in r.legal
legal_of Down a e h = let r = subst (λ (s : Standing). IsProperAt s a.trail a.active) e h in r.0
legal_of Lost a e h = let r = subst (λ (s : Standing). IsProperAt s a.trail a.active) e h in r.0

taken_of : (layout : Layout) (trail : List Record) (received kept : ℕ) (v : VolumesState) → AreSound layout trail received kept (volumes_of v) → IsTakenWithin v received
taken_of layout trail received kept (state.Running points) h = tt
taken_of layout trail received kept state.Taking h = tt
taken_of layout trail received kept (state.Taken upto) h = h.0

abbrev pub PositionsSound : Type 0
PositionsSound = (layout : Layout) (lines : List Line) (replies : List Reply) (last : State) → Run layout lines replies last → AllSound layout last

abbrev pub PrimaryProper : Type 0
PrimaryProper = (layout : Layout) (lines : List Line) (replies : List Reply) (last : State) → Run layout lines replies last → IsProper last.primary

one_follows : (layout : Layout) (trail : List Record) (b : BackupState) → IsKept layout trail b → IsSound layout trail (backup_of b) → Legal nothing trail → IsFollowing layout trail b
one_follows layout trail b k s l = record { follows = record { kept = k; within = s.within; legal = l }; taken = taken_of layout trail b.received _ b.volumes s.volumes }

-- the parts of a machine follow its trail
pub following : (layout : Layout) (p : Parts) → PositionsSound → PrimaryProper → AreFitted layout p → AreFollowing layout p
following layout p sound proper f =
    let s = state_of p in
    let all = sound layout f.reached.0 f.reached.1 s f.reached.2 in
    let legal = legal_of s.primary.standing s.primary refl (proper layout f.reached.0 f.reached.1 s f.reached.2) in
    record {
      backups = λ node. one_follows layout p.primary.trail (at p.backups node) (f.kept.backups node) (subst (λ (b : Backup). IsSound layout p.primary.trail b) (at-map_each backup_of p.backups node) (all.backups node)) legal;
      index = f.kept.index;
    }
