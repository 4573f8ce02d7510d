-- What a line leaves where it is broken off is so far as the law that all backups agree goes, like a line that a stop cuts off.
use Rattle.std.proofs.Common.{◌≡◌, ℕ, ◌≤◌, Bool, true, false, List, [], ◌∷◌, ◌++◌, length, Option, Some, None, refl, sym, subst, if◌then◌else◌}
use Rattle.std.specs.Prelude.{IsTrue}
use Rattle.rdf_types.specs.declared.layout.Layout.{Layout}
use Rattle.rdf_types.specs.declared.records.Node.{Node}
use Rattle.rdf_types.specs.declared.records.Node.TheVariants.{A}
use Rattle.plan_lang.specs.declared.lines.Line.{Line}
use Rattle.rdf_core.specs.declared.events.Event.{Event}
use Rattle.rdf_core.specs.declared.events.Event.TheVariants as event
use Rattle.rdf_core.specs.declared.replies.Reply.{Reply}
use Rattle.rdf_core.specs.declared.replies.Reply.TheVariants.{Stopped}
use Rattle.rdf_core.specs.Agreement.{first_takeover, takeover_ok, or_later, HadReceived, takes, takes_with, copies, come, AreRepaired, IsTakenAt}
use Rattle.rdf_core.specs.Allowed.{allowed, is_backup}
use Rattle.rdf_core.specs.Backup.{Backup, backup_fallen}
use Rattle.rdf_core.specs.Effects.{after_parts, reaches_disks}
use Rattle.rdf_core.specs.Happens.{Admits, Happens, line_of, reply_of, parts_of}
use Rattle.rdf_core.specs.Lines.{refusal}
use Rattle.rdf_core.specs.Run.{Run}
use Rattle.by_node.specs.Each.{Each, at, with_at, with_at-keeps}
use Rattle.rdf_core.specs.State.{State, blank, fallen}
use Rattle.rdf_core.specs.Step.{disks_of}
use Rattle.rdf_system.specs.Lines.{MayLeave, Before, Within}

-- the law that all backups agree in every run
abbrev pub BackupsAgree : Type 0
BackupsAgree = (layout : Layout) (lines : List Line) (replies : List Reply) (last : State) (lead : Node) (m : ℕ) →
    Run layout lines replies last → AreRepaired layout lead m lines replies → (node : Node) → IsTrue (is_backup layout node) → IsTakenAt m (at last.backups node)

-- the law that the first ok to a takeover tells what the node had received
abbrev pub TakeoversTell : Type 0
TakeoversTell = (layout : Layout) (lines : List Line) (replies : List Reply) (last : State) (run : Run layout lines replies last) (of : Node) (n : ℕ) →
    first_takeover of lines replies ≡ Some n → HadReceived of n layout (blank layout) lines replies last run

-- the law that what happens goes on with a run
abbrev pub EventsGoOn : Type 0
EventsGoOn = (layout : Layout) (lines : List Line) (replies : List Reply) (s : State) (e : Event) (answer : Option Reply) (new : State) →
    Run layout lines replies s → Admits layout s e → Happens layout s e answer new → Run layout (lines ++ line_of e) (replies ++ reply_of answer) new

-- all backups of the layout have taken over so much
abbrev pub AllTaken : Layout → ℕ → Each Backup → Type 0
AllTaken layout m each = (node : Node) → IsTrue (is_backup layout node) → IsTakenAt m (at each node)

-- one answer more changes nothing of what was answered before
first_more : (of : Node) (lines : List Line) (replies : List Reply) (l : Line) (reply : Reply) (n : ℕ) → first_takeover of lines replies ≡ Some n → first_takeover of (lines ++ l ∷ []) (replies ++ reply ∷ []) ≡ Some n
first_more of [] replies l reply n e = absurd cc
first_more of (k ∷ lines) [] l reply n e = absurd cc
first_more of (k ∷ lines) (q ∷ replies) l reply n e = by_first (takeover_ok of k q) e (first_more of lines replies l reply n)
  where
    by_first : (o : Option ℕ) → or_later o (first_takeover of lines replies) ≡ Some n → (first_takeover of lines replies ≡ Some n → first_takeover of (lines ++ l ∷ []) (replies ++ reply ∷ []) ≡ Some n) →
        or_later o (first_takeover of (lines ++ l ∷ []) (replies ++ reply ∷ [])) ≡ Some n
    by_first None p later = later p
    by_first (Some k) p later = p

come_more : (tests : List (Line → Reply → Bool)) (lines : List Line) (replies : List Reply) (l : Line) (reply : Reply) → come tests lines replies ≡ true → come tests (lines ++ l ∷ []) (replies ++ reply ∷ []) ≡ true
come_more [] lines replies l reply e = refl
come_more (t ∷ tests) [] replies l reply e = absurd cc
come_more (t ∷ tests) (k ∷ lines) [] l reply e = absurd cc
come_more (t ∷ tests) (k ∷ lines) (q ∷ replies) l reply e =
    elim (t k q) as (λ b. (if b then come tests lines replies else come (t ∷ tests) lines replies) ≡ true →
    (if b then come tests (lines ++ l ∷ []) (replies ++ reply ∷ []) else come (t ∷ tests) (lines ++ l ∷ []) (replies ++ reply ∷ [])) ≡ true) [
      | true ↦ come_more tests lines replies l reply
      | false ↦ come_more (t ∷ tests) lines replies l reply
    ] e

repaired_more : (layout : Layout) (lead : Node) (m : ℕ) (lines : List Line) (replies : List Reply) (l : Line) (reply : Reply) → AreRepaired layout lead m lines replies → AreRepaired layout lead m (lines ++ l ∷ []) (replies ++ reply ∷ [])
repaired_more layout lead m lines replies l reply h = record {
  first = λ node known. let f = h.first node known in (f.0, first_more node lines replies l reply f.0 f.1, f.2);
  greatest = (h.greatest.0, h.greatest.1, first_more h.greatest.0 lines replies l reply m h.greatest.2);
  led = come_more (takes_with lead m ∷ []) lines replies l reply h.led;
  others = λ node known apart. come_more (takes_with lead m ∷ copies node lead ∷ takes node ∷ []) lines replies l reply (h.others node known apart);
}

-- how often disks stopped is nothing to what was taken over
was_taken : (each : Each Backup) (node : Node) (n m : ℕ) (of : Node) → IsTakenAt m (at (with_at each node (backup_fallen n (at each node))) of) → IsTakenAt m (at each of)
was_taken each node n m = with_at-keeps (λ of (b : Backup). IsTakenAt m b → IsTakenAt m (at each of)) each node (backup_fallen n (at each node)) (λ of t. t) (λ t. record { received = t.received; volumes = t.volumes })

now_taken : (each : Each Backup) (node : Node) (n m : ℕ) (of : Node) → IsTakenAt m (at each of) → IsTakenAt m (at (with_at each node (backup_fallen n (at each node))) of)
now_taken each node n m = with_at-keeps (λ of (b : Backup). IsTakenAt m (at each of) → IsTakenAt m b) each node (backup_fallen n (at each node)) (λ of t. t) (λ t. record { received = t.received; volumes = t.volumes })

rise_taken : (layout : Layout) (node : Node) (one rise m : ℕ) (s : State) → AllTaken layout m (fallen node one s).backups → AllTaken layout m (fallen node rise s).backups
rise_taken layout A one rise m s h = h
rise_taken layout node one rise m s h = λ of known. now_taken s.backups node rise m of (was_taken s.backups node one m of (h of known))

module _ (agree : BackupsAgree) (goes_on : EventsGoOn) (layout : Layout) (lines : List Line) (replies : List Reply) (s : State) (l : Line) (run : Run layout lines replies s) (may : allowed layout s.session l ≡ true)
    (lead : Node) (m : ℕ) (repairs : AreRepaired layout lead m lines replies) where
  -- before the line
  before : AllTaken layout m s.backups
  before = agree layout lines replies s lead m run repairs

  -- a stop cuts the line off
  cut_off : (node : Node) → disks_of l ≡ Some node → (done : ℕ) → done ≤ length (parts_of layout s l) → IsTrue (reaches_disks (refusal layout s l)) → AllTaken layout m (fallen node 1 (after_parts s (parts_of layout s l) done)).backups
  cut_off node of done few reaches =
      let cut : State = fallen node 1 (after_parts s (parts_of layout s l) done) in
      agree layout (lines ++ l ∷ []) (replies ++ Stopped node ∷ []) cut lead m
      (goes_on layout lines replies s (event.Stop node l done) (Some (Stopped node)) cut run
      (record { may = may; of = of; reaches = reaches; few = few }) (refl, refl))
      (repaired_more layout lead m lines replies l (Stopped node) repairs)

  -- whatever the line may leave
  pub left_taken : (left : State) → MayLeave layout s l left → AllTaken layout m left.backups
  left_taken left (Before is) = subst (λ (k : State). AllTaken layout m k.backups) (sym is) before
  left_taken left (Within node of reaches done few rise is) =
      subst (λ (k : State). AllTaken layout m k.backups) (sym is)
      (rise_taken layout node 1 rise m (after_parts s (parts_of layout s l) done) (cut_off node of done few reaches))
