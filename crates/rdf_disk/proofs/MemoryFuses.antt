-- A fuse stops the counted call after its number, and none before.
use Rattle.std.proofs.Common.{◌≡◌, ℕ, zero, suc, ◌-◌, ◌<◌, ◌==◌, Bool, true, false, nat_eq, Option, Some, refl, sym, ◌∙◌, ap, subst, arith, if◌then◌else◌}
use Rattle.std.proofs.lemmas.Bool.Decides.{nat_tests}
use Rattle.std.specs.List.{list_any}
use Rattle.rdf_disk.specs.declared.fault.Tear.{Tear}
use Rattle.rdf_disk.specs.declared.memory_meter.Fuse.{Fuse}
use Rattle.rdf_disk.specs.declared.memory_meter.Meter.{Meter}
use Rattle.rdf_disk.specs.declared.memory_meter.Turn.{Turn}
use Rattle.rdf_disk.specs.declared.memory_meter.Turn.TheVariants.{Go, Fail, Stop, Off}
use Rattle.rdf_disk.specs.MemoryMeters.{listed, fused_turn, turn_of, burnt, counted, with_fuse, after_calls, StopsAfter}

turn_on : (m : Meter) (f : Fuse) → m.off ≡ false → m.fuse ≡ Some f → turn_of m ≡ (if f.left == 0 then Stop f.tear else listed m)
turn_on m f on fuse = ap (λ (b : Bool). if b then Off else fused_turn m.fuse (listed m)) on ∙ ap (λ (o : Option Fuse). fused_turn o (listed m)) fuse

not_zero : (n : ℕ) (stop go : Turn) → (if suc n == 0 then stop else go) ≡ go
not_zero n stop go = grind (arith, nat_tests)

listed_on : (b : Bool) (m : Meter) → (counted (if b then Fail else Go) m).off ≡ m.off
listed_on true m = refl
listed_on false m = refl

listed_burns : (b : Bool) (m : Meter) → (counted (if b then Fail else Go) m).fuse ≡ burnt m.fuse
listed_burns true m = refl
listed_burns false m = refl

-- the first call goes on, or fails; the rest is known
one_more_call : (calls : ℕ) (tear : Tear) (m : Meter) → turn_of m ≡ listed m → StopsAfter calls tear (counted (turn_of m) m) → StopsAfter (suc calls) tear m
unfolding after_calls
one_more_call calls tear m here next = record { before = λ k less. earlier k less; last = next.last }
  where
    earlier : (k : ℕ) → k < suc calls → turn_of (after_calls k m) ≡ listed (after_calls k m)
    earlier zero less = here
    earlier (suc k) less = next.before k (omega arith)

pub fused_run : (calls : ℕ) (tear : Tear) (m : Meter) → m.off ≡ false → m.fuse ≡ Some (record { left = calls; tear = tear }) → StopsAfter calls tear m
unfolding after_calls
fused_run zero tear m on fuse = record { before = λ k less. absurd (omega arith); last = turn_on m (record { left = 0; tear = tear }) on fuse }
fused_run (suc calls) tear m on fuse =
    let here = turn_on m (record { left = suc calls; tear = tear }) on fuse ∙ not_zero calls (Stop tear) (listed m) in
    let less : suc calls - 1 ≡ calls = omega arith in
    one_more_call calls tear m here
    (fused_run calls tear (counted (turn_of m) m)
    (ap (λ (t : Turn). (counted t m).off) here ∙ listed_on (list_any (nat_eq m.calls) m.fails.items) m ∙ on)
    (ap (λ (t : Turn). (counted t m).fuse) here ∙ listed_burns (list_any (nat_eq m.calls) m.fails.items) m ∙ ap burnt fuse ∙ ap (λ (n : ℕ). Some (record { left = n; tear = tear })) less))

pub fuse_stops : (calls : ℕ) (tear : Tear) (old new : Meter) → new ≡ with_fuse calls tear old → old.off ≡ false → StopsAfter calls tear new
fuse_stops calls tear old new is on = subst (λ (m : Meter). StopsAfter calls tear m) (sym is) (fused_run calls tear (with_fuse calls tear old) on refl)
