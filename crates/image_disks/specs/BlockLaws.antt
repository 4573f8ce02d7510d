-- Laws of the blocks of a file.
use Rattle.std.proofs.Common.{◌≡◌, ◌⊎◌, inl, inr, ⊎_elim, ℕ, ◌+◌, ◌<◌, ◌≤◌, Bool, true, false, ◌&&◌, ◌==◌, nat_le, if◌then◌else◌, List, [], ◌∷◌, ◌++◌, Option, Some, None, refl, sym, ◌∙◌, ap, ap₂, arith, append_assoc}
use Rattle.std.proofs.lemmas.Bool.{ne_eqb}
use Rattle.std.proofs.lemmas.Bool.Decides.{nat_tests}
use Rattle.rdf_types.specs.declared.records.Record.{Record}
use Rattle.rdf_types.specs.declared.records.Stamped.{Stamped}
use Rattle.rdf_types.specs.declared.records.Phase.{Phase}
use Rattle.rdf_codec.specs.Ships.{RiseWithin}
use Rattle.image_disks.specs.Blocks.{Block, Start, Ship, Mark, Unspelled, Plan, keeps, found, AreEntries, kept_of, entries, end_after, phase_after, AreInPlace}
use Rattle.image_disks.specs.Values.{or_else}

-- ---- one block more

-- it ends where that block ends, behind the others
pub end_after-more : (at : ℕ) (bs : List Block) (b : Block) → end_after at (bs ++ b ∷ []) ≡ end_after (end_after at bs) (b ∷ [])
end_after-more at [] b = refl
end_after-more at (Start start phase ∷ rest) b = end_after-more at rest b
end_after-more at (Ship from to part ∷ rest) b = end_after-more to rest b
end_after-more at (Mark phase ∷ rest) b = end_after-more at rest b
end_after-more at (Unspelled ∷ rest) b = end_after-more at rest b

-- its phase is that block's, after the others
pub phase_after-more : (p : Phase) (bs : List Block) (b : Block) → phase_after p (bs ++ b ∷ []) ≡ phase_after (phase_after p bs) (b ∷ [])
phase_after-more p [] b = refl
phase_after-more p (Start start q ∷ rest) b = phase_after-more q rest b
phase_after-more p (Ship from to part ∷ rest) b = phase_after-more p rest b
phase_after-more p (Mark q ∷ rest) b = phase_after-more q rest b
phase_after-more p (Unspelled ∷ rest) b = phase_after-more p rest b

-- its entries are the others', and that block's
pub entries-more : (bs : List Block) (b : Block) → entries (bs ++ b ∷ []) ≡ entries bs ++ entries (b ∷ [])
entries-more [] b = refl
entries-more (Start start q ∷ rest) b = entries-more rest b
entries-more (Ship from to part ∷ rest) b = ap (λ (l : List Stamped). part ++ l) (entries-more rest b) ∙ sym (append_assoc part (entries rest) (entries (b ∷ [])))
entries-more (Mark q ∷ rest) b = entries-more rest b
entries-more (Unspelled ∷ rest) b = entries-more rest b

-- it is in place where that block is, behind the others
pub in_place-more : (plan : Plan) (t at : ℕ) (bs : List Block) (b : Block) → AreInPlace plan t at bs → AreInPlace plan t (end_after at bs) (b ∷ []) → AreInPlace plan t at (bs ++ b ∷ [])
in_place-more plan t at [] b here more = more
in_place-more plan t at (Start start q ∷ rest) b here more = absurd here
in_place-more plan t at (Ship from to part ∷ rest) b here more = (here.0, here.1, here.2, in_place-more plan t to rest b here.3 more)
in_place-more plan t at (Mark q ∷ rest) b here more = (here.0, here.1, in_place-more plan t at rest b here.2 more)
in_place-more plan t at (Unspelled ∷ rest) b here more = absurd here

-- blocks in place end no lower than they begin
pub end_no_less : (plan : Plan) (t at : ℕ) (bs : List Block) → AreInPlace plan t at bs → at ≤ end_after at bs
end_no_less plan t at [] here = omega arith
end_no_less plan t at (Start start q ∷ rest) here = absurd here
end_no_less plan t at (Ship from to part ∷ rest) here = omega (arith, here.0, here.1, end_no_less plan t to rest here.3)
end_no_less plan t at (Mark q ∷ rest) here = end_no_less plan t at rest here.2
end_no_less plan t at (Unspelled ∷ rest) here = absurd here

-- ---- what is found at a position

-- nothing more is found where nothing is
pub or_else-none : (x : Option Record) → or_else x None ≡ x
or_else-none None = refl
or_else-none (Some r) = refl

-- a choice between one and the same is that
pub if_both : (b : Bool) (x : Option Record) → (if b then x else x) ≡ x
if_both true x = refl
if_both false x = refl

or_else-if : (b : Bool) (r : Record) (x y : Option Record) → (if b then Some r else or_else x y) ≡ or_else (if b then Some r else x) y
or_else-if true r x y = refl
or_else-if false r x y = refl

-- in two lists the first that has one counts
pub found-append : (xs ys : List Stamped) (i : ℕ) → found (xs ++ ys) i ≡ or_else (found xs i) (found ys i)
found-append [] ys i = refl
found-append (s ∷ xs) ys i = ap (λ (x : Option Record). if s.pos == i then Some s.rec else x) (found-append xs ys i) ∙ or_else-if (s.pos == i) s.rec (found xs i) (found ys i)

if_other : (b : Bool) (r : Record) (x : Option Record) → b ≡ false → (if b then Some r else x) ≡ x
if_other b r x e = ap (λ (c : Bool). if c then Some r else x) e

-- nothing is found before entries
pub found_before : (may : Record → Bool) (from to : ℕ) (part : List Stamped) (i : ℕ) → AreEntries may from to part → i < from → found part i ≡ None
found_before may from to [] i es below = refl
found_before may from to (s ∷ rest) i es below =
    if_other (s.pos == i) s.rec (found rest i) (ne_eqb s.pos i (omega (arith, es.0))) ∙ found_before may (s.pos + 1) to rest i es.3 (omega (arith, es.0))

found_behind : (may : Record → Bool) (from to : ℕ) (part : List Stamped) (i : ℕ) → AreEntries may from to part → to ≤ i → found part i ≡ None
found_behind may from to [] i es above = refl
found_behind may from to (s ∷ rest) i es above =
    if_other (s.pos == i) s.rec (found rest i) (ne_eqb s.pos i (omega (arith, es.1))) ∙ found_behind may (s.pos + 1) to rest i es.3 above

-- nothing is found in a file at or behind its end
pub file_behind : (plan : Plan) (t at : ℕ) (bs : List Block) (i : ℕ) → AreInPlace plan t at bs → end_after at bs ≤ i → found (entries bs) i ≡ None
file_behind plan t at [] i here above = refl
file_behind plan t at (Start start q ∷ rest) i here above = absurd here
file_behind plan t at (Ship from to part ∷ rest) i here above =
    found-append part (entries rest) i
    ∙ ap₂ or_else (found_behind (keeps plan t) from to part i here.2 (omega (arith, end_no_less plan t to rest here.3))) (file_behind plan t to rest i here.3 above)
file_behind plan t at (Mark q ∷ rest) i here above = file_behind plan t at rest i here.2 above
file_behind plan t at (Unspelled ∷ rest) i here above = absurd here

-- nor before its start
pub file_before : (plan : Plan) (t at : ℕ) (bs : List Block) (i : ℕ) → AreInPlace plan t at bs → i < at → found (entries bs) i ≡ None
file_before plan t at [] i here below = refl
file_before plan t at (Start start q ∷ rest) i here below = absurd here
file_before plan t at (Ship from to part ∷ rest) i here below =
    found-append part (entries rest) i
    ∙ ap₂ or_else (found_before (keeps plan t) from to part i here.2 (omega (arith, here.0))) (file_before plan t to rest i here.3 (omega (arith, here.0, here.1)))
file_before plan t at (Mark q ∷ rest) i here below = file_before plan t at rest i here.2 below
file_before plan t at (Unspelled ∷ rest) i here below = absurd here

-- what a trail keeps of a shipment from its top on are entries for it
pub kept_entries : (plan : Plan) (t top from low to : ℕ) (part : List Stamped) → AreEntries (λ r. true) from to part → (low ≤ from) ⊎ (low ≤ top)
    → AreEntries (keeps plan t) low to (kept_of plan t top part)
kept_entries plan t top from low to [] es bound = tt
kept_entries plan t top from low to (s ∷ rest) es bound =
    elim (keeps plan t s.rec && nat_le top s.pos) as (λ b. (keeps plan t s.rec && nat_le top s.pos) ≡ b → AreEntries (keeps plan t) low to (if b then s ∷ kept_of plan t top rest else kept_of plan t top rest)) [
      | true ↦ λ e. (grind (arith, nat_tests, e, es.0, bound), es.1, grind (arith, nat_tests, e), kept_entries plan t top (s.pos + 1) (s.pos + 1) to rest es.3 (inl (omega arith)))
      | false ↦ λ e. kept_entries plan t top (s.pos + 1) low to rest es.3 (⊎_elim (λ (h : low ≤ from). inl (omega (arith, es.0))) (λ (h : low ≤ top). inr h) bound)
    ] refl

-- the records of a shipment are entries of its range
pub rise_entries : (low high : ℕ) (part : List Stamped) → RiseWithin low high part → AreEntries (λ r. true) low high part
rise_entries low high [] rise = tt
rise_entries low high (s ∷ part) rise = (rise.0, rise.1, refl, rise_entries (s.pos + 1) high part rise.2)

-- and entries of a range rise within it
pub entries_rise : (may : Record → Bool) (low high : ℕ) (part : List Stamped) → AreEntries may low high part → RiseWithin low high part
entries_rise may low high [] es = tt
entries_rise may low high (s ∷ part) es = (es.0, es.1, entries_rise may (s.pos + 1) high part es.3)
