-- What a file in memory tells stays as its bytes grow, and has one change more after a write.
use Rattle.std.proofs.Common.{◌≡◌, inl, inr, ℕ, ◌+◌, ◌-◌, ◌<◌, ◌≤◌, Bool, true, false, if◌then◌else◌, replicate, reverse, List, [], ◌∷◌, ◌++◌, length, get_or, take, drop, Vec, Option, Some, None, refl, sym, ◌∙◌, ap, subst, arith, append_assoc, length-append, length-take, length-drop}
use Rattle.std.specs.declared.alloc.Global.{Global}
use Rattle.std.proofs.lemmas.List.{ext_get_or, get_or-take, get_or-drop, take-append-le, drop-append-le, take_all, append-nil}
use Rattle.std.proofs.lemmas.Bool.{cases_lt}
use Rattle.std.proofs.lemmas.List.{length-reverse}
use Rattle.rdf_disk.proofs.MemoryLoops.{reverse_push}
use Rattle.rdf_disk.specs.Files.{patched, bytes_of}
use Rattle.rdf_disk.specs.MemoryChanges.{Change, Write, Told, changed, whole, Begins, IsTold}
use Rattle.rdf_disk.specs.MemoryUndo.{content, IsLong, IsWithin, AreWithin, bytes_before, len_before, change_of, changes_of, safe_of, told_of, IsEntry}
use Rattle.rdf_disk.specs.declared.memory_held.Undo.{Undo}
use Rattle.rdf_disk.specs.declared.memory_held.Undo.TheVariants.{OfWrite, OfRemoval, OfFailedWrite, OfFailedRemoval}
use Rattle.rdf_disk.proofs.EditLaws.{edit_long, edit_outside}
use Rattle.rdf_disk.proofs.MemoryBytes.{read_within}

-- more bytes behind
pub patched_more : (b z bytes : List ℕ) (at : ℕ) → at + length bytes ≤ length b → patched (b ++ z) at bytes ≡ patched b at bytes ++ z
patched_more b z bytes at within =
    ap (λ (l : List ℕ). l ++ bytes ++ drop (at + length bytes) (b ++ z)) (take-append-le at b z (omega arith))
    ∙ ap (λ (l : List ℕ). take at b ++ bytes ++ l) (drop-append-le (at + length bytes) b z within)
    ∙ sym (append_assoc (take at b ++ bytes) (drop (at + length bytes) b) z)

pub length_before : (u : Undo) (b : List ℕ) → IsWithin u (length b) → length (bytes_before u b) ≡ length b
length_before (OfWrite odd at held len) b within = omega (arith, edit_long b at held.items (omega (arith, within.0)), within.0)
length_before (OfRemoval odd len) b within = refl
length_before (OfFailedWrite at n) b within = refl
length_before OfFailedRemoval b within = refl

more_before : (u : Undo) (b z : List ℕ) → IsWithin u (length b) → bytes_before u (b ++ z) ≡ bytes_before u b ++ z
more_before (OfWrite odd at held len) b z within = patched_more b z held.items at within.0
more_before (OfRemoval odd len) b z within = refl
more_before (OfFailedWrite at n) b z within = refl
more_before OfFailedRemoval b z within = refl

more_change : (u : Undo) (b z : List ℕ) → IsWithin u (length b) → change_of u (b ++ z) ≡ change_of u b
more_change (OfWrite odd at held len) b z within =
    ap (λ (l : List ℕ). Write odd at (take (length held.items) l)) (drop-append-le at b z (omega (arith, within.0)))
    ∙ ap (λ (l : List ℕ). Write odd at l) (take-append-le (length held.items) (drop at b) z (omega (arith, length-drop at b, within.0)))
more_change (OfRemoval odd len) b z within = refl
more_change (OfFailedWrite at n) b z within = refl
more_change OfFailedRemoval b z within = refl

more_content : (b z : List ℕ) (len : Option ℕ) → IsLong len (length b) → content (b ++ z) len ≡ content b len
more_content b z None long = refl
more_content b z (Some n) long = ap (λ (l : List ℕ). Some l) (take-append-le n b z long)

rest_within : (u : Undo) (us : List Undo) (b : List ℕ) → AreWithin (u ∷ us) (length b) → AreWithin us (length (bytes_before u b))
rest_within u us b all = subst (λ (n : ℕ). AreWithin us n) (sym (length_before u b all.0)) all.1

more_changes : (us : List Undo) (b z : List ℕ) → AreWithin us (length b) → changes_of us (b ++ z) ≡ changes_of us b
more_changes [] b z all = refl
more_changes (u ∷ us) b z all =
    ap (λ (c : Change). c ∷ changes_of us (bytes_before u (b ++ z))) (more_change u b z all.0)
    ∙ ap (λ (l : List ℕ). change_of u b ∷ changes_of us l) (more_before u b z all.0)
    ∙ ap (λ (l : List Change). change_of u b ∷ l) (more_changes us (bytes_before u b) z (rest_within u us b all))

long_rest : (u : Undo) (b : List ℕ) (len : Option ℕ) → IsWithin u (length b) → IsLong len (length b) → IsLong (len_before u len) (length (bytes_before u b))
long_rest (OfWrite odd at held l) b len within long = subst (λ (n : ℕ). IsLong l n) (sym (length_before (OfWrite odd at held l) b within)) within.1
long_rest (OfRemoval odd l) b len within long = within
long_rest (OfFailedWrite at m) b len within long = long
long_rest OfFailedRemoval b len within long = long

more_safe : (us : List Undo) (b z : List ℕ) (len : Option ℕ) → AreWithin us (length b) → IsLong len (length b) → safe_of us (b ++ z) len ≡ safe_of us b len
more_safe [] b z len all long = more_content b z len long
more_safe (u ∷ us) b z len all long =
    ap (λ (l : List ℕ). safe_of us l (len_before u len)) (more_before u b z all.0)
    ∙ more_safe us (bytes_before u b) z (len_before u len) (rest_within u us b all) (long_rest u b len all.0 long)

pub more_told : (us : List Undo) (b z : List ℕ) (len : Option ℕ) → AreWithin us (length b) → IsLong len (length b) → told_of us (b ++ z) len ≡ told_of us b len
more_told us b z len all long =
    let s = more_content b z len long in
    let f = more_safe us b z len all long in
    let g = more_changes us b z all in
    cc

longer : (len : Option ℕ) (n m : ℕ) → n ≤ m → IsLong len n → IsLong len m
longer None n m le long = tt
longer (Some l) n m le long = omega (arith, long)

wider : (u : Undo) (n m : ℕ) → n ≤ m → IsWithin u n → IsWithin u m
wider (OfWrite odd at held l) n m le within = (omega (arith, within.0), longer l n m le within.1)
wider (OfRemoval odd l) n m le within = omega (arith, within)
wider (OfFailedWrite at k) n m le within = tt
wider OfFailedRemoval n m le within = tt

all_wider : (us : List Undo) (n m : ℕ) → n ≤ m → AreWithin us n → AreWithin us m
all_wider [] n m le all = tt
all_wider (u ∷ us) n m le all = (wider u n m le all.0, all_wider us n m le all.1)

pub more_entry : (us : List Undo) (b z : List ℕ) (len : Option ℕ) (aside most : ℕ) → IsEntry b len us aside most → IsEntry (b ++ z) len us aside most
more_entry us b z len aside most e =
    let le : length b ≤ length (b ++ z) = omega (arith, length-append b z) in
    record {
      long = longer len (length b) (length (b ++ z)) le e.long;
      within = all_wider us (length b) (length (b ++ z)) le e.within;
      told = subst (λ (t : Told). IsTold t) (sym (more_told us b z len e.within e.long)) e.told;
      empty = e.empty;
      room = e.room;
    }

-- the bytes that a range held, written back
module _ (b bytes held : List ℕ) (at : ℕ) (within : at + length bytes ≤ length b) (is : held ≡ take (length bytes) (drop at b)) where
  held_long : length held ≡ length bytes
  held_long = ap (λ (l : List ℕ). length l) is ∙ omega (arith, length-take (length bytes) (drop at b), length-drop at b)

  after_long : length (patched b at bytes) ≡ length b
  after_long = omega (arith, edit_long b at bytes (omega arith))

  held_read : (i : ℕ) → i < length bytes → get_or held i 0 ≡ get_or b (at + i) 0
  held_read i below = ap (λ (l : List ℕ). get_or l i 0) is ∙ get_or-take (length bytes) (drop at b) i 0 below ∙ get_or-drop at b i 0

  pub written_there : take (length held) (drop at (patched b at bytes)) ≡ bytes
  written_there =
      ext_get_or 0 (take (length held) (drop at (patched b at bytes))) bytes (omega (arith, length-take (length held) (drop at (patched b at bytes)), length-drop at (patched b at bytes), after_long, held_long))
      (λ i below. let under : i < length held = omega (arith, length-take (length held) (drop at (patched b at bytes))) in
      let back : at + i - at ≡ i = omega arith in
      get_or-take (length held) (drop at (patched b at bytes)) i 0 under ∙ get_or-drop at (patched b at bytes) i 0
      ∙ read_within b at bytes (omega arith) (at + i) (omega arith) (omega (arith, held_long)) ∙ ap (λ (k : ℕ). get_or bytes k 0) back)

  back_read : (i : ℕ) → get_or (patched (patched b at bytes) at held) i 0 ≡ get_or b i 0
  back_read i = elim (cases_lt i at) [
    | inl before ↦ edit_outside (patched b at bytes) at held (omega (arith, after_long)) i (inl before) ∙ edit_outside b at bytes (omega arith) i (inl before)
    | inr from ↦ elim (cases_lt i (at + length bytes)) [
      | inl inside ↦ let forth : at + (i - at) ≡ i = omega arith in
          read_within (patched b at bytes) at held (omega (arith, after_long)) i from (omega (arith, held_long)) ∙ held_read (i - at) (omega arith) ∙ ap (λ (k : ℕ). get_or b k 0) forth
      | inr behind ↦ edit_outside (patched b at bytes) at held (omega (arith, after_long)) i (inr (omega (arith, held_long))) ∙ edit_outside b at bytes (omega arith) i (inr behind)
    ]
  ]

  pub written_back : patched (patched b at bytes) at held ≡ b
  written_back =
      ext_get_or 0 (patched (patched b at bytes) at held) b (omega (arith, edit_long (patched b at bytes) at held (omega (arith, after_long)), after_long, held_long))
      (λ i below. back_read i)

-- a change more is told
pub changed_told : (c : Change) (t : Told) → IsTold t → Begins (c ∷ t.changes) t.safe → IsTold (changed c t)
changed_told c t is begins = record { done = ap (λ (x : Option (List ℕ)). whole c x) is.done; begins = begins }

pub begins_write : (odd : Bool) (at : ℕ) (bytes : List ℕ) (t : Told) → IsTold t → at ≤ length (bytes_of t.seen) → Begins (Write odd at bytes ∷ t.changes) t.safe
begins_write odd at bytes t is within = (subst (λ (x : Option (List ℕ)). at ≤ length (bytes_of x)) is.done within, is.begins)

-- a write is told
pub write_told : (us : List Undo) (b b1 bytes : List ℕ) (len len1 : Option ℕ) (odd : Bool) (at : ℕ) (held : Vec ℕ Global) → at + length bytes ≤ length b → held.items ≡ take (length bytes) (drop at b) → b1 ≡ patched b at bytes
    → content b1 len1 ≡ whole (Write odd at bytes) (content b len) → told_of (OfWrite odd at held len ∷ us) b1 len1 ≡ changed (Write odd at bytes) (told_of us b len)
write_told us b b1 bytes len len1 odd at held within held_is b1_is seen =
    let back : patched b1 at held.items ≡ b = ap (λ (l : List ℕ). patched l at held.items) b1_is ∙ written_back b bytes held.items at within held_is in
    let there : take (length held.items) (drop at b1) ≡ bytes = ap (λ (l : List ℕ). take (length held.items) (drop at l)) b1_is ∙ written_there b bytes held.items at within held_is in
    let safe : safe_of us (patched b1 at held.items) len ≡ safe_of us b len = ap (λ (l : List ℕ). safe_of us l len) back in
    let changes : changes_of us (patched b1 at held.items) ≡ changes_of us b = ap (λ (l : List ℕ). changes_of us l) back in
    cc

pub grown : (b b1 : List ℕ) (end k : ℕ) (ok : Bool) → length b ≤ end → b1 ≡ (if ok then take end b ++ replicate k 0 else b) → (z : List ℕ) × (b1 ≡ b ++ z)
grown b b1 end k true le is = (replicate k 0, is ∙ ap (λ (l : List ℕ). l ++ replicate k 0) (take_all end b le))
grown b b1 end k false le is = ([], is ∙ sym (append-nil b))

-- with the same undo, more bytes and more room
pub grown_entry : (us us1 : List Undo) (b b1 : List ℕ) (len : Option ℕ) (aside aside1 most most1 : ℕ) → us1 ≡ us → (z : List ℕ) × (b1 ≡ b ++ z) → aside1 ≡ aside → most ≤ most1 → IsEntry b len (reverse us) aside most → IsEntry b1 len (reverse us1) aside1 most1
grown_entry us us1 b b1 len aside aside1 most most1 us_is (z, b_is) aside_is le e =
    subst (λ (l : List Undo). IsEntry b1 len (reverse l) aside1 most1) (sym us_is)
    (subst (λ (l : List ℕ). IsEntry l len (reverse us) aside1 most1) (sym b_is)
    (let f = more_entry (reverse us) b z len aside most e in
    record { long = f.long; within = f.within; told = f.told; empty = aside_is ∙ e.empty; room = omega (arith, e.room) }))

pub grown_told : (us us1 : List Undo) (b b1 : List ℕ) (len : Option ℕ) (aside most : ℕ) → us1 ≡ us → (z : List ℕ) × (b1 ≡ b ++ z) → IsEntry b len (reverse us) aside most → told_of (reverse us1) b1 len ≡ told_of (reverse us) b len
grown_told us us1 b b1 len aside most us_is (z, b_is) e =
    ap (λ (l : List Undo). told_of (reverse l) b1 len) us_is ∙ ap (λ (l : List ℕ). told_of (reverse us) l len) b_is ∙ more_told (reverse us) b z len e.within e.long

-- after a write
pub write_entry : (us us1 : List Undo) (b b1 bytes : List ℕ) (len len1 : Option ℕ) (odd : Bool) (at : ℕ) (held : Vec ℕ Global) (aside most : ℕ) → IsEntry b len (reverse us) aside most → at ≤ length (bytes_of (content b len)) → at + length bytes ≤ length b
    → held.items ≡ take (length bytes) (drop at b) → b1 ≡ patched b at bytes → content b1 len1 ≡ whole (Write odd at bytes) (content b len) → IsLong len1 (length b1) → length b1 ≡ length b → us1 ≡ us ++ OfWrite odd at held len ∷ [] → length us + 1 ≤ most
    → IsEntry b1 len1 (reverse us1) aside most × (told_of (reverse us1) b1 len1 ≡ changed (Write odd at bytes) (told_of (reverse us) b len))
write_entry us us1 b b1 bytes len len1 odd at held aside most e start within held_is b1_is seen long1 same us_is room =
    let newest : reverse us1 ≡ OfWrite odd at held len ∷ reverse us = ap (λ (l : List Undo). reverse l) us_is ∙ reverse_push us (OfWrite odd at held len) in
    let is = write_told (reverse us) b b1 bytes len len1 odd at held within held_is b1_is seen in
    let here : IsEntry b1 len1 (OfWrite odd at held len ∷ reverse us) aside most = record {
      long = long1;
      within = ((omega (arith, ap (λ (l : List ℕ). length l) held_is, length-take (length bytes) (drop at b), same), subst (λ (n : ℕ). IsLong len n) (sym same) e.long), subst (λ (n : ℕ). AreWithin (reverse us) n) (sym same) e.within);
      told = subst (λ (t : Told). IsTold t) (sym is) (changed_told (Write odd at bytes) (told_of (reverse us) b len) e.told (begins_write odd at bytes (told_of (reverse us) b len) e.told start));
      empty = e.empty;
      room = omega (arith, length-reverse {A = Undo} us, room);
    } in
    (subst (λ (l : List Undo). IsEntry b1 len1 l aside most) (sym newest) here, ap (λ (l : List Undo). told_of l b1 len1) newest ∙ is)
