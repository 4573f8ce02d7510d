-- Laws of what a stop may leave after each call.
use Rattle.std.proofs.Common.{◌≡◌, ◌≢◌, ◌⊎◌, inl, inr, ⊎_elim, ℕ, ◌+◌, ◌<◌, ◌≤◌, max, false, List, [], ◌∷◌, length, get_or, take, drop, Option, Some, None, Result, Ok, Err, refl, sym, ◌∙◌, ap, subst, arith}
use Rattle.std.proofs.lemmas.List.{take_at, drop_at, ext_get_or, get_or-take, get_or-drop, length-take}
use Rattle.std.proofs.Common.{◌++◌, append_assoc, length-append, length-drop}
use Rattle.rdf_disk.specs.declared.fault.DiskFault.{DiskFault}
use Rattle.rdf_disk.specs.declared.fault.DiskFault.TheVariants.{Stopped, Failed, NoMemory}
use Rattle.rdf_disk.specs.Files.{FileState, Disk, Contents, bytes_of, settled, patched, touched, IsTorn, IsTornFile}
use Rattle.rdf_disk.specs.Outcomes.{IsRewritten, OutcomeOf, IsOutcome, May, Surely, Durably, Keeps, Settles, Narrows}
use Rattle.rdf_disk.specs.Calls.{AllSettle, Looks, Syncs, Writes, Removes}

-- of a file of which nothing is pending, nothing else may be left
pub may-settled : (y x : Option (List ℕ)) → May (settled y) x → x ≡ y
may-settled y x (inl is) = is
may-settled y x (inr is) = is

-- a file that is as it was narrows what may be of it
pub narrows_same : (old new : FileState) → new ≡ old → Narrows old new
narrows_same old new is x may = subst (λ (f : FileState). May f x) is may

-- so does one that is now what a read gave, with nothing pending
pub narrows_synced : (old new : FileState) → new ≡ settled old.seen → Narrows old new
narrows_synced old new is x may = inl (may-settled old.seen x (subst (λ (f : FileState). May f x) is may))

-- and one that is now an outcome
pub narrows_settles : (old new : FileState) → Settles old new → Narrows old new
narrows_settles old new (y, outcome, is) x may =
    let same : x ≡ y = may-settled y x (subst (λ (f : FileState). May f x) is may) in
    inr (subst (λ (z : Option (List ℕ)). IsOutcome old z) (sym same) outcome)

-- narrowing goes over two steps
pub narrows_trans : (a b c : FileState) → Narrows a b → Narrows b c → Narrows a c
narrows_trans a b c ab bc x may = ab x (bc x may)

-- a call that only looks narrows what may be, whatever it answers
pub looks_narrows : {T : Type 0} (r : Result T DiskFault) (old new : Disk) → Looks r old new → (m : ℕ) → Narrows (old m) (new m)
looks_narrows (Ok v) old new looks m = narrows_same (old m) (new m) (looks m)
looks_narrows (Err Stopped) old new looks m = narrows_settles (old m) (new m) (looks m)
looks_narrows (Err Failed) old new looks m = narrows_same (old m) (new m) (looks m)
looks_narrows (Err NoMemory) old new looks m = narrows_same (old m) (new m) (looks m)

-- so does a sync
pub syncs_narrows : {T : Type 0} (r : Result T DiskFault) (old new : Disk) → Syncs r old new → (m : ℕ) → Narrows (old m) (new m)
syncs_narrows (Ok v) old new syncs m = narrows_synced (old m) (new m) (syncs m)
syncs_narrows (Err Stopped) old new syncs m = narrows_settles (old m) (new m) (syncs m)
syncs_narrows (Err Failed) old new syncs m = narrows_same (old m) (new m) (syncs m)
syncs_narrows (Err NoMemory) old new syncs m = narrows_same (old m) (new m) (syncs m)

-- a write narrows what may be of the other files
pub writes_narrow : {T : Type 0} (file at : ℕ) (bytes : List ℕ) (r : Result T DiskFault) (old new : Disk) → Writes file at bytes r old new → (m : ℕ) → m ≢ file → Narrows (old m) (new m)
writes_narrow file at bytes (Ok v) old new w m other = narrows_same (old m) (new m) (w.others m other)
writes_narrow file at bytes (Err Stopped) old new w m other = narrows_settles (old m) (new m) (w.others m other)
writes_narrow file at bytes (Err Failed) old new w m other = narrows_same (old m) (new m) (w.2.others m other)
writes_narrow file at bytes (Err NoMemory) old new w m other = narrows_same (old m) (new m) (w m)

-- one write on a file of which nothing was pending
module _ (b : List ℕ) (at n : ℕ) (within : at ≤ length b) where
  alike : (c : List ℕ) → IsRewritten ((at, n) ∷ []) false b c → (i : ℕ) → i < length c → (i < at) ⊎ (at + n ≤ i) → get_or c i 0 ≡ get_or b i 0
  alike c r i below out = r.same i below (out, tt)

  torn_once : (c : List ℕ) → IsRewritten ((at, n) ∷ []) false b c → IsTorn at n b c
  torn_once c r = record {
    before = ext_get_or 0 (take at c) (take at b) (omega (arith, length-take at c, length-take at b, r.no_shorter)) (λ i below. front i below);
    after = ext_get_or 0 (drop (at + n) c) (drop (at + n) b) (omega (arith, length-drop (at + n) c, length-drop (at + n) b, r.no_shorter, r.no_longer)) (λ i below. back i below);
    no_shorter = r.no_shorter;
    no_longer = omega (arith, r.no_longer);
  }
    where
      front : (i : ℕ) → i < length (take at c) → get_or (take at c) i 0 ≡ get_or (take at b) i 0
      front i below =
          let in_front : i < at = omega (arith, length-take at c) in
          let in_c : i < length c = omega (arith, length-take at c) in
          get_or-take at c i 0 in_front ∙ alike c r i in_c (inl in_front) ∙ sym (get_or-take at b i 0 in_front)

      back : (i : ℕ) → i < length (drop (at + n) c) → get_or (drop (at + n) c) i 0 ≡ get_or (drop (at + n) b) i 0
      back i below =
          let in_c : at + n + i < length c = omega (arith, length-drop (at + n) c) in
          get_or-drop (at + n) c i 0 ∙ alike c r (at + n + i) in_c (inr (omega arith)) ∙ sym (get_or-drop (at + n) b i 0)

  -- a file that is as it was is torn from itself
  pub torn_same : IsTorn at n b b
  torn_same = record { before = refl; after = refl; no_shorter = omega arith; no_longer = omega arith }

  -- what is there is torn from what was there
  abbrev pub Torn : Option (List ℕ) → Type 0
  Torn x = (c : List ℕ) × (x ≡ Some c) × IsTorn at n b c

  from_outcome : (x : Option (List ℕ)) → OutcomeOf ((at, n) ∷ []) false (Some b) x → Torn x
  from_outcome None absent = let there : Some b ≡ None = absent refl in cc
  from_outcome (Some c) r = (c, refl, torn_once c r)

  from_torn : (x : Option (List ℕ)) → IsTornFile at n (Some b) x → Torn x
  from_torn None absent = cc
  from_torn (Some c) torn = (c, refl, torn)

  may_touched : (f0 f : FileState) (m : ℕ) (y : Option (List ℕ)) → m ≡ n → f0 ≡ settled (Some b) → f ≡ touched f0 at m y → Torn y → Surely f Torn
  may_touched f0 f m y long was is torn x may =
      let same : touched f0 at m y ≡ touched (settled (Some b)) at n y = ap (λ (g : FileState). touched g at m y) was ∙ ap (λ (k : ℕ). touched (settled (Some b)) at k y) long in
      ⊎_elim
      (λ (now : x ≡ y). subst Torn (sym now) torn)
      (λ (left : OutcomeOf ((at, n) ∷ []) false (Some b) x). from_outcome x left)
      (subst (λ (g : FileState). May g x) (is ∙ same) may)

  -- how long a file is after a write
  pub length-patched : (bytes : List ℕ) → length bytes ≡ n → length (patched b at bytes) ≡ max (length b) (at + n)
  length-patched bytes long = omega (arith, length-append (take at b ++ bytes) (drop (at + length bytes) b), length-append (take at b) bytes, length-take at b, length-drop (at + length bytes) b)

  -- a whole write is a torn one too
  pub patched_torn : (bytes : List ℕ) → length bytes ≡ n → IsTorn at n b (patched b at bytes)
  patched_torn bytes long = record {
    before = ap (λ (l : List ℕ). take at l) (append_assoc (take at b) bytes (drop (at + length bytes) b)) ∙ take_at (take at b) (bytes ++ drop (at + length bytes) b) at (omega (arith, length-take at b));
    after = drop_at (take at b ++ bytes) (drop (at + length bytes) b) (at + n) (omega (arith, length-take at b, length-append (take at b) bytes)) ∙ ap (λ (k : ℕ). drop (at + k) b) long;
    no_shorter = omega (arith, length-patched bytes long);
    no_longer = omega (arith, length-patched bytes long);
  }

  -- what may be of the file after a write, whatever the write answers
  pub write_torn : {T : Type 0} (file : ℕ) (bytes : List ℕ) (r : Result T DiskFault) (old new : Disk)
      → length bytes ≡ n → old file ≡ settled (Some b) → Writes file at bytes r old new
      → Surely (new file) Torn
  write_torn file bytes (Ok v) old new long was w x may =
      let seen_is : (old file).seen ≡ Some b = ap (λ (f : FileState). f.seen) was in
      let torn : Torn (Some (patched (bytes_of (old file).seen) at bytes)) = (patched b at bytes, ap (λ (y : Option (List ℕ)). Some (patched (bytes_of y) at bytes)) seen_is, patched_torn bytes long) in
      may_touched (old file) (new file) (length bytes) _ long was w.this torn x may
  write_torn file bytes (Err Stopped) old new long was w x may =
      let same : touched (old file) at (length bytes) (old file).seen ≡ touched (settled (Some b)) at n (Some b) = ap (λ (g : FileState). touched g at (length bytes) g.seen) was ∙ ap (λ (k : ℕ). touched (settled (Some b)) at k (Some b)) long in
      let left : OutcomeOf ((at, n) ∷ []) false (Some b) w.this.0 = subst (λ (g : FileState). IsOutcome g w.this.0) same w.this.1 in
      let is : x ≡ w.this.0 = may-settled w.this.0 x (subst (λ (g : FileState). May g x) w.this.2 may) in
      subst Torn (sym is) (from_outcome w.this.0 left)
  write_torn file bytes (Err Failed) old new long was w x may =
      let seen_is : (old file).seen ≡ Some b = ap (λ (f : FileState). f.seen) was in
      let torn : IsTornFile at n (Some b) w.0 = subst (λ (y : Option (List ℕ)). IsTornFile at n y w.0) seen_is (subst (λ (k : ℕ). IsTornFile at k (old file).seen w.0) long w.1) in
      may_touched (old file) (new file) (length bytes) w.0 long was w.2.this (from_torn w.0 torn) x may
  write_torn file bytes (Err NoMemory) old new long was w x may =
      let is : x ≡ Some b = may-settled (Some b) x (subst (λ (g : FileState). May g x) (w file ∙ was) may) in
      (b, is, torn_same)

-- one write on a file that wasn't there: it is absent, or no longer than the write
module _ (n : ℕ) where
  -- nothing is there, or no more than the write
  abbrev pub Made : Option (List ℕ) → Type 0
  Made x = (x ≡ None) ⊎ ((c : List ℕ) × (x ≡ Some c) × (length c ≤ n))

  made_outcome : (x : Option (List ℕ)) → OutcomeOf ((0, n) ∷ []) false None x → Made x
  made_outcome None absent = inl refl
  made_outcome (Some c) r = inr (c, refl, omega (arith, r.no_longer))

  made_torn : (x : Option (List ℕ)) → IsTornFile 0 n None x → Made x
  made_torn None absent = inl refl
  made_torn (Some c) torn = inr (c, refl, omega (arith, torn.no_longer))

  made_touched : (f0 f : FileState) (m : ℕ) (y : Option (List ℕ)) → m ≡ n → f0 ≡ settled None → f ≡ touched f0 0 m y → Made y → Surely f Made
  made_touched f0 f m y long was is made x may =
      let same : touched f0 0 m y ≡ touched (settled None) 0 n y = ap (λ (g : FileState). touched g 0 m y) was ∙ ap (λ (k : ℕ). touched (settled None) 0 k y) long in
      ⊎_elim
      (λ (now : x ≡ y). subst Made (sym now) made)
      (λ (left : OutcomeOf ((0, n) ∷ []) false None x). made_outcome x left)
      (subst (λ (g : FileState). May g x) (is ∙ same) may)

  length-made : (b : List ℕ) (bytes : List ℕ) → b ≡ [] → length bytes ≡ n → length (patched b 0 bytes) ≤ n
  length-made b bytes none long = omega (arith, ap length none, length-append (take 0 b ++ bytes) (drop (0 + length bytes) b), length-append (take 0 b) bytes, length-take 0 b, length-drop (0 + length bytes) b)

  -- what may be of the file after the write that makes it, whatever the write answers
  pub write_makes : {T : Type 0} (file : ℕ) (bytes : List ℕ) (r : Result T DiskFault) (old new : Disk)
      → length bytes ≡ n → old file ≡ settled None → Writes file 0 bytes r old new → Surely (new file) Made
  write_makes file bytes (Ok v) old new long was w x may =
      let none : bytes_of (old file).seen ≡ [] = ap (λ (f : FileState). bytes_of f.seen) was in
      made_touched (old file) (new file) (length bytes) _ long was w.this (inr (patched (bytes_of (old file).seen) 0 bytes, refl, length-made (bytes_of (old file).seen) bytes none long)) x may
  write_makes file bytes (Err Stopped) old new long was w x may =
      let same : touched (old file) 0 (length bytes) (old file).seen ≡ touched (settled None) 0 n None = ap (λ (g : FileState). touched g 0 (length bytes) g.seen) was ∙ ap (λ (k : ℕ). touched (settled None) 0 k None) long in
      let left : OutcomeOf ((0, n) ∷ []) false None w.this.0 = subst (λ (g : FileState). IsOutcome g w.this.0) same w.this.1 in
      let is : x ≡ w.this.0 = may-settled w.this.0 x (subst (λ (g : FileState). May g x) w.this.2 may) in
      subst Made (sym is) (made_outcome w.this.0 left)
  write_makes file bytes (Err Failed) old new long was w x may =
      let seen_is : (old file).seen ≡ None = ap (λ (f : FileState). f.seen) was in
      let torn : IsTornFile 0 n None w.0 = subst (λ (y : Option (List ℕ)). IsTornFile 0 n y w.0) seen_is (subst (λ (k : ℕ). IsTornFile 0 k (old file).seen w.0) long w.1) in
      made_touched (old file) (new file) (length bytes) w.0 long was w.2.this (made_torn w.0 torn) x may
  write_makes file bytes (Err NoMemory) old new long was w x may =
      inl (may-settled None x (subst (λ (g : FileState). May g x) (w file ∙ was) may))

-- a removal narrows what may be of the other files
pub removes_narrow : {T : Type 0} (file : ℕ) (r : Result T DiskFault) (old new : Disk) → Removes file r old new → (m : ℕ) → m ≢ file → Narrows (old m) (new m)
removes_narrow file (Ok v) old new w m other = narrows_same (old m) (new m) (w.others m other)
removes_narrow file (Err Stopped) old new w m other = narrows_settles (old m) (new m) (w.others m other)
removes_narrow file (Err Failed) old new w m other = narrows_same (old m) (new m) (w.2.others m other)
removes_narrow file (Err NoMemory) old new w m other = narrows_same (old m) (new m) (w m)

-- what holds durably goes on to hold where less may be
pub durably_narrows : (P : Contents → Type 0) (old new : Disk) → Durably old P → ((m : ℕ) → Narrows (old m) (new m)) → Durably new P
durably_narrows P old new durably narrows c may = durably c (λ m. narrows m (c m) (may m))

-- and where each thing that may be stands for something that might have been
pub durably_keeps : (P : Contents → Type 0) (same : Contents → Contents → Type 0) (old new : Disk) → Durably old P → Keeps same old new → ((c d : Contents) → same c d → P c → P d) → Durably new P
durably_keeps P same old new durably keeps carries d may = let before = keeps d may in carries before.0 d before.2 (durably before.0 before.1)

-- after a cut, or a stop of a call that only looks
pub settle_narrows : (old new : Disk) → AllSettle old new → (m : ℕ) → Narrows (old m) (new m)
settle_narrows old new settle m = narrows_settles (old m) (new m) (settle m)
