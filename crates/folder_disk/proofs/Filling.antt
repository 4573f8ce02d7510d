-- A write made in pieces is one write.
use Rattle.std.proofs.Common.{zero, suc, ◌≡◌, ◌⊎◌, inl, inr, ⊎_elim, ℕ, ◌+◌, ◌-◌, ◌<◌, ◌≤◌, List, ◌++◌, length, take, drop, append_assoc, length-append, length-drop, Option, Some, None, refl, sym, ◌∙◌, ap, subst, arith}
use Rattle.std.proofs.lemmas.List.{take_at, drop_at, take_all, length-take}
use Rattle.std.proofs.lemmas.List.{drop-drop, take-take}
use Rattle.std.proofs.Math.Seq.{take-add}
use Rattle.rdf_disk.specs.Files.{Disk, FileState, ChangesFile, IsTorn, IsTornFile, bytes_of, patched}
use Rattle.rdf_disk.specs.Calls.{Same}
use Rattle.rdf_disk.specs.OutcomeLaws.{patched_torn}
use Rattle.folder_disk.specs.Names.{Names, Name, ChangesName, Still, made}
use Rattle.folder_disk.specs.Tracked.{files_of, reseen, IsHeld, IsFilled, IsHalfFilled}

-- an open that makes nothing, and one that makes the file
pub held_still : (file : ℕ) (old new : Names) → Still old new → IsHeld file (files_of old) (files_of new)
held_still file old new still = record {
  x = (old file).file.seen;
  bytes = refl;
  there = λ none. none;
  is = record { this = ap (λ (n : Name). n.file) (still file); others = λ m other. ap (λ (n : Name). n.file) (still m) };
}

pub held_made : (file : ℕ) (old new : Names) → ChangesName file old new (made (old file)) → IsHeld file (files_of old) (files_of new)
held_made file old new did = record {
  x = Some (bytes_of (old file).file.seen);
  bytes = refl;
  there = λ none. cc;
  is = record { this = ap (λ (n : Name). n.file) did.this; others = λ m other. ap (λ (n : Name). n.file) (did.others m other) };
}

-- two pieces, one behind the other
pub patched_twice : (b p q : List ℕ) (at : ℕ) → at ≤ length b → patched (patched b at p) (at + length p) q ≡ patched b at (p ++ q)
patched_twice b p q at within =
    let front : List ℕ = take at b ++ p in
    let rest : List ℕ = drop (at + length p) b in
    let long : length front ≡ at + length p = omega (arith, length-append (take at b) p, length-take at b) in
    let first : take (at + length p) (front ++ rest) ≡ front = take_at front rest (at + length p) long in
    let second : drop (at + length p + length q) (front ++ rest) ≡ drop (at + length (p ++ q)) b =
    sym (drop-drop (length q) (at + length p) (front ++ rest))
    ∙ ap (λ (l : List ℕ). drop (length q) l) (drop_at front rest (at + length p) long)
    ∙ drop-drop (length q) (at + length p) b
    ∙ ap (λ (k : ℕ). drop k b) (omega (arith, length-append p q)) in
    ap (λ (l : List ℕ). l ++ q ++ drop (at + length p + length q) (front ++ rest)) first
    ∙ ap (λ (l : List ℕ). front ++ q ++ l) second
    ∙ ap (λ (l : List ℕ). l ++ drop (at + length (p ++ q)) b) (append_assoc (take at b) p q)

-- what is torn within a part of a range is torn within the range
pub torn_wider : (at k n : ℕ) (b c : List ℕ) → k ≤ n → IsTorn at k b c → IsTorn at n b c
torn_wider at k n b c less t = record {
  before = t.before;
  after =
      let is : at + k + (n - k) ≡ at + n = omega arith in
      ap (λ (j : ℕ). drop j c) (sym is) ∙ sym (drop-drop (n - k) (at + k) c) ∙ ap (λ (l : List ℕ). drop (n - k) l) t.after ∙ drop-drop (n - k) (at + k) b ∙ ap (λ (j : ℕ). drop j b) is;
  no_shorter = t.no_shorter;
  no_longer = omega (arith, t.no_longer);
}

pub torn_behind : (at k n : ℕ) (b c d : List ℕ) → k ≤ n → IsTorn at k b c → IsTorn (at + k) (n - k) c d → IsTorn at n b d
torn_behind at k n b c d less s t = record {
  before = sym (take-take at (at + k) d (omega arith)) ∙ ap (λ (l : List ℕ). take at l) t.before ∙ take-take at (at + k) c (omega arith) ∙ s.before;
  after =
      let is : at + k + (n - k) ≡ at + n = omega arith in
      ap (λ (j : ℕ). drop j d) (sym is) ∙ t.after ∙ ap (λ (j : ℕ). drop j c) is ∙ (torn_wider at k n b c less s).after;
  no_shorter = omega (arith, s.no_shorter, t.no_shorter);
  no_longer = omega (arith, s.no_longer, t.no_longer);
}

-- what the pieces so far have made of the files
pub record IsFilling (file at : ℕ) (bytes : List ℕ) (done : ℕ) (first now : Disk) : Type 0 where
  pub none : done ≡ 0 → Same first now
  pub some : 0 < done → IsFilled file at (take done bytes) first now

pub filling_start : (file at : ℕ) (bytes : List ℕ) (first now : Disk) → Same first now → IsFilling file at bytes 0 first now
filling_start file at bytes first now same = record { none = λ is. same; some = λ below. absurd (omega arith) }

pub either : (n : ℕ) → (n ≡ 0) ⊎ (0 < n)
either zero = inl refl
either (suc n) = inr (omega arith)

then_same : (file : ℕ) (a b c : Disk) (is : FileState) (x : Option (List ℕ)) → Same a b → is ≡ a file → ChangesFile file b c (reseen (b file) x) → ChangesFile file a c (reseen (a file) x)
then_same file a b c is x same eq did = record {
  this = did.this ∙ ap (λ (f : FileState). reseen f x) (same file);
  others = λ m other. did.others m other ∙ same m;
}

-- a second change of what a read gives
twice : (file : ℕ) (a b c : Disk) (x y : Option (List ℕ)) → ChangesFile file a b (reseen (a file) x) → ChangesFile file b c (reseen (b file) y) → ChangesFile file a c (reseen (a file) y)
twice file a b c x y one two = record {
  this = two.this ∙ ap (λ (f : FileState). reseen f y) one.this;
  others = λ m other. two.others m other ∙ one.others m other;
}

pub filling_step : (file at : ℕ) (bytes : List ℕ) (done more : ℕ) (first now next : Disk) → done + more ≤ length bytes → at ≤ length (bytes_of (first file).seen)
    → IsFilling file at bytes done first now → IsFilled file (at + done) (take more (drop done bytes)) now next → IsFilled file at (take (done + more) bytes) first next
filling_step file at bytes done more first now next within fits was did = ⊎_elim (λ (none : done ≡ 0). begins none) (λ (some : 0 < done). goes_on some) (either done)
  where
    begins : done ≡ 0 → IsFilled file at (take (done + more) bytes) first next
    begins none =
        let same : Same first now = was.none none in
        let at_is : at + 0 ≡ at = omega arith in
        let more_is : more ≡ done + more = omega (arith, none) in
        record {
          this =
              did.this
              ∙ ap (λ (k : ℕ). reseen (now file) (Some (patched (bytes_of (now file).seen) (at + k) (take more (drop k bytes))))) none
              ∙ ap (λ (j : ℕ). reseen (now file) (Some (patched (bytes_of (now file).seen) j (take more bytes)))) at_is
              ∙ ap (λ (f : FileState). reseen f (Some (patched (bytes_of f.seen) at (take more bytes)))) (same file)
              ∙ ap (λ (k : ℕ). reseen (first file) (Some (patched (bytes_of (first file).seen) at (take k bytes)))) more_is;
          others = λ m other. did.others m other ∙ same m;
        }

    goes_on : 0 < done → IsFilled file at (take (done + more) bytes) first next
    goes_on some =
        let one = was.some some in
        let b : List ℕ = bytes_of (first file).seen in
        let p : List ℕ = take done bytes in
        let q : List ℕ = take more (drop done bytes) in
        let long : length p ≡ done = omega (arith, length-take done bytes) in
        let now_is : bytes_of (now file).seen ≡ patched b at p = ap (λ (f : FileState). bytes_of f.seen) one.this in
        let both : patched (bytes_of (now file).seen) (at + done) q ≡ patched b at (take (done + more) bytes) =
        ap (λ (l : List ℕ). patched l (at + done) q) now_is
        ∙ ap (λ (k : ℕ). patched (patched b at p) (at + k) q) (sym long)
        ∙ patched_twice b p q at fits
        ∙ ap (λ (l : List ℕ). patched b at l) (sym (take-add done more bytes)) in
        record {
          this = did.this ∙ ap (λ (f : FileState). reseen f (Some (patched (bytes_of (now file).seen) (at + done) q))) one.this ∙ ap (λ (l : List ℕ). reseen (first file) (Some l)) both;
          others = λ m other. did.others m other ∙ one.others m other;
        }

pub filling_more : (file at : ℕ) (bytes : List ℕ) (done more : ℕ) (first now next : Disk) → 0 < more → done + more ≤ length bytes → at ≤ length (bytes_of (first file).seen)
    → IsFilling file at bytes done first now → IsFilled file (at + done) (take more (drop done bytes)) now next → IsFilling file at bytes (done + more) first next
filling_more file at bytes done more first now next some within fits was did = record {
  none = λ is. absurd (omega (arith, is, some));
  some = λ below. filling_step file at bytes done more first now next within fits was did;
}

-- a part of a write is within it
pub half_filled : (file at n : ℕ) (bytes : List ℕ) (first now : Disk) → length bytes ≤ n → at ≤ length (bytes_of (first file).seen) → IsFilled file at bytes first now → IsHalfFilled file at n first now
half_filled file at n bytes first now less fits did = record {
  x = Some (patched (bytes_of (first file).seen) at bytes);
  torn = torn_wider at (length bytes) n (bytes_of (first file).seen) (patched (bytes_of (first file).seen) at bytes) less (patched_torn (bytes_of (first file).seen) at (length bytes) fits bytes refl);
  is = did;
}

-- a piece that fails after some others, or at first
torn_later : (at k n : ℕ) (b c : List ℕ) (x : Option (List ℕ)) → k ≤ n → IsTorn at k b c → IsTornFile (at + k) (n - k) (Some c) x → (d : List ℕ) × (x ≡ Some d) × IsTorn at n b d
torn_later at k n b c None less s t = cc
torn_later at k n b c (Some d) less s t = (d, refl, torn_behind at k n b c d less s t)

pub filling_fails : (file at : ℕ) (bytes : List ℕ) (done : ℕ) (first now next : Disk) → done ≤ length bytes → at ≤ length (bytes_of (first file).seen)
    → IsFilling file at bytes done first now → IsHalfFilled file (at + done) (length (drop done bytes)) now next → IsHalfFilled file at (length bytes) first next
filling_fails file at bytes done first now next within fits was did = ⊎_elim (λ (none : done ≡ 0). begins none) (λ (some : 0 < done). goes_on some) (either done)
  where
    begins : done ≡ 0 → IsHalfFilled file at (length bytes) first next
    begins none =
        let same : Same first now = was.none none in
        let at_is : at + done ≡ at = omega (arith, none) in
        let long : length (drop done bytes) ≡ length bytes = omega (arith, length-drop done bytes, none) in
        record {
          x = did.x;
          torn = subst (λ (f : FileState). IsTornFile at (length bytes) f.seen did.x) (same file) (subst (λ (j : ℕ). IsTornFile at j (now file).seen did.x) long (subst (λ (j : ℕ). IsTornFile j (length (drop done bytes)) (now file).seen did.x) at_is did.torn));
          is = record { this = did.is.this ∙ ap (λ (f : FileState). reseen f did.x) (same file); others = λ m other. did.is.others m other ∙ same m };
        }

    goes_on : 0 < done → IsHalfFilled file at (length bytes) first next
    goes_on some =
        let one = was.some some in
        let b : List ℕ = bytes_of (first file).seen in
        let p : List ℕ = take done bytes in
        let long : length p ≡ done = omega (arith, length-take done bytes) in
        let rest : length (drop done bytes) ≡ length bytes - done = length-drop done bytes in
        let now_is : (now file).seen ≡ Some (patched b at p) = ap (λ (f : FileState). f.seen) one.this in
        let here : IsTornFile (at + done) (length bytes - done) (Some (patched b at p)) did.x =
        subst (λ (y : Option (List ℕ)). IsTornFile (at + done) (length bytes - done) y did.x) now_is (subst (λ (j : ℕ). IsTornFile (at + done) j (now file).seen did.x) rest did.torn) in
        let all = torn_later at done (length bytes) b (patched b at p) did.x within (patched_torn b at done fits p long) here in
        record {
          x = did.x;
          torn = subst (λ (y : Option (List ℕ)). IsTornFile at (length bytes) (first file).seen y) (sym all.1) all.2;
          is = record { this = did.is.this ∙ ap (λ (f : FileState). reseen f did.x) one.this; others = λ m other. did.is.others m other ∙ one.others m other };
        }

-- a piece of no bytes
pub filling_stops : (file at : ℕ) (bytes : List ℕ) (done more : ℕ) (first now next : Disk) → done + more ≤ length bytes → at ≤ length (bytes_of (first file).seen)
    → IsFilling file at bytes done first now → IsFilled file (at + done) (take more (drop done bytes)) now next → IsHalfFilled file at (length bytes) first next
filling_stops file at bytes done more first now next within fits was did =
    half_filled file at (length bytes) (take (done + more) bytes) first next (omega (arith, length-take (done + more) bytes)) fits (filling_step file at bytes done more first now next within fits was did)

-- the rest of a slice, as a slice of it
rest_is : (bytes : List ℕ) (done : ℕ) → take (length bytes - done) (drop done bytes) ≡ drop done bytes
rest_is bytes done = take_all (length bytes - done) (drop done bytes) (omega (arith, length-drop done bytes))

pub filled_rest : (file at more : ℕ) (bytes : List ℕ) (done : ℕ) (a b : Disk) → IsFilled file at (take more (take (length bytes - done) (drop done bytes))) a b → IsFilled file at (take more (drop done bytes)) a b
filled_rest file at more bytes done a b did = subst (λ (l : List ℕ). IsFilled file at (take more l) a b) (rest_is bytes done) did

pub half_rest : (file at : ℕ) (bytes : List ℕ) (done : ℕ) (a b : Disk) → IsHalfFilled file at (length (take (length bytes - done) (drop done bytes))) a b → IsHalfFilled file at (length (drop done bytes)) a b
half_rest file at bytes done a b did = subst (λ (l : List ℕ). IsHalfFilled file at (length l) a b) (rest_is bytes done) did
