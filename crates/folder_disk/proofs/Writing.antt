-- A write that was asked for, and a removal, as the calls of a disk have them.
use Rattle.std.proofs.Common.{◌≡◌, ℕ, List, length, Option, Some, None, Result, Ok, Err, refl, ◌∙◌, ap, subst, arith}
use Rattle.rdf_disk.specs.declared.fault.DiskFault.TheVariants.{Failed}
use Rattle.folder_disk.specs.declared.call_fault.CallFault.{CallFault}
use Rattle.folder_disk.specs.declared.call_fault.CallFault.TheVariants.{Failed as CallFailed, NoMemory as CallNoMemory}
use Rattle.folder_disk.specs.Meters.{answer_of}
use Rattle.rdf_disk.specs.Files.{Disk, FileState, IsTorn, IsTornFile, bytes_of, patched, touched}
use Rattle.rdf_disk.specs.Calls.{Wrote, Writes}
use Rattle.folder_disk.specs.Names.{Names, Name, Still, ChangesName, asked}
use Rattle.folder_disk.specs.Tracked.{files_of, reseen, IsHeld, IsFilled, IsHalfFilled}
use Rattle.folder_disk.specs.TornLaws.{torn_same}

pub half_still : (file at n : ℕ) (d : Disk) → IsHalfFilled file at n d d
half_still file at n d = record { x = (d file).seen; torn = torn_same at n (d file).seen; is = record { this = refl; others = λ m other. refl } }

torn_held : (at n : ℕ) (old x : Option (List ℕ)) → bytes_of x ≡ bytes_of old → (x ≡ None → old ≡ None) → IsTornFile at n old x
torn_held at n old None same there = there refl
torn_held at n old (Some b) same there = subst (λ (c : List ℕ). IsTorn at n c b) same (record { before = refl; after = refl; no_shorter = omega arith; no_longer = omega arith })

pub half_held : (file at n : ℕ) (a b : Disk) → IsHeld file a b → IsHalfFilled file at n a b
half_held file at n a b held = record { x = held.x; torn = torn_held at n (a file).seen held.x held.bytes held.there; is = held.is }

pub held_filled : (file at : ℕ) (bytes : List ℕ) (a b c : Disk) → IsHeld file a b → IsFilled file at bytes b c → IsFilled file at bytes a c
held_filled file at bytes a b c held did =
    let same : bytes_of (b file).seen ≡ bytes_of (a file).seen = ap (λ (f : FileState). bytes_of f.seen) held.is.this ∙ held.bytes in
    record {
      this = did.this ∙ ap (λ (l : List ℕ). reseen (b file) (Some (patched l at bytes))) same ∙ ap (λ (f : FileState). reseen f (Some (patched (bytes_of (a file).seen) at bytes))) held.is.this;
      others = λ m other. did.others m other ∙ held.is.others m other;
    }

torn_from_held : (at n : ℕ) (a b y : Option (List ℕ)) → bytes_of b ≡ bytes_of a → (b ≡ None → a ≡ None) → IsTornFile at n b y → IsTornFile at n a y
torn_from_held at n a b None same there torn = there torn
torn_from_held at n a b (Some c) same there torn = subst (λ (l : List ℕ). IsTorn at n l c) same torn

pub held_half : (file at n : ℕ) (a b c : Disk) → IsHeld file a b → IsHalfFilled file at n b c → IsHalfFilled file at n a c
held_half file at n a b c held did =
    let seen_is : (b file).seen ≡ held.x = ap (λ (f : FileState). f.seen) held.is.this in
    record {
      x = did.x;
      torn = torn_from_held at n (a file).seen held.x did.x held.bytes held.there (subst (λ (y : Option (List ℕ)). IsTornFile at n y did.x) seen_is did.torn);
      is = record { this = did.is.this ∙ ap (λ (f : FileState). reseen f did.x) held.is.this; others = λ m other. did.is.others m other ∙ held.is.others m other };
    }

module _ (file at : ℕ) (bytes : List ℕ) (old mid new : Names) (ask : ChangesName file old mid (asked (old file) at (length bytes))) where
  pub asked_filled : IsFilled file at bytes (files_of mid) (files_of new) → Wrote file at bytes (files_of old) (files_of new)
  asked_filled did = record {
    this = did.this ∙ ap (λ (n : Name). reseen n.file (Some (patched (bytes_of n.file.seen) at bytes))) ask.this;
    others = λ m other. did.others m other ∙ ap (λ (n : Name). n.file) (ask.others m other);
  }

  pub asked_half : IsHalfFilled file at (length bytes) (files_of mid) (files_of new) → Writes {T = Unit} file at bytes (Err Failed) (files_of old) (files_of new)
  asked_half did = (
    did.x,
    subst (λ (n : Name). IsTornFile at (length bytes) n.file.seen did.x) ask.this did.torn,
    record {
      this = did.is.this ∙ ap (λ (n : Name). reseen n.file did.x) ask.this;
      others = λ m other. did.is.others m other ∙ ap (λ (n : Name). n.file) (ask.others m other);
    },
  )

-- a write behind calls that only looked
module _ (file at : ℕ) (bytes : List ℕ) (a b c : Names) (still : Still a b) where
  same : (m : ℕ) → (b m).file ≡ (a m).file
  same m = ap (λ (n : Name). n.file) (still m)

  pub writes_behind : (r : Result Unit CallFault) → Writes file at bytes (answer_of r) (files_of b) (files_of c) → Writes file at bytes (answer_of r) (files_of a) (files_of c)
  writes_behind (Ok x) did = record {
    this = did.this ∙ ap (λ (f : FileState). touched f at (length bytes) (Some (patched (bytes_of f.seen) at bytes))) (same file);
    others = λ m other. did.others m other ∙ same m;
  }
  writes_behind (Err CallFailed) (x, torn, did) = (
    x,
    subst (λ (f : FileState). IsTornFile at (length bytes) f.seen x) (same file) torn,
    record { this = did.this ∙ ap (λ (f : FileState). touched f at (length bytes) x) (same file); others = λ m other. did.others m other ∙ same m },
  )
  writes_behind (Err CallNoMemory) did = λ m. did m ∙ same m
