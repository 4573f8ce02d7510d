-- One image more is noted.
use Rattle.std.proofs.Common.{◌≡◌, ℕ, Bool, true, false, not, cond, List, filter, filter_map, Option, sym, ap, ◌∙◌}
use Rattle.std.specs.BTreeSet.{insert_key}
use Rattle.std.specs.Ordering.{nat_cmp}
use Rattle.rdf_types.specs.declared.records.Record.{Record}
use Rattle.rdf_types.specs.declared.records.Record.TheVariants.{Image}
use Rattle.rdf_model.specs.Trail.{image_txn}
use Rattle.tmf_recovery.specs.Noted.{with_image}

-- the transactions of images that have not ended
abbrev pub left : (ℕ → Bool) → List Record → List ℕ
left ended records = filter (λ t. not (ended t)) (filter_map image_txn records)

-- an image of a transaction that has ended, or has not
pub image_noted : (ended : ℕ → Bool) (rec : Record) (t : ℕ) (v : ℕ) (f k : List ℕ) (b a : Option (List ℕ)) (keys : List ℕ) → rec ≡ Image t v f k b a → ended t ≡ false → insert_key nat_cmp keys t ≡ with_image ended rec keys
image_noted ended rec t v f k b a keys is open_ = sym (ap (λ (r : Record). with_image ended r keys) is ∙ ap (λ (e : Bool). cond e keys (insert_key nat_cmp keys t)) open_)

pub image_left : (ended : ℕ → Bool) (rec : Record) (t : ℕ) (v : ℕ) (f k : List ℕ) (b a : Option (List ℕ)) (keys : List ℕ) → rec ≡ Image t v f k b a → ended t ≡ true → keys ≡ with_image ended rec keys
image_left ended rec t v f k b a keys is over = sym (ap (λ (r : Record). with_image ended r keys) is ∙ ap (λ (e : Bool). cond e keys (insert_key nat_cmp keys t)) over)
