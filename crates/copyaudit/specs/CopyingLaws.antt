-- Laws of a copy, message by message.
use Rattle.std.proofs.Common.{◌≡◌, ℕ, List, [], ◌∷◌, ◌++◌, refl}
use Rattle.image_disks.specs.Blocks.{Plan}
use Rattle.image_disks.specs.Values.{Value, received, stages, took}
use Rattle.copyaudit.specs.Copying.{part_of, copied, copy_stages}

module _ (plan : Plan) (lead : Value) where
  -- a message up to a position, from the received one on
  abbrev pub next : ℕ → Value → Value
  next to v = took plan (part_of lead (received v) to) v

  -- without messages nothing is copied
  pub none_copied : (v : Value) → copied plan lead [] v ≡ v
  unfolding copied
  none_copied v = refl

  -- a copy is its first message and then the others
  pub first_copied : (to : ℕ) (more : List ℕ) (v : Value) → copied plan lead (to ∷ more) v ≡ copied plan lead more (next to v)
  unfolding copied
  first_copied to more v = refl

  -- and passes through what these pass through
  pub first_stages : (to : ℕ) (more : List ℕ) (v : Value) → copy_stages plan lead (to ∷ more) v ≡ stages plan (part_of lead (received v) to) v ++ copy_stages plan lead more (next to v)
  unfolding copy_stages
  first_stages to more v = refl
