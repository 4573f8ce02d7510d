-- A payload that has been written is read again.
use Rattle.std.proofs.Common.{◌≡◌, ◌≤◌, ℕ, List, [], ◌++◌, length, Result, Ok, Err, refl, sym, ◌∙◌, ap, arith}
use Rattle.rdf_gatelog.specs.Log.{IsPayload}
use Rattle.rdf_codec.specs.declared.fault.CodecFault.{CodecFault}
use Rattle.rdf_codec.specs.declared.fault.CodecFault.TheVariants.{NoMemory}
use Rattle.rdf_codec.specs.Reading.{IsAnswer}
use Rattle.image_disks.specs.Blocks.{Unspelled}
use Rattle.rdf_codec.specs.declared.image_blocks.ImageBlock.{ImageBlock}
use Rattle.rdf_codec.specs.ImageBlocks.{image_spelling}
use Rattle.rdf_codec.specs.ImageReading.{image_block_of}
use Rattle.image_disks.specs.Spelled.{block_of, as_block}

module _ (b : ImageBlock) (old new : List ℕ) (empty : old ≡ []) (written : new ≡ old ++ image_spelling b) where
  new_is : new ≡ image_spelling b
  new_is = written ∙ ap (λ (l : List ℕ). l ++ image_spelling b) empty

  pub payload_fits : (2 ≤ length (image_spelling b)) × (length (image_spelling b) ≤ 29971) → IsPayload new
  payload_fits fits = let same : length new ≡ length (image_spelling b) = ap length new_is in (omega (arith, fits.0), omega (arith, fits.1))

  pub payload_read : image_block_of (image_spelling b) ≡ Ok b → block_of new ≡ as_block (Ok b)
  unfolding block_of
  payload_read read = ap as_block (ap image_block_of new_is ∙ read)

-- what was read of a payload is its block
pub read_is : (p : List ℕ) (r : Result ImageBlock CodecFault) → image_block_of p ≡ r → block_of p ≡ as_block r
unfolding block_of
read_is p r e = ap as_block e

pub read_ok : (p : List ℕ) (b : ImageBlock) → IsAnswer (image_block_of p) (Ok b) → block_of p ≡ as_block (Ok b)
read_ok p b answer = read_is p (Ok b) (ok_is (image_block_of p) b answer)
  where
    ok_is : (r : Result ImageBlock CodecFault) (b : ImageBlock) → IsAnswer r (Ok b) → r ≡ Ok b
    ok_is (Ok x) b same = ap (λ (y : ImageBlock). Ok y) (sym same)
    ok_is (Err e) b same = cc

pub read_err : (p : List ℕ) (e : CodecFault) → IsAnswer (image_block_of p) (Err e) → (e ≡ NoMemory → ⊥) → block_of p ≡ Unspelled
read_err p e answer other = err_is (image_block_of p) refl answer
  where
    err_is : (r : Result ImageBlock CodecFault) → image_block_of p ≡ r → IsAnswer r (Err e) → block_of p ≡ Unspelled
    err_is (Ok x) is same = absurd (other same)
    err_is (Err f) is same = read_is p (Err f) is
