-- A record that is read is spelled so, and a record that is spelled is read again.
use Rattle.std.proofs.Common.{◌≡◌, ℕ, ◌^◌, ◌<◌, List, [], ◌∷◌, ◌++◌, Option, refl, append_assoc, append-nil, ap, sym}
use Rattle.std.specs.Int.{Width, w16, w32, w64, to_be_bytes}
use Rattle.rdf_types.specs.Limits.{IsFileName, IsKey, IsValue, is_name_byte, is_text_byte}
use Rattle.rdf_types.specs.declared.records.Record.{Record}
use Rattle.rdf_types.specs.declared.records.Record.TheVariants.{Image, Commit, Abort}
use Rattle.rdf_codec.specs.Spelling.{text, optional, record_spelling, IsRecord}
use Rattle.rdf_codec.specs.Reading.{number_at, volume_at, file_at, key_at, value_at, optional_at, image_at, of_kind, record_at}
use Rattle.rdf_codec.proofs.Fields.{IsWide, is_number, wide16, wide32, wide64, is_volume}
use Rattle.rdf_codec.proofs.Texts.{is_file, is_key, is_value, is_optional, IsOptional}
use Rattle.rdf_codec.proofs.Faults.{number_placed, volume_placed, text_placed, optional_placed}
use Rattle.rdf_codec.proofs.Formats.{IsRead, Format, ends, then, AllSpelled, IsOfKind, tagged_read}

-- ---- the fields

number_read : (w : Width) (limit : ℕ) → IsWide w limit → IsRead (number_at w) (to_be_bytes w) (λ n. n < limit)
number_read w limit wide = record { field = is_number w limit wide; placing = number_placed w }

pub u16_read : IsRead (number_at w16) (to_be_bytes w16) (λ n. n < 2 ^ 16)
u16_read = number_read w16 (2 ^ 16) wide16

pub u32_read : IsRead (number_at w32) (to_be_bytes w32) (λ n. n < 2 ^ 32)
u32_read = number_read w32 (2 ^ 32) wide32

pub u64_read : IsRead (number_at w64) (to_be_bytes w64) (λ n. n < 2 ^ 64)
u64_read = number_read w64 (2 ^ 64) wide64

pub volume_read : IsRead volume_at (λ n. n ∷ []) (λ n. n < 16)
volume_read = record { field = is_volume; placing = volume_placed }

pub file_read : IsRead file_at text IsFileName
file_read = record { field = is_file; placing = text_placed is_name_byte 16 }

pub key_read : IsRead key_at text IsKey
key_read = record { field = is_key; placing = text_placed is_text_byte 32 }

pub value_read : IsRead value_at text IsValue
value_read = record { field = is_value; placing = text_placed is_text_byte 200 }

pub optional_read : IsRead optional_at optional IsOptional
optional_read = record { field = is_optional; placing = optional_placed }

-- ---- the formats, and the parts that are read before a field

abbrev pub number32 : {Z : Type 0} → (ℕ → Format Z) → Format Z
number32 others = then (number_at w32) (to_be_bytes w32) (λ n. n < 2 ^ 32) u32_read others

abbrev pub number64 : {Z : Type 0} → (ℕ → Format Z) → Format Z
number64 others = then (number_at w64) (to_be_bytes w64) (λ n. n < 2 ^ 64) u64_read others

abbrev pub file : {Z : Type 0} → (List ℕ → Format Z) → Format Z
file others = then file_at text IsFileName file_read others

abbrev pub key : {Z : Type 0} → (List ℕ → Format Z) → Format Z
key others = then key_at text IsKey key_read others

abbrev pub value : {Z : Type 0} → (List ℕ → Format Z) → Format Z
value others = then value_at text IsValue value_read others

abbrev pub maybe : {Z : Type 0} → (Option (List ℕ) → Format Z) → Format Z
maybe others = then optional_at optional IsOptional optional_read others

-- ---- records

abbrev image : Format Record
image =
    number32 (λ txn. then volume_at (λ n. n ∷ []) (λ n. n < 16) volume_read
    (λ vol. file (λ f. key (λ k. maybe (λ before. maybe (λ after. ends (Image txn vol f k before after)))))))

abbrev outcome : (ℕ → Record) → Format Record
outcome make = number32 (λ txn. ends (make txn))

abbrev kinds : List (ℕ × Format Record)
kinds = (1, image) ∷ (2, outcome Commit) ∷ (3, outcome Abort) ∷ []

-- from groups to the left to groups to the right
regrouped : (a b c d e f : List ℕ) → ((((a ++ b) ++ c) ++ d) ++ e) ++ f ≡ a ++ (b ++ (c ++ (d ++ (e ++ (f ++ [])))))
regrouped a b c d e f = simp (append_assoc, append-nil) refl

image_spelled : (txn vol : ℕ) (f k : List ℕ) (before after : Option (List ℕ))
    → record_spelling (Image txn vol f k before after) ≡ 1 ∷ (to_be_bytes w32 txn ++ ((vol ∷ []) ++ (text f ++ (text k ++ (optional before ++ (optional after ++ []))))))
image_spelled txn vol f k before after = ap (λ t. 1 ∷ t) (regrouped (to_be_bytes w32 txn) (vol ∷ []) (text f) (text k) (optional before) (optional after))

outcome_spelled : (n txn : ℕ) → n ∷ to_be_bytes w32 txn ≡ n ∷ (to_be_bytes w32 txn ++ [])
outcome_spelled n txn = ap (λ t. n ∷ t) (sym (append-nil (to_be_bytes w32 txn)))

all_spelled : AllSpelled record_spelling IsRecord kinds
all_spelled = (
  λ p fit. (image_spelled p.0 p.1.0 p.1.1.0 p.1.1.1.0 p.1.1.1.1.0 p.1.1.1.1.1.0, (fit.0, fit.1.0, fit.1.1.0, fit.1.1.1.0, fit.1.1.1.1.0, fit.1.1.1.1.1.0)),
  ((λ p fit. (outcome_spelled 2 p.0, fit.0)), ((λ p fit. (outcome_spelled 3 p.0, fit.0)), tt)),
)

of_a_kind : (rec : Record) → IsRecord rec → IsOfKind record_spelling kinds rec
of_a_kind (Image txn vol f k before after) is = record {
  kind = 1;
  format = image;
  parts = (txn, (vol, (f, (k, (before, (after, tt))))));
  made = refl;
  fits = (is.0, (is.1, (is.2, (is.3, (is.4, (is.5, tt))))));
  spelled = image_spelled txn vol f k before after;
  picked = λ at i. refl;
}
of_a_kind (Commit txn) is = record { kind = 2; format = outcome Commit; parts = (txn, tt); made = refl; fits = (is, tt); spelled = outcome_spelled 2 txn; picked = λ at i. refl }
of_a_kind (Abort txn) is = record { kind = 3; format = outcome Abort; parts = (txn, tt); made = refl; fits = (is, tt); spelled = outcome_spelled 3 txn; picked = λ at i. refl }

pub record_read : IsRead record_at record_spelling IsRecord
unfolding record_at of_kind image_at
record_read = tagged_read record_spelling IsRecord kinds all_spelled of_a_kind
