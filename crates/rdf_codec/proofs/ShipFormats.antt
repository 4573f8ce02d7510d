-- Shipments, phases, the blocks of image trails and messages: what is read is spelled so, and what is spelled so is read.
use Rattle.std.proofs.Common.{◌≡◌, ℕ, ◌+◌, ◌*◌, ◌<◌, ◌≤◌, ◌^◌, true, ◌&&◌, List, [], ◌∷◌, ◌++◌, length, refl, sym, ap, append_assoc, append-nil, arith}
use Rattle.std.specs.Prelude.{nat_le, nat_lt}
use Rattle.std.specs.Int.{w16, w64, to_be_bytes}
use Rattle.std.specs.List.{AllByRecursion, flat_map}
use Rattle.std.proofs.lemmas.Bool.Decides.{nat_tests}
use Rattle.std.proofs.lemmas.List.{length-append}
use Rattle.std.proofs.lemmas.List.Elements.{All-from_recursion, recursion_from_All}
use Rattle.std.proofs.lemmas.Bool.{leb-true, ltb-true}
use Rattle.rdf_types.specs.declared.records.Phase.{Phase}
use Rattle.rdf_types.specs.declared.records.Phase.TheVariants.{Running, Taking, Taken}
use Rattle.rdf_types.specs.declared.records.Stamped.{Stamped}
use Rattle.rdf_codec.specs.declared.image_blocks.ImageBlock.{ImageBlock}
use Rattle.rdf_codec.specs.declared.image_blocks.ImageBlock.TheVariants as block
use Rattle.rdf_codec.specs.declared.messages.Message.{Message}
use Rattle.rdf_codec.specs.declared.messages.Message.TheVariants as message
use Rattle.rdf_codec.specs.declared.ships.Ship.{Ship}
use Rattle.rdf_codec.specs.Spelling.{record_spelling, IsRecord}
use Rattle.rdf_codec.specs.Reading.{number_at, record_at}
use Rattle.rdf_codec.specs.Lists.{counted_at}
use Rattle.rdf_codec.specs.Ships.{stamped_spelling, ship_spelling, RiseWithin, HasShipSpelling, IsStamped, IsShip, phase_spelling, IsPhase}
use Rattle.rdf_codec.specs.ShipReading.{position_at, stamped_at, next_position, to_at, ship_at, ship_of, taken_at, phase_at}
use Rattle.rdf_codec.specs.ImageBlocks.{image_spelling, IsImageBlock}
use Rattle.rdf_codec.specs.ImageReading.{start_at, shipped_at, mark_at, image_block_at, image_block_of}
use Rattle.rdf_codec.specs.Messages.{message_spelling, IsMessage, sent_at, ack_at, message_at, message_of}
use Rattle.rdf_codec.proofs.Lengths.{spelling_few}
use Rattle.rdf_codec.proofs.Formats.{IsRead, Format, ends, then, format_read, Passes, tested_read, IsOfKind, tagged_read}
use Rattle.rdf_codec.proofs.Records.{u64_read, record_read, number64}
use Rattle.rdf_codec.proofs.ListFormats.{both_true, Chain, Counted, counted_spelling, counted_read}
use Rattle.rdf_codec.proofs.Wholes.{IsWhole, read_whole}

-- ---- records at their positions

in_range : (low high n : ℕ) → nat_le low n && nat_lt n high ≡ true → (low ≤ n) × (n < high)
in_range low high n e = let p = both_true (nat_le low n) (nat_lt n high) e in (leb-true low n p.0, ltb-true n high p.1)

range_in : (low high n : ℕ) → low ≤ n → n < high → nat_le low n && nat_lt n high ≡ true
range_in low high n p q = grind (arith, nat_tests)

abbrev IsNumber : ℕ → Type 0
IsNumber n = n < 2 ^ 64

position_read : (low high : ℕ) → IsRead (position_at low high) (to_be_bytes w64) (Passes (number_at w64) (to_be_bytes w64) IsNumber (λ n. nat_le low n && nat_lt n high))
unfolding position_at
position_read low high = tested_read (number_at w64) (to_be_bytes w64) IsNumber (λ n. nat_le low n && nat_lt n high) u64_read (λ n fit. omega arith)

-- a stamped record within these bounds
abbrev pub IsStampedWithin : ℕ → ℕ → Stamped → Type 0
IsStampedWithin high low s = IsStamped s × (low ≤ s.pos) × (s.pos < high)

pub stamped_read : (high low : ℕ) → IsRead (stamped_at high low) stamped_spelling (IsStampedWithin high low)
unfolding stamped_at
stamped_read high low =
    format_read (then (position_at low high) (to_be_bytes w64) (Passes (number_at w64) (to_be_bytes w64) IsNumber (λ n. nat_le low n && nat_lt n high)) (position_read low high)
    (λ pos. then record_at record_spelling IsRecord record_read (λ rec. ends (record { pos = pos; rec = rec })))) stamped_spelling (IsStampedWithin high low) (record {
      made = λ p fit.
          let within = in_range low high p.0 fit.0.1 in (ap (λ s. to_be_bytes w64 p.0 ++ s) (sym (append-nil (record_spelling p.1.0))), ((fit.0.0, fit.1.0), within.0, within.1));
      parts = λ s fit. ((s.pos, (s.rec, tt)), refl, ((fit.0.0, range_in low high s.pos fit.1 fit.2), (fit.0.1, tt)));
    })

-- ---- shipments

in_reach : (from to : ℕ) → nat_lt from to && nat_le to (from + 64) ≡ true → (from < to) × (to ≤ from + 64)
in_reach from to e = let p = both_true (nat_lt from to) (nat_le to (from + 64)) e in (ltb-true from to p.0, leb-true to (from + 64) p.1)

reach_in : (from to : ℕ) → from < to → to ≤ from + 64 → nat_lt from to && nat_le to (from + 64) ≡ true
reach_in from to p q = grind (arith, nat_tests)

abbrev IsEnd : ℕ → ℕ → Type 0
IsEnd from = Passes (number_at w64) (to_be_bytes w64) IsNumber (λ n. nat_lt from n && nat_le n (from + 64))

to_read : (from : ℕ) → IsRead (to_at from) (to_be_bytes w64) (IsEnd from)
unfolding to_at
to_read from = tested_read (number_at w64) (to_be_bytes w64) IsNumber (λ n. nat_lt from n && nat_le n (from + 64)) u64_read (λ n fit. omega arith)

abbrev StampedChain : ℕ → ℕ → List Stamped → Type 0
StampedChain high = Chain (stamped_at high) next_position stamped_spelling (IsStampedWithin high) (stamped_read high)

abbrev IsPart : ℕ → ℕ → List Stamped → Type 0
IsPart from to = Counted (stamped_at to) next_position stamped_spelling (IsStampedWithin to) (stamped_read to) 0 64 from

abbrev part_spelling : ℕ → List Stamped → List ℕ
part_spelling to = counted_spelling (stamped_at to) next_position stamped_spelling (IsStampedWithin to) (stamped_read to)

chain_rises : (high low : ℕ) (part : List Stamped) → StampedChain high low part → RiseWithin low high part × AllByRecursion IsStamped part
chain_rises high low [] chain = (tt, tt)
chain_rises high low (s ∷ part) chain = let others = chain_rises high (s.pos + 1) part chain.1 in ((chain.0.1, chain.0.2, others.0), (chain.0.0, others.1))

risen_chain : (high low : ℕ) (part : List Stamped) → RiseWithin low high part → AllByRecursion IsStamped part → StampedChain high low part
risen_chain high low [] rise all = tt
risen_chain high low (s ∷ part) rise all = ((all.0, rise.0, rise.1), risen_chain high (s.pos + 1) part rise.2 all.1)

-- there are no more records than positions
pub part_few : (low high : ℕ) (part : List Stamped) → RiseWithin low high part → low ≤ high → low + length part ≤ high
part_few low high [] rise le = omega arith
part_few low high (s ∷ part) rise le = omega (arith, part_few (s.pos + 1) high part rise.2 (omega (arith, rise.1)), rise.0)

pub ship_few : (ship : Ship) → HasShipSpelling ship → length ship.part ≤ 64
ship_few ship is = omega (arith, part_few ship.from ship.to ship.part is.rise (omega (arith, is.some)), is.few)

abbrev shipment : Format Ship
shipment =
    number64 (λ from. then (to_at from) (to_be_bytes w64) (IsEnd from) (to_read from)
    (λ to. then (counted_at (stamped_at to) next_position 0 64 from) (part_spelling to) (IsPart from to) (counted_read (stamped_at to) next_position stamped_spelling (IsStampedWithin to) (stamped_read to) 0 64 from (omega arith))
    (λ part. ends (record { from = from; to = to; part = part }))))

ship_regrouped : (a b c d : List ℕ) → ((a ++ b) ++ c) ++ d ≡ a ++ (b ++ ((c ++ d) ++ []))
ship_regrouped a b c d = simp (append_assoc, append-nil) refl

ship_spelled : (from to : ℕ) (part : List Stamped) → ship_spelling (record { from = from; to = to; part = part }) ≡ to_be_bytes w64 from ++ (to_be_bytes w64 to ++ (part_spelling to part ++ []))
ship_spelled from to part = ship_regrouped (to_be_bytes w64 from) (to_be_bytes w64 to) (to_be_bytes w16 (length part)) (flat_map stamped_spelling part)

pub ship_read : IsRead ship_at ship_spelling IsShip
unfolding ship_at
ship_read = format_read shipment ship_spelling IsShip (record {
  made = λ p fit.
      let reach = in_reach p.0 p.1.0 fit.1.0.1 in
      let rise = chain_rises p.1.0 p.0 p.1.1.0 fit.1.1.0.chain in (
        ship_spelled p.0 p.1.0 p.1.1.0,
        record {
          spelled = record { some = reach.0; few = reach.1; rise = rise.0 };
          starts = fit.0;
          ends = fit.1.0.0;
          within = All-from_recursion IsStamped p.1.1.0 rise.1;
        },
      );
  parts = λ ship is.
      let part : IsPart ship.from ship.to ship.part = record { some = omega arith; few = ship_few ship is.spelled; chain = risen_chain ship.to ship.from ship.part is.spelled.rise (recursion_from_All IsStamped ship.part is.within) } in
      ((ship.from, (ship.to, (ship.part, tt))), refl, (is.starts, ((is.ends, reach_in ship.from ship.to is.spelled.some is.spelled.few), (part, tt))));
})

pub ship_whole : IsWhole ship_of ship_spelling IsShip
ship_whole = read_whole ship_at ship_spelling IsShip ship_read

-- ---- phases

abbrev phases : List (ℕ × Format Phase)
phases = (0, ends Running) ∷ (1, ends Taking) ∷ (2, number64 (λ upto. ends (Taken upto))) ∷ []

taken_spelled : (upto : ℕ) → phase_spelling (Taken upto) ≡ 2 ∷ (to_be_bytes w64 upto ++ [])
taken_spelled upto = ap (λ t. 2 ∷ t) (sym (append-nil (to_be_bytes w64 upto)))

phase_kind : (phase : Phase) → IsPhase phase → IsOfKind phase_spelling phases phase
phase_kind Running fit = record { kind = 0; format = ends Running; parts = tt; made = refl; fits = tt; spelled = refl; picked = λ at i. refl }
phase_kind Taking fit = record { kind = 1; format = ends Taking; parts = tt; made = refl; fits = tt; spelled = refl; picked = λ at i. refl }
phase_kind (Taken upto) fit = record { kind = 2; format = number64 (λ u. ends (Taken u)); parts = (upto, tt); made = refl; fits = (fit, tt); spelled = taken_spelled upto; picked = λ at i. refl }

pub phase_read : IsRead phase_at phase_spelling IsPhase
unfolding phase_at taken_at
phase_read = tagged_read phase_spelling IsPhase phases ((λ p fit. (refl, tt)), ((λ p fit. (refl, tt)), ((λ p fit. (taken_spelled p.0, fit.0)), tt))) phase_kind

-- ---- blocks of image trails

abbrev phase : {Z : Type 0} → (Phase → Format Z) → Format Z
phase others = then phase_at phase_spelling IsPhase phase_read others

abbrev start : Format ImageBlock
start = number64 (λ from. phase (λ ph. ends (block.Start from ph)))

abbrev shipped : Format ImageBlock
shipped = then ship_at ship_spelling IsShip ship_read (λ ship. ends (block.Ship ship))

abbrev mark : Format ImageBlock
mark = phase (λ ph. ends (block.Mark ph))

abbrev kinds : List (ℕ × Format ImageBlock)
kinds = (17, start) ∷ (18, shipped) ∷ (19, mark) ∷ []

start_spelled : (from : ℕ) (ph : Phase) → image_spelling (block.Start from ph) ≡ 17 ∷ (to_be_bytes w64 from ++ (phase_spelling ph ++ []))
start_spelled from ph = ap (λ t. 17 ∷ (to_be_bytes w64 from ++ t)) (sym (append-nil (phase_spelling ph)))

with_nothing : (n : ℕ) (bytes : List ℕ) → n ∷ bytes ≡ n ∷ (bytes ++ [])
with_nothing n bytes = ap (λ t. n ∷ t) (sym (append-nil bytes))

image_kind : (b : ImageBlock) → IsImageBlock b → IsOfKind image_spelling kinds b
image_kind (block.Start from ph) fit = record { kind = 17; format = start; parts = (from, (ph, tt)); made = refl; fits = (fit.0, (fit.1, tt)); spelled = start_spelled from ph; picked = λ at i. refl }
image_kind (block.Ship ship) fit = record { kind = 18; format = shipped; parts = (ship, tt); made = refl; fits = (fit, tt); spelled = with_nothing 18 (ship_spelling ship); picked = λ at i. refl }
image_kind (block.Mark ph) fit = record { kind = 19; format = mark; parts = (ph, tt); made = refl; fits = (fit, tt); spelled = with_nothing 19 (phase_spelling ph); picked = λ at i. refl }

pub image_read : IsRead image_block_at image_spelling IsImageBlock
unfolding image_block_at start_at shipped_at mark_at
image_read =
    tagged_read image_spelling IsImageBlock kinds
    ((λ p fit. (start_spelled p.0 p.1.0, (fit.0, fit.1.0))), ((λ p fit. (with_nothing 18 (ship_spelling p.0), fit.0)), ((λ p fit. (with_nothing 19 (phase_spelling p.0), fit.0)), tt))) image_kind

pub image_whole : IsWhole image_block_of image_spelling IsImageBlock
image_whole = read_whole image_block_at image_spelling IsImageBlock image_read

-- ---- lengths

part_length : (part : List Stamped) → AllByRecursion IsStamped part → length (flat_map stamped_spelling part) ≤ 468 * length part
part_length [] all = omega arith
part_length (s ∷ part) all =
    omega (arith, part_length part all.1, spelling_few s.rec all.0.1, length-append (to_be_bytes w64 s.pos) (record_spelling s.rec), length-append (stamped_spelling s) (flat_map stamped_spelling part))

pub ship_length : (ship : Ship) → IsShip ship → (18 ≤ length (ship_spelling ship)) × (length (ship_spelling ship) ≤ 29970)
ship_length ship is =
    let few = part_length ship.part (recursion_from_All IsStamped ship.part is.within) in
    let many = ship_few ship is.spelled in
    (omega arith, omega (arith, few, many))

pub image_length : (b : ImageBlock) → IsImageBlock b → (2 ≤ length (image_spelling b)) × (length (image_spelling b) ≤ 29971)
image_length (block.Start from Running) is = (omega arith, omega arith)
image_length (block.Start from Taking) is = (omega arith, omega arith)
image_length (block.Start from (Taken upto)) is = (omega arith, omega arith)
image_length (block.Ship ship) is = let l = ship_length ship is in (omega (arith, l.0), omega (arith, l.1))
image_length (block.Mark Running) is = (omega arith, omega arith)
image_length (block.Mark Taking) is = (omega arith, omega arith)
image_length (block.Mark (Taken upto)) is = (omega arith, omega arith)

-- ---- messages

abbrev sent : Format Message
sent = then ship_at ship_spelling IsShip ship_read (λ ship. ends (message.Ship ship))

abbrev ack : Format Message
ack = number64 (λ received. ends (message.Ack received))

abbrev messages : List (ℕ × Format Message)
messages = (49, sent) ∷ (50, ack) ∷ []

message_kind : (m : Message) → IsMessage m → IsOfKind message_spelling messages m
message_kind (message.Ship ship) fit = record { kind = 49; format = sent; parts = (ship, tt); made = refl; fits = (fit, tt); spelled = with_nothing 49 (ship_spelling ship); picked = λ at i. refl }
message_kind (message.Ack received) fit = record { kind = 50; format = ack; parts = (received, tt); made = refl; fits = (fit, tt); spelled = with_nothing 50 (to_be_bytes w64 received); picked = λ at i. refl }

pub message_read : IsRead message_at message_spelling IsMessage
unfolding message_at sent_at ack_at
message_read =
    tagged_read message_spelling IsMessage messages ((λ p fit. (with_nothing 49 (ship_spelling p.0), fit.0)), ((λ p fit. (with_nothing 50 (to_be_bytes w64 p.0), fit.0)), tt)) message_kind

pub message_whole : IsWhole message_of message_spelling IsMessage
message_whole = read_whole message_at message_spelling IsMessage message_read

pub message_length : (m : Message) → IsMessage m → (9 ≤ length (message_spelling m)) × (length (message_spelling m) ≤ 29971)
message_length (message.Ship ship) is = let l = ship_length ship is in (omega (arith, l.0), omega (arith, l.1))
message_length (message.Ack received) is = (omega arith, omega arith)
