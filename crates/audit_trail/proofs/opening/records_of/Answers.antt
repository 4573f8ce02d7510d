use Rattle.std.proofs.Common.{◌≡◌, ◌∷◌, ◌++◌, List, ℕ, ◌+◌, length, drop, [], ap, sym, ◌∙◌, arith, rules}
use Rattle.rdf_codec.specs.Spelling.{record_spelling}
use Rattle.rdf_gatelog.specs.Log.{open_blocks}
use Rattle.audit_trail.specs.Spelled.{spellings}
use Rattle.audit_trail.proofs.Spellings.{records-push}
use Rattle.rdf_gatelog.specs.Parsed.{lists_of}
use Rattle.rdf_gatelog.specs.LogLaws.{block_place}
use Rattle.audit_trail.proofs.OpeningLaws.{next_payload, one_more, place_behind}
use Rattle.audit_trail.proofs.opening.records_of.Goals as goal

pub overflow_add-at-in-loop-payload : goal.overflow_add-at-in-loop-payload
overflow_add-at-in-loop-payload c =
    let i = c.loop-payload.invariant in
    let item = c.payload-item.result in
    let split = next_payload c.args.payloads.now c.loop-payload.records.items c.loop-payload.payload-index item (search rules) c.payload-item.is i.split in
    let whole = block_place (spellings c.loop-payload.records.items) item.items (lists_of (drop (c.loop-payload.payload-index + 1) c.args.payloads.now)) in
    omega (arith, whole, ap (λ (ps : List (List ℕ)). length (open_blocks ps)) split, i.place, c.requires, c.len.ensures)

pub loop-payload-preserved : goal.loop-payload-preserved
loop-payload-preserved c =
    let i = c.loop-payload.invariant in
    let done = c.loop-payload.records.items in
    let item = c.payload-item.result in
    let rec = c.in-Some.rec in
    let found = rw c.in-Some.is at c.in_ok-rec.ensures.some in
    let same : item.items ≡ record_spelling rec = sym c.deref.ensures.value ∙ found.0 in
    let more : c.push.new.self.items ≡ done ++ rec ∷ [] = c.in_ok-push-in-Some.ensures.items in
    let next = next_payload c.args.payloads.now done c.loop-payload.payload-index item (search rules) c.payload-item.is i.split in
    let behind = place_behind done rec item.items c.loop-payload.at same i.place in
    record {
      split = rw more (one_more (lists_of c.args.payloads.now) done rec item.items (lists_of (drop (c.loop-payload.payload-index + 1) c.args.payloads.now)) next same);
      place = rw more (omega (arith, behind, c.len.ensures));
      fit = rw more (records-push done rec i.fit found.1);
    }
