use Rattle.std.proofs.Common.{arith}
use Rattle.std.proofs.lemmas.Result.{IfOk-weaker}
use Rattle.rdf_codec.proofs.Fronts.{Found, is_found, is_read}
use Rattle.rdf_codec.proofs.Places.{is_placed}
use Rattle.rdf_codec.proofs.reading.read_record.Goals as goal

pub returns-clause-found : goal.returns-clause-found
returns-clause-found c =
    IfOk-weaker c.front.result (Found c.args.bytes.now) _ (λ x found. found.front) (is_found c.args.bytes.now c.front.result (λ i. omega (arith, c.type_inv.bytes i)) c.front.ensures)

pub returns-clause-size : goal.returns-clause-size
returns-clause-size c =
    IfOk-weaker c.front.result (Found c.args.bytes.now) _ (λ x found. found.size) (is_found c.args.bytes.now c.front.result (λ i. omega (arith, c.type_inv.bytes i)) c.front.ensures)

pub returns-clause-within : goal.returns-clause-within
returns-clause-within c =
    IfOk-weaker c.front.result (Found c.args.bytes.now) _ (λ x found. found.within) (is_found c.args.bytes.now c.front.result (λ i. omega (arith, c.type_inv.bytes i)) c.front.ensures)

pub returns-clause-limits : goal.returns-clause-limits
returns-clause-limits c =
    IfOk-weaker c.front.result (Found c.args.bytes.now) _ (λ x found. found.limits) (is_found c.args.bytes.now c.front.result (λ i. omega (arith, c.type_inv.bytes i)) c.front.ensures)

pub returns-clause-only : goal.returns-clause-only
returns-clause-only c = is_read c.args.bytes.now c.front.result c.front.ensures

pub returns-clause-place : goal.returns-clause-place
returns-clause-place c = is_placed c.args.bytes.now c.front.result (λ i. omega (arith, c.type_inv.bytes i)) c.front.ensures
