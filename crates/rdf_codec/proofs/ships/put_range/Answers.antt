use Rattle.std.specs.Int.{w16, w64, to_be_bytes}
use Rattle.rdf_codec.proofs.Steps.{three_written}
use Rattle.rdf_codec.proofs.ships.put_range.Goals as goal

pub returns-clause-ok : goal.returns-clause-ok
returns-clause-ok c =
    let first = rw c.to_be_bytes.ensures at c.in_ok-put_bytes.ensures.ok in
    let second = rw c.to_be_bytes-2.ensures at c.in_ok-put_bytes-2.ensures.ok in
    let third = rw c.to_be_bytes-3.ensures at c.put_bytes-3.ensures.ok in
    three_written c.put_bytes-3.result c.args.out.now.items (to_be_bytes w64 c.args.from) (to_be_bytes w64 c.args.to) (to_be_bytes w16 c.args.count) _ _ _ first second third
