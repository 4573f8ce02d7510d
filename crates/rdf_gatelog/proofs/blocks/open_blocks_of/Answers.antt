use Rattle.std.proofs.Common.{List, ℕ, ◌∷◌, ◌++◌, rules, sym, ◌∙◌, ap, subst}
use Rattle.rdf_gatelog.specs.Log.{IsPayload, framed}
use Rattle.rdf_gatelog.proofs.WritingLaws.{payload_fits, blocks_so_far}
use Rattle.rdf_gatelog.proofs.blocks.open_blocks_of.Goals as goal

pub push_open-requires : goal.push_open-requires
push_open-requires c = subst IsPayload (sym c.deref.ensures.value) (payload_fits c.args.payloads.now c.loop-payload.payload-index c.payload-item.result (search rules) c.payload-item.is c.requires)

pub loop-payload-preserved : goal.loop-payload-preserved
loop-payload-preserved c =
    blocks_so_far c.args.payloads.now c.loop-payload.payload-index c.payload-item.result (search rules) c.payload-item.is c.loop-payload.bytes.items c.push_open.new.bytes.items c.loop-payload.invariant
    (c.in_ok-push_open.ensures ∙ ap (λ (l : List ℕ). c.loop-payload.bytes.items ++ (1 ∷ framed l)) c.deref.ensures.value)
