use Rattle.std.proofs.Common.{rules, ◌≡◌, ◌++◌, ◌∷◌, [], ◌∙◌, ℕ, List, length, ap, subst, sym, arith, ◌≤◌, drop}
use Rattle.std.proofs.lemmas.Grind.{common_steps}
use Rattle.std.specs.List.{AllByRecursion}
use Rattle.rdf_gatelog.specs.Log.{IsPayload, framed, open_blocks, payloads_of}
use Rattle.rdf_gatelog.proofs.AppendLaws.{fit-append}
use Rattle.rdf_gatelog.proofs.ParseLaws.{block_behind, payloads_push, length-open_blocks-push}
use Rattle.rdf_gatelog.proofs.blocks.parse.Goals as goal

pub loop-rest-preserved : goal.loop-rest-preserved
loop-rest-preserved c =
    let i = c.loop-rest.invariant in
    let old = payloads_of c.loop-rest.payloads in
    let p = c.in-Some.payload.now in
    let items : c.in_ok-to_vec-in-Some.field-0.items ≡ p = search rules in
    let pushed : payloads_of c.push.new.self ≡ old ++ p ∷ [] = payloads_push c.loop-rest.payloads.items c.push.new.self.items c.in_ok-to_vec-in-Some.field-0 p c.in_ok-push-in-Some.ensures.items items in
    let place = length-open_blocks-push old p in
    let first : c.loop-rest.rest.now ≡ 1 ∷ drop 1 c.loop-rest.rest.now = grind (arith, common_steps) in
    let block : drop 1 c.loop-rest.rest.now ≡ framed p ++ c.in-Some.behind.now = grind (arith, common_steps) in
    let fits : IsPayload p = search rules in
    let more : 1 ≤ length c.in-Some.behind.now = search rules in
    record {
      split = block_behind c.args.bytes.now old p c.loop-rest.rest.now _ c.in-Some.behind.now i.split first block ∙ ap (λ (ps : List (List ℕ)). open_blocks ps ++ c.in-Some.behind.now) (sym pushed);
      place = omega (arith, ap (λ (ps : List (List ℕ)). length (open_blocks ps)) pushed, place, i.place);
      fit = subst (λ (ps : List (List ℕ)). AllByRecursion IsPayload ps) (sym pushed) (fit-append old p i.fit fits);
      more = more;
    }
