use Rattle.std.proofs.Common.{[], ap, arith, unwrap_or, ◌∙◌, sym, List, ◌∷◌, take, ◌≡◌, refl}
use Rattle.std.specs.FinMap as map
use Rattle.rdf_types.specs.declared.records.Record.{Record}
use Rattle.rdf_types.specs.Places.{place_cmp}
use Rattle.rdf_machine.specs.Images.{ByPlace, positions_in, positions_of}
use Rattle.rdf_machine.proofs.index.TrailIndex.new.Goals as goal

none_first : (trail : List Record) → take 0 trail ≡ []
none_first [] = refl
none_first (r ∷ rest) = refl

pub returns : goal.returns
returns c = λ trail. record {
  within = omega arith;
  each = λ q. ap (λ (m : ByPlace). positions_in m q) c.new.ensures ∙ ap (λ o. unwrap_or o []) (map.get-empty place_cmp q) ∙ ap (positions_of q) (sym (none_first trail));
}
