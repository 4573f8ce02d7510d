use Rattle.std.proofs.Common.{◌≡◌, ℕ, List, [], ◌∷◌, ◌++◌, length, map, ap, ◌∙◌}
use Rattle.std.specs.Global.{Vec}
use Rattle.rdf_types.specs.declared.records.Node.TheVariants.{A, B, C}
use Rattle.rdf_system.proofs.shelves.racks_of.Goals as goal

-- the list again, of two lists of 17
two_back : {D : Type 0} (none one two : List (Vec D)) (b c : Vec D) → none ≡ [] → one ≡ none ++ b ∷ [] → two ≡ one ++ c ∷ [] → length b.items ≡ 17 → length c.items ≡ 17 → map (λ disks. length disks.items) two ≡ 17 ∷ 17 ∷ []
two_back {D = D} none one two b c empty first second many_b many_c =
    ap (λ (l : List (Vec D)). map (λ disks. length disks.items) l) (second ∙ ap (λ (l : List (Vec D)). l ++ c ∷ []) (first ∙ ap (λ (l : List (Vec D)). l ++ b ∷ []) empty))
    ∙ ap (λ (n : ℕ). n ∷ length c.items ∷ []) many_b ∙ ap (λ (n : ℕ). 17 ∷ n ∷ []) many_c

pub returns-clause-full : goal.returns-clause-full
returns-clause-full g c = λ many. record {
  primary = many A;
  backups = two_back c.args.shelves.shelf.items c.push_reserved.new.self.items c.push_reserved-2.new.self.items c.args.shelves.b c.args.shelves.c c.requires.shelf.empty c.push_reserved.ensures.items c.push_reserved-2.ensures.items (many B) (many C);
}
