-- Laws of nodes and sessions.
use Rattle.std.proofs.Common.{◌≡◌, ℕ, zero, suc, Bool, true, false, List, [], ◌∷◌, get_or, refl, map}
use Rattle.std.proofs.lemmas.Bool.{or_parts}
use Rattle.std.specs.List.{list_any}
use Rattle.rdf_types.specs.declared.records.Node.{Node}
use Rattle.rdf_types.specs.declared.records.Node.TheVariants.{A, B, C}
use Rattle.plan_lang.specs.LineText.{same_node}
use Rattle.rdf_core.specs.Sessions.{Opened, has_halted, met_stop}

-- nodes that are told to be one are equal
pub node_same : (x y : Node) → same_node x y ≡ true → x ≡ y
node_same A A e = refl
node_same A B e = cc
node_same A C e = cc
node_same B A e = cc
node_same B B e = refl
node_same B C e = cc
node_same C A e = cc
node_same C B e = cc
node_same C C e = refl

-- and a node is told to be itself
pub same_self : (node : Node) → same_node node node ≡ true
same_self A = refl
same_self B = refl
same_self C = refl

-- where no flag is set, none is at any place
none_of : (halted : List Bool) → list_any (λ h. h) halted ≡ false → (v : ℕ) → get_or halted v false ≡ false
none_of [] e v = refl
none_of (h ∷ halted) e zero = (or_parts h (list_any (λ x. x) halted) e).0
none_of (h ∷ halted) e (suc v) = none_of halted (or_parts h (list_any (λ x. x) halted) e).1 v

-- where a session met no stop, no volume's updater did
pub none_halted : (o : Opened) → met_stop o ≡ false → (v : ℕ) → has_halted o v ≡ false
none_halted o e v = none_of o.halted (or_parts o.cut (list_any (λ h. h) o.halted) e).1 v

-- no disk has stopped as a session is opened
pub none_met : (points : List ℕ) → list_any (λ h. h) (map (λ p. false) points) ≡ false
none_met [] = refl
none_met (p ∷ points) = none_met points
