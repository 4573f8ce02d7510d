-- What stores leave, message by message.
use Rattle.std.proofs.Common.{◌≡◌, ℕ, zero, suc, ◌+◌, ◌<◌, ◌≤◌, if◌then◌else◌, Bool, true, false, List, [], ◌∷◌, ◌++◌, length, min, Option, refl, sym, ap, ◌∙◌, arith, append_assoc}
use Rattle.rdf_types.specs.declared.layout.Layout.{Layout}
use Rattle.rdf_core.specs.Backup.{Backup, store_parts, stores_parts, ends}
use Rattle.backup_machine.specs.declared.backup.BackupState.{BackupState}
use Rattle.backup_machine.specs.Budgets.{after_some, is_spent, without}
use Rattle.backup_machine.specs.Longer.{IsLonger}
use Rattle.backup_machine.proofs.BudgetLaws.{spent_is, no_parts, some_append}
use Rattle.std.proofs.lemmas.Bool.{lt-ltb, le-ltb}

-- a backup that received more, and then more
pub longer_twice : (a b c : BackupState) → IsLonger a b → IsLonger b c → IsLonger a c
longer_twice a b c g h = record {
  received = omega (arith, g.received, h.received);
  more = g.more ++ h.more;
  starts = h.starts ∙ ap (λ (l : List ℕ). l ++ h.more) g.starts ∙ append_assoc a.starts g.more h.more;
  up = h.up ∙ g.up;
  volumes = h.volumes ∙ g.volumes;
  stops = h.stops ∙ g.stops;
  noted = h.noted ∙ g.noted;
  opens = h.opens ∙ g.opens;
  low = h.low ∙ g.low;
}

-- messages, one more of them
next_message : (layout : Layout) (b : Backup) (to : ℕ) (more : List ℕ) (most : Option ℕ) →
    after_some b (stores_parts layout (to ∷ more) b) most
    ≡ after_some (after_some b (store_parts layout to b) most) (stores_parts layout more (after_some b (store_parts layout to b) most)) (without most (length (store_parts layout to b)))
next_message layout b to more most = some_append (stores_parts layout more) b (store_parts layout to b) most

module _ (layout : Layout) (upto : ℕ) where
  abbrev rest : ℕ → ℕ → Backup → Option ℕ → Backup
  rest n from b most = after_some b (stores_parts layout (ends n from upto) b) most

  -- nothing is left to store
  pub rest_spent : (n from : ℕ) (b : Backup) (most : Option ℕ) → is_spent most ≡ true → b ≡ rest n from b most
  rest_spent n from b most h = spent_is b (stores_parts layout (ends n from upto) b) most h

  pub rest_none : (n from : ℕ) (b : Backup) (most : Option ℕ) → upto ≤ from → b ≡ rest n from b most
  rest_none zero from b most h = no_parts b most
  rest_none (suc n) from b most h = no_parts b most ∙ ap (λ (t : Bool). after_some b (stores_parts layout (if t then min (from + 64) upto ∷ ends n (min (from + 64) upto) upto else []) b) most) (sym (le-ltb from upto h))

  after_one : (n to : ℕ) (b c : Backup) (left : Option ℕ) (spent : Bool) → is_spent left ≡ spent → (is_spent left ≡ false → c.received ≡ to) → rest n to c left ≡ rest n c.received c left
  after_one n to b c left true e reached = sym (rest_spent n to c left e) ∙ rest_spent n c.received c left e
  after_one n to b c left false e reached = ap (λ m. rest n m c left) (sym (reached e))

  -- one message more
  pub rest_turn : (n m : ℕ) (b c : Backup) (most left : Option ℕ) (to : ℕ) → n ≡ suc m → b.received < upto → to ≡ min (b.received + 64) upto → c ≡ after_some b (store_parts layout to b) most → left ≡ without most (length (store_parts layout to b)) →
      (is_spent left ≡ false → c.received ≡ to) → rest n b.received b most ≡ rest m c.received c left
  rest_turn n m b c most left to count behind to_is is left_is reached =
      ap (λ k. rest k b.received b most) count
      ∙ ap (λ (t : Bool). after_some b (stores_parts layout (if t then min (b.received + 64) upto ∷ ends m (min (b.received + 64) upto) upto else []) b) most) (lt-ltb b.received upto behind)
      ∙ ap (λ k. after_some b (stores_parts layout (k ∷ ends m k upto) b) most) (sym to_is)
      ∙ next_message layout b to (ends m to upto) most
      ∙ ap (λ (x : Backup). after_some x (stores_parts layout (ends m to upto) x) (without most (length (store_parts layout to b)))) (sym is)
      ∙ ap (λ (l : Option ℕ). rest m to c l) (sym left_is)
      ∙ after_one m to b c left (is_spent left) refl reached
