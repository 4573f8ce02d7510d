-- A line that is read has these words, and is one that the system may have.
use Rattle.std.proofs.Common.{◌≡◌, ℕ, Bool, true, false, ◌&&◌, cond, nat_eq, ◌==◌, List, [], ◌∷◌, ◌++◌, length, map, Option, Some, None, Result, Ok, Err, refl, sym, ap, subst, ◌∙◌, arith}
use Rattle.std.specs.Prelude.{find}
use Rattle.std.specs.List.{AllByRecursion}
use Rattle.std.specs.Cmp.Lexicographic.{pointwise}
use Rattle.std.proofs.lemmas.Bool.{and_parts, eqb-true}
use Rattle.std.proofs.lemmas.List.{length-append, length-map, nil_from_length, append-nil}
use Rattle.std.proofs.lemmas.Slice.Eq.{bytes_eq-Decides}
use Rattle.rdf_types.specs.Limits.{is_text_byte}
use Rattle.rdf_types.specs.declared.records.Node.{Node}
use Rattle.rdf_types.specs.declared.records.RecKey.{RecKey}
use Rattle.plan_lang.specs.declared.lines.Line.{Line}
use Rattle.plan_lang.specs.declared.lines.Line.TheVariants as line
use Rattle.plan_lang.specs.declared.verbs.Verb.{Verb}
use Rattle.plan_lang.specs.declared.verbs.Verb.TheVariants as verb
use Rattle.plan_lang.specs.declared.why.PlanWhy.{PlanWhy}
use Rattle.plan_lang.specs.declared.why.PlanWhy.TheVariants as why
use Rattle.plan_lang.specs.Verbs.{verb_text, all_verbs, verb_of}
use Rattle.plan_lang.specs.LineText.{Word, Number, Value, Backup, AnyNode, txn, place, word_text, FitsWord, arguments, line_words, IsLine}
use Rattle.plan_lang.specs.LineReading.{next, number_at, text_at, node_at, backup_at, other_at, tear_at, place_at, txn_line, change_line, touch_line, backup_line, node_line, shipping_line, read_line, copy_line, list_line, fuse_line, behind_verb, count_behind, is_known, verb_in, of_verb, line_in}
use Rattle.plan_lang.proofs.WordReading.{bind_ok, ok_is, next_takes, Took, Took-then, number_reads, text_reads, node_reads, backup_reads, other_reads, tear_reads, place_reads}

-- the line has the verb, and these words behind it
pub record Behind (backups : ℕ) (v : Verb) (words : List (List ℕ)) (l : Line) : Type 0 where
  pub verb : verb_of l ≡ v
  pub fits : IsLine backups l
  pub parts : words ≡ map word_text (arguments l)

-- nothing is left where as many words were read as there are
pub nothing_left : (backups : ℕ) (words rest : List (List ℕ)) (read : List Word) → length words ≡ length read → Took backups words read rest → words ≡ map word_text read
nothing_left backups words rest read len took =
    let texts : length (map word_text read) ≡ length read = length-map read word_text in
    let none : rest ≡ [] = nil_from_length rest (omega (arith, ap length took.parts, length-append (map word_text read) rest)) in
    took.parts ∙ ap (λ t. map word_text read ++ t) none ∙ append-nil (map word_text read)

-- a line that is made of what was read
made : (backups : ℕ) (v : Verb) (words rest : List (List ℕ)) (read : List Word) (l k : Line) → verb_of k ≡ v → arguments k ≡ read → length words ≡ length read → Took backups words read rest
    → ◌≡◌ {A = Result Line PlanWhy} (Ok k) (Ok l) → Behind backups v words l
made backups v words rest read l k is_verb is_read len took e =
    let whole : Behind backups v words k = record {
      verb = is_verb;
      fits = subst (AllByRecursion (FitsWord backups)) (sym is_read) took.fits;
      parts = nothing_left backups words rest read len took ∙ ap (map word_text) (sym is_read);
    } in
    subst (Behind backups v words) (ok_is k l e) whole

module _ (backups : ℕ) (v : Verb) (words : List (List ℕ)) (l : Line) where
  txn_reads : (make : ℕ → Line) → ((t : ℕ) → verb_of (make t) ≡ v) → ((t : ℕ) → arguments (make t) ≡ txn t ∷ []) → length words ≡ 1 → txn_line make words ≡ Ok l → Behind backups v words l
  unfolding txn_line
  txn_reads make is_verb is_read len e =
      let t = bind_ok (number_at 0 4294967295 words) _ l e in
      made backups v words t.0.1 _ l (make t.0.0) (is_verb t.0.0) (is_read t.0.0) len (number_reads backups 0 4294967295 words t.0 t.1) t.2

  touch_reads : (make : ℕ → RecKey → Line) → ((t : ℕ) (k : RecKey) → verb_of (make t k) ≡ v) → ((t : ℕ) (k : RecKey) → arguments (make t k) ≡ txn t ∷ place k) → length words ≡ 4
      → touch_line make words ≡ Ok l → Behind backups v words l
  unfolding touch_line
  touch_reads make is_verb is_read len e =
      let t = bind_ok (number_at 0 4294967295 words) _ l e in
      let k = bind_ok (place_at t.0.1) _ l t.2 in
      let took = Took-then backups words t.0.1 k.0.1 _ _ (number_reads backups 0 4294967295 words t.0 t.1) (place_reads backups t.0.1 k.0 k.1) in
      made backups v words k.0.1 _ l (make t.0.0 k.0.0) (is_verb t.0.0 k.0.0) (is_read t.0.0 k.0.0) len took k.2

  change_reads : (make : ℕ → RecKey → List ℕ → Line) → ((t : ℕ) (k : RecKey) (value : List ℕ) → verb_of (make t k value) ≡ v)
      → ((t : ℕ) (k : RecKey) (value : List ℕ) → arguments (make t k value) ≡ (txn t ∷ place k) ++ Value value ∷ []) → length words ≡ 5
      → change_line make words ≡ Ok l → Behind backups v words l
  unfolding change_line
  change_reads make is_verb is_read len e =
      let t = bind_ok (number_at 0 4294967295 words) _ l e in
      let k = bind_ok (place_at t.0.1) _ l t.2 in
      let x = bind_ok (text_at is_text_byte 200 k.0.1) _ l k.2 in
      let value = text_reads is_text_byte 200 k.0.1 x.0 x.1 in
      let last : Took backups k.0.1 (Value x.0.0 ∷ []) x.0.1 = record { parts = value.0; fits = (value.1, tt) } in
      let took = Took-then backups words t.0.1 k.0.1 _ _ (number_reads backups 0 4294967295 words t.0 t.1) (place_reads backups t.0.1 k.0 k.1) in
      made backups v words x.0.1 _ l (make t.0.0 k.0.0 x.0.0) (is_verb t.0.0 k.0.0 x.0.0) (is_read t.0.0 k.0.0 x.0.0) len (Took-then backups words k.0.1 x.0.1 _ _ took last) x.2

  backup_line_reads : (make : Node → Line) → ((node : Node) → verb_of (make node) ≡ v) → ((node : Node) → arguments (make node) ≡ Backup node ∷ []) → length words ≡ 1
      → backup_line backups make words ≡ Ok l → Behind backups v words l
  unfolding backup_line
  backup_line_reads make is_verb is_read len e =
      let n = bind_ok (backup_at backups words) _ l e in
      made backups v words n.0.1 _ l (make n.0.0) (is_verb n.0.0) (is_read n.0.0) len (backup_reads backups words n.0 n.1) n.2

  node_line_reads : (make : Node → Line) → ((node : Node) → verb_of (make node) ≡ v) → ((node : Node) → arguments (make node) ≡ AnyNode node ∷ []) → length words ≡ 1
      → node_line backups make words ≡ Ok l → Behind backups v words l
  unfolding node_line
  node_line_reads make is_verb is_read len e =
      let n = bind_ok (node_at backups words) _ l e in
      made backups v words n.0.1 _ l (make n.0.0) (is_verb n.0.0) (is_read n.0.0) len (node_reads backups words n.0 n.1) n.2

  shipping_reads : (make : Node → ℕ → Line) (from to : ℕ) → ((node : Node) (n : ℕ) → verb_of (make node n) ≡ v) → ((node : Node) (n : ℕ) → arguments (make node n) ≡ Backup node ∷ Number from to n ∷ [])
      → length words ≡ 2 → shipping_line backups make from to words ≡ Ok l → Behind backups v words l
  unfolding shipping_line
  shipping_reads make from to is_verb is_read len e =
      let n = bind_ok (backup_at backups words) _ l e in
      let x = bind_ok (number_at from to n.0.1) _ l n.2 in
      let took = Took-then backups words n.0.1 x.0.1 _ _ (backup_reads backups words n.0 n.1) (number_reads backups from to n.0.1 x.0 x.1) in
      made backups v words x.0.1 _ l (make n.0.0 x.0.0) (is_verb n.0.0 x.0.0) (is_read n.0.0 x.0.0) len took x.2

module _ (backups : ℕ) (words : List (List ℕ)) (l : Line) where
  read_reads : length words ≡ 4 → read_line backups words ≡ Ok l → Behind backups verb.Read words l
  unfolding read_line
  read_reads len e =
      let n = bind_ok (backup_at backups words) _ l e in
      let k = bind_ok (place_at n.0.1) _ l n.2 in
      let took = Took-then backups words n.0.1 k.0.1 _ _ (backup_reads backups words n.0 n.1) (place_reads backups n.0.1 k.0 k.1) in
      made backups verb.Read words k.0.1 _ l (line.Read n.0.0 k.0.0) refl refl len took k.2

  copy_reads : length words ≡ 2 → copy_line backups words ≡ Ok l → Behind backups verb.CopyAudit words l
  unfolding copy_line
  copy_reads len e =
      let n = bind_ok (backup_at backups words) _ l e in
      let x = bind_ok (other_at backups n.0.0 n.0.1) _ l n.2 in
      let took = Took-then backups words n.0.1 x.0.1 _ _ (backup_reads backups words n.0 n.1) (other_reads backups n.0.0 n.0.1 x.0 x.1) in
      made backups verb.CopyAudit words x.0.1 _ l (line.CopyAudit n.0.0 x.0.0) refl refl len took x.2

  list_reads : length words ≡ 2 → list_line backups words ≡ Ok l → Behind backups verb.List words l
  unfolding list_line
  list_reads len e =
      let n = bind_ok (node_at backups words) _ l e in
      let x = bind_ok (number_at 0 15 n.0.1) _ l n.2 in
      let took = Took-then backups words n.0.1 x.0.1 _ _ (node_reads backups words n.0 n.1) (number_reads backups 0 15 n.0.1 x.0 x.1) in
      made backups verb.List words x.0.1 _ l (line.List n.0.0 x.0.0) refl refl len took x.2

  fuse_reads : length words ≡ 4 → fuse_line backups words ≡ Ok l → Behind backups verb.Fuse words l
  unfolding fuse_line
  fuse_reads len e =
      let n = bind_ok (node_at backups words) _ l e in
      let d = bind_ok (number_at 0 16 n.0.1) _ l n.2 in
      let c = bind_ok (number_at 0 1000000 d.0.1) _ l d.2 in
      let t = bind_ok (tear_at c.0.1) _ l c.2 in
      let last = tear_reads backups c.0.1 t.0 t.1 in
      let two = Took-then backups words n.0.1 d.0.1 _ _ (node_reads backups words n.0 n.1) (number_reads backups 0 16 n.0.1 d.0 d.1) in
      let three = Took-then backups words d.0.1 c.0.1 _ _ two (number_reads backups 0 1000000 d.0.1 c.0 c.1) in
      made backups verb.Fuse words last.0 _ l (line.Fuse n.0.0 d.0.0 c.0.0 t.0) refl refl len (Took-then backups words c.0.1 last.0 _ _ three last.1) t.2

  behind_reads : (v : Verb) → length words ≡ count_behind v → behind_verb backups v words ≡ Ok l → Behind backups v words l
  behind_reads verb.Begin len e = txn_reads backups verb.Begin words l line.Begin (λ t. refl) (λ t. refl) len e
  behind_reads verb.Insert len e = change_reads backups verb.Insert words l line.Insert (λ t k x. refl) (λ t k x. refl) len e
  behind_reads verb.Update len e = change_reads backups verb.Update words l line.Update (λ t k x. refl) (λ t k x. refl) len e
  behind_reads verb.Delete len e = touch_reads backups verb.Delete words l line.Delete (λ t k. refl) (λ t k. refl) len e
  behind_reads verb.Get len e = touch_reads backups verb.Get words l line.Get (λ t k. refl) (λ t k. refl) len e
  behind_reads verb.Commit len e = txn_reads backups verb.Commit words l line.Commit (λ t. refl) (λ t. refl) len e
  behind_reads verb.Abort len e = txn_reads backups verb.Abort words l line.Abort (λ t. refl) (λ t. refl) len e
  behind_reads verb.Send len e = shipping_reads backups verb.Send words l line.Send 1 64 (λ n x. refl) (λ n x. refl) len e
  behind_reads verb.Rewind len e = backup_line_reads backups verb.Rewind words l line.Rewind (λ n. refl) (λ n. refl) len e
  behind_reads verb.Ack len e = backup_line_reads backups verb.Ack words l line.Ack (λ n. refl) (λ n. refl) len e
  behind_reads verb.Deliver len e = shipping_reads backups verb.Deliver words l line.Deliver 0 4294967295 (λ n x. refl) (λ n x. refl) len e
  behind_reads verb.Lose len e = made backups verb.Lose words [] [] l line.Lose refl refl len (record { parts = nil_from_length words len; fits = tt }) e
  behind_reads verb.Session len e = backup_line_reads backups verb.Session words l line.Session (λ n. refl) (λ n. refl) len e
  behind_reads verb.Read len e = read_reads len e
  behind_reads verb.Purge len e = backup_line_reads backups verb.Purge words l line.Purge (λ n. refl) (λ n. refl) len e
  behind_reads verb.End len e = made backups verb.End words [] [] l line.End refl refl len (record { parts = nil_from_length words len; fits = tt }) e
  behind_reads verb.Takeover len e = backup_line_reads backups verb.Takeover words l line.Takeover (λ n. refl) (λ n. refl) len e
  behind_reads verb.CopyAudit len e = copy_reads len e
  behind_reads verb.List len e = list_reads len e
  behind_reads verb.Info len e = backup_line_reads backups verb.Info words l line.Info (λ n. refl) (λ n. refl) len e
  behind_reads verb.Status len e = node_line_reads backups verb.Status words l line.Status (λ n. refl) (λ n. refl) len e
  behind_reads verb.Fuse len e = fuse_reads len e
  behind_reads verb.Cut len e = node_line_reads backups verb.Cut words l line.Cut (λ n. refl) (λ n. refl) len e
  behind_reads verb.Restart len e = node_line_reads backups verb.Restart words l line.Restart (λ n. refl) (λ n. refl) len e

-- what is found passes the test
found_passes : {X : Type 0} (test : X → Bool) (xs : List X) (x : X) → find test xs ≡ Some x → test x ≡ true
found_passes test [] x e = absurd cc
found_passes test (y ∷ xs) x e =
    elim (test y) as (λ b. test y ≡ b → cond b (Some y) (find test xs) ≡ Some x → test x ≡ true) [
      | true ↦ λ t q. let is : y ≡ x = cc in ap test (sym is) ∙ t
      | false ↦ λ t q. found_passes test xs x q
    ] refl e

-- the word is a verb's, and one that is known
verb_in-text : (fuses : Bool) (word : List ℕ) (v : Verb) → verb_in fuses word ≡ Some v → (is_known fuses v ≡ true) × (word ≡ verb_text v)
verb_in-text fuses word v e =
    let t = and_parts (pointwise nat_eq (verb_text v) word) (is_known fuses v) (found_passes (λ u. pointwise nat_eq (verb_text u) word && is_known fuses u) all_verbs v e) in
    (t.1, sym ((bytes_eq-Decides (verb_text v) word).0 t.0))

-- a line that was read from words
pub record IsFrom (fuses : Bool) (backups : ℕ) (words : List (List ℕ)) (l : Line) : Type 0 where
  pub fits : IsLine backups l
  pub parts : words ≡ line_words l
  pub known : is_known fuses (verb_of l) ≡ true

of_verb_reads : (fuses : Bool) (backups : ℕ) (word : List ℕ) (o : Option Verb) (words : List (List ℕ)) (l : Line) → verb_in fuses word ≡ o → of_verb backups o words ≡ Ok l → IsFrom fuses backups (word ∷ words) l
of_verb_reads fuses backups word None words l is e = absurd cc
of_verb_reads fuses backups word (Some v) words l is e =
    elim (length words == count_behind v) as (λ b. (length words == count_behind v) ≡ b → cond b (behind_verb backups v words) (Err why.Count) ≡ Ok l → IsFrom fuses backups (word ∷ words) l) [
      | true ↦ λ t q.
          let h = behind_reads backups words l v (eqb-true (length words) (count_behind v) t) q in
          let u = verb_in-text fuses word v is in
          record {
            fits = h.fits;
            parts = ap (λ (w : List ℕ). w ∷ words) (u.1 ∙ ap verb_text (sym h.verb)) ∙ ap (λ t. verb_text (verb_of l) ∷ t) h.parts;
            known = ap (is_known fuses) h.verb ∙ u.0;
          }
      | false ↦ λ t q. absurd cc
    ] refl e

-- a line that is read
pub line_takes : (fuses : Bool) (backups : ℕ) (words : List (List ℕ)) (l : Line) → line_in fuses backups words ≡ Ok l → IsFrom fuses backups words l
unfolding line_in
line_takes fuses backups words l e =
    let f = bind_ok (next words) _ l e in
    subst (λ ws. IsFrom fuses backups ws l) (sym (next_takes words f.0 f.1)) (of_verb_reads fuses backups f.0.0 (verb_in fuses f.0.0) f.0.1 l refl f.2)
