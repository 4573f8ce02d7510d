-- The words of a line that the system may have are read as that line.
use Rattle.std.proofs.Common.{◌≡◌, ℕ, ◌≤◌, ◌<◌, ◌^◌, Bool, true, not, ◌&&◌, cond, List, [], ◌∷◌, ◌++◌, map, Some, None, Ok, refl, ap, ◌∙◌, arith}
use Rattle.std.specs.Prelude.{decimal}
use Rattle.std.specs.List.{AllByRecursion}
use Rattle.rdf_types.specs.Limits.{is_text_byte, IsValue}
use Rattle.rdf_types.specs.declared.records.Node.{Node}
use Rattle.rdf_types.specs.declared.records.RecKey.{RecKey}
use Rattle.rdf_disk.specs.declared.fault.Tear.{Tear}
use Rattle.plan_lang.specs.declared.lines.Line.{Line}
use Rattle.plan_lang.specs.declared.lines.Line.TheVariants as line
use Rattle.plan_lang.specs.declared.verbs.Verb.{Verb}
use Rattle.plan_lang.specs.declared.verbs.Verb.TheVariants as verb
use Rattle.plan_lang.specs.Verbs.{verb_text, verb_of}
use Rattle.rdf_types.specs.Saying.{node_text}
use Rattle.plan_lang.specs.LineText.{FitsWord, word_text, place, arguments, line_words, IsLine, is_node, is_backup, same_node, tear_text}
use Rattle.plan_lang.specs.LineReading.{txn_line, change_line, touch_line, backup_line, node_line, shipping_line, read_line, copy_line, list_line, fuse_line, behind_verb, is_known, verb_in, of_verb, line_in}
use Rattle.plan_lang.proofs.WordReading.{number_again_at, text_again_at, node_again, backup_again, other_again, tear_again, place_again}

verb_again : (fuses : Bool) (v : Verb) → is_known fuses v ≡ true → verb_in fuses (verb_text v) ≡ Some v
verb_again fuses verb.Begin h = refl
verb_again fuses verb.Insert h = refl
verb_again fuses verb.Update h = refl
verb_again fuses verb.Delete h = refl
verb_again fuses verb.Get h = refl
verb_again fuses verb.Commit h = refl
verb_again fuses verb.Abort h = refl
verb_again fuses verb.Send h = refl
verb_again fuses verb.Rewind h = refl
verb_again fuses verb.Ack h = refl
verb_again fuses verb.Deliver h = refl
verb_again fuses verb.Lose h = refl
verb_again fuses verb.Session h = refl
verb_again fuses verb.Read h = refl
verb_again fuses verb.Purge h = refl
verb_again fuses verb.End h = refl
verb_again fuses verb.Takeover h = refl
verb_again fuses verb.CopyAudit h = refl
verb_again fuses verb.List h = refl
verb_again fuses verb.Info h = refl
verb_again fuses verb.Status h = refl
verb_again fuses verb.Fuse h = ap (λ b. cond b (Some verb.Fuse) None) h
verb_again fuses verb.Cut h = refl
verb_again fuses verb.Restart h = refl

txn_again : (make : ℕ → Line) (t : ℕ) → t ≤ 4294967295 → txn_line make (decimal t ∷ []) ≡ Ok (make t)
unfolding txn_line
txn_again make t h = rw (number_again_at 0 4294967295 t [] (omega arith) (omega arith, h)) refl

touch_again : (backups : ℕ) (make : ℕ → RecKey → Line) (t : ℕ) (k : RecKey) → t ≤ 4294967295 → AllByRecursion (FitsWord backups) (place k) → touch_line make (decimal t ∷ map word_text (place k)) ≡ Ok (make t k)
unfolding touch_line
touch_again backups make t k h fits = rw (number_again_at 0 4294967295 t (map word_text (place k)) (omega arith) (omega arith, h), place_again backups k [] fits) refl

change_again : (backups : ℕ) (make : ℕ → RecKey → List ℕ → Line) (t : ℕ) (k : RecKey) (value : List ℕ) → t ≤ 4294967295 → AllByRecursion (FitsWord backups) (place k) → IsValue value
    → change_line make (decimal t ∷ (map word_text (place k) ++ value ∷ [])) ≡ Ok (make t k value)
unfolding change_line
change_again backups make t k value h fits is =
    rw (number_again_at 0 4294967295 t (map word_text (place k) ++ value ∷ []) (omega arith) (omega arith, h), place_again backups k (value ∷ []) fits, text_again_at is_text_byte 200 value [] is) refl

backup_line_again : (backups : ℕ) (make : Node → Line) (node : Node) → is_backup backups node ≡ true → backup_line backups make (node_text node ∷ []) ≡ Ok (make node)
unfolding backup_line
backup_line_again backups make node h = rw (backup_again backups node [] h) refl

node_line_again : (backups : ℕ) (make : Node → Line) (node : Node) → is_node backups node ≡ true → node_line backups make (node_text node ∷ []) ≡ Ok (make node)
unfolding node_line
node_line_again backups make node h = rw (node_again backups node [] h) refl

shipping_again : (backups : ℕ) (make : Node → ℕ → Line) (from to : ℕ) (node : Node) (n : ℕ) → to < 2 ^ 32 → is_backup backups node ≡ true → (from ≤ n) × (n ≤ to)
    → shipping_line backups make from to (node_text node ∷ decimal n ∷ []) ≡ Ok (make node n)
unfolding shipping_line
shipping_again backups make from to node n small h k = rw (backup_again backups node (decimal n ∷ []) h, number_again_at from to n [] small k) refl

read_again : (backups : ℕ) (node : Node) (k : RecKey) → is_backup backups node ≡ true → AllByRecursion (FitsWord backups) (place k) → read_line backups (node_text node ∷ map word_text (place k)) ≡ Ok (line.Read node k)
unfolding read_line
read_again backups node k h fits = rw (backup_again backups node (map word_text (place k)) h, place_again backups k [] fits) refl

copy_again : (backups : ℕ) (node from : Node) → is_backup backups node ≡ true → (is_backup backups from && not (same_node node from)) ≡ true → copy_line backups (node_text node ∷ node_text from ∷ []) ≡ Ok (line.CopyAudit node from)
unfolding copy_line
copy_again backups node from h k = rw (backup_again backups node (node_text from ∷ []) h, other_again backups node from [] k) refl

list_again : (backups : ℕ) (node : Node) (vol : ℕ) → is_node backups node ≡ true → (0 ≤ vol) × (vol ≤ 15) → list_line backups (node_text node ∷ decimal vol ∷ []) ≡ Ok (line.List node vol)
unfolding list_line
list_again backups node vol h k = rw (node_again backups node (decimal vol ∷ []) h, number_again_at 0 15 vol [] (omega arith) k) refl

fuse_again : (backups : ℕ) (node : Node) (disk calls : ℕ) (t : Tear) → is_node backups node ≡ true → (0 ≤ disk) × (disk ≤ 16) → (0 ≤ calls) × (calls ≤ 1000000)
    → fuse_line backups (node_text node ∷ decimal disk ∷ decimal calls ∷ tear_text t ∷ []) ≡ Ok (line.Fuse node disk calls t)
unfolding fuse_line
fuse_again backups node disk calls t h d c =
    rw (
      node_again backups node (decimal disk ∷ decimal calls ∷ tear_text t ∷ []) h,
      number_again_at 0 16 disk (decimal calls ∷ tear_text t ∷ []) (omega arith) d,
      number_again_at 0 1000000 calls (tear_text t ∷ []) (omega arith) c,
      tear_again t [],
    ) refl

behind_again : (backups : ℕ) (l : Line) → IsLine backups l → behind_verb backups (verb_of l) (map word_text (arguments l)) ≡ Ok l
behind_again backups (line.Begin t) h = txn_again line.Begin t h.0.1
behind_again backups (line.Insert t k value) h = change_again backups line.Insert t k value h.0.1 (h.1.0, (h.1.1.0, (h.1.1.1.0, tt))) h.1.1.1.1.0
behind_again backups (line.Update t k value) h = change_again backups line.Update t k value h.0.1 (h.1.0, (h.1.1.0, (h.1.1.1.0, tt))) h.1.1.1.1.0
behind_again backups (line.Delete t k) h = touch_again backups line.Delete t k h.0.1 h.1
behind_again backups (line.Get t k) h = touch_again backups line.Get t k h.0.1 h.1
behind_again backups (line.Commit t) h = txn_again line.Commit t h.0.1
behind_again backups (line.Abort t) h = txn_again line.Abort t h.0.1
behind_again backups (line.Send node most) h = shipping_again backups line.Send 1 64 node most (omega arith) h.0 h.1.0
behind_again backups (line.Rewind node) h = backup_line_again backups line.Rewind node h.0
behind_again backups (line.Ack node) h = backup_line_again backups line.Ack node h.0
behind_again backups (line.Deliver node k) h = shipping_again backups line.Deliver 0 4294967295 node k (omega arith) h.0 h.1.0
behind_again backups line.Lose h = refl
behind_again backups (line.Session node) h = backup_line_again backups line.Session node h.0
behind_again backups (line.Read node k) h = read_again backups node k h.0 h.1
behind_again backups (line.Purge node) h = backup_line_again backups line.Purge node h.0
behind_again backups line.End h = refl
behind_again backups (line.Takeover node) h = backup_line_again backups line.Takeover node h.0
behind_again backups (line.CopyAudit node from) h = copy_again backups node from h.0 h.1.0
behind_again backups (line.List node vol) h = list_again backups node vol h.0 h.1.0
behind_again backups (line.Info node) h = backup_line_again backups line.Info node h.0
behind_again backups (line.Status node) h = node_line_again backups line.Status node h.0
behind_again backups (line.Fuse node disk calls t) h = fuse_again backups node disk calls t h.0 h.1.0 h.1.1.0
behind_again backups (line.Cut node) h = node_line_again backups line.Cut node h.0
behind_again backups (line.Restart node) h = node_line_again backups line.Restart node h.0

-- as many words as the verb has
count_again : (backups : ℕ) (l : Line) → of_verb backups (Some (verb_of l)) (map word_text (arguments l)) ≡ behind_verb backups (verb_of l) (map word_text (arguments l))
count_again backups (line.Begin t) = refl
count_again backups (line.Insert t k value) = refl
count_again backups (line.Update t k value) = refl
count_again backups (line.Delete t k) = refl
count_again backups (line.Get t k) = refl
count_again backups (line.Commit t) = refl
count_again backups (line.Abort t) = refl
count_again backups (line.Send node most) = refl
count_again backups (line.Rewind node) = refl
count_again backups (line.Ack node) = refl
count_again backups (line.Deliver node k) = refl
count_again backups line.Lose = refl
count_again backups (line.Session node) = refl
count_again backups (line.Read node k) = refl
count_again backups (line.Purge node) = refl
count_again backups line.End = refl
count_again backups (line.Takeover node) = refl
count_again backups (line.CopyAudit node from) = refl
count_again backups (line.List node vol) = refl
count_again backups (line.Info node) = refl
count_again backups (line.Status node) = refl
count_again backups (line.Fuse node disk calls t) = refl
count_again backups (line.Cut node) = refl
count_again backups (line.Restart node) = refl

-- a line is read from its words
pub line_again : (fuses : Bool) (backups : ℕ) (l : Line) → is_known fuses (verb_of l) ≡ true → IsLine backups l → line_in fuses backups (line_words l) ≡ Ok l
unfolding line_in
line_again fuses backups l known h = ap (λ o. of_verb backups o (map word_text (arguments l))) (verb_again fuses (verb_of l) known) ∙ count_again backups l ∙ behind_again backups l h
