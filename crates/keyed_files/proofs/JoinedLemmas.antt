-- A change of a file's keys is a change of the map of rows.
use Rattle.std.proofs.Common.{◌≡◌, ℕ, Bool, true, false, cond, T, List, [], ◌∷◌, ◌++◌, Option, Some, None, is_some, is_none, Result, Ok, Err, OnOk, OnErr, map, slice_get, refl, sym, ap, ◌∙◌, subst}
use Rattle.std.specs.declared.cmp.Ordering.{Ordering}
use Rattle.std.specs.declared.cmp.Ordering.TheVariants.{Less, Equal, Greater}
use Rattle.std.specs.Ordering.{nat_cmp, is_eq, eq_by_cmp, ordering_then}
use Rattle.std.specs.Option.{option_and_then, option_or}
use Rattle.std.specs.Cmp.{tied_itself}
use Rattle.std.specs.Cmp.Lexicographic.{slice_cmp, nat_list_cmp_total}
use Rattle.std.specs.FinMap.{get, find, insert, remove, empty, entries, entries_sorted, get-entries, get-from_entries, get-insert, get-remove, get-empty, same_map}
use Rattle.std.specs.FinMap.Entries.{below_all, is_sorted}
use Rattle.std.proofs.Math.Facts.{and_yes}
use Rattle.std.proofs.lemmas.Map.Lookups.{exact_bytes}
use Rattle.rdf_types.specs.Places.{row_cmp, row_cmp_total, row_cmp_exact}
use Rattle.keyed_files.specs.Joined.{Keys, Files, row_of, rows_of, joined, AllFilled}
use Rattle.keyed_files.proofs.StepLemmas.{is_less}

abbrev pub text : List ℕ → List ℕ → Ordering
text = slice_cmp nat_cmp

abbrev pub value_at : List ℕ → Keys → Option (List ℕ)
value_at key keys = get keys key

-- a text below all keys is none of them
pub none_above : {X : Type 0} (key : List ℕ) (es : List (List ℕ × X)) → T (below_all text key es) → find text key es ≡ None
none_above key [] h = refl
none_above key (e ∷ es) h = ap (λ r. cond (is_eq r) (Some e.1) (find text key es)) (is_less _ (and_yes _ _ h).0) ∙ none_above key es (and_yes _ _ h).1

pub find_both : {K X : Type 0} (R : K → K → Ordering) (q : K) (xs ys : List (K × X)) → find R q (xs ++ ys) ≡ option_or (find R q xs) (find R q ys)
find_both R q [] ys = refl
find_both R q (e ∷ xs) ys =
    elim (eq_by_cmp R q e.0) as (λ b. cond b (Some e.1) (find R q (xs ++ ys)) ≡ option_or (cond b (Some e.1) (find R q xs)) (find R q ys)) [
      | true ↦ refl
      | false ↦ find_both R q xs ys
    ]

tag_step : (r s : Ordering) (v : List ℕ) (o p : Option (List ℕ)) → o ≡ cond (is_eq r) p None → cond (is_eq (ordering_then r s)) (Some v) o ≡ cond (is_eq r) (cond (is_eq s) (Some v) p) None
tag_step Less s v o p h = h
tag_step Equal s v o p h = ap (cond (is_eq s) (Some v)) h
tag_step Greater s v o p h = h

abbrev no_value : Option (List ℕ)
no_value = None

no_entries : (b : Bool) → no_value ≡ cond b no_value no_value
no_entries true = refl
no_entries false = refl

-- among the rows of one file
find_tagged : (q : List ℕ × List ℕ) (file : List ℕ) (es : List (List ℕ × List ℕ)) → find row_cmp q (map (row_of file) es) ≡ cond (is_eq (text q.0 file)) (find text q.1 es) None
find_tagged q file [] = no_entries (is_eq (text q.0 file))
find_tagged q file (e ∷ es) = tag_step (text q.0 file) (text q.1 e.0) e.1 _ _ (find_tagged q file es)

or_none : (o : Option (List ℕ)) → option_or o None ≡ o
or_none None = refl
or_none (Some v) = refl

find_rows : (q : List ℕ × List ℕ) (fs : List (List ℕ × Keys)) → T (is_sorted text fs) → find row_cmp q (rows_of fs) ≡ option_and_then (value_at q.1) (find text q.0 fs)
find_rows q [] h = refl
find_rows q (f ∷ fs) h =
    find_both row_cmp q (map (row_of f.0) (entries f.1)) (rows_of fs)
    ∙ (λ i. option_or (find_tagged q f.0 (entries f.1) i) (find_rows q fs (and_yes _ _ h).1 i))
    ∙ elim (text q.0 f.0) as (λ r. text q.0 f.0 ≡ r → option_or (cond (is_eq r) (find text q.1 (entries f.1)) None) (option_and_then (value_at q.1) (find text q.0 fs))
    ≡ option_and_then (value_at q.1) (cond (is_eq r) (Some f.1) (find text q.0 fs))) [
      | Less ↦ λ e. refl
      | Equal ↦ λ e. ap (λ o. option_or (find text q.1 (entries f.1)) (option_and_then (value_at q.1) o))
          (ap (λ k. find text k fs) (exact_bytes q.0 f.0 e) ∙ none_above f.0 fs (and_yes _ _ h).0)
          ∙ or_none (find text q.1 (entries f.1)) ∙ sym (get-entries f.1 q.1)
      | Greater ↦ λ e. refl
    ] refl

-- a row stands where its file has the key
pub get_joined : (files : Files) (q : List ℕ × List ℕ) → get (joined files) q ≡ option_and_then (value_at q.1) (get files q.0)
get_joined files q =
    get-from_entries row_cmp_total (rows_of (entries files)) q ∙ find_rows q (entries files) (entries_sorted files)
    ∙ ap (option_and_then (value_at q.1)) (sym (get-entries files q.0))

-- a change of what one file has at one key is a change of that row
joined_change : (files new : Files) (file key : List ℕ) (w : Option Keys) (v : Option (List ℕ)) →
    ((f : List ℕ) → get new f ≡ cond (eq_by_cmp text f file) w (get files f)) →
    ((k : List ℕ) → option_and_then (value_at k) w ≡ cond (eq_by_cmp text k key) v (option_and_then (value_at k) (get files file))) →
    (q : List ℕ × List ℕ) → get (joined new) q ≡ cond (eq_by_cmp row_cmp q (file, key)) v (get (joined files) q)
joined_change files new file key w v at_file at_key q =
    get_joined new q ∙ ap (option_and_then (value_at q.1)) (at_file q.0)
    ∙ elim (text q.0 file) as (λ r. text q.0 file ≡ r → option_and_then (value_at q.1) (cond (is_eq r) w (get files q.0)) ≡ cond (is_eq (ordering_then r (text q.1 key))) v (get (joined files) q)) [
      | Less ↦ λ e. sym (get_joined files q)
      | Equal ↦ λ e. at_key q.1 ∙ ap (cond (is_eq (text q.1 key)) v)
          (ap (λ f. option_and_then (value_at q.1) (get files f)) (sym (exact_bytes q.0 file e)) ∙ sym (get_joined files q))
      | Greater ↦ λ e. sym (get_joined files q)
    ] refl

-- a file that has, besides the key, what it had
pub joined_put : (files : Files) (file key value : List ℕ) (keys : Keys) → ((k : List ℕ) → get keys k ≡ option_and_then (value_at k) (get files file)) →
    joined (insert files file (insert keys key value)) ≡ insert (joined files) (file, key) value
joined_put files file key value keys same =
    same_map row_cmp_total row_cmp_exact _ _ (λ q.
    joined_change files (insert files file (insert keys key value)) file key (Some (insert keys key value)) (Some value)
    (λ f. get-insert nat_list_cmp_total files file (insert keys key value) f)
    (λ k. get-insert nat_list_cmp_total keys key value k ∙ ap (cond (eq_by_cmp text k key) (Some value)) (same k)) q
    ∙ sym (get-insert row_cmp_total (joined files) (file, key) value q))

-- a file that has what it had
pub joined_same : (files : Files) (file : List ℕ) (keys : Keys) → get files file ≡ Some keys → insert files file keys ≡ files
joined_same files file keys is =
    same_map nat_list_cmp_total exact_bytes _ _ (λ f. get-insert nat_list_cmp_total files file keys f
    ∙ elim (text f file) as (λ r. text f file ≡ r → cond (is_eq r) (Some keys) (get files f) ≡ get files f) [
      | Less ↦ λ e. refl
      | Equal ↦ λ e. sym is ∙ ap (get files) (sym (exact_bytes f file e))
      | Greater ↦ λ e. refl
    ] refl)

-- a file without the key
pub joined_remove : (files : Files) (file key : List ℕ) (keys : Keys) → get files file ≡ Some keys →
    joined (insert files file (remove keys key)) ≡ remove (joined files) (file, key)
joined_remove files file key keys is =
    same_map row_cmp_total row_cmp_exact _ _ (λ q.
    joined_change files (insert files file (remove keys key)) file key (Some (remove keys key)) None
    (λ f. get-insert nat_list_cmp_total files file (remove keys key) f)
    (λ k. get-remove nat_list_cmp_total keys key k ∙ ap (λ o. cond (eq_by_cmp text k key) None (option_and_then (value_at k) o)) (sym is)) q
    ∙ sym (get-remove row_cmp_total (joined files) (file, key) q))

gone_key : (b : Bool) (o : Option (List ℕ)) → cond b no_value o ≡ no_value → no_value ≡ cond b no_value o
gone_key b o e = sym e

-- a file that had the key alone goes
pub joined_gone : (files : Files) (file key : List ℕ) (keys : Keys) → get files file ≡ Some keys → ((k : List ℕ) → get (remove keys key) k ≡ None) →
    joined (remove files file) ≡ remove (joined files) (file, key)
joined_gone files file key keys is none =
    same_map row_cmp_total row_cmp_exact _ _ (λ q.
    joined_change files (remove files file) file key None None
    (λ f. get-remove nat_list_cmp_total files file f)
    (λ k. gone_key (eq_by_cmp text k key) _ (ap (λ o. cond (eq_by_cmp text k key) None (option_and_then (value_at k) o)) is ∙ sym (get-remove nat_list_cmp_total keys key k) ∙ none k)) q
    ∙ sym (get-remove row_cmp_total (joined files) (file, key) q))

none_anyway : (b : Bool) → cond b no_value no_value ≡ None
none_anyway true = refl
none_anyway false = refl

-- where there is no such file there is no such row
pub joined_absent : (files : Files) (file key : List ℕ) → get files file ≡ None → joined files ≡ remove (joined files) (file, key)
joined_absent files file key is =
    same_map row_cmp_total row_cmp_exact _ _ (λ q. sym (get-remove row_cmp_total (joined files) (file, key) q
    ∙ elim (text q.0 file) as (λ r. text q.0 file ≡ r → cond (is_eq (ordering_then r (text q.1 key))) None (get (joined files) q) ≡ get (joined files) q) [
      | Less ↦ λ e. refl
      | Equal ↦ λ e. let none : get (joined files) q ≡ None = get_joined files q ∙ ap (λ f. option_and_then (value_at q.1) (get files f)) (exact_bytes q.0 file e) ∙ ap (option_and_then (value_at q.1)) is in
          ap (cond (is_eq (text q.1 key)) None) none ∙ none_anyway (is_eq (text q.1 key)) ∙ sym none
      | Greater ↦ λ e. refl
    ] refl))

some_first : (key value : List ℕ) (es : List (List ℕ × List ℕ)) → find text key es ≡ Some value → is_some (slice_get es 0) ≡ true
some_first key value [] h = cc
some_first key value (e ∷ es) h = refl

-- a file with a value at a key has a first one
pub filled_by : (keys : Keys) (key value : List ℕ) → get keys key ≡ Some value → is_some (slice_get (entries keys) 0) ≡ true
filled_by keys key value h = some_first key value (entries keys) (sym (get-entries keys key) ∙ h)

none_first : (key : List ℕ) (es : List (List ℕ × List ℕ)) → is_none (slice_get es 0) ≡ true → find text key es ≡ None
none_first key [] h = refl
none_first key (e ∷ es) h = cc

pub none_in : (keys : Keys) → is_none (slice_get (entries keys) 0) ≡ true → (key : List ℕ) → get keys key ≡ None
none_in keys h key = get-entries keys key ∙ none_first key (entries keys) h

same_keys : (a b : Keys) → Some a ≡ Some b → a ≡ b
same_keys a b e = cc

pub filled_insert : (files : Files) (file : List ℕ) (keys : Keys) → AllFilled files → is_some (slice_get (entries keys) 0) ≡ true → AllFilled (insert files file keys)
filled_insert files file keys all filled f found is =
    elim (eq_by_cmp text f file) as (λ b. cond b (Some keys) (get files f) ≡ Some found → is_some (slice_get (entries found) 0) ≡ true) [
      | true ↦ λ e. subst (λ k. is_some (slice_get (entries k) 0) ≡ true) (same_keys keys found e) filled
      | false ↦ λ e. all f found e
    ] (sym (get-insert nat_list_cmp_total files file keys f) ∙ is)

no_some : (found : Keys) {G : Type 0} → None ≡ Some found → G
no_some found e = cc

pub filled_remove : (files : Files) (file : List ℕ) → AllFilled files → AllFilled (remove files file)
filled_remove files file all f found is =
    elim (eq_by_cmp text f file) as (λ b. cond b None (get files f) ≡ Some found → is_some (slice_get (entries found) 0) ≡ true) [
      | true ↦ λ e. no_some found e
      | false ↦ λ e. all f found e
    ] (sym (get-remove nat_list_cmp_total files file f) ∙ is)

pub filled_empty : AllFilled empty
filled_empty f found is = no_some found (sym (get-empty text f) ∙ is)

pub joined_empty : joined empty ≡ empty
joined_empty = same_map row_cmp_total row_cmp_exact _ _ (λ q. get_joined empty q ∙ ap (option_and_then (value_at q.1)) (get-empty text q.0) ∙ sym (get-empty row_cmp q))

itself : (b : Bool) (key value : List ℕ) (o : Option (List ℕ)) → b ≡ true → cond b (Some value) o ≡ Some value
itself b key value o h = ap (λ c. cond c (Some value) o) h

-- a file has a first row after a put
has_value : (keys : Keys) (key value : List ℕ) → is_some (slice_get (entries (insert keys key value)) 0) ≡ true
has_value keys key value = filled_by (insert keys key value) key value
    (get-insert nat_list_cmp_total keys key value key ∙ itself (eq_by_cmp text key key) key value (get keys key) (ap is_eq (tied_itself nat_list_cmp_total key)))

-- a file has its rows after a put of one of them that went well or was refused
pub record PutDone {E : Type 0} (r : Result Unit E) (files new : Files) (file key value : List ℕ) : Type 0 where
  pub filled : AllFilled new
  pub ok : OnOk r (joined new ≡ insert (joined files) (file, key) value)
  pub err : OnErr r (joined new ≡ joined files)

pub put_in_file : {E : Type 0} (r : Result Unit E) (files new : Files) (file key value : List ℕ) (old keys : Keys) → get files file ≡ Some old → new ≡ insert files file keys →
    OnOk r (keys ≡ insert old key value) → OnErr r (keys ≡ old) → AllFilled files → PutDone r files new file key value
put_in_file (Ok u) files new file key value old keys found is ok err all =
    let put : new ≡ insert files file (insert old key value) = is ∙ ap (insert files file) ok in
    record {
      filled = subst AllFilled (sym put) (filled_insert files file (insert old key value) all (has_value old key value));
      ok = ap joined put ∙ joined_put files file key value old (λ k. ap (option_and_then (value_at k)) (sym found));
      err = tt;
    }
put_in_file (Err e) files new file key value old keys found is ok err all =
    let same : new ≡ files = is ∙ ap (insert files file) err ∙ joined_same files file old found in
    record { filled = subst AllFilled (sym same) all; ok = tt; err = ap joined same }

-- a file that is new has the row alone
pub file_started : (files new : Files) (file key value : List ℕ) (keys : Keys) → get files file ≡ None → new ≡ insert files file keys → keys ≡ insert empty key value → AllFilled files →
    AllFilled new × (joined new ≡ insert (joined files) (file, key) value)
file_started files new file key value keys none is one all =
    let put : new ≡ insert files file (insert empty key value) = is ∙ ap (insert files file) one in (
      subst AllFilled (sym put) (filled_insert files file (insert empty key value) all (has_value empty key value)),
      ap joined put ∙ joined_put files file key value empty (λ k. get-empty text k ∙ sym (ap (option_and_then (value_at k)) none)),
    )

twice : (b : Bool) (w : Option Keys) (o : Option Keys) → cond b None (cond b w o) ≡ cond b None o
twice true w o = refl
twice false w o = refl

pub remove-insert : (files : Files) (file : List ℕ) (keys : Keys) → remove (insert files file keys) file ≡ remove files file
remove-insert files file keys = same_map nat_list_cmp_total exact_bytes _ _ (λ f.
    get-remove nat_list_cmp_total (insert files file keys) file f
    ∙ ap (cond (eq_by_cmp text f file) None) (get-insert nat_list_cmp_total files file keys f)
    ∙ twice (eq_by_cmp text f file) (Some keys) (get files f) ∙ sym (get-remove nat_list_cmp_total files file f))

-- the value that stood there
pub value_found : (files : Files) (file key : List ℕ) (keys : Keys) → get files file ≡ Some keys → get keys key ≡ get (joined files) (file, key)
value_found files file key keys is = sym (get_joined files (file, key) ∙ ap (option_and_then (value_at key)) is)

pub no_value_found : (files : Files) (file key : List ℕ) → get files file ≡ None → None ≡ get (joined files) (file, key)
no_value_found files file key is = sym (get_joined files (file, key) ∙ ap (option_and_then (value_at key)) is)

not_none : {X : Type 0} (o : Option X) → is_none o ≡ false → is_some o ≡ true
not_none None h = cc
not_none (Some x) h = refl

pub filled_left : (keys : Keys) → is_none (slice_get (entries keys) 0) ≡ false → is_some (slice_get (entries keys) 0) ≡ true
filled_left keys h = not_none (slice_get (entries keys) 0) h
