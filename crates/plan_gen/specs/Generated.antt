-- The plan that is generated from a seed, for a number of transactions.
use Rattle.std.specs.Prelude.{ℕ, zero, suc, ◌+◌, ◌-◌, ◌/◌, ◌%◌, ◌==◌, nat_lt, true, List, [], ◌∷◌, ◌++◌, decimal, codes, if◌then◌else◌}
use Rattle.std.proofs.Common.{arith, refl}
use Rattle.std.proofs.lemmas.List.Sums.{AllPass-from_list_all}
use Rattle.rdf_types.specs.Limits.{is_trail}
use Rattle.rdf_types.specs.declared.records.Node.{Node}
use Rattle.rdf_types.specs.declared.records.Node.TheVariants.{B, C}
use Rattle.rdf_types.specs.declared.records.RecKey.{RecKey}
use Rattle.rdf_types.specs.declared.layout.Layout.{Layout}
use Rattle.plan_lang.specs.declared.lines.Line.{Line}
use Rattle.plan_lang.specs.declared.lines.Line.TheVariants as line
use Rattle.plan_lang.specs.declared.lines.Plan.{Plan}
use Rattle.plan_gen.specs.Drawing.{drawn, later}

-- the place on a volume, in file `f`, of the row that a letter and a number name
abbrev pub row_at : ℕ → ℕ → ℕ → RecKey
row_at vol letter n = record { vol = vol; file = codes "f"; key = letter ∷ decimal n }

-- the place of the row `nt`, which transaction t inserts; the letter is `n`
abbrev pub own_row : ℕ → ℕ → RecKey
own_row vol t = row_at vol 110 t

-- the place of one of the hundred rows `k0` to `k99` that transactions share; the letter is `k`
abbrev pub shared_row : ℕ → ℕ → RecKey
shared_row vol j = row_at vol 107 j

-- a change by transaction t: of the four kinds 0 to 3 two are inserts
abbrev pub change_of : ℕ → ℕ → RecKey → ℕ → Line
change_of kind t key value =
    if nat_lt kind 2 then line.Insert t key (decimal value)
    else (if kind == 2 then line.Update t key (decimal value) else line.Delete t key)

-- the change that is drawn where the state is x: its kind, volume, row and value
abbrev pub change : ℕ → ℕ → Line
change t x = change_of (drawn 4 x) t (shared_row (drawn 8 (later 1 x)) (drawn 100 (later 2 x))) (drawn 1000 (later 3 x))

-- so many changes
abbrev pub changes : ℕ → ℕ → ℕ → List Line
changes zero t x = []
changes (suc c) t x = change t x ∷ changes c t (later 4 x)

-- the state behind so many changes
abbrev pub changed : ℕ → ℕ → ℕ
changed zero x = x
changed (suc c) x = changed c (later 4 x)

-- one of eight transactions aborts
abbrev pub outcome : ℕ → ℕ → Line
outcome t x = if drawn 8 x == 0 then line.Abort t else line.Commit t

-- how many changes a transaction makes behind its own row
abbrev pub change_count : ℕ → ℕ
change_count x = drawn 4 (later 1 x)

-- the state behind them
abbrev pub behind_changes : ℕ → ℕ
behind_changes x = changed (change_count x) (later 2 x)

-- transaction t: it inserts its own row, changes up to three shared ones, and ends
abbrev pub transaction : ℕ → ℕ → List Line
transaction t x =
    line.Begin t ∷ line.Insert t (own_row (drawn 8 x) t) (decimal t) ∷ (changes (change_count x) t (later 2 x) ++ outcome t (behind_changes x) ∷ [])

-- the state behind a transaction
abbrev pub behind_transaction : ℕ → ℕ
behind_transaction x = later 1 (behind_changes x)

-- by chance message q is lost, arrives twice, or arrives once, as in two cases of four
abbrev pub arrivals : Node → ℕ → ℕ → List Line
arrivals node q chance =
    if chance == 0 then []
    else (if chance == 1 then line.Deliver node q ∷ line.Deliver node q ∷ [] else line.Deliver node q ∷ [])

-- a backup is sent its message of round q
abbrev pub message : Node → ℕ → ℕ → List Line
message node q x = line.Ack node ∷ line.Rewind node ∷ line.Send node 64 ∷ arrivals node q (drawn 4 x)

-- a session of a backup, and a purge behind it
abbrev pub session : Node → ℕ → List Line
session node q = line.Session node ∷ line.Deliver node q ∷ line.Read node (own_row 0 1) ∷ line.End ∷ line.Purge node ∷ []

-- each eighth round ends in a session of each backup
abbrev pub sessions : ℕ → List Line
sessions q = if q % 8 == 7 then session B q ++ session C q else []

-- round q: messages to both backups, and their sessions
abbrev pub round : ℕ → ℕ → List Line
round q x = message B q x ++ (message C q (later 1 x) ++ sessions q)

-- each fourth transaction is followed by a round
abbrev pub round_behind : ℕ → ℕ → List Line
round_behind t x = if t % 4 == 0 then round (t / 4 - 1) x else []

-- the state behind it
abbrev pub behind_round : ℕ → ℕ → ℕ
behind_round t x = if t % 4 == 0 then later 2 x else x

-- so many transactions from t on, with the rounds that follow them
abbrev pub load : ℕ → ℕ → ℕ → List Line
load zero t x = []
load (suc n) t x = transaction t x ++ (round_behind t (behind_transaction x) ++ load n (t + 1) (behind_round t (behind_transaction x)))

-- the lists of so many volumes of a backup, from a volume on
abbrev pub lists : Node → ℕ → ℕ → List Line
lists node zero vol = []
lists node (suc n) vol = line.List node vol ∷ lists node n (vol + 1)

-- the last part: transaction u stays open, `b` gets message w, the primary is lost, and both backups take over,
-- copy the audit that they lack from each other, and take over again
abbrev pub last_part : ℕ → ℕ → List Line
last_part u w =
    line.Begin u ∷ line.Insert u (own_row 0 u) (decimal u)
    ∷ line.Ack B ∷ line.Rewind B ∷ line.Send B 64 ∷ line.Deliver B w
    ∷ line.Lose ∷ line.Takeover B ∷ line.Takeover C
    ∷ line.CopyAudit C B ∷ line.CopyAudit B C ∷ line.Takeover C ∷ line.Takeover B
    ∷ (lists B 8 0 ++ lists C 8 0)

-- two backups of eight volumes, which are all protected, on four image trails
abbrev pub generated_layout : Layout
generated_layout = record {
  backups = 2;
  volumes = 8;
  trail_of = 0 ∷ 1 ∷ 2 ∷ 3 ∷ 0 ∷ 1 ∷ 2 ∷ 3 ∷ [];
  protect = true ∷ true ∷ true ∷ true ∷ true ∷ true ∷ true ∷ true ∷ [];
  extent = 64;
  retain = 4;
  some_backup = omega arith;
  few_backups = omega arith;
  some_volume = omega arith;
  few_volumes = omega arith;
  a_trail_each = refl;
  few_trails = AllPass-from_list_all is_trail (0 ∷ 1 ∷ 2 ∷ 3 ∷ 0 ∷ 1 ∷ 2 ∷ 3 ∷ []) refl;
  a_flag_each = refl;
  some_extent = omega arith;
  small_extent = omega arith;
  some_retained = omega arith;
  few_retained = omega arith;
}

-- the plan from a seed, of so many transactions
abbrev pub generated_plan : ℕ → ℕ → Plan
generated_plan seed txns = record { layout = generated_layout; lines = load txns 1 seed ++ last_part (txns + 1) (txns / 4) }
