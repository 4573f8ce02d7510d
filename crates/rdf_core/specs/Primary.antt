-- The primary: its state, and the lines on it.
use Rattle.std.specs.Prelude.{ℕ, ◌+◌, Bool, true, false, not, ◌||◌, ◌==◌, nat_lt, List, [], ◌∷◌, ◌++◌, length, drop, Option, Some, None, is_some}
use Rattle.std.specs.Ordering.{nat_cmp}
use Rattle.std.specs.FinSet as set
use Rattle.rdf_types.specs.declared.layout.Layout.{Layout}
use Rattle.rdf_types.specs.declared.records.RecKey.{RecKey}
use Rattle.rdf_types.specs.declared.records.Record.{Record}
use Rattle.rdf_model.specs.Contents.{nothing}
use Rattle.rdf_model.specs.Trail.{raw, owner, open_in}
use Rattle.rdf_model.specs.Running.{is_used}
use Rattle.rdf_model.specs.Lines.{after_change, after_commit, after_abort, after_restart}
use Rattle.plan_lang.specs.declared.lines.Line.{Line}
use Rattle.plan_lang.specs.declared.lines.Line.TheVariants as line
use Rattle.rdf_core.specs.declared.events.Standing.{Standing}
use Rattle.rdf_core.specs.declared.events.Standing.TheVariants.{Up, Down, Lost}
use Rattle.rdf_core.specs.declared.replies.NoWhy.{NoWhy}
use Rattle.rdf_core.specs.declared.replies.NoWhy.TheVariants as no
use Rattle.rdf_core.specs.declared.replies.Reply.{Reply}
use Rattle.rdf_core.specs.declared.replies.Reply.TheVariants.{Done, Number, Got, PrimaryUp, NodeDown, NodeLost, No}
use Rattle.rdf_core.specs.Effects.{when, first, count_u32, count_u64}
use Rattle.rdf_core.specs.Rule.{Rule, Answer, Tells, Lists, Nothing, Says}

-- the trail, the active transactions, whether it runs, and how often disks of it stopped
pub record Primary : Type 0 where
  pub trail : List Record
  pub active : set.FinSet nat_cmp
  pub standing : Standing
  pub stops : ℕ

-- its standing is that it is lost
abbrev pub is_lost : Standing → Bool
is_lost Up = false
is_lost Down = false
is_lost Lost = true

-- or down
abbrev pub is_down : Standing → Bool
is_down Up = false
is_down Down = true
is_down Lost = false

-- or up
abbrev pub is_up : Standing → Bool
is_up Up = true
is_up Down = false
is_up Lost = false

-- the primary must be up: it is lost, or down
abbrev pub needs_up : Primary → Option NoWhy
needs_up a = first (when (is_lost a.standing) no.Lost ∷ when (is_down a.standing) no.Down ∷ [])

-- the transaction must be active
abbrev pub needs_active : Primary → ℕ → Option NoWhy
needs_active a t = when (not (set.contains a.active t)) no.Txn

-- another transaction has the record
abbrev pub locked_for : ℕ → Option ℕ → Option NoWhy
locked_for t None = None
locked_for t (Some u) = when (not (u == t)) (no.Locked u)

-- a value stands at the place
abbrev pub stands : List Record → RecKey → Bool
stands trail k = is_some (raw nothing trail k)

-- the transaction has no say over the record
abbrev pub cannot_use : Layout → Primary → ℕ → RecKey → Option NoWhy
cannot_use layout a t k = first (needs_up a ∷ needs_active a t ∷ when (not (nat_lt k.vol layout.volumes)) no.Volume ∷ locked_for t (owner a.trail k) ∷ [])

-- or no value stands there
abbrev pub needs_value : Layout → Primary → ℕ → RecKey → Option NoWhy
needs_value layout a t k = first (cannot_use layout a t k ∷ when (not (stands a.trail k)) no.Missing ∷ [])

-- a record is appended
abbrev pub with_record : Primary → Record → Primary
with_record a r = record a { trail = a.trail ++ r ∷ [] }

-- the primary after each of these records is appended
abbrev pub grown : Primary → List Record → List Primary
grown a [] = []
grown a (r ∷ rest) = with_record a r ∷ grown (with_record a r) rest

-- the primary after so many stops of disks of it
abbrev pub primary_fallen : ℕ → Primary → Primary
primary_fallen n a = record a { standing = Down; active = set.empty; stops = count_u64 (a.stops + n) }

-- what `get` tells
abbrev pub got : Option (List ℕ) → Reply
got None = No no.Missing
got (Some value) = Got value

-- how the primary stands
abbrev pub primary_status : Standing → Primary → Reply
primary_status Up a = PrimaryUp (length a.trail) (count_u32 (set.len a.active))
primary_status Down a = NodeDown
primary_status Lost a = NodeLost

-- the durable parts by which the trail becomes this one: each record that it gets
abbrev pub appends : Primary → List Record → List Primary
appends a trail = grown a (drop (length a.trail) trail)

-- a row of the primary, whose durable parts are the records that its trail gets
abbrev pub becomes : Primary → (Layout → Option NoWhy) → Primary → Answer → Rule Primary
becomes a refusal after answer = record { refusal = refusal; parts = appends a after.trail; after = after; answer = answer }

-- one by which the trail becomes this one, with these active transactions, and which tells the trail's length
abbrev pub grows : Primary → (Layout → Option NoWhy) → List Record → set.FinSet nat_cmp → Rule Primary
grows a refusal trail active = becomes a refusal (record a { trail = trail; active = active }) (Tells (Number (length trail)))

-- a line that is not on the primary: it has no answer
abbrev pub elsewhere : Primary → Rule Primary
elsewhere a = becomes a (λ _. None) a Nothing

-- the row of each line on the primary: its first refusal over a layout, its effect, and its answer
abbrev pub primary_rule : Primary → Line → Rule Primary
primary_rule a (line.Begin t) =
    becomes a (λ _. first (needs_up a ∷ when (set.contains a.active t || is_used t a.trail) no.Used ∷ [])) (record a { active = set.insert a.active t }) (Tells Done)
primary_rule a (line.Insert t k value) =
    grows a (λ layout. first (cannot_use layout a t k ∷ when (stands a.trail k) no.Exists ∷ [])) (after_change a.trail t k (Some value)) a.active
primary_rule a (line.Update t k value) = grows a (λ layout. needs_value layout a t k) (after_change a.trail t k (Some value)) a.active
primary_rule a (line.Delete t k) = grows a (λ layout. needs_value layout a t k) (after_change a.trail t k None) a.active
primary_rule a (line.Get t k) = becomes a (λ layout. needs_value layout a t k) a (Tells (got (raw nothing a.trail k)))
primary_rule a (line.Commit t) = grows a (λ _. first (needs_up a ∷ needs_active a t ∷ [])) (after_commit a.trail t) (set.remove a.active t)
primary_rule a (line.Abort t) = grows a (λ _. first (needs_up a ∷ needs_active a t ∷ [])) (after_abort a.trail t) (set.remove a.active t)
primary_rule a line.Lose = becomes a (λ _. when (is_lost a.standing) no.Lost) (record a { standing = Lost; active = set.empty }) (Tells Done)
primary_rule a (line.List node vol) =
    becomes a (λ layout. first (needs_up a ∷ when (not (nat_lt vol layout.volumes)) no.Volume ∷ [])) a (Lists (length a.trail) vol (raw nothing a.trail))
primary_rule a (line.Status node) = becomes a (λ _. None) a (Tells (primary_status a.standing a))
primary_rule a (line.Fuse node disk calls tear) =
    becomes a (λ layout. first (when (is_lost a.standing) no.Lost ∷ when (nat_lt layout.volumes disk) no.Volume ∷ [])) a (Tells Done)
primary_rule a (line.Cut node) = becomes a (λ _. needs_up a) (record a { standing = Down; active = set.empty }) (Tells Done)
primary_rule a (line.Restart node) =
    becomes a (λ _. first (when (is_lost a.standing) no.Lost ∷ when (is_up a.standing) no.Up ∷ []))
    (record a { trail = after_restart a.trail; standing = Up; active = set.empty }) (Tells (Number (set.len (open_in a.trail))))
primary_rule a (line.Send node most) = elsewhere a
primary_rule a (line.Rewind node) = elsewhere a
primary_rule a (line.Ack node) = elsewhere a
primary_rule a (line.Deliver node k) = elsewhere a
primary_rule a (line.Session node) = elsewhere a
primary_rule a (line.Read node key) = elsewhere a
primary_rule a (line.Purge node) = elsewhere a
primary_rule a line.End = elsewhere a
primary_rule a (line.Takeover node) = elsewhere a
primary_rule a (line.CopyAudit node from) = elsewhere a
primary_rule a (line.Info node) = elsewhere a

-- the first refusal of a line on the primary
abbrev pub primary_refusal : Layout → Primary → Line → Option NoWhy
primary_refusal layout a l = (primary_rule a l).refusal layout

-- the primary after it
abbrev pub primary_after : Primary → Line → Primary
primary_after a l = (primary_rule a l).after

-- the trail after a line, which the trail alone decides
abbrev pub trail_after : List Record → Line → List Record
trail_after trail l = (primary_after (record { trail = trail; active = set.empty; standing = Up; stops = 0 }) l).trail

-- the durable parts of a line: the records that it appends
abbrev pub primary_parts : Primary → Line → List Primary
primary_parts a l = appends a (trail_after a.trail l)

-- the reply to a line that is not refused
abbrev pub primary_says : Primary → Line → Reply → Type 0
primary_says a l reply = Says (primary_rule a l).answer reply
