-- Where nothing fails, stops or is used before, a run ends well.
use Rattle.std.proofs.Common.{◌≡◌, ◌≢◌, ◌⊎◌, inl, inr, ℕ, suc, ◌<◌, ◌≤◌, Bool, true, false, ◌&&◌, ◌==◌, List, Option, Some, None, Result, Ok, Err, refl, sym, ap, ap₂, ◌∙◌, subst, if◌then◌else◌, arith}
use Rattle.std.specs.Prelude.{IfSome, nat_lt, nat_le}
use Rattle.std.specs.Option.{IsSomeAnd}
use Rattle.std.proofs.Common.{eq-eqb}
use Rattle.rdf_types.specs.Counts.{Rose}
use Rattle.rdf_types.specs.declared.layout.Layout.{Layout}
use Rattle.rdf_types.specs.declared.records.Node.{Node}
use Rattle.rdf_types.specs.declared.records.Node.TheVariants.{A, B, C}
use Rattle.rdf_disk.specs.Files.{Disk}
use Rattle.rdf_disk.specs.Counts.{Counts, Ending}
use Rattle.rdf_disk.specs.Counts.Ending.{Fine, Stop, Fault}
use Rattle.audit_trail.specs.Spelled.{IsBlank}
use Rattle.plan_lang.specs.declared.lines.Line.{Line}
use Rattle.plan_lang.specs.declared.lines.Plan.{Plan}
use Rattle.plan_lang.specs.PlanReading.{Heading, heading_of}
use Rattle.plan_lang.specs.declared.why.PlanWhy.{PlanWhy}
use Rattle.plan_lang.specs.declared.why.BadLine.{BadLine}
use Rattle.plan_lang.specs.Grammar.{Reads, IsBad}
use Rattle.node_disks.specs.Cuts.{IfBoth}
use Rattle.rdf_core.specs.Allowed.{is_node}
use Rattle.rdf_core.specs.SessionLaws.{same_self}
use Rattle.plan_lang.specs.LineText.{same_node}
use Rattle.rdf_system.specs.declared.racks.Racks.{Racks}
use Rattle.rdf_system.specs.declared.fault.StartFault.{StartFault}
use Rattle.rdf_system.specs.declared.fault.StartFault.TheVariants as start
use Rattle.rdf_system.specs.Place.{is_used, disk_at}
use Rattle.rdf_system.specs.Starting.{AreBlank, IsJudged, NamesUsed, HasFile}
use Rattle.rdf_run.specs.declared.status.Status.{Status}
use Rattle.rdf_run.specs.declared.status.Status.TheVariants as status
use Rattle.rdf_run.specs.Statuses.{ending_at, SourceAfter, SinkAfter, IsSound, IsBegun, UsesNoDisk, NamesUsedDisk}
use Rattle.rdf_monitor.specs.Output.{Output}
use Rattle.rdf_run.specs.Plans.{IsRefused, IsPerformed, RunsPlan, HadBadPlan, status_of_start}
use Rattle.rdf_run.specs.Commands.{AsksRun, knows_fuses}
use Rattle.rdf_run.specs.Making.{silent, IsMade, MakeEnds, MakesPlan}
use Rattle.command_words.specs.Forms.{Form, Run, RunDir, Make}
use Rattle.rdf_run.specs.Returned.{Returned, ReturnIn, may_fail}
use Rattle.rdf_run.specs.Quietly.{IsStill}
use Rattle.rdf_run.specs.Completeness.{WasWell, WereWell, EndsWell}

-- a count that is still did not rise
still : (old new : ℕ) → IsStill old new → Rose old new → ⊥
still old new s rose = omega (arith, s.0, rose s.1)

at_itself : (e : Ending) (node : Node) (disk : ℕ) → (if same_node node node && disk == disk then e else Fine) ≡ e
at_itself e node disk = ap (λ b. if b then e else Fine) (ap₂ (λ x y. x && y) (same_self node) (eq-eqb disk disk refl))

module _ {D : Type 0} (counts : D → Counts) where
  -- a disk that was well did not fail
  no_fault : (behind : Bool) (x y : Option D) → IfBoth (λ a b. WasWell (counts a) (counts b)) x y → Returned counts behind Fault x y → ⊥
  no_fault behind None None w r = cc
  no_fault behind None (Some b) w r = r
  no_fault behind (Some a) None w r = r
  no_fault false (Some a) (Some b) w r = still (counts a).faults (counts b).faults w.faults r.1
  no_fault true (Some a) (Some b) w r = still (counts a).faults (counts b).faults w.faults r.1

  -- and did not stop
  no_stop : (x y : Option D) → IfBoth (λ a b. WasWell (counts a) (counts b)) x y → Returned counts false Stop x y → ⊥
  no_stop None None w r = cc
  no_stop None (Some b) w r = r
  no_stop (Some a) None w r = r
  no_stop (Some a) (Some b) w r = still (counts a).stops (counts b).stops w.stops (r.rose w.on)

-- a disk that is blank has no file
no_file : {D : Type 0} (files : D → Disk) (o : Option D) → IfSome o (λ d. IsBlank (files d)) → IsSomeAnd o (λ d. HasFile (files d)) → ⊥
no_file files None b h = h
no_file files (Some d) b h = h.1 (b h.0)

-- two layouts with the same header have the same nodes, and use the same disks
same_nodes : (a b : Layout) → heading_of a ≡ heading_of b → (node : Node) → is_node a node ≡ is_node b node
same_nodes a b e A = refl
same_nodes a b e B = refl
same_nodes a b e C = ap (λ k. nat_le 2 k) (ap (λ (h : Heading). h.backups) e)

used_same : (a b : Layout) → heading_of a ≡ heading_of b → (node : Node) (i : ℕ) → is_used a node i ≡ is_used b node i
used_same a b e node i = ap₂ (λ x y. x && y) (same_nodes a b e node) (ap (λ n. nat_lt i (suc n)) (ap (λ (h : Heading). h.volumes) e))

-- the same bytes are read as plans with the same header
read_same : (fuses : Bool) (bytes : List ℕ) (p q : Plan) → Reads fuses bytes p → Reads fuses bytes q → heading_of p.layout ≡ heading_of q.layout
read_same fuses bytes p q h k = ap (λ (x : Heading × List Line). x.0) (parts (sym h ∙ k))
  where
    parts : ◌≡◌ {A = Result (Heading × List Line) BadLine} (Ok (heading_of p.layout, p.lines)) (Ok (heading_of q.layout, q.lines)) → ◌≡◌ {A = Heading × List Line} (heading_of p.layout, p.lines) (heading_of q.layout, q.lines)
    parts e = cc

-- what is read as a plan is not bad
read_not_bad : (fuses : Bool) (bytes : List ℕ) (p : Plan) (line : ℕ) (why : PlanWhy) → Reads fuses bytes p → IsBad fuses bytes line why → ⊥
read_not_bad fuses bytes p line why h k = never (sym h ∙ k)
  where
    never : ◌≡◌ {A = Result (Heading × List Line) BadLine} (Ok (heading_of p.layout, p.lines)) (Err (record { line = line; why = why })) → ⊥
    never e = cc

-- blank disks are not told to be used
module _ {D : Type 0} (files : D → Disk) (layout : Layout) (racks : Racks D) (blank : AreBlank files layout (disk_at racks)) where
  not_used : (why : StartFault) (node : Node) (disk : ℕ) → status.NotBlank node disk ≡ status_of_start why → NamesUsed layout why → IsJudged files layout (disk_at racks) why → ⊥
  not_used (start.NotBlank named i) node disk e used judged = no_file files (disk_at racks named i) (blank named i used) judged.has
  not_used (start.Stopped named i) node disk e used judged = cc
  not_used (start.Failed named i) node disk e used judged = cc
  not_used start.NoMemory node disk e used judged = cc

  pub never_refused : (out : Output) (tells : Type 0) (counts : D → Counts) (of : Layout) (now_racks : Racks D) (node : Node) (disk : ℕ) → tells → of ≡ layout →
      IsRefused out tells files counts of (status.NotBlank node disk) racks now_racks → ⊥
  never_refused out tells counts of now_racks node disk t same r =
      not_used r.why node disk r.is (subst (λ (l : Layout). NamesUsed l r.why) same r.named) (subst (λ (l : Layout). IsJudged files l (disk_at racks) r.why) same (r.judged t))

-- blank by one header, blank by the other
pub blank_by : {D : Type 0} (files : D → Disk) (a b : Layout) (racks : Racks D) → heading_of a ≡ heading_of b → AreBlank files a (disk_at racks) → AreBlank files b (disk_at racks)
blank_by files a b racks e blank = λ node i used. blank node i (used_same a b e node i ∙ used)

-- a status that is none of the others: all is done, or memory is wanting
pub ends_well : (s : Status) → (s ≢ status.BadWords) → ((line : ℕ) (why : PlanWhy) → s ≢ status.BadPlan line why) → (s ≢ status.ReadFault) → (s ≢ status.WriteFault) → ((node : Node) (disk : ℕ) → s ≢ status.DeviceFault node disk) →
    ((node : Node) (disk file at : ℕ) → s ≢ status.Damaged node disk file at) → ((node : Node) (disk : ℕ) → s ≢ status.NotBlank node disk) → (s ≢ status.TooLong) → ((node : Node) (disk : ℕ) → s ≢ status.StoppedEarly node disk) → EndsWell s
ends_well status.Done words plan read write failed damaged blank long stopped = tt
ends_well status.NoMemory words plan read write failed damaged blank long stopped = tt
ends_well status.BadWords words plan read write failed damaged blank long stopped = words refl
ends_well (status.BadPlan line why) words plan read write failed damaged blank long stopped = plan line why refl
ends_well status.ReadFault words plan read write failed damaged blank long stopped = read refl
ends_well status.WriteFault words plan read write failed damaged blank long stopped = write refl
ends_well (status.DeviceFault node disk) words plan read write failed damaged blank long stopped = failed node disk refl
ends_well (status.Damaged node disk file at) words plan read write failed damaged blank long stopped = damaged node disk file at refl
ends_well (status.NotBlank node disk) words plan read write failed damaged blank long stopped = blank node disk refl
ends_well status.TooLong words plan read write failed damaged blank long stopped = long refl
ends_well (status.StoppedEarly node disk) words plan read write failed damaged blank long stopped = stopped node disk refl

-- a source and a sink that are still did not fail
pub not_read : (s : Status) (old new : ℕ) → IsStill old new → SourceAfter s old new → s ≢ status.ReadFault
not_read s old new h after e = still old new h (subst (λ (x : Status). SourceAfter x old new) e after).1

pub not_written : (s : Status) (old new : ℕ) → IsStill old new → SinkAfter s old new → s ≢ status.WriteFault
not_written s old new h after e = still old new h (subst (λ (x : Status). SinkAfter x old new) e after).1

-- where nothing is damaged
pub not_damaged : (s : Status) → IsSound s → (node : Node) (disk file at : ℕ) → s ≢ status.Damaged node disk file at
not_damaged s h node disk file at e = subst (λ (x : Status). IsSound x) e h

-- a run that was stopped early hides nothing of a session
unhidden : (of : Option Node) (node : Node) (disk : ℕ) → may_fail of (status.StoppedEarly node disk) node disk ≡ false
unhidden None node disk = refl
unhidden (Some n) node disk = refl

-- of used disks that were well none failed or stopped
module _ {D : Type 0} (counts : D → Counts) (layout : Layout) (s : Status) (racks now_racks : Racks D) (well : WereWell counts layout racks now_racks) (named : IsBegun s → NamesUsedDisk layout s)
    (of : Option Node) (disks : ReturnIn counts of s (disk_at racks) (disk_at now_racks)) where
  pub not_failed : (node : Node) (disk : ℕ) → s ≢ status.DeviceFault node disk
  not_failed node disk e =
      let used : is_used layout node disk ≡ true = subst (λ (x : Status). IsBegun x → NamesUsedDisk layout x) e named tt in
      let behind : Bool = may_fail of (status.DeviceFault node disk) node disk in
      let back : Returned counts behind (if same_node node node && disk == disk then Fault else Fine) (disk_at racks node disk) (disk_at now_racks node disk) =
      subst (λ (x : Status). Returned counts (may_fail of x node disk) (ending_at x node disk) (disk_at racks node disk) (disk_at now_racks node disk)) e (disks node disk) in
      no_fault counts behind (disk_at racks node disk) (disk_at now_racks node disk) (well node disk used) (subst (λ (k : Ending). Returned counts behind k (disk_at racks node disk) (disk_at now_racks node disk)) (at_itself Fault node disk) back)

  pub not_stopped : (node : Node) (disk : ℕ) → s ≢ status.StoppedEarly node disk
  not_stopped node disk e =
      let used : is_used layout node disk ≡ true = subst (λ (x : Status). IsBegun x → NamesUsedDisk layout x) e named tt in
      let back : Returned counts false (if same_node node node && disk == disk then Stop else Fine) (disk_at racks node disk) (disk_at now_racks node disk) =
      subst (λ b. Returned counts b (if same_node node node && disk == disk then Stop else Fine) (disk_at racks node disk) (disk_at now_racks node disk)) (unhidden of node disk)
      (subst (λ (x : Status). Returned counts (may_fail of x node disk) (ending_at x node disk) (disk_at racks node disk) (disk_at now_racks node disk)) e (disks node disk)) in
      no_stop counts (disk_at racks node disk) (disk_at now_racks node disk) (well node disk used) (subst (λ (k : Ending). Returned counts false k (disk_at racks node disk) (disk_at now_racks node disk)) (at_itself Stop node disk) back)

-- the disk that a refusal names is used
refused_names : (layout : Layout) (why : StartFault) → NamesUsed layout why → NamesUsedDisk layout (status_of_start why)
refused_names layout (start.NotBlank node disk) used = used
refused_names layout (start.Stopped node disk) used = used
refused_names layout (start.Failed node disk) used = used
refused_names layout start.NoMemory used = tt

-- used by one header, used by the other
names_by : (a b : Layout) (s : Status) → heading_of a ≡ heading_of b → NamesUsedDisk a s → NamesUsedDisk b s
names_by a b (status.DeviceFault node disk) e used = sym (used_same a b e node disk) ∙ used
names_by a b (status.NotBlank node disk) e used = sym (used_same a b e node disk) ∙ used
names_by a b (status.StoppedEarly node disk) e used = sym (used_same a b e node disk) ∙ used
names_by a b status.Done e used = tt
names_by a b status.BadWords e used = tt
names_by a b (status.BadPlan line why) e used = tt
names_by a b status.ReadFault e used = tt
names_by a b status.WriteFault e used = tt
names_by a b status.NoMemory e used = tt
names_by a b (status.Damaged node disk file at) e used = sym (used_same a b e node disk) ∙ used
names_by a b status.TooLong e used = tt

-- the disk that the status of a run or of a generated plan names is one that the plan uses
pub run_names : {D : Type 0} (out : Output) (source_tells tells : Type 0) (files : D → Disk) (counts : D → Counts) (p plan : Plan) (s : Status) (left now_left : List ℕ) (racks now_racks : Racks D) →
    source_tells → RunsPlan out source_tells tells files counts p s left now_left racks now_racks → Reads true left plan → NamesUsedDisk plan.layout s
run_names out source_tells tells files counts p plan s left now_left racks now_racks st r reads = names_by p.layout plan.layout s (read_same true left p plan (r.took.reads st) reads) (by_ends r.ends)
  where
    by_ends : IsRefused out tells files counts p.layout s racks now_racks ⊎ IsPerformed out tells files counts p s racks now_racks → NamesUsedDisk p.layout s
    by_ends (inl h) = subst (λ (x : Status). NamesUsedDisk p.layout x) (sym h.is) (refused_names p.layout h.why h.named)
    by_ends (inr h) = h.named

pub make_names : {D : Type 0} (sink_tells tells : Type 0) (files : D → Disk) (counts : D → Counts) (plan : Plan) (s : Status) (written now_written : List ℕ) (racks now_racks : Racks D) →
    MakesPlan sink_tells tells files counts plan s written now_written racks now_racks → NamesUsedDisk plan.layout s
make_names sink_tells tells files counts plan s written now_written racks now_racks (inl (inl h)) = subst (λ (x : Status). NamesUsedDisk plan.layout x) (sym h.is) (refused_names plan.layout h.why h.named)
make_names sink_tells tells files counts plan s written now_written racks now_racks (inl (inr h)) = h.named
make_names sink_tells tells files counts plan s written now_written racks now_racks (inr h) = subst (λ (x : Status). NamesUsedDisk plan.layout x) (sym h.0) tt

-- a plan that was taken is not told to be over disks that are used
pub runs_not_used : {D : Type 0} (out : Output) (source_tells tells : Type 0) (files : D → Disk) (counts : D → Counts) (p plan : Plan) (s : Status) (left now_left : List ℕ) (racks now_racks : Racks D) (node : Node) (disk : ℕ) →
    source_tells → tells → s ≡ status.NotBlank node disk → RunsPlan out source_tells tells files counts p s left now_left racks now_racks → Reads true left plan → AreBlank files plan.layout (disk_at racks) → ⊥
runs_not_used out source_tells tells files counts p plan s left now_left racks now_racks node disk st t e r reads blank = by_ends r.ends
  where
    blank_there : AreBlank files p.layout (disk_at racks)
    blank_there = blank_by files plan.layout p.layout racks (read_same true left plan p reads (r.took.reads st)) blank

    by_ends : IsRefused out tells files counts p.layout s racks now_racks ⊎ IsPerformed out tells files counts p s racks now_racks → ⊥
    by_ends (inl h) = never_refused files p.layout racks blank_there out tells counts p.layout now_racks node disk t refl (subst (λ (x : Status). IsRefused out tells files counts p.layout x racks now_racks) e h)
    by_ends (inr h) = (subst (λ (x : Status). IsPerformed out tells files counts p x racks now_racks) e h).ends

-- nor is a generated plan
pub makes_not_used : {D : Type 0} (sink_tells tells : Type 0) (files : D → Disk) (counts : D → Counts) (plan : Plan) (s : Status) (written now_written : List ℕ) (racks now_racks : Racks D) (node : Node) (disk : ℕ) →
    tells → s ≡ status.NotBlank node disk → MakesPlan sink_tells tells files counts plan s written now_written racks now_racks → AreBlank files plan.layout (disk_at racks) → ⊥
makes_not_used sink_tells tells files counts plan s written now_written racks now_racks node disk t e m blank = by_ends m
  where
    no_memory : status.NotBlank node disk ≡ status.NoMemory → ⊥
    no_memory q = cc

    by_ends : MakesPlan sink_tells tells files counts plan s written now_written racks now_racks → ⊥
    by_ends (inl (inl h)) = never_refused files plan.layout racks blank (silent written now_written) tells counts plan.layout now_racks node disk t refl (subst (λ (x : Status). IsRefused (silent written now_written) tells files counts plan.layout x racks now_racks) e h)
    by_ends (inl (inr h)) = (subst (λ (x : Status). IsMade sink_tells tells files counts plan x written now_written racks now_racks) e h).ends
    by_ends (inr h) = no_memory (sym e ∙ h.0)

-- words that ask for a run are words, and know fuses
pub asks_some : (asked : Option Form) → AsksRun asked → asked ≡ None → ⊥
asks_some asked asks e = subst (λ (o : Option Form). AsksRun o) e asks

pub asks_fuses : (asked : Option Form) → AsksRun asked → knows_fuses asked ≡ true
asks_fuses (Some Run) asks = refl
asks_fuses (Some (RunDir dir)) asks = refl
asks_fuses _ asks = absurd asks

-- a status that tells of no disk
module _ (s : Status) (h : UsesNoDisk s) where
  pub diskless_failed : (node : Node) (disk : ℕ) → s ≢ status.DeviceFault node disk
  diskless_failed node disk e = subst (λ (x : Status). UsesNoDisk x) e h

  pub diskless_damaged : (node : Node) (disk file at : ℕ) → s ≢ status.Damaged node disk file at
  diskless_damaged node disk file at e = subst (λ (x : Status). UsesNoDisk x) e h

  pub diskless_blank : (node : Node) (disk : ℕ) → s ≢ status.NotBlank node disk
  diskless_blank node disk e = subst (λ (x : Status). UsesNoDisk x) e h

  pub diskless_stopped : (node : Node) (disk : ℕ) → s ≢ status.StoppedEarly node disk
  diskless_stopped node disk e = subst (λ (x : Status). UsesNoDisk x) e h

-- a source that has a plan is not too long, and has no bad line
pub not_long : (n : ℕ) → n ≤ 1048576 → 1048576 < n → ⊥
not_long n few long = omega (arith, few, long)

pub not_bad : (fuses : Bool) (left now_left : List ℕ) (plan : Plan) (line : ℕ) (why : PlanWhy) → Reads fuses left plan → HadBadPlan fuses line why left now_left → ⊥
not_bad fuses left now_left plan line why reads h = read_not_bad fuses left plan line why reads h.bad

-- of a generated plan no other status comes
pub made_begun : {D : Type 0} (sink_tells tells : Type 0) (files : D → Disk) (counts : D → Counts) (plan : Plan) (s : Status) (written now_written : List ℕ) (racks now_racks : Racks D) →
    MakesPlan sink_tells tells files counts plan s written now_written racks now_racks → IsBegun s
made_begun sink_tells tells files counts plan s written now_written racks now_racks (inl (inl h)) = subst (λ (x : Status). IsBegun x) (sym h.is) (refused_begun h.why)
  where
    refused_begun : (why : StartFault) → IsBegun (status_of_start why)
    refused_begun (start.NotBlank node disk) = tt
    refused_begun (start.Stopped node disk) = tt
    refused_begun (start.Failed node disk) = tt
    refused_begun start.NoMemory = tt
made_begun sink_tells tells files counts plan s written now_written racks now_racks (inl (inr h)) = by_status s h.ends
  where
    by_status : (x : Status) → MakeEnds x sink_tells tells files counts plan written now_written racks now_racks → IsBegun x
    by_status status.Done m = tt
    by_status status.WriteFault m = tt
    by_status status.NoMemory m = tt
    by_status (status.DeviceFault node disk) m = tt
    by_status (status.Damaged node disk file at) m = tt
    by_status status.BadWords m = m
    by_status (status.BadPlan line why) m = m
    by_status status.ReadFault m = m
    by_status (status.NotBlank node disk) m = tt
    by_status status.TooLong m = m
    by_status (status.StoppedEarly node disk) m = tt
made_begun sink_tells tells files counts plan s written now_written racks now_racks (inr h) = subst (λ (x : Status). IsBegun x) (sym h.0) tt

-- words ask for one generated plan
pub same_load : (asked : Option Form) (s t m n : ℕ) → asked ≡ Some (Make s t) → asked ≡ Some (Make m n) → (s ≡ m) × (t ≡ n)
same_load asked s t m n e h = (first (sym e ∙ h), second (sym e ∙ h))
  where
    first : Some (Make s t) ≡ Some (Make m n) → s ≡ m
    first q = cc

    second : Some (Make s t) ≡ Some (Make m n) → t ≡ n
    second q = cc
