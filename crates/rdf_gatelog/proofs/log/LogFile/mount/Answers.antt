use Rattle.std.proofs.Common.{◌≡◌, [], ◌∙◌, ◌≤◌, ℕ, length, sym}
use Rattle.std.proofs.lemmas.Result.{err_from_is_err_and}
use Rattle.rdf_disk.specs.AnswerLaws.{passed_on}
use Rattle.rdf_disk.specs.Outcomes.{Narrows}
use Rattle.rdf_disk.specs.OutcomeLaws.{syncs_narrows, looks_narrows}
use Rattle.rdf_gatelog.proofs.FirstGateLaws.{refused}
use Rattle.rdf_gatelog.proofs.MountLaws.{keeps_narrows, narrows_two, looked, gated_keeps, gated_mounted, gated_others, mounted, damaged, as_long}
use Rattle.std.proofs.Common.{List, Vec, ap, map, subst}
use Rattle.std.specs.declared.alloc.Global.{Global}
use Rattle.rdf_gatelog.specs.LogPlace.{LogPlace}
use Rattle.rdf_gatelog.specs.Parsed.{IsParsed}
use Rattle.rdf_gatelog.specs.Log.{IsBroken, payloads_of}
use Rattle.rdf_gatelog.specs.LogCalls.{KeepsLogs, Mounted}
use Rattle.rdf_gatelog.specs.LogLaws.{log_not_damaged}
use Rattle.rdf_gatelog.proofs.log.LogFile.mount.Given.{Over}
use Rattle.rdf_gatelog.proofs.log.LogFile.mount.Goals.{After-len, After-close_first_gate, After-read_whole, After-deref}
use Rattle.rdf_gatelog.proofs.log.LogFile.mount.Goals as goal

-- what may be of the files once the length was looked at, and once the bytes were read
at_length : (g : Over) (c : After-len g) → g.D.Disk.tells → (m : ℕ) → Narrows (g.D.Disk.files c.args.disk.now m) (g.D.Disk.files c.len.new.self m)
at_length g c tells = looked c.sync.result c.len.result _ _ _ (c.sync.ensures.files tells) (c.len.ensures.files tells)

at_bytes : (g : Over) (c : After-read_whole g) → g.D.Disk.tells → (m : ℕ) → Narrows (g.D.Disk.files c.args.disk.now m) (g.D.Disk.files c.read_whole.new.disk m)
at_bytes g c tells = narrows_two _ _ _ (looked c.sync.result c.len.result _ _ _ (c.sync.ensures.files tells) (c.len.ensures.files tells)) (looks_narrows c.read_whole.result _ _ (c.read_whole.ensures.files tells))

-- what is kept of a file of at most one byte, whatever the closing of its gate answered
gate_keeps : (g : Over) (c : After-close_first_gate g) → g.D.Disk.tells → KeepsLogs (g.D.Disk.files c.args.disk.now) (g.D.Disk.files c.close_first_gate.new.disk)
gate_keeps g c tells = gated_keeps c.args.file _ _ _ (c.in_ok-sync.ensures.files tells) (c.in_ok-len.ensures.files tells) c.in-Some.len (sym (c.in_ok-len.ensures.ok tells) ∙ c.in-Some.is) c.if-len-le1.true _ (c.close_first_gate.ensures.others tells) (c.close_first_gate.ensures.this tells)

-- the bytes that were read are as many as the length told
long : (g : Over) (c : After-deref g) → g.D.Disk.tells → 2 ≤ length c.in_ok-bytes.bytes.items
long g c tells = as_long c.args.file (g.D.Disk.files c.args.disk.now) (g.D.Disk.files c.sync.new.self) (g.D.Disk.files c.len.new.self) (c.in_ok-sync.ensures.files tells) (c.in_ok-len.ensures.files tells) c.in_ok-bytes.bytes.items c.in-Some.len (c.in_ok-bytes.ensures.ok tells) (sym (c.in_ok-len.ensures.ok tells) ∙ c.in-Some.is) c.if-len-le1.false

pub returns-in_err-sync-clause-files : goal.returns-in_err-sync-clause-files
returns-in_err-sync-clause-files g c = λ tells. refused _ _ _ c.from_residual.result c.from_residual.ensures.1 (λ m other. syncs_narrows c.sync.result _ _ (c.sync.ensures.files tells) m)

pub returns-in_err-sync-clause-keeps : goal.returns-in_err-sync-clause-keeps
returns-in_err-sync-clause-keeps g c = λ tells. keeps_narrows _ _ (syncs_narrows c.sync.result _ _ (c.sync.ensures.files tells))

pub returns-in_err-len-clause-files : goal.returns-in_err-len-clause-files
returns-in_err-len-clause-files g c = λ tells. refused _ _ _ c.from_residual-in_err-len.result c.from_residual-in_err-len.ensures.1 (λ m other. at_length g (goal.at.returns-in_err-len-clause-files g c).After-len tells m)

pub returns-in_err-len-clause-keeps : goal.returns-in_err-len-clause-keeps
returns-in_err-len-clause-keeps g c = λ tells. keeps_narrows _ _ (at_length g (goal.at.returns-in_err-len-clause-keeps g c).After-len tells)

pub returns-in_default-clause-keeps : goal.returns-in_default-clause-keeps
returns-in_default-clause-keeps g c = λ tells. keeps_narrows _ _ (at_length g (goal.at.returns-in_default-clause-keeps g c).After-len tells)

pub returns-in_err-close_first_gate-clause-files : goal.returns-in_err-close_first_gate-clause-files
returns-in_err-close_first_gate-clause-files g c = λ tells. refused _ _ _ c.from_residual-in_err-close_first_gate.result c.from_residual-in_err-close_first_gate.ensures.1 (gated_others c.args.file _ _ _ (c.in_ok-sync.ensures.files tells) (c.in_ok-len.ensures.files tells) _ (c.close_first_gate.ensures.others tells))

pub returns-in_err-close_first_gate-clause-keeps : goal.returns-in_err-close_first_gate-clause-keeps
returns-in_err-close_first_gate-clause-keeps g c = λ tells. gate_keeps g (goal.at.returns-in_err-close_first_gate-clause-keeps g c).After-close_first_gate tells

pub returns-then-len-le1-clause-files : goal.returns-then-len-le1-clause-files
returns-then-len-le1-clause-files g c = λ tells.
    let none : [] ≡ payloads_of c.new.result = ap (λ (l : List (Vec ℕ Global)). map (λ v. v.items) l) (sym c.new.ensures.items) in
    let end_is : 0 ≡ c.at.result.end = sym (ap (λ (l : LogPlace). l.end) c.at.ensures) in
    let closed = gated_mounted c.args.file (g.D.Disk.files c.args.disk.now) (g.D.Disk.files c.sync.new.self) (g.D.Disk.files c.len.new.self) (c.in_ok-sync.ensures.files tells) (c.in_ok-len.ensures.files tells) c.in-Some.len (sym (c.in_ok-len.ensures.ok tells) ∙ c.in-Some.is) c.if-len-le1.true (g.D.Disk.files c.close_first_gate.new.disk) (c.in_ok-close_first_gate.ensures.ok tells) in
    subst (λ (ps : List (List ℕ)). Mounted c.args.file c.at.result.end ps (g.D.Disk.files c.args.disk.now) (g.D.Disk.files c.close_first_gate.new.disk)) none
    (subst (λ (n : ℕ). Mounted c.args.file n [] (g.D.Disk.files c.args.disk.now) (g.D.Disk.files c.close_first_gate.new.disk)) end_is closed)

pub returns-then-len-le1-clause-keeps : goal.returns-then-len-le1-clause-keeps
returns-then-len-le1-clause-keeps g c = λ tells. gate_keeps g (goal.at.returns-then-len-le1-clause-keeps g c).After-close_first_gate tells

pub returns-in_err-bytes-clause-files : goal.returns-in_err-bytes-clause-files
returns-in_err-bytes-clause-files g c = λ tells. refused _ _ _ c.from_residual-in_err-bytes.result c.from_residual-in_err-bytes.ensures.1 (λ m other. at_bytes g (goal.at.returns-in_err-bytes-clause-files g c).After-read_whole tells m)

pub returns-in_err-bytes-clause-keeps : goal.returns-in_err-bytes-clause-keeps
returns-in_err-bytes-clause-keeps g c = λ tells. keeps_narrows _ _ (at_bytes g (goal.at.returns-in_err-bytes-clause-keeps g c).After-read_whole tells)

pub returns-in_err-payloads-clause-keeps : goal.returns-in_err-payloads-clause-keeps
returns-in_err-payloads-clause-keeps g c = λ tells. keeps_narrows _ _ (at_bytes g (goal.at.returns-in_err-payloads-clause-keeps g c).After-read_whole tells)

pub returns-in_err-payloads-clause-damaged : goal.returns-in_err-payloads-clause-damaged
returns-in_err-payloads-clause-damaged g c = λ tells f at is.
    let r = err_from_is_err_and c.from_residual-in_err-payloads.result c.from_residual-in_err-payloads.ensures.1 in
    let whole : 2 ≤ length c.in_ok-bytes.bytes.items = long g (goal.at.returns-in_err-payloads-clause-damaged g c).After-deref tells in
    let here = c.in_err-payloads.ensures.damaged (subst (λ (l : List ℕ). 2 ≤ length l) (sym c.deref.ensures.value) whole) f at (passed_on _ _ r.0 _ r.1 r.2 is) in
    (here.0, damaged c.args.file (g.D.Disk.files c.args.disk.now) (g.D.Disk.files c.sync.new.self) (g.D.Disk.files c.len.new.self) (c.in_ok-sync.ensures.files tells) (c.in_ok-len.ensures.files tells) c.in_ok-bytes.bytes.items (c.in_ok-bytes.ensures.ok tells) whole at (subst (λ (l : List ℕ). IsBroken l at) c.deref.ensures.value here.1))

pub returns-in_err-payloads-clause-whole : goal.returns-in_err-payloads-clause-whole
returns-in_err-payloads-clause-whole g c = λ tells ps log f at is.
    log_not_damaged ps (g.D.Disk.files c.args.disk.now c.args.file).seen at log (returns-in_err-payloads-clause-damaged g c tells f at is).1

pub returns-clause-files : goal.returns-clause-files
returns-clause-files g c = λ tells.
    let whole : 2 ≤ length c.in_ok-bytes.bytes.items = long g (goal.at.returns-clause-files g c).After-deref tells in
    let parsed : IsParsed c.in_ok-bytes.bytes.items (payloads_of c.in_ok-payloads.payloads) c.in_ok-payloads.end =
    subst (λ (l : List ℕ). IsParsed l (payloads_of c.in_ok-payloads.payloads) c.in_ok-payloads.end) c.deref.ensures.value (c.in_ok-payloads.ensures.ok (subst (λ (l : List ℕ). 2 ≤ length l) (sym c.deref.ensures.value) whole)) in
    let end_is : c.in_ok-payloads.end ≡ c.at-2.result.end = sym (ap (λ (l : LogPlace). l.end) c.at-2.ensures) in
    subst (λ (n : ℕ). Mounted c.args.file n (payloads_of c.in_ok-payloads.payloads) (g.D.Disk.files c.args.disk.now) (g.D.Disk.files c.read_whole.new.disk)) end_is
    (mounted c.args.file (g.D.Disk.files c.args.disk.now) (g.D.Disk.files c.sync.new.self) (g.D.Disk.files c.len.new.self) (c.in_ok-sync.ensures.files tells) (c.in_ok-len.ensures.files tells) c.in_ok-bytes.bytes.items (c.in_ok-bytes.ensures.ok tells) whole (payloads_of c.in_ok-payloads.payloads) c.in_ok-payloads.end (g.D.Disk.files c.read_whole.new.disk) parsed (c.in_ok-bytes.ensures.files tells))

pub returns-clause-keeps : goal.returns-clause-keeps
returns-clause-keeps g c = λ tells. keeps_narrows _ _ (at_bytes g (goal.at.returns-clause-keeps g c).After-read_whole tells)
