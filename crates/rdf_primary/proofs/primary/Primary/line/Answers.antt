use Rattle.std.proofs.Common.{List, length, refl, sym, ap, ◌∙◌}
use Rattle.rdf_types.specs.declared.records.Node.TheVariants.{A}
use Rattle.rdf_types.specs.declared.records.Record.{Record}
use Rattle.plan_lang.specs.declared.lines.Line.TheVariants as line
use Rattle.rdf_core.specs.declared.replies.Reply.{Reply}
use Rattle.rdf_core.specs.declared.replies.Reply.TheVariants.{Number, Rows}
use Rattle.rdf_core.specs.Primary.{got}
use Rattle.rdf_primary.proofs.Answering.{did, not_did, numbers, status_told, is_status, no_disk}
use Rattle.rdf_primary.proofs.MeetsLaws.{begins, inserts, updates, deletes, gets, commits, aborts, lists}
use Rattle.rdf_primary.proofs.primary.Primary.line.Goals as goal

pub returns-in-Ok : goal.returns-in-Ok
returns-in-Ok g c = rw c.in-Begin.is (did c.line_keeps_proper.ensures g.D.Disk.files (line.Begin c.in-Begin.txn) _ _ _ _ _ c.args.self.now (record { tmf = c.begin.new.self }) c.requires.up (begins c.args.self.now c.requires.up c.in-Begin.txn) g.D.Disk.tells g.D.Disk.counts c.requires.runs
    tt _ c.in-Ok.ensures.does refl tt (λ tells stops. refl) (λ none. c.in-Ok.ensures.store))

pub returns-in-Err : goal.returns-in-Err
returns-in-Err g c = rw c.in-Begin.is (not_did c.line_keeps_proper.ensures g.D.Disk.files (line.Begin c.in-Begin.txn) _ _ _ _ _ c.args.self.now (record { tmf = c.begin.new.self }) c.requires.up (begins c.args.self.now c.requires.up c.in-Begin.txn) g.D.Disk.tells g.D.Disk.counts c.requires.runs
    c.in-Err.fault c.refused.result c.refused.ensures c.in-Err.ensures.does (λ none. c.in-Err.ensures.memory) (λ none. c.in-Err.ensures.store))

pub returns-in-Insert : goal.returns-in-Insert
returns-in-Insert g c = numbers c.line_keeps_proper.ensures g.D.Disk.tells g.D.Disk.files g.D.Disk.counts _ _ _ _ _ _ c.args.self.now (record { tmf = c.insert.new.self }) c.requires.up c.args.line.now c.in-Insert.is (inserts c.args.self.now c.requires.up c.in-Insert.txn c.in-Insert.key c.in-Insert.value) c.requires.runs
    c.insert.result c.numbered.result c.numbered.ensures c.insert.ensures (λ n. tt) (λ n e stops. ap (λ m. let r : Reply = Number m in r) e) A refl

pub returns-in-Update : goal.returns-in-Update
returns-in-Update g c = numbers c.line_keeps_proper.ensures g.D.Disk.tells g.D.Disk.files g.D.Disk.counts _ _ _ _ _ _ c.args.self.now (record { tmf = c.update.new.self }) c.requires.up c.args.line.now c.in-Update.is (updates c.args.self.now c.requires.up c.in-Update.txn c.in-Update.key c.in-Update.value) c.requires.runs
    c.update.result c.numbered-in-Update.result c.numbered-in-Update.ensures c.update.ensures (λ n. tt) (λ n e stops. ap (λ m. let r : Reply = Number m in r) e) A refl

pub returns-in-Delete : goal.returns-in-Delete
returns-in-Delete g c = numbers c.line_keeps_proper.ensures g.D.Disk.tells g.D.Disk.files g.D.Disk.counts _ _ _ _ _ _ c.args.self.now (record { tmf = c.delete.new.self }) c.requires.up c.args.line.now c.in-Delete.is (deletes c.args.self.now c.requires.up c.in-Delete.txn c.in-Delete.key) c.requires.runs
    c.delete.result c.numbered-in-Delete.result c.numbered-in-Delete.ensures c.delete.ensures (λ n. tt) (λ n e stops. ap (λ m. let r : Reply = Number m in r) e) A refl

pub returns-in-Ok-read : goal.returns-in-Ok-read
returns-in-Ok-read g c = rw c.in-Get.is (did c.line_keeps_proper.ensures g.D.Disk.files (line.Get c.in-Get.txn c.in-Get.key) _ _ _ _ _ c.args.self.now (record { tmf = c.read.new.self }) c.requires.up (gets c.args.self.now c.requires.up c.in-Get.txn c.in-Get.key) g.D.Disk.tells g.D.Disk.counts c.requires.runs
    c.in-Ok-read.value _ c.in-Ok-read.ensures.does refl tt (λ tells stops. sym (ap got (c.in-Ok-read.ensures.reads tells))) no_disk)

pub returns-in-Err-read : goal.returns-in-Err-read
returns-in-Err-read g c = rw c.in-Get.is (not_did c.line_keeps_proper.ensures g.D.Disk.files (line.Get c.in-Get.txn c.in-Get.key) _ _ _ _ _ c.args.self.now (record { tmf = c.read.new.self }) c.requires.up (gets c.args.self.now c.requires.up c.in-Get.txn c.in-Get.key) g.D.Disk.tells g.D.Disk.counts c.requires.runs
    c.in-Err-read.fault c.refused-in-Err-read.result c.refused-in-Err-read.ensures c.in-Err-read.ensures.does no_disk no_disk)

pub returns-in-Commit : goal.returns-in-Commit
returns-in-Commit g c = numbers c.line_keeps_proper.ensures g.D.Disk.tells g.D.Disk.files g.D.Disk.counts _ _ _ _ _ _ c.args.self.now (record { tmf = c.commit.new.self }) c.requires.up c.args.line.now c.in-Commit.is (commits c.args.self.now c.requires.up c.in-Commit.txn) c.requires.runs
    c.commit.result c.numbered-in-Commit.result c.numbered-in-Commit.ensures c.commit.ensures (λ n. tt) (λ n e stops. ap (λ m. let r : Reply = Number m in r) e) A refl

pub returns-in-Abort : goal.returns-in-Abort
returns-in-Abort g c = numbers c.line_keeps_proper.ensures g.D.Disk.tells g.D.Disk.files g.D.Disk.counts _ _ _ _ _ _ c.args.self.now (record { tmf = c.abort.new.self }) c.requires.up c.args.line.now c.in-Abort.is (aborts c.args.self.now c.requires.up c.in-Abort.txn) c.requires.runs
    c.abort.result c.numbered-in-Abort.result c.numbered-in-Abort.ensures c.abort.ensures (λ n. tt) (λ n e stops. ap (λ m. let r : Reply = Number m in r) e) A refl

pub returns-in-Ok-scan : goal.returns-in-Ok-scan
returns-in-Ok-scan g c = rw c.in-List.is (did c.line_keeps_proper.ensures g.D.Disk.files (line.List c.in-List.node c.in-List.vol) _ _ _ _ _ c.args.self.now (record { tmf = c.scan.new.self }) c.requires.up (lists c.args.self.now c.requires.up c.in-List.node c.in-List.vol) g.D.Disk.tells g.D.Disk.counts c.requires.runs
    c.in-Ok-scan.rows _ c.in-Ok-scan.ensures.does refl tt
    (λ tells stops. (
      c.new.result,
      ap (λ m. let r : Reply = Rows m c.new.result in r) (c.len.ensures ∙ ap (λ t. length t.records.items) c.trail.ensures ∙ ap (λ (t : List Record). length t) (c.in-Ok-scan.ensures.does.leaves tells).trail_is),
      record { map_of = (c.in-Ok-scan.ensures.rows tells).map_of; on = (c.in-Ok-scan.ensures.rows tells).are_on; listed = c.new.ensures ∙ (c.in-Ok-scan.ensures.rows tells).listed },
    )) no_disk)

pub returns-in-Err-scan : goal.returns-in-Err-scan
returns-in-Err-scan g c = rw c.in-List.is (not_did c.line_keeps_proper.ensures g.D.Disk.files (line.List c.in-List.node c.in-List.vol) _ _ _ _ _ c.args.self.now (record { tmf = c.scan.new.self }) c.requires.up (lists c.args.self.now c.requires.up c.in-List.node c.in-List.vol) g.D.Disk.tells g.D.Disk.counts c.requires.runs
    c.in-Err-scan.fault c.refused-in-Err-scan.result c.refused-in-Err-scan.ensures c.in-Err-scan.ensures.does no_disk no_disk)

pub returns-in_default : goal.returns-in_default
returns-in_default g c = status_told g.D.Disk.tells g.D.Disk.files g.D.Disk.counts c.args.self.now c.requires.up c.requires.runs c.args.line.now
    (is_status c.args.line.now c.requires.answered (λ t e. c.in_default.not-Begin t e) (λ t k value e. c.in_default.not-Insert t k value e) (λ t k value e. c.in_default.not-Update t k value e) (λ t k e. c.in_default.not-Delete t k e)
    (λ t k e. c.in_default.not-Get t k e) (λ t e. c.in_default.not-Commit t e) (λ t e. c.in_default.not-Abort t e) (λ node vol e. c.in_default.not-List node vol e))
    c.len-in_default.result c.active.result (c.len-in_default.ensures ∙ ap (λ t. length t.records.items) c.trail-in_default.ensures) (λ tells. c.active.ensures tells c.requires.up)
