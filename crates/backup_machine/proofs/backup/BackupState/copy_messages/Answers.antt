use Rattle.std.proofs.Common.{◌+◌, ◌-◌, sym, ◌∙◌, arith}
use Rattle.backup_machine.specs.Kept.{backup_of}
use Rattle.backup_machine.proofs.StoreLaws.{longer_twice, rest_none, rest_spent, rest_turn}
use Rattle.backup_machine.proofs.backup.BackupState.copy_messages.Goals as goal
use Rattle.backup_machine.proofs.backup.BackupState.copy_messages.Goals.{then-upto-self-via-then-upto-self, then-upto-self-via-else-upto-self+then-is_spent}

pub returns-then-upto-self-clause-ok : goal.returns-then-upto-self-clause-ok
returns-then-upto-self-clause-ok c =
    let l = c.loop-message in
    elim c.then-upto-self.branch [
      | then-upto-self-via-then-upto-self w ↦ rest_none c.args.layout.now c.args.upto (c.args.upto - l._message) l.self.received (backup_of l.self) l.left w.if-upto-self.true ∙ sym l.invariant.more
      | then-upto-self-via-else-upto-self+then-is_spent w ↦
          rest_spent c.args.layout.now c.args.upto (c.args.upto - l._message) l.self.received (backup_of l.self) l.left (sym w.is_spent.ensures ∙ w.if-is_spent.true) ∙ sym l.invariant.more
    ]

pub loop-message-preserved : goal.loop-message-preserved
loop-message-preserved c =
    let l = c.loop-message in
    record {
      more = l.invariant.more
          ∙ rest_turn c.args.layout.now c.args.upto (c.args.upto - l._message) (c.args.upto - (l._message + 1)) (backup_of l.self) (backup_of c.store.new.self) l.left c.in_ok-left.left c.min-to.result
          (omega (arith, c.loop-message-test.true)) (omega (arith, c.if-upto-self.false)) (omega (arith, c.min-to.ensures, c.saturating_add.ensures, c.ranges.upto.fits)) c.in_ok-left.ensures.ok c.in_ok-left.ensures.left
          (λ h. c.in_ok-left.ensures.reached h (omega (arith, c.if-upto-self.false, c.min-to.ensures, c.saturating_add.ensures, c.ranges.upto.fits)));
      longer = longer_twice c.args.self.now l.self c.store.new.self l.invariant.longer c.in_ok-left.ensures.longer;
    }
