use Rattle.std.proofs.Common.{List, ℕ, rules, sym, subst}
use Rattle.rdf_gatelog.specs.LogCauses.{NotDamaged}
use Rattle.rdf_disk.specs.AnswerLaws.{on_err}
use Rattle.rdf_volume.specs.Base.{Kept}
use Rattle.rdf_volume.specs.InUse.{IsTable}
use Rattle.rdf_volume.proofs.TableLaws.{tabled_behind}
use Rattle.rdf_volume.proofs.volume.Volume.checkpoint.Goals as goal

pub returns-in_err-drop_old : goal.returns-in_err-drop_old
returns-in_err-drop_old g c =
    let kept : Kept = record { file = c.args.self.now.log.file; rows = c.args.self.now.table.shown.rows; restart = c.args.self.now.restart } in
    let calm : NotDamaged c.from_residual-in_err-drop_old.result = search rules in
    record { does = record { ok = search rules; err = λ tells. on_err c.from_residual-in_err-drop_old.result _ (c.in_err-drop_old.ensures.err tells c.in_ok-log.log.end kept (c.in_ok-log.ensures.ok tells).0 c.file-old.ensures.file); cause = search rules }; rows = search rules; restart = search rules; batches = search rules; file = search rules; sound = λ tells. calm; names = λ damaged at e. absurd (calm damaged at e) }

pub returns : goal.returns
returns g c =
    let kept : Kept = record { file = c.args.self.now.log.file; rows = c.args.self.now.table.shown.rows; restart = c.args.self.now.restart } in
    record {
      does = record {
        ok = λ tells.
            let r = c.in_ok-log.ensures.ok tells in
            let d = c.in_ok-drop_old.ensures.ok tells c.in_ok-log.log.end kept r.0 c.file-old.ensures.file in
            tabled_behind (g.D.Disk.files c.drop_old.new.disk) c.file-old.result c.in_ok-log.log.file c.in_ok-log.log.end c.rest_on.new.self c.args.self.now.table.shown.rows c.args.self.now.restart
            (search rules) c.rest_on.ensures.shown d.0 (subst (λ (l : List (List ℕ)). IsTable c.rest_on.new.self l) (sym d.1) (c.rest_on.ensures.table r.0.log.payloads r.1));
        err = search rules;
        cause = search rules;
      };
      rows = search rules;
      restart = search rules;
      batches = search rules;
      file = search rules;
      sound = λ tells damaged at e. cc;
      names = λ damaged at e. cc;
    }
