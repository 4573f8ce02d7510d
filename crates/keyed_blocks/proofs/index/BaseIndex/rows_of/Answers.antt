use Rattle.std.proofs.lemmas.Result.{IfOk-weaker}
use Rattle.keyed_blocks.proofs.IndexLaws.{has_rows, block_read, entry_here}
use Rattle.keyed_blocks.proofs.index.BaseIndex.rows_of.Goals as goal

pub rows_at-requires : goal.rows_at-requires
rows_at-requires g c = record {
  rows = λ tells. has_rows c.args.self.now c.args.log.now (g.D.Disk.files c.args.disk.now) c.args.block c.index.result.now (c.requires.base tells)
      (entry_here c.args.self.now c.self.inside.entries.items c.args.block c.index.result.now c.self.view_is c.requires.within c.index.ensures);
}

pub returns-clause-ok : goal.returns-clause-ok
returns-clause-ok g c = λ tells. IfOk-weaker c.rows_at.result _ _ (λ rows is all payloads rest x.
    block_read c.args.self.now all payloads x c.args.block c.index.result.now
    (entry_here c.args.self.now c.self.inside.entries.items c.args.block c.index.result.now c.self.view_is c.requires.within c.index.ensures)
    rows.items (λ one at. is payloads one rest at)) (c.rows_at.ensures.ok tells)

pub returns-clause-damaged : goal.returns-clause-damaged
returns-clause-damaged g c = λ f p is.
    let d = c.rows_at.ensures.damaged f p is in (
      d.0,
      record {
        entry = c.index.result.now;
        number = c.args.block;
        here = entry_here c.args.self.now c.self.inside.entries.items c.args.block c.index.result.now c.self.view_is c.requires.within c.index.ensures;
        at_is = d.1;
      },
    )
