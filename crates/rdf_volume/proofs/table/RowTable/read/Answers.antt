use Rattle.std.proofs.Common.{◌≡◌, ℕ, Some, List, ◌∷◌, take, slice_get, ap, subst, sym, ◌∙◌}
use Rattle.keyed_blocks.specs.Bases.{block_rows}
use Rattle.rdf_volume.specs.declared.block_cache.BlockRead.{BlockRead}
use Rattle.rdf_volume.proofs.TableLaws.{kept_more}
use Rattle.rdf_volume.proofs.table.RowTable.read.Goals as goal

pub returns-clause-table : goal.returns-clause-table
returns-clause-table g c = λ tells payloads rest t. record {
  base = t.base;
  indexes = t.indexes;
  rows_are = t.rows_are;
  kept = λ place read is.
      kept_more (λ (b : BlockRead). slice_get (block_rows t.indexes.blocks) b.number ≡ Some b.rows.items) (record { number = c.args.number; rows = c.in_ok-rows.rows }) c.args.self.now.blocks 15
      (c.in_ok-rows.ensures.ok tells t.base payloads rest t.indexes).0 t.kept place read (ap (λ (l : List BlockRead). slice_get l place) (sym c.keep.ensures) ∙ is);
}
