use Rattle.std.specs.Cmp.Lexicographic.{nat_list_cmp_total}
use Rattle.std.proofs.lemmas.Map.Lookups.{exact_bytes}
use Rattle.rdf_types.specs.MapViews.{entries_removed}
use Rattle.keyed_files.proofs.JoinedLemmas.{text}
use Rattle.keyed_files.proofs.files.drop_file.Goals as goal

pub returns : goal.returns
returns c = entries_removed text nat_list_cmp_total exact_bytes c.args.files.now.entries c.remove.new.self.entries c.args.file.now c.remove.ensures.updates.0
