use Rattle.std.proofs.Common.{rules, ◌≡◌, arith}
use Rattle.std.proofs.lemmas.Grind.{common_steps}
use Rattle.std.specs.String.{string_bytes}
use Rattle.rdf_folders.specs.FolderNames.{folder_name}
use Rattle.rdf_folders.proofs.FolderLaws.{named_so}
use Rattle.rdf_folders.proofs.folder_disk.Goals as goal

pub returns : goal.returns
returns g c =
    let is : string_bytes c.in_ok-name.name ≡ folder_name c.args.dir.now c.args.node.now c.args.disk = first_of (search rules, grind (arith, common_steps)) in
    named_so c.dir_disk.result c.args.dir.now c.args.node.now c.args.disk (string_bytes c.in_ok-name.name) is c.dir_disk.ensures.named
