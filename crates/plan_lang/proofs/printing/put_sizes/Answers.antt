use Rattle.std.proofs.Common.{rules, [], ◌∷◌, decimal, codes}
use Rattle.plan_lang.specs.Words.{text_line}
use Rattle.plan_lang.proofs.Spacing.{three-done}
use Rattle.plan_lang.proofs.printing.put_sizes.Goals as goal

pub returns : goal.returns
returns c =
    three-done c.args.out.now.items (text_line (codes "rdfplan" ∷ codes "1" ∷ [])) (text_line (codes "backups" ∷ decimal c.args.layout.now.backups ∷ [])) (text_line (codes "volumes" ∷ decimal c.args.layout.now.volumes ∷ []))
    c.extend_from_slice.new.self.items c.put_setting.new.out.items c.put_setting-2.new.out.items c.put_setting-2.result (search rules) (search rules) (search rules)
