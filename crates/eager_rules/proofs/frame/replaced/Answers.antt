use Rattle.std.proofs.Common.{ap, ◌∙◌, map}
use Rattle.std.proofs.lemmas.List.{map-set}
use Rattle.array_ops.specs.Operands.{meaning_of}
use Rattle.eager_rules.proofs.frame.replaced.Goals as goal

pub returns-clause-names : goal.returns-clause-names
returns-clause-names c =
    ap (map meaning_of) c.set.ensures ∙ map-set meaning_of c.args.names.now c.args.name c.args.value
