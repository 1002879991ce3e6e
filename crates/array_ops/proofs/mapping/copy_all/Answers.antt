use Rattle.std.proofs.Common.{◌∙◌, ap, ℤ, List, length}
use Rattle.array_ops.specs.Sources.{list_of}
use Rattle.array_ops.proofs.Mapped.{copied}
use Rattle.array_ops.proofs.mapping.copy_all.Goals as goal

pub returns-clause-list : goal.returns-clause-list
returns-clause-list c = c.in_ok-words.ensures ∙ copied (list_of c.args.count c.args.a)

pub returns-clause-size : goal.returns-clause-size
returns-clause-size c =
    ap (λ (xs : List ℤ). length xs)
    (c.in_ok-words.ensures ∙ copied (list_of c.args.count c.args.a)) ∙ c.requires.fresh.size
