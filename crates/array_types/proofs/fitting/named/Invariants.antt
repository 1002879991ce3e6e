use Rattle.std.proofs.Common.{◌≡◌, take, map}
use Rattle.eager_rules.specs.declared.program.Oper.TheVariants as oper
use Rattle.array_types.proofs.fitting.named.Given as goal

abbrev pub invariant-loop-n : goal.invariant-loop-n
invariant-loop-n l =
    l.xs ≡ map oper.Name (take l.n-index l.to)
