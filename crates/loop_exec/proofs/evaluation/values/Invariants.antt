use Rattle.std.proofs.Common.{◌≡◌, map}
use Rattle.std.specs.List.{range_with_len}
use Rattle.krn_base.specs.declared.kind.Kind.TheVariants.{Int64}
use Rattle.array_ops.specs.Elements.{Unbound}
use Rattle.eager_rules.specs.Outcome.{by_number, value_of}
use Rattle.eager_rules.specs.Running.{meanings}
use Rattle.loop_exec.proofs.evaluation.values.Given as goal

-- the values so far
abbrev pub invariant-loop-i : goal.invariant-loop-i
invariant-loop-i l =
    l.found ≡ map (by_number (value_of l.buffers) (Int64, 0) Unbound l.rets (meanings l.operands))
    (range_with_len 0 l.i)
