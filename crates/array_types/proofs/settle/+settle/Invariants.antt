use Rattle.std.proofs.Common.{◌≡◌, map}
use Rattle.array_types.specs.Settle.{settled}
use Rattle.array_types.proofs.settle.+settle.Given as goal

abbrev pub invariant-settled_block-loop-core : goal.invariant-settled_block-loop-core
invariant-settled_block-loop-core l = l.list ≡ map (settled l.numbers) l.yielded
