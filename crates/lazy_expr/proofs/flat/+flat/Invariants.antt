use Rattle.std.proofs.Common.{◌≡◌, drop}
use Rattle.eager_rules.specs.Statements.{calls_of}
use Rattle.lazy_expr.specs.Promise.{is_none}
use Rattle.lazy_expr.proofs.flat.+flat.Given as goal

-- what is left of the block calls what the block calls
abbrev pub invariant-is_flat_block-loop-core : goal.invariant-is_flat_block-loop-core
invariant-is_flat_block-loop-core l = is_none (calls_of (drop l.core-index l.block)) ≡ is_none (calls_of l.block)
