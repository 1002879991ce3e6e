use Rattle.std.proofs.Common.{◌≡◌, ◌++◌, take}
use Rattle.eager_rules.specs.Statements.{statements}
use Rattle.purity.specs.Uses.{listed}
use Rattle.purity.proofs.listing.+listing.Given as goal

abbrev pub invariant-list_block-loop-core : goal.invariant-list_block-loop-core
invariant-list_block-loop-core l =
    listed l.lines.items ≡ listed l.fn.lines.items ++ statements (take l.core-index l.block)
