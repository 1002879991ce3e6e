use Rattle.std.proofs.Common.{arith, []}
use Rattle.cpp_print.proofs.Counts.{counted}
use Rattle.cpp_print.proofs.printable.is_one_tree.Goals as goal

pub loop-step-init : goal.loop-step-init
loop-step-init c = (counted c.args.steps.now [], omega arith)
