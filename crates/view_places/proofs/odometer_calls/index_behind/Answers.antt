use Rattle.std.proofs.Common.{arith, rules}
use Rattle.view_places.proofs.NextIndex.{fourth-axis, fourth-index, third-axis, third-index, second-axis, second-index}
use Rattle.view_places.proofs.NextIndex.{first-axis, first-moves}
use Rattle.view_places.proofs.odometer_calls.index_behind.Goals as goal

pub returns-then-fourth-of_fourth-clause-axis : goal.returns-then-fourth-of_fourth-clause-axis
returns-then-fourth-of_fourth-clause-axis c =
    fourth-axis c.args.extent.now c.args.at.now (search rules) (search rules) (omega arith)

pub returns-then-fourth-of_fourth-clause-at : goal.returns-then-fourth-of_fourth-clause-at
returns-then-fourth-of_fourth-clause-at c =
    fourth-index c.args.extent.now c.args.at.now (search rules) (search rules) (omega arith)

pub returns-then-third-of_third-clause-axis : goal.returns-then-third-of_third-clause-axis
returns-then-third-of_third-clause-axis c =
    third-axis c.args.extent.now c.args.at.now (search rules) (search rules) (omega arith) (omega arith)

pub returns-then-third-of_third-clause-at : goal.returns-then-third-of_third-clause-at
returns-then-third-of_third-clause-at c =
    third-index c.args.extent.now c.args.at.now (search rules) (search rules) (omega arith) (omega arith)

pub returns-then-second-of_second-clause-axis : goal.returns-then-second-of_second-clause-axis
returns-then-second-of_second-clause-axis c =
    second-axis c.args.extent.now c.args.at.now (search rules) (search rules) (omega arith) (omega arith) (omega arith)

pub returns-then-second-of_second-clause-at : goal.returns-then-second-of_second-clause-at
returns-then-second-of_second-clause-at c =
    second-index c.args.extent.now c.args.at.now (search rules) (search rules) (omega arith) (omega arith) (omega arith)

pub returns-else-second-of_second-clause-axis : goal.returns-else-second-of_second-clause-axis
returns-else-second-of_second-clause-axis c =
    first-axis c.args.extent.now c.args.at.now (search rules) (search rules) (omega arith) (omega arith) (omega arith)

pub returns-else-second-of_second-clause-at : goal.returns-else-second-of_second-clause-at
returns-else-second-of_second-clause-at c =
    first-moves c.args.extent.now c.args.at.now (search rules) (search rules) (omega arith) (omega arith) (omega arith)
