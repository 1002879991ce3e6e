use Rattle.module_names.specs.Nodes.{Operand, Updated}
use Rattle.use_def.specs.Flows.{reads_marks}
use Rattle.use_def.specs.Sets.{assigned}
use Rattle.use_def.proofs.Steps.{then_marks}
use Rattle.use_def.proofs.walk.augmented.Goals as goal

pub returns-clause-first : goal.returns-clause-first
returns-clause-first c =
    let m = c.args.words.now.tree.now in
    let s = assigned c.args.names.now in
    then_marks (reads_marks m s Updated c.args.target.now) (reads_marks m s Operand c.args.value.now) c.args.first
    c.in_ok-first.first c.in_ok-first-2.first c.in_ok-first.ensures c.in_ok-first-2.ensures
