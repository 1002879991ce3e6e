use Rattle.std.proofs.Common.{length, ◌<◌, arith, subst, sym, take}
use Rattle.module_names.specs.Names.{definition_marks}
use Rattle.module_names.specs.Sets.{Holds}
use Rattle.module_names.specs.Words.{is_called}
use Rattle.module_names.proofs.Loops.{nears_in_turn, item_here, taken_here}
use Rattle.module_names.proofs.naming.in_definitions.Goals as goal

pub loop-function-preserved : goal.loop-function-preserved
loop-function-preserved c =
    let i = c.loop-function.function-index in
    let fs = c.args.functions.now in
    let at : i < length fs = omega arith in
    let before = take i fs in
    let more = taken_here fs i c.function-item.result at c.function-item.is in
    let marks = definition_marks c.args.words.now.tree.now in
    record {
      met = subst (Holds is_called c.in_definition.new.met) (sym more) (c.in_ok-first.ensures.met before
          c.loop-function.invariant.met);
      least = nears_in_turn marks before _ _ _ c.function-item.result _ _ _ more
          (item_here fs i c.function-item.result at c.function-item.is)
          c.loop-function.invariant.least (c.in_ok-first.ensures.least before c.loop-function.invariant.met);
    }
