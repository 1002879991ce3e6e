use Rattle.std.proofs.Common.{length, ◌<◌, arith, subst, sym, take}
use Rattle.module_names.specs.Names.{second_param}
use Rattle.module_names.specs.Sets.{Holds}
use Rattle.module_names.specs.Words.{is_same}
use Rattle.module_names.proofs.Loops.{nears_in_turn, item_here, taken_here}
use Rattle.module_names.proofs.naming.in_params.Goals as goal

pub loop-param-preserved : goal.loop-param-preserved
loop-param-preserved c =
    let i = c.loop-param.param-index in
    let ps = c.args.params.now in
    let at : i < length ps = omega arith in
    let before = take i ps in
    let more = taken_here ps i c.param-item.result at c.param-item.is in
    record {
      met = subst (Holds is_same c.in_param.new.met) (sym more) (c.in_ok-first.ensures.met before
          c.loop-param.invariant.met);
      least = nears_in_turn second_param before _ _ _ c.param-item.result _ _ _ more
          (item_here ps i c.param-item.result at c.param-item.is)
          c.loop-param.invariant.least (c.in_ok-first.ensures.least before c.loop-param.invariant.met);
    }
