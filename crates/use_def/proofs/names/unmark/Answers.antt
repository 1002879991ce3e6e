use mathlib.Core.Path.{fun_ext}
use Rattle.std.proofs.Common.{◌<◌, length, arith, ◌∙◌, take}
use Rattle.use_def.specs.Sets.{marked}
use Rattle.use_def.proofs.SetLaws.{unmarked, seen, seen_more}
use Rattle.use_def.proofs.names.unmark.Goals as goal

pub loop-text-preserved : goal.loop-text-preserved
loop-text-preserved c =
    let i = c.loop-text.text-index in
    let texts = c.args.texts.now in
    let at : i < length texts = omega arith in
    record {
      marks = fun_ext (unmarked _ (seen (take i texts)) _ (marked c.loop-text.names) (marked c.set_mark.new.names)
          (marked c.args.names.now) c.in_ok-set_mark.ensures.marks c.loop-text.invariant.marks
          (seen_more texts i _ at));
      fresh = c.in_ok-set_mark.ensures.fresh ∙ c.loop-text.invariant.fresh;
      ended = c.in_ok-set_mark.ensures.ended ∙ c.loop-text.invariant.ended;
    }
