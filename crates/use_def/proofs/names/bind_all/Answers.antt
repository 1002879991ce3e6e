use mathlib.Core.Path.{fun_ext}
use Rattle.std.proofs.Common.{◌<◌, length, arith, ◌∙◌, take}
use Rattle.use_def.specs.Sets.{assigned}
use Rattle.use_def.proofs.SetLaws.{with_more, seen, seen_more}
use Rattle.use_def.proofs.names.bind_all.Goals as goal

pub loop-text-preserved : goal.loop-text-preserved
loop-text-preserved c =
    let i = c.loop-text.text-index in
    let texts = c.args.texts.now in
    let at : i < length texts = omega arith in
    record {
      assigned = fun_ext (with_more _ (seen (take i texts)) _ (assigned c.loop-text.names) (assigned c.bind.new.names)
          (assigned c.args.names.now) c.in_ok-bind.ensures.assigned c.loop-text.invariant.assigned
          (seen_more texts i _ at));
      outside = c.in_ok-bind.ensures.outside ∙ c.loop-text.invariant.outside;
    }
