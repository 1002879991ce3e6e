use mathlib.Core.Path.{fun_ext}
use Rattle.std.proofs.Common.{◌<◌, length, arith, take}
use Rattle.use_def.specs.Sets.{marked, is_one_of}
use Rattle.use_def.proofs.SetLaws.{kept_more, seen, seen_more}
use Rattle.use_def.proofs.names.marked_of.Goals as goal

pub loop-text-preserved : goal.loop-text-preserved
loop-text-preserved c =
    let i = c.loop-text.text-index in
    let texts = c.args.texts.now in
    let at : i < length texts = omega arith in
    fun_ext (kept_more _ (seen (take i texts)) _ (is_one_of (seen c.loop-text.kept.items)) _
    (marked c.args.names.now) c.in_ok-push_marked.ensures c.loop-text.invariant (seen_more texts i _ at))
