use Rattle.std.proofs.Common.{rules, arith, FitsSigned, w64}
use Rattle.std.proofs.lemmas.Int.{to_z-of_z}
use Rattle.std.proofs.lemmas.List.Sums.{fold_more}
use Rattle.array_ops.proofs.reduction.join_all.Goals as goal

pub loop-word-preserved : goal.loop-word-preserved
loop-word-preserved c =
    let fits : FitsSigned w64 c.join-total.result = search rules in
    let so_far = c.loop-word.invariant in
    let next = c.join-total.ensures in
    grind (arith, to_z-of_z, fold_more, fits, so_far, next)
