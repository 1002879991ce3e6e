use Rattle.std.proofs.Common.{length, ◌<◌, subst, sym, ap, arith}
use Rattle.std.specs.Str.{bytes_eq}
use Rattle.module_names.specs.Sets.{Holds}
use Rattle.module_names.specs.Words.{is_called}
use Rattle.module_names.proofs.Loops.{holds_more, taken_here}
use Rattle.module_names.proofs.words.function_names.Goals as goal

pub loop-function-preserved : goal.loop-function-preserved
loop-function-preserved c =
    let at : c.loop-function.function-index < length c.args.functions.now = omega arith in
    subst (Holds is_called c.add.new.set) (sym (taken_here c.args.functions.now c.loop-function.function-index
    c.function-item.result at c.function-item.is))
    (holds_more is_called c.loop-function.names c.add.new.set _ c.function-item.result _ c.loop-function.invariant
    c.in_ok-add.ensures.others (λ other. ap (λ text. bytes_eq text other) (sym c.as_slice.ensures)))
