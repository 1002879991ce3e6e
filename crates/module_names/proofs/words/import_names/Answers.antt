use Rattle.std.proofs.Common.{length, ◌<◌, subst, sym, ap, arith}
use Rattle.std.specs.Str.{bytes_eq}
use Rattle.module_names.specs.Sets.{Holds}
use Rattle.module_names.specs.Words.{gives}
use Rattle.module_names.proofs.Loops.{holds_more, taken_here}
use Rattle.module_names.proofs.words.import_names.Goals as goal

pub loop-import-preserved : goal.loop-import-preserved
loop-import-preserved c =
    let at : c.loop-import.import-index < length c.args.imports.now = omega arith in
    subst (Holds gives c.add.new.set) (sym (taken_here c.args.imports.now c.loop-import.import-index
    c.import-item.result at c.import-item.is))
    (holds_more gives c.loop-import.names c.add.new.set _ c.import-item.result _ c.loop-import.invariant
    c.in_ok-add.ensures.others (λ other. ap (λ text. bytes_eq text other) (sym c.as_slice.ensures)))
