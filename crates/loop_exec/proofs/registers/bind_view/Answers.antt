use Rattle.std.proofs.Common.{ap, ◌∙◌, map}
use Rattle.std.proofs.lemmas.List.{map-set}
use Rattle.loop_exec.specs.Banks.{view_bound}
use Rattle.loop_exec.proofs.registers.bind_view.Goals as goal

pub returns-then-v-len : goal.returns-then-v-len
returns-then-v-len c =
    ap (map view_bound) c.set.ensures ∙ map-set view_bound c.args.views.now c.args.v c.args.value
