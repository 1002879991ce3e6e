use Rattle.std.proofs.Common.{◌≡◌, drop}
use Rattle.module_names.specs.Places.{soonest}
use Rattle.use_def.specs.Flows.{values_marks}
use Rattle.use_def.specs.Sets.{assigned}
use Rattle.use_def.proofs.reads.values_reads.Given as goal

abbrev pub invariant-loop-x : goal.invariant-loop-x
invariant-loop-x l =
    soonest l.first (values_marks l.words.tree.now (assigned l.names) (drop l.x-index l.values))
    ≡ soonest l.fn.first (values_marks l.words.tree.now (assigned l.names) l.values)
