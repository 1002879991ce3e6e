use Rattle.std.proofs.Common.{◌≡◌, drop, take, []}
use Rattle.module_names.specs.Names.{definition_marks}
use Rattle.module_names.specs.Places.{soonest, in_turn}
use Rattle.module_names.specs.Sets.{Holds}
use Rattle.module_names.specs.Words.{is_called}
use Rattle.module_names.proofs.naming.in_definitions.Given as goal

abbrev pub invariant-loop-function : goal.invariant-loop-function
invariant-loop-function l = record {
  met : Holds is_called l.met (take l.function-index l.functions);
  least : soonest l.first (in_turn (definition_marks l.words.tree.now) (take l.function-index l.functions)
      (drop l.function-index l.functions))
      ≡ soonest l.fn.first (in_turn (definition_marks l.words.tree.now) [] l.functions);
}
