use Rattle.std.proofs.Common.{◌≡◌, drop, None}
use Rattle.module_names.specs.Places.{soonest}
use Rattle.use_def.specs.Flows.{marks_from, all_marks}
use Rattle.use_def.proofs.rule.first_of.Given as goal

abbrev pub invariant-loop-at : goal.invariant-loop-at
invariant-loop-at l = record {
  tree : l.words.tree.now ≡ l.tree;
  functions : l.functions ≡ l.tree.functions;
  first : soonest l.first (marks_from l.tree l.reached l.at (drop l.at l.functions))
      ≡ soonest None (all_marks l.tree l.reached);
}
