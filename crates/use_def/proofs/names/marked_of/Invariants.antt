use Rattle.std.proofs.Common.{◌≡◌, take, map}
use Rattle.use_def.specs.Flows.{both}
use Rattle.use_def.specs.Sets.{marked, is_one_of}
use Rattle.use_def.proofs.names.marked_of.Given as goal

abbrev pub invariant-loop-text : goal.invariant-loop-text
invariant-loop-text l = is_one_of (map (λ t. t.now) l.kept.items)
    ≡ both (is_one_of (map (λ t. t.now) (take l.text-index l.texts))) (marked l.names)
