-- What the evaluator's own values stand for.
use Rattle.std.specs.Prelude.{ℤ, List, [], ◌∷◌, map, Option, Some, None}
use Rattle.array_ops.specs.Elements.{Bound}
use Rattle.array_ops.specs.Operands.{meaning_of}
use Rattle.array_ops.specs.declared.operand.Operand.{Operand}
use Rattle.eager_rules.specs.Blocks.{End, GoesOn, Returned, Faulted, Stuck}
use Rattle.eager_rules.specs.Holding.{Held}
use Rattle.eager_rules.specs.State.{State}
use Rattle.eager_rules.specs.Works.{Done, Made, Failed, Blocked, numbers_from}
use Rattle.eager_rules.specs.declared.state.State.{State as Running}
use Rattle.eager_rules.specs.declared.turns.Turns.{Turns}
use Rattle.eager_rules.specs.declared.state.Ending.{Ending}
use Rattle.eager_rules.specs.declared.state.Ending.TheVariants as ending
use Rattle.eager_rules.specs.declared.state.Worked.{Worked}
use Rattle.eager_rules.specs.declared.state.Worked.TheVariants as worked

abbrev pub meanings : List Operand → List Bound
meanings xs = map meaning_of xs

-- the state that the evaluator holds, with counts and without
abbrev pub held_of : Running → Held
held_of s = record { heap = s.heap; names = meanings s.names }

abbrev pub state_of : Running → State
state_of s = record { buffers = s.heap.buffers; names = meanings s.names }

abbrev pub end_of : Ending → End
end_of ending.GoesOn = GoesOn
end_of (ending.Returned values) = Returned (meanings values)
end_of (ending.Faulted fault at) = Faulted fault at
end_of ending.Stuck = Stuck

-- what work comes to, with the buffers as it leaves them
abbrev pub done_by : List (List ℤ) → Worked → Done
done_by buffers (worked.Value x) = Made buffers (meaning_of x ∷ [])
done_by buffers worked.Nothing = Made buffers []
done_by buffers (worked.Values xs) = Made buffers (meanings xs)
done_by buffers (worked.Failed fault at) = Failed buffers fault at
done_by buffers worked.Blocked = Blocked buffers

-- the numbers of a range that are left
abbrev pub numbers_of : Turns → List ℤ
numbers_of t = numbers_from t.most t.next t.hi t.step

-- what there was before the next number was taken
abbrev pub taken : Option ℤ → List ℤ → List ℤ
taken None rest = []
taken (Some z) rest = z ∷ rest
