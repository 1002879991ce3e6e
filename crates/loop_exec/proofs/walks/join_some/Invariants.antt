use Rattle.std.proofs.Common.{◌≡◌, ◌+◌, map}
use Rattle.std.specs.List.{range_with_len}
use Rattle.array_ops.specs.Elements.{joined}
use Rattle.loop_exec.specs.Elements.{StandsIn, each_of}
use Rattle.loop_exec.proofs.walks.join_some.Given as goal

-- the join of the elements so far
abbrev pub invariant-loop-done : goal.invariant-loop-done
invariant-loop-done l =
    (l.total ≡ joined l.op (map (each_of l.e l.buffers) (range_with_len 0 l._done)))
    × ((l.walk.odometer.number + 1 ≡ l._done) × StandsIn l.e l.walk)
