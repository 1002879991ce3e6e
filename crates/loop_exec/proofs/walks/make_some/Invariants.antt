use Rattle.std.proofs.Common.{◌≡◌, ◌+◌, map}
use Rattle.std.specs.List.{range_with_len}
use Rattle.loop_exec.specs.Elements.{StandsIn, each_of}
use Rattle.loop_exec.proofs.walks.make_some.Given as goal

-- the elements so far
abbrev pub invariant-loop-done : goal.invariant-loop-done
invariant-loop-done l =
    (l.words ≡ map (each_of l.e l.buffers) (range_with_len 0 l._done))
    × ((l.walk.odometer.number + 1 ≡ l._done) × StandsIn l.e l.walk)
