use Rattle.std.proofs.Common.{◌≡◌, ◌+◌, drop}
use Rattle.overlap.specs.Walks.{in_place}
use Rattle.view_places.specs.View.{places}
use Rattle.loop_exec.specs.Elements.{StandsIn, each_of}
use Rattle.loop_exec.specs.Leaves.{place_at}
use Rattle.loop_exec.proofs.walks.store_some.Given as goal

-- storing the elements that are left, from here, leaves what storing all of them leaves
abbrev pub invariant-loop-done : goal.invariant-loop-done
invariant-loop-done l =
    (in_place (each_of l.e) l.e.frame.now.buffer (l.walk.odometer.number + 1)
    (drop (l.walk.odometer.number + 1) (places l.e.frame.now)) l.buffers ≡
    in_place (each_of l.e) l.e.frame.now.buffer 0 (places l.e.frame.now) l.fn.buffers)
    × ((l.walk.odometer.number + 1 ≡ l._done) × (StandsIn l.e l.walk × (l.place ≡ place_at l.walk.odometer.number
    l.own)))
