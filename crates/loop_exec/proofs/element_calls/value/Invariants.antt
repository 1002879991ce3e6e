use Rattle.std.proofs.Common.{◌≡◌, ◌≤◌, [], drop, reverse}
use Rattle.arrayvec.specs.ArrayVec.{array_vec_len}
use Rattle.view_places.specs.View.{extents}
use Rattle.loop_prog.specs.Templates.{push_all}
use Rattle.loop_exec.specs.Banks.{views_bound, words_bound}
use Rattle.loop_exec.proofs.element_calls.value.Given as goal

-- the steps that are left, from the values so far, come to what all of them come to
abbrev pub invariant-loop-i : goal.invariant-loop-i
invariant-loop-i l =
    (push_all (words_bound l.e.words.now) (views_bound l.e.views.now) (extents l.e.frame.now) l.buffers
    l.walk.odometer.number (drop l.i l.e.steps.now) (reverse l.stack.items) ≡
    push_all (words_bound l.e.words.now) (views_bound l.e.views.now) (extents l.e.frame.now) l.buffers
    l.walk.odometer.number l.e.steps.now [])
    × (array_vec_len l.stack ≤ l.i)
