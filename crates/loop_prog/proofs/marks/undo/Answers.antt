use Rattle.std.proofs.Common.{arith, ◌≡◌, ◌∙◌, ap, sym, ℕ, ◌+◌, ◌-◌, ◌<◌, ◌≤◌, false, List, length, take}
use Rattle.loop_prog.proofs.UndoLemmas.{undone-less}
use Rattle.loop_prog.specs.Undo.{undone}
use Rattle.loop_prog.specs.declared.marks.Mark.{Mark}
use Rattle.loop_prog.proofs.marks.undo.Goals as goal

pub loop-left-preserved : goal.loop-left-preserved
loop-left-preserved c =
    let changes : List Mark = c.args.changes.now in
    let k : ℕ = c.loop-left.left - 1 in
    let none : Mark = record { slot = 0; assigned = false } in
    let lt : k < length changes = omega (arith, c.loop-left-test.true, c.loop-left.invariant.0) in
    let up : k + 1 ≡ c.loop-left.left = omega (arith, c.loop-left-test.true) in
    let within : k ≤ length changes = omega (arith, lt) in (
      within,
      ap (undone (take k changes)) c.in_ok-put_test.ensures.slots ∙
          (sym (undone-less changes k none c.loop-left.slots lt) ∙
          (ap (λ (n : ℕ). undone (take n changes) c.loop-left.slots) up ∙ c.loop-left.invariant.1)),
      c.in_ok-put_test.ensures.undo ∙ c.loop-left.invariant.2,
    )
