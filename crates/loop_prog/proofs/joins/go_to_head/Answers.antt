use Rattle.std.proofs.Common.{◌≡◌, ◌∙◌, ap, ap₂, List}
use Rattle.loop_prog.proofs.UndoLemmas.{paths_of, turn_kept}
use Rattle.loop_prog.specs.Paths.{kept_by}
use Rattle.loop_prog.specs.Undo.{both_marks, undone}
use Rattle.loop_prog.specs.declared.marks.Mark.{Mark}
use Rattle.loop_prog.specs.declared.paths.Paths.{Paths}
use Rattle.loop_prog.proofs.joins.go_to_head.Goals as goal

pub returns-clause-paths : goal.returns-clause-paths
returns-clause-paths c =
    let start : Paths = c.go_back.new.paths in
    let kept : c.as_slice-3.result.now ≡ both_marks start.slots c.in_ok-turn.turn.changes =
    c.as_slice-3.ensures ∙ (c.in_ok-kept.ensures ∙ ap₂ both_marks c.as_slice.ensures c.as_slice-2.ensures) in
    ap (paths_of start.reached)
    (c.in_ok-undo.ensures.slots ∙ ap (λ (log : List Mark). undone log start.slots) kept) ∙
    (turn_kept c.in_ok-turn.turn start c.args.paths.now c.in_ok-turn.ensures.part c.if-not-turn.false ∙
    ap (λ (p : Paths). kept_by p c.args.paths.now) c.in_ok-turn.ensures.back)
