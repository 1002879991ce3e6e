use Rattle.std.proofs.Common.{◌≡◌, ◌∙◌, ap, ap₂, List}
use Rattle.loop_prog.proofs.UndoLemmas.{parts_meet, paths_of}
use Rattle.loop_prog.specs.Undo.{both_marks, undone}
use Rattle.loop_prog.specs.declared.marks.Mark.{Mark}
use Rattle.loop_prog.specs.declared.paths.Paths.{Paths}
use Rattle.loop_prog.proofs.joins.go_to_meeting.Goals as goal

pub returns-clause-paths : goal.returns-clause-paths
returns-clause-paths c =
    let start : Paths = c.go_back.new.paths in
    let shared : c.as_slice-6.result.now ≡ both_marks c.args.paths.now.slots c.args.first.now.changes =
    c.as_slice-6.ensures ∙ (c.in_ok-shared.ensures ∙ ap₂ both_marks c.as_slice.ensures c.as_slice-2.ensures) in
    let rest : c.as_slice-5.result.now ≡ both_marks start.slots c.in_ok-second.second.changes =
    c.as_slice-5.ensures ∙ (c.in_ok-rest.ensures ∙ ap₂ both_marks c.as_slice-3.ensures c.as_slice-4.ensures) in
    ap (paths_of start.reached)
    (c.in_ok-undo-2.ensures.slots ∙ ap₂ undone shared
    (c.in_ok-undo.ensures.slots ∙ ap (λ (log : List Mark). undone log start.slots) rest)) ∙
    parts_meet c.args.first.now c.in_ok-second.second c.args.own.now start c.args.paths.now
    c.in_ok-second.ensures.back c.in_ok-second.ensures.part c.if-not-second.false c.if-not-first.false
