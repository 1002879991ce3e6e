use Rattle.std.proofs.Common.{◌∙◌, ap, ap₂, Bool, false, List, slice_index_or}
use Rattle.loop_prog.proofs.UndoLemmas.{undone-change}
use Rattle.loop_prog.specs.Undo.{undone}
use Rattle.loop_prog.specs.declared.marks.Mark.{Mark}
use Rattle.loop_prog.proofs.marks.put_test.Goals as goal

pub returns-clause-undo : goal.returns-clause-undo
returns-clause-undo c =
    let mark : Mark = record {
      slot = c.args.test.slot;
      assigned = slice_index_or c.as_slice.result.now c.args.test.slot false;
    } in
    ap₂ undone c.in_ok-push.ensures.pushed c.set.ensures ∙
    undone-change c.args.log.now mark c.args.slots.now c.args.test.assigned
    (ap (λ (s : List Bool). slice_index_or s c.args.test.slot false) c.as_slice.ensures)
