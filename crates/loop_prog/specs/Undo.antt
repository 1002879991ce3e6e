-- What the code's tests stand for: changes are kept in a log, by which they are undone.
use Rattle.std.specs.Prelude.{◌≡◌, ◌&&◌, Bool, false, List, [], ◌∷◌, map, slice_index_or, slice_set}
use Rattle.loop_prog.specs.declared.joins.Part.{Part}
use Rattle.loop_prog.specs.declared.marks.Mark.{Mark}
use Rattle.loop_prog.specs.declared.paths.Paths.{Paths}

-- The tests as they stood before the changes of a log. The latest change stands last, and is undone first.
abbrev pub undone : List Mark → List Bool → List Bool
undone [] slots = slots
undone (mark ∷ log) slots = slice_set (undone log slots) mark.slot mark.assigned

-- what was assigned where a log began, which a path came to or not
abbrev pub before : Bool → List Mark → Paths → Paths
before reached log paths = record { reached = reached; slots = undone log paths.slots }

-- what is assigned behind a part, by the tests at its start
abbrev pub behind : Part → List Bool → Paths
behind part slots = record { reached = part.reached; slots = undone part.changes slots }

-- a test that holds where it does in a list of tests too
abbrev pub both_mark : List Bool → Mark → Mark
both_mark slots mark =
    record { slot = mark.slot; assigned = mark.assigned && slice_index_or slots mark.slot false }

abbrev pub both_marks : List Bool → List Mark → List Mark
both_marks slots marks = map (both_mark slots) marks

-- one log undoes all that another did, and what changed since
abbrev pub Undoes : List Mark → Paths → List Mark → Paths → Type 0
Undoes log now old start = undone log now.slots ≡ undone old start.slots
