use Rattle.std.proofs.Common.{◌≡◌, drop}
use Rattle.host_io.specs.Shelves.{held_in, shelf_files}
use Rattle.host_io.proofs.shelves.file_at.Given as goal

-- the shelves that are left hold of the name what all of them do
abbrev pub invariant-loop-shelf : goal.invariant-loop-shelf
invariant-loop-shelf l = held_in (shelf_files (drop l.shelf-index l.shelves)) l.name ≡ held_in
    (shelf_files l.shelves) l.name
