use Rattle.std.proofs.Common.{◌≡◌}
use Rattle.host_io.specs.Shelves.{shelf_files, slot_files}
use Rattle.host_io.proofs.shelves.shelve_all.Given as goal

abbrev pub invariant-loop-slot : goal.invariant-loop-slot
invariant-loop-slot l = shelf_files l.shelves.items ≡ slot_files l.yielded
