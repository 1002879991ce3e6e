use Rattle.std.proofs.Common.{◌≤◌, map, take}
use Rattle.pythran_main.specs.Steps.{save_of}
use Rattle.pythran_main.specs.World.{files_of, AreStored}
use Rattle.pythran_main.proofs.deliver.store_all.Given as goal

-- the files so far are stored
abbrev pub invariant-loop-save : goal.invariant-loop-save
invariant-loop-save g l = record {
  more : g.F.Files.faults l.fn.files ≤ g.F.Files.faults l.files;
  stored : AreStored (files_of g.F.Files l.fn.files l.files) (map save_of (take l.save-index l.saves));
}
