use Rattle.std.proofs.Common.{◌≡◌, map, take}
use Rattle.pythran_main.specs.Answer.{saved_of}
use Rattle.pythran_main.specs.Steps.{save_of}
use Rattle.pythran_main.proofs.saved_file.saved_files.Given as goal

-- the files of the saved buffers so far
abbrev pub invariant-loop-save : goal.invariant-loop-save
invariant-loop-save l = map save_of l.files.items ≡ map (saved_of l.arrays) (take l.save-index l.saves)
