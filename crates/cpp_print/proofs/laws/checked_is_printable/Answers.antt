use Rattle.cpp_print.proofs.CheckedTexts.{checked_prints}
use Rattle.cpp_print.proofs.laws.checked_is_printable.Goals as goal

pub returns : goal.returns
returns c = checked_prints c.args.program.now.kernels c.requires.checked c.requires.names
