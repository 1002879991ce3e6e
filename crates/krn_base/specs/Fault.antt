-- The names of faults. Those that Python has are Python's; `SizeLimit` is this project's own.
use Rattle.std.specs.Prelude.{ℕ, List, codes}
use Rattle.krn_base.specs.declared.fault.Fault.{Fault}
use Rattle.krn_base.specs.declared.fault.Fault.TheVariants.{ValueError, IndexError, ZeroDivisionError, SizeLimit}

abbrev pub fault_name : Fault → List ℕ
fault_name ValueError = codes "ValueError"
fault_name IndexError = codes "IndexError"
fault_name ZeroDivisionError = codes "ZeroDivisionError"
fault_name SizeLimit = codes "SizeLimit"
