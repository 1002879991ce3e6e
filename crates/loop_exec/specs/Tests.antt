-- A test of a shape.
use Rattle.std.specs.Prelude.{ℕ, List, Result, Ok}
use Rattle.krn_base.specs.declared.fault.Fault.{Fault}
use Rattle.view_places.specs.Arrays.{element_count}
use Rattle.loop_prog.specs.Works.{some_element}
use Rattle.loop_prog.specs.declared.program.Test.{Test}
use Rattle.loop_prog.specs.declared.program.Test.TheVariants.{Fits, Filled}

abbrev pub test_of : Test → List ℕ → Result (List ℕ) Fault
test_of Fits ns = Ok ns
test_of Filled ns = some_element ns (element_count ns)
