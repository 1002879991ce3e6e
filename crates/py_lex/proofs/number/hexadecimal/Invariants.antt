use Rattle.std.proofs.Common.{◌≡◌, ◌^◌, take, min}
use Rattle.py_lex.specs.Words.{hexadecimal_value}
use Rattle.py_lex.proofs.number.hexadecimal.Given as goal

abbrev pub invariant-loop-b : goal.invariant-loop-b
invariant-loop-b l = l.value ≡ min (hexadecimal_value (take l.b-index l.digits)) (2 ^ 63)
