use Rattle.std.proofs.Common.{◌≡◌, ◌^◌, min, take}
use Rattle.np_file.specs.Reading.{digits_value}
use Rattle.np_file.proofs.parts.bounded_value.Given as goal

abbrev pub invariant-loop-digit : goal.invariant-loop-digit
invariant-loop-digit l = l.value ≡ min (digits_value (take l.digit-index l.digits)) (2 ^ 63)
