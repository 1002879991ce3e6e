use Rattle.std.proofs.Common.{◌≡◌, ◌-◌, length, []}
use Rattle.export_sig.specs.Reading.{types_from}
use Rattle.export_sig.proofs.param_type.some_types.Given as goal

abbrev pub invariant-loop-turn : goal.invariant-loop-turn
invariant-loop-turn l = types_from (length l.fn.text) [] l.fn.text ≡ types_from
    (l._turn-end - l._turn) l.found.items l.rest
