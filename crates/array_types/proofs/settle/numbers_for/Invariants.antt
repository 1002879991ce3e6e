use Rattle.std.proofs.Common.{◌≡◌, drop, []}
use Rattle.array_types.specs.Settle.{numbers_from}
use Rattle.array_types.proofs.settle.numbers_for.Given as goal

abbrev pub invariant-loop-entry : goal.invariant-loop-entry
invariant-loop-entry l =
    numbers_from l.found (drop l.entry-index l.entries) l.state ≡ numbers_from [] l.entries l.state
