use Rattle.std.proofs.Common.{◌≡◌, drop, Some}
use Rattle.array_types.specs.Numbering.{comes_to}
use Rattle.array_types.proofs.numbering.come_to.Given as goal

-- what is left comes to what all of it comes to
abbrev pub invariant-loop-name : goal.invariant-loop-name
invariant-loop-name l =
    comes_to (Some l.next) (drop l.name-index l.names) l.count ≡ comes_to (Some l.params) l.names l.count
