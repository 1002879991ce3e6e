use Rattle.std.proofs.Common.{◌≡◌, drop, []}
use Rattle.array_types.specs.Modules.{kernels_from}
use Rattle.array_types.proofs.modules.kernels.Given as goal

abbrev pub invariant-loop-signature : goal.invariant-loop-signature
invariant-loop-signature l =
    kernels_from l.found l.routines l.names (drop l.signature-index l.signatures) l.state ≡
    kernels_from [] l.routines l.names l.signatures l.fn.state
