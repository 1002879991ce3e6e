use Rattle.std.proofs.Common.{◌≡◌, ◌≤◌, drop}
use Rattle.call_words.specs.Request.{digits_from}
use Rattle.call_words.proofs.request.digits.Given as goal

abbrev pub invariant-loop-byte : goal.invariant-loop-byte
invariant-loop-byte l =
    (digits_from l.number (drop l.byte-index l.text) ≡ digits_from 0 l.text) × (l.number ≤ 64)
