use Rattle.std.proofs.Common.{◌≡◌, ◌+◌, length}
use Rattle.std.specs.List.{prefix_len}
use Rattle.np_file.specs.Header.{is_plain}
use Rattle.np_file.proofs.parts.plain_len.Given as goal

abbrev pub invariant-loop-rest : goal.invariant-loop-rest
invariant-loop-rest l = record {
  read : l.len + prefix_len (is_plain l.quote) l.rest ≡
      prefix_len (is_plain l.fn.quote) l.fn.text;
  left : l.len + length l.rest ≡ length l.fn.text;
}

abbrev pub decreases-loop-rest : goal.decreases-loop-rest
decreases-loop-rest l = length l.rest
