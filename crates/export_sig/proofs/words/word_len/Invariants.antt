use Rattle.std.proofs.Common.{◌≡◌, ◌+◌, length}
use Rattle.export_sig.specs.Reading.{word_len}
use Rattle.export_sig.proofs.words.word_len.Given as goal

abbrev pub invariant-loop-rest : goal.invariant-loop-rest
invariant-loop-rest l = record {
  read : l.len + word_len l.rest ≡ word_len l.fn.text;
  left : l.len + length l.rest ≡ length l.fn.text;
}

abbrev pub decreases-loop-rest : goal.decreases-loop-rest
decreases-loop-rest l = length l.rest
