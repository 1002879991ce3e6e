use Rattle.std.proofs.Common.{◌≡◌, take, fold}
use Rattle.krn_base.specs.Numbers.{join_result, unit_of}
use Rattle.array_ops.proofs.reduction.join_all.Given as goal

-- the words so far, joined
abbrev pub invariant-loop-word : goal.invariant-loop-word
invariant-loop-word l = l.total ≡ fold (join_result l.op) (unit_of l.op) (take l.word-index l.words)
