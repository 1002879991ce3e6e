use Rattle.std.proofs.Common.{◌≡◌, ◌++◌, take}
use Rattle.std.specs.List.{flat_map}
use Rattle.cpp_print.specs.Statements.{reduction_text}
use Rattle.cpp_print.proofs.blocks.put_reductions.Given as goal

-- the reductions so far stand behind what was there
abbrev pub invariant-loop-reduction : goal.invariant-loop-reduction
invariant-loop-reduction l = l.out ≡ l.fn.out ++ flat_map reduction_text (take l.reduction-index l.reductions)
