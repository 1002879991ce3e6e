use Rattle.std.proofs.Common.{◌≡◌, ◌++◌, ◌+◌, ◌*◌, ℕ, List, drop, length, max}
use denote.Param.Weighed.{most}
use Rattle.eager_rules.specs.declared.program.Core.{size-Core}
use Rattle.eager_rules.specs.declared.program.Instance.{Instance}
use Rattle.inline.specs.Flattened.{block_form}
use Rattle.inline.proofs.lower.+lower.Given as goal

-- what is left of the block becomes, behind what there is, what the block becomes
abbrev pub invariant-lower_all-loop-core : goal.invariant-lower_all-loop-core
invariant-lower_all-loop-core l = record {
  body : l.body ++
      (block_form l.program l.effects l.depth l.out l.place (drop l.core-index l.block) (length l.names)).body ≡
      l.fn.body ++ (block_form l.program l.effects l.depth l.out l.place l.block (length l.fn.names)).body;
  names : l.names ++
      (block_form l.program l.effects l.depth l.out l.place (drop l.core-index l.block) (length l.names)).fresh ≡
      l.fn.names ++ (block_form l.program l.effects l.depth l.out l.place l.block (length l.fn.names)).fresh;
}

-- how deep the deepest body is
abbrev body_size : Instance → ℕ
body_size f = most size-Core f.body

abbrev deepest : List Instance → ℕ
deepest instances = most body_size instances

-- a call goes one level down, and each function between a statement and its blocks has a rank
abbrev per_call : List Instance → ℕ
per_call instances = 4 * deepest instances + 7

abbrev pub decreases-in_line : goal.decreases-in_line
decreases-in_line l = l.depth * per_call l.program.now.instances

abbrev pub decreases-put_body : goal.decreases-put_body
decreases-put_body l = l.depth * per_call l.program.now.instances + 4 * most size-Core l.f.now.body + 4

abbrev pub decreases-lower : goal.decreases-lower
decreases-lower l = l.depth * per_call l.program.now.instances + 4 * goal.size-lower l + 1

abbrev pub decreases-lower_all : goal.decreases-lower_all
decreases-lower_all l = l.depth * per_call l.program.now.instances + 4 * goal.size-lower_all l + 2

abbrev pub decreases-lower_part : goal.decreases-lower_part
decreases-lower_part l = l.depth * per_call l.program.now.instances + 4 * goal.size-lower_part l + 3

abbrev pub decreases-lower_call : goal.decreases-lower_call
decreases-lower_call l = l.depth * per_call l.program.now.instances + 1

abbrev pub decreases-lower_if : goal.decreases-lower_if
decreases-lower_if l =
    l.depth * per_call l.program.now.instances + 4 * max (most size-Core l.yes.now) (most size-Core l.no.now) + 4
