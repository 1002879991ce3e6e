-- Exponents of at most 62, which is what powers are asked for.
use Rattle.std.specs.Prelude.{Bool, true, ◌&&◌, nat_le, List, map}
use Rattle.std.specs.List.{list_all}
use Rattle.krn_base.specs.declared.operation.UnOp.{UnOp}
use Rattle.krn_base.specs.declared.operation.UnOp.TheVariants.{Pow}
use Rattle.array_ops.specs.declared.operation.MapOp.{MapOp}
use Rattle.array_ops.specs.declared.operation.MapOp.TheVariants as map_op
use Rattle.eager_rules.specs.declared.program.Core.{Core}
use Rattle.eager_rules.specs.declared.program.Core.TheOpen as c
use Rattle.eager_rules.specs.declared.program.Core.TheFolds.{fold-Core}
use Rattle.eager_rules.specs.declared.program.Instance.{Instance}
use Rattle.eager_rules.specs.declared.program.WordOp.{WordOp}
use Rattle.eager_rules.specs.declared.program.WordOp.TheVariants as word_op

abbrev pub is_small_power : UnOp → Bool
is_small_power (Pow k) = nat_le k 62
is_small_power _ = true

abbrev pub is_small_word : WordOp → Bool
is_small_word (word_op.Un op) = is_small_power op
is_small_word _ = true

abbrev pub is_small_map : MapOp → Bool
is_small_map (map_op.Un op) = is_small_power op
is_small_map _ = true

abbrev pub all_true : List Bool → Bool
all_true tests = list_all (λ test. test) tests

-- a statement, where those of its blocks are
abbrev pub small_step : c.Core-F Bool → Bool
small_step (c.Word to op args at) = is_small_word op
small_step (c.Map to op args at) = is_small_map op
small_step (c.If cond part other) = all_true part && all_true other
small_step (c.For var lo hi step at omp body) = all_true body
small_step _ = true

abbrev pub is_small : Core → Bool
is_small = fold-Core Bool small_step

abbrev pub all_small : List Core → Bool
all_small body = all_true (map is_small body)

abbrev pub bodies_small : List Instance → Bool
bodies_small instances = list_all (λ f. all_small f.body) instances
