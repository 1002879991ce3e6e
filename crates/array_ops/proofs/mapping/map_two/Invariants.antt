use Rattle.std.proofs.Common.{◌≡◌, ◌<◌, map}
use Rattle.std.specs.List.{range_with_len}
use Rattle.krn_base.specs.Numbers.{element_result}
use Rattle.array_ops.specs.Sources.{StandsAt, item_of, list_of}
use Rattle.array_ops.proofs.mapping.map_two.Given as goal

-- the results so far
abbrev pub invariant-loop-k : goal.invariant-loop-k
invariant-loop-k l =
    (l.words ≡ map (λ j. element_result l.fn.op (item_of l.fn.count l.fn.a j)
    (item_of l.fn.count l.fn.b j)) (range_with_len 0 l.k))
    × ((list_of l.fn.count l.a ≡ list_of l.fn.count l.fn.a) × ((l.k < l.fn.count → StandsAt l.fn.count l.k l.a)
    × ((list_of l.fn.count l.b ≡ list_of l.fn.count l.fn.b) × (l.k < l.fn.count → StandsAt l.fn.count l.k l.b))))
