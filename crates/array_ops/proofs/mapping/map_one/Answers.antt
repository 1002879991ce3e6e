use Rattle.std.proofs.Common.{rules, ◌≡◌, ◌∙◌, ap, ℕ, ℤ, pos, List, slice_index_or, map}
use Rattle.std.specs.List.{range_with_len}
use Rattle.krn_base.specs.Numbers.{unary_result}
use Rattle.array_ops.specs.Sources.{item_of, list_of}
use Rattle.array_ops.proofs.Mapped.{from_one, one_more}
use Rattle.array_ops.proofs.mapping.map_one.Goals as goal

pub loop-k-preserved : goal.loop-k-preserved
loop-k-preserved c =
    let same : list_of c.args.count c.loop-k.a ≡ list_of c.args.count c.args.a = c.loop-k.invariant.1.0 in (
      one_more (λ j. unary_result c.args.op (item_of c.args.count c.args.a j))
          c.push_one.new.words c.loop-k.words c.loop-k.k
          (unary_result c.args.op (item_of c.args.count c.loop-k.a c.loop-k.k))
          c.in_ok-push_one.ensures.pushed c.loop-k.invariant.0
          (ap (λ (xs : List ℤ). unary_result c.args.op (slice_index_or xs c.loop-k.k (pos 0))) same),
      (c.push_one.ensures.list ∙ same, c.push_one.ensures.stands),
    )

pub returns : goal.returns
returns c =
    let all : c.loop-k.k ≡ c.args.count = search rules in
    c.loop-k.invariant.0 ∙ ap (λ (n : ℕ). map (λ j. unary_result c.args.op (item_of c.args.count c.args.a j))
    (range_with_len 0 n)) all ∙ from_one (unary_result c.args.op) (list_of c.args.count c.args.a) c.args.count
    c.requires.fresh.size
