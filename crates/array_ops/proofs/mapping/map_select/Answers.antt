use Rattle.std.proofs.Common.{rules, ◌≡◌, ◌∙◌, ap, ℕ, ℤ, pos, List, slice_index_or, map}
use Rattle.std.specs.List.{range_with_len}
use Rattle.array_ops.specs.Elements.{choose}
use Rattle.array_ops.specs.Sources.{item_of, list_of}
use Rattle.array_ops.proofs.Mapped.{from_three, one_more}
use Rattle.array_ops.proofs.mapping.map_select.Goals as goal

pub loop-k-preserved : goal.loop-k-preserved
loop-k-preserved c =
    let same_m : list_of c.args.count c.loop-k.mask ≡ list_of c.args.count c.args.mask = c.loop-k.invariant.1.0 in
    let same_a : list_of c.args.count c.loop-k.a ≡ list_of c.args.count c.args.a = c.loop-k.invariant.1.1.1.0 in
    let same_b : list_of c.args.count c.loop-k.b ≡ list_of c.args.count c.args.b = c.loop-k.invariant.1.1.1.1.1.0 in (
      one_more (λ j. choose (
        item_of c.args.count c.args.mask j,
        (
          item_of c.args.count c.args.a j,
          item_of c.args.count c.args.b j,
        ),
      )) c.push_choice.new.words c.loop-k.words c.loop-k.k
          (choose (
            item_of c.args.count c.loop-k.mask c.loop-k.k,
            (
              item_of c.args.count c.loop-k.a c.loop-k.k,
              item_of c.args.count c.loop-k.b c.loop-k.k,
            ),
          )) c.in_ok-push_choice.ensures.pushed c.loop-k.invariant.0
          (ap (λ (ms : List ℤ). choose (
            slice_index_or ms c.loop-k.k (pos 0),
            (
              item_of c.args.count c.loop-k.a c.loop-k.k,
              item_of c.args.count c.loop-k.b c.loop-k.k,
            ),
          )) same_m ∙
          ap (λ (xs : List ℤ). choose (
            item_of c.args.count c.args.mask c.loop-k.k,
            (
              slice_index_or xs c.loop-k.k (pos 0),
              item_of c.args.count c.loop-k.b c.loop-k.k,
            ),
          )) same_a ∙
          ap (λ (ys : List ℤ). choose (
            item_of c.args.count c.args.mask c.loop-k.k,
            (
              item_of c.args.count c.args.a c.loop-k.k,
              slice_index_or ys c.loop-k.k (pos 0),
            ),
          )) same_b),
      (
        c.push_choice.ensures.mask ∙ same_m,
        (
          c.push_choice.ensures.mask_stands,
          (
            c.push_choice.ensures.first ∙ same_a,
            (
              c.push_choice.ensures.first_stands,
              (c.push_choice.ensures.second ∙ same_b, c.push_choice.ensures.second_stands),
            ),
          ),
        ),
      ),
    )

pub returns : goal.returns
returns c =
    let all : c.loop-k.k ≡ c.args.count = search rules in
    c.loop-k.invariant.0 ∙ ap (λ (n : ℕ). map (λ j. choose (
      item_of c.args.count c.args.mask j,
      (item_of c.args.count c.args.a j, item_of c.args.count c.args.b j),
    )) (range_with_len 0 n)) all ∙
    from_three choose (list_of c.args.count c.args.mask) (list_of c.args.count c.args.a) (list_of c.args.count c.args.b)
    c.args.count c.requires.mask.size c.requires.first.size c.requires.second.size
