use Rattle.std.proofs.Common.{◌≡◌, ◌≤◌, ◌==◌, ◌∙◌, ap, take, length, arith}
use Rattle.std.specs.List.{list_any}
use Rattle.std.proofs.lemmas.List.{take_all}
use Rattle.call_chains.proofs.LayerLaws.{layer_first}
use Rattle.call_chains.proofs.layers.first_layer.Goals as goal

pub returns : goal.returns
returns c =
    let end : length c.args.exported.now ≤ c.loop-f.f-index = omega arith in
    layer_first c.args.rows.now c.args.exported.now c.loop-f.marks.items c.loop-f.invariant.count
    (λ g lt. c.loop-f.invariant.marks g lt ∙ ap (list_any (λ f. f == g)) (take_all c.loop-f.f-index
    c.args.exported.now end))
