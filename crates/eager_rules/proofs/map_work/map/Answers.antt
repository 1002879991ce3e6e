use Rattle.std.proofs.Common.{◌≡◌, ◌∙◌, ap, sym, subst, ℤ, List, [], ◌∷◌, ◌++◌, length, IfOk, Ok}
use Rattle.view_places.specs.Shape.{extents}
use Rattle.array_ops.specs.Arrays.{whole_of}
use Rattle.array_ops.specs.Elements.{ArrayOf, map_elements, shape_of}
use Rattle.array_ops.specs.Operands.{extents_result}
use Rattle.eager_rules.specs.Running.{done_by, meanings}
use Rattle.eager_rules.specs.Works.{Done, Made, made_new, map_work}
use Rattle.eager_rules.proofs.map_work.map.Goals as goal

pub returns-in_ok-words-in-Ok : goal.returns-in_ok-words-in-Ok
returns-in_ok-words-in-Ok c =
    let shaped : shape_of (meanings c.args.args.now) ≡ Ok (extents c.in-Ok.shape) =
    sym c.in_ok-shape.ensures.value ∙ ap extents_result c.in-Ok.is in
    let words : c.in_ok-words-in-Ok.words ≡
    map_elements c.args.buffers.now (extents c.in-Ok.shape) c.args.op (meanings c.args.args.now) =
    c.in_ok-words-in-Ok.ensures ∙
    ap (λ (bs : List (List ℤ)). map_elements bs (extents c.in-Ok.shape) c.args.op (meanings c.args.args.now))
    c.as_slice.ensures in
    let same : Made (c.args.buffers.now ++ c.in_ok-words-in-Ok.words ∷ [])
    (ArrayOf (whole_of (length c.args.buffers.now) (extents c.in-Ok.shape)) ∷ []) ≡
    map_work c.args.op c.args.at (meanings c.args.args.now) c.args.buffers.now =
    ap (λ (ws : List ℤ). Made (c.args.buffers.now ++ ws ∷ [])
    (ArrayOf (whole_of (length c.args.buffers.now) (extents c.in-Ok.shape)) ∷ [])) words ∙
    ap (made_new c.args.buffers.now c.args.at
    (λ ns. map_elements c.args.buffers.now ns c.args.op (meanings c.args.args.now))) (sym shaped) in
    subst (λ (d : Done). IfOk c.new_array.result (λ w. done_by c.new_array.new.buffers w ≡ d)) same c.new_array.ensures
