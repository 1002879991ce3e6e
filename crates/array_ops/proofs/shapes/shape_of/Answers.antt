use Rattle.std.proofs.Common.{◌≡◌, ℕ, List, map, ◌∙◌, ap, sym, Ok, Err, IfOk, IfErr, Result}
use Rattle.std.proofs.lemmas.List.Folds.{flat_map-map}
use Rattle.krn_base.specs.declared.fault.Fault.{Fault}
use Rattle.view_places.specs.Arrays.{broadcast_of}
use Rattle.view_places.specs.Shape.{extents}
use Rattle.view_places.specs.declared.shape.Shape.{Shape}
use Rattle.array_ops.specs.Elements.{extents_of}
use Rattle.array_ops.specs.Operands.{extents_result, meaning_of}
use Rattle.array_ops.proofs.Spreading.{if_shaped}
use Rattle.array_ops.proofs.shapes.shape_of.Goals as goal

-- an answer is the broadcast, by its two clauses
by_clauses : (r : Result Shape Fault) (xs : List (List ℕ)) →
    IfOk r (λ s. broadcast_of xs ≡ Ok (extents s)) → IfErr r (λ fault. broadcast_of xs ≡ Err fault) →
    extents_result r ≡ broadcast_of xs
by_clauses (Ok s) xs ok err = sym ok
by_clauses (Err fault) xs ok err = sym err

pub returns-clause-value : goal.returns-clause-value
returns-clause-value c =
    by_clauses c.broadcast_all.result (map extents c.as_slice.result.now) c.broadcast_all.ensures.value
    c.broadcast_all.ensures.fault ∙ ap broadcast_of
    (ap (map extents) c.as_slice.ensures ∙ c.in_ok-shapes.ensures.extents ∙
    sym (flat_map-map extents_of meaning_of c.args.operands.now))

pub returns-clause-spreads : goal.returns-clause-spreads
returns-clause-spreads c =
    if_shaped c.args.operands.now c.as_slice.result.now c.broadcast_all.result
    (ap (map extents) c.as_slice.ensures ∙ c.in_ok-shapes.ensures.extents) c.broadcast_all.ensures.spreads
