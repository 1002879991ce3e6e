use Rattle.std.proofs.Common.{ℕ, Bool, ◌&&◌, ◌||◌, get_or, sym, ap, ◌∙◌}
use Rattle.std.specs.Prelude.{nat_eq}
use Rattle.std.proofs.lemmas.List.Folds.{list_any_more}
use Rattle.krn_base.specs.declared.place.Loc.{Loc}
use Rattle.export_sig.specs.Listing.{Places, is_among, is_place}
use Rattle.export_sig.proofs.Sets.{inserted, same_pair}
use Rattle.export_sig.proofs.loops.places.Goals as goal

pub loop-place-preserved : goal.loop-place-preserved
loop-place-preserved c = λ at.
    let zero : Loc = record { line = 0; col = 0 } in
    let place : Loc = get_or c.args.list.now c.loop-place.place-index zero in
    ap (λ (keys : Places). is_among keys at) c.in_ok-insert.ensures.keys
    ∙ inserted _ (λ (p : ℕ × ℕ). nat_eq at.line p.0 && nat_eq at.col p.1)
    (place.line, place.col) c.loop-place.set.keys
    (λ x e. ap (λ (p : ℕ × ℕ). nat_eq at.line p.0 && nat_eq at.col p.1) (same_pair (place.line, place.col) x e))
    ∙ ap (λ (t : Bool). t || is_place at place) (c.loop-place.invariant at)
    ∙ sym (list_any_more (is_place at) c.args.list.now c.loop-place.place-index zero c.loop-place-test.true)
