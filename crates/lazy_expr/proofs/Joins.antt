-- Whether some or all of a list's words are other than 0, as a join of tests.
use Rattle.std.proofs.Common.{◌≡◌, ◌∙◌, ap, refl, ℤ, pos, Bool, true, false, ◌&&◌, ◌||◌, not, List, [], ◌∷◌, map}
use Rattle.std.proofs.Common.{arith, w64}
use Rattle.std.proofs.lemmas.Int.{int_wrap_fits}
use Rattle.std.specs.Prelude.{fold, if◌then◌else◌}
use Rattle.std.specs.List.{list_all, list_any}
use Rattle.krn_base.specs.Numbers.{is_zero, join_result, truth, unary_result}
use Rattle.krn_base.specs.declared.operation.Join.TheVariants as joins
use Rattle.krn_base.specs.declared.operation.UnOp.TheVariants as un
use Rattle.array_ops.specs.Elements.{is_set, joined}

or_step : (b zero : Bool) → join_result joins.Or (truth b) (truth (not zero)) ≡
    truth (b || (if zero then false else true))
or_step true true = refl
or_step true false = refl
or_step false true = refl
or_step false false = refl

and_step : (b zero : Bool) → join_result joins.Prod (truth b) (truth (not zero)) ≡
    truth (b && (if zero then false else true))
and_step true true = int_wrap_fits w64 (pos 0) (record { sfits = omega arith })
and_step true false = int_wrap_fits w64 (pos 1) (record { sfits = omega arith })
and_step false true = int_wrap_fits w64 (pos 0) (record { sfits = omega arith })
and_step false false = int_wrap_fits w64 (pos 0) (record { sfits = omega arith })

or_shift : (a b c : Bool) → truth ((a || b) || c) ≡ truth (a || (b || c))
or_shift true b c = refl
or_shift false b c = refl

and_shift : (a b c : Bool) → truth ((a && b) && c) ≡ truth (a && (b && c))
and_shift true b c = refl
and_shift false b c = refl

or_tests : (b : Bool) (xs : List ℤ) → fold (join_result joins.Or) (truth b) (map (unary_result un.Test) xs) ≡
    truth (b || list_any is_set xs)
or_tests true [] = refl
or_tests false [] = refl
or_tests b (x ∷ xs) =
    ap (λ (z : ℤ). fold (join_result joins.Or) z (map (unary_result un.Test) xs)) (or_step b (is_zero x)) ∙
    or_tests (b || is_set x) xs ∙ or_shift b (is_set x) (list_any is_set xs)

and_tests : (b : Bool) (xs : List ℤ) → fold (join_result joins.Prod) (truth b) (map (unary_result un.Test) xs) ≡
    truth (b && list_all is_set xs)
and_tests true [] = refl
and_tests false [] = refl
and_tests b (x ∷ xs) =
    ap (λ (z : ℤ). fold (join_result joins.Prod) z (map (unary_result un.Test) xs)) (and_step b (is_zero x)) ∙
    and_tests (b && is_set x) xs ∙ and_shift b (is_set x) (list_all is_set xs)

pub truth_set : (b : Bool) → truth (is_set (truth b)) ≡ truth b
truth_set true = refl
truth_set false = refl

pub any_joined : (xs : List ℤ) → joined joins.Or (map (unary_result un.Test) xs) ≡ truth (list_any is_set xs)
any_joined xs = or_tests false xs

pub all_joined : (xs : List ℤ) → joined joins.Prod (map (unary_result un.Test) xs) ≡ truth (list_all is_set xs)
all_joined xs = and_tests true xs
