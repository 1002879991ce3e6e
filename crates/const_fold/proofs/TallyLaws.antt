-- What blocks bind and reduce, block by block, and what counting gives.
use Rattle.std.proofs.Common.{arith, ◌≡◌, ◌∙◌, ap, ap₂, sym, refl, ℕ, zero, suc, ◌+◌, ◌<◌, ◌==◌, ◌&&◌, ◌||◌}
use Rattle.std.proofs.Common.{Bool, true, false, cond, not, List, [], ◌∷◌, ◌++◌, map, length, replicate}
use Rattle.std.proofs.Common.{Option, Some, None, option_map, slice_get}
use Rattle.std.proofs.lemmas.Bool.Decides.{nat_tests}
use Rattle.std.proofs.lemmas.List.{append_assoc}
use Rattle.std.proofs.lemmas.List.Concat.{flat_map-append}
use Rattle.std.proofs.lemmas.List.Folds.{flat_map-map}
use Rattle.std.proofs.lemmas.List.Sums.{sum_by-cons}
use Rattle.std.specs.List.{flat_map}
use Rattle.krn_base.specs.declared.operation.Join.{Join}
use Rattle.krn_base.specs.declared.place.Loc.{Loc}
use Rattle.eager_rules.specs.Statements.{binds, binds_step}
use Rattle.eager_rules.specs.declared.program.Core.{Core, roll-Core}
use Rattle.eager_rules.specs.declared.program.Core.TheOpen as c
use Rattle.eager_rules.specs.declared.program.Core.TheFolds.{fold-Core, fold-roll-Core, map-Core}
use Rattle.eager_rules.specs.declared.program.Core.TheVariants as made
use Rattle.eager_rules.specs.declared.program.Oper.{Oper}
use Rattle.eager_rules.specs.declared.program.Instance.{Instance}
use Rattle.inline.specs.Own.{is_among}
use Rattle.const_fold.specs.Folded.{reduced, reduced_names, reduced_step, times}
use Rattle.const_fold.specs.Tallies.{AreTallies, after, is_once, one_more}
use Rattle.const_fold.specs.declared.tallies.Tally.{Tally}
use Rattle.const_fold.specs.declared.tallies.Tally.TheVariants.{Never, More}

-- the names of each part of a block
flat_parts : (f : Core → List ℕ) (xs : List Core) → flat_map (λ (names : List ℕ). names) (map f xs) ≡ flat_map f xs
flat_parts f xs = flat_map-map (λ (names : List ℕ). names) f xs

flat_two_parts : (f : Core → List ℕ) (xs ys : List Core) →
    flat_map (λ (names : List ℕ). names) (map f xs ++ map f ys) ≡ flat_map f xs ++ flat_map f ys
flat_two_parts f xs ys =
    flat_map-append (λ (names : List ℕ). names) (map f xs) (map f ys)
    ∙ ap₂ (λ (a b : List ℕ). a ++ b) (flat_parts f xs) (flat_parts f ys)

-- what a fold makes of a statement, as it is in the code
folds : (step : c.Core-F (List ℕ) → List ℕ) (core as_made : Core) (y : c.Core-F Core) → core ≡ as_made →
    roll-Core y ≡ as_made → step (map-Core Core (List ℕ) (fold-Core (List ℕ) step) y) ≡ fold-Core (List ℕ) step core
folds step core as_made y e r =
    sym (fold-roll-Core (List ℕ) step y) ∙ ap (fold-Core (List ℕ) step) (r ∙ sym e)

pub bound_if : (core : Core) (cond : Oper) (part other front back : List Core) → core ≡ made.If cond part other
    → front ≡ part → back ≡ other → binds front ++ binds back ≡ fold-Core (List ℕ) binds_step core
bound_if core cond part other front back e f g =
    ap₂ (λ (xs ys : List Core). binds xs ++ binds ys) f g
    ∙ (sym (flat_two_parts (fold-Core (List ℕ) binds_step) part other)
    ∙ folds binds_step core (made.If cond part other) (c.If cond part other) e (made.rolls-If cond part other))

pub bound_for : (core : Core) (var : ℕ) (lo hi by : Oper) (at : Loc) (omp : Option (List (Join × ℕ)))
    (body inner : List Core) → core ≡ made.For var lo hi by at omp body → inner ≡ body →
    (var ∷ []) ++ binds inner ≡ fold-Core (List ℕ) binds_step core
bound_for core var lo hi by at omp body inner e f =
    ap (λ (xs : List Core). var ∷ binds xs) f
    ∙ (ap (λ (rest : List ℕ). var ∷ rest) (sym (flat_parts (fold-Core (List ℕ) binds_step) body))
    ∙ folds binds_step core (made.For var lo hi by at omp body) (c.For var lo hi by at omp body) e
    (made.rolls-For var lo hi by at omp body))

pub reduced_if : (core : Core) (cond : Oper) (part other front back : List Core) →
    core ≡ made.If cond part other → front ≡ part → back ≡ other →
    reduced front ++ reduced back ≡ fold-Core (List ℕ) reduced_step core
reduced_if core cond part other front back e f g =
    ap₂ (λ (xs ys : List Core). reduced xs ++ reduced ys) f g
    ∙ (sym (flat_two_parts (fold-Core (List ℕ) reduced_step) part other)
    ∙ folds reduced_step core (made.If cond part other) (c.If cond part other) e (made.rolls-If cond part other))

pub reduced_for : (core : Core) (var : ℕ) (lo hi by : Oper) (at : Loc) (omp : Option (List (Join × ℕ)))
    (body inner : List Core) → core ≡ made.For var lo hi by at omp body → inner ≡ body →
    reduced_names omp ++ reduced inner ≡ fold-Core (List ℕ) reduced_step core
reduced_for core var lo hi by at omp body inner e f =
    ap (λ (xs : List Core). reduced_names omp ++ reduced xs) f
    ∙ (ap (λ (rest : List ℕ). reduced_names omp ++ rest) (sym (flat_parts (fold-Core (List ℕ) reduced_step) body))
    ∙ folds reduced_step core (made.For var lo hi by at omp body) (c.For var lo hi by at omp body) e
    (made.rolls-For var lo hi by at omp body))

-- two lists behind another
pub both_put : (old mid xs ys whole : List ℕ) → mid ≡ old ++ xs → xs ++ ys ≡ whole → mid ++ ys ≡ old ++ whole
both_put old mid xs ys whole e f =
    ap (λ (l : List ℕ). l ++ ys) e ∙ (append_assoc old xs ys ∙ ap (λ (l : List ℕ). old ++ l) f)

-- ---- counting
times_cons : (k name : ℕ) (rest : List ℕ) → times k (name ∷ rest) ≡ cond (name == k) 1 0 + times k rest
times_cons k name rest = sum_by-cons (λ (other : ℕ). cond (other == k) 1 0) name rest

-- a name at the front of a list, and the rest of it
pub after_more : (k name : ℕ) (rest : List ℕ) (entry : Option Tally) →
    option_map (after (times k rest)) (option_map (after (times k (name ∷ []))) entry) ≡
    option_map (after (times k (name ∷ rest))) entry
after_more k name rest None = refl
after_more k name rest (Some tally) =
    ap (λ (n : ℕ). Some (after (times k rest) (after n tally))) (times_cons k name [])
    ∙ (by_test (name == k) (times k rest) ∙ ap (λ (n : ℕ). Some (after n tally)) (sym (times_cons k name rest)))
  where
    one_more_is : (n : ℕ) → suc n ≡ 1 + n
    one_more_is n = omega arith

    none_more_is : (n : ℕ) → n ≡ 0 + n
    none_more_is n = omega arith

    by_test : (b : Bool) (n : ℕ) → ◌≡◌ {A = Option Tally} (Some (after n (after (cond b 1 0 + 0) tally)))
        (Some (after (cond b 1 0 + n) tally))
    by_test true n = ap (λ (m : ℕ). Some (after m tally)) (one_more_is n)
    by_test false n = ap (λ (m : ℕ). Some (after m tally)) (none_more_is n)

after_more_than_one : (n : ℕ) → after n More ≡ More
after_more_than_one zero = refl
after_more_than_one (suc n) = after_more_than_one n

abbrev is_positive : ℕ → Bool
is_positive zero = false
is_positive (suc n) = true

-- a name that is bound so often and is so often in reductions
once_after : (bound reductions : ℕ) →
    is_once (Some (after reductions (after reductions (after bound Never)))) ≡
    ((bound == 1) && not (is_positive reductions))
once_after zero zero = refl
once_after zero (suc zero) = refl
once_after zero (suc (suc n)) =
    ap (λ (t : Tally). is_once (Some (after n (one_more (one_more t))))) (after_more_than_one n)
    ∙ ap (λ (t : Tally). is_once (Some t)) (after_more_than_one n)
once_after (suc zero) zero = refl
once_after (suc zero) (suc n) =
    ap (λ (t : Tally). is_once (Some (after n (one_more t)))) (after_more_than_one n)
    ∙ ap (λ (t : Tally). is_once (Some t)) (after_more_than_one n)
once_after (suc (suc m)) n =
    ap (λ (t : Tally). is_once (Some (after n (after n t)))) (after_more_than_one m)
    ∙ (ap (λ (t : Tally). is_once (Some (after n t))) (after_more_than_one n)
    ∙ (ap (λ (t : Tally). is_once (Some t)) (after_more_than_one n)
    ∙ ap (λ (t : Bool). t && not (is_positive n)) (sym more)))
  where
    more : (suc (suc m) == 1) ≡ false
    more = grind (arith, nat_tests)

among_counted : (k : ℕ) (names : List ℕ) → is_positive (times k names) ≡ is_among k names
among_counted k [] = refl
among_counted k (name ∷ names) =
    ap is_positive (times_cons k name names) ∙ by_test (name == k) (times k names) (among_counted k names)
  where
    one_more_is : (n : ℕ) → 1 + n ≡ suc n
    one_more_is n = omega arith

    none_more_is : (n : ℕ) → 0 + n ≡ n
    none_more_is n = omega arith

    by_test : (b : Bool) (n : ℕ) → is_positive n ≡ is_among k names →
        is_positive (cond b 1 0 + n) ≡ (b || is_among k names)
    by_test true n h = ap is_positive (one_more_is n)
    by_test false n h = ap is_positive (none_more_is n) ∙ h

abbrev counts : ℕ → List Tally → List ℕ → List Tally → Type 0
counts k before names behind =
    slice_get behind k ≡ option_map (after (times k names)) (slice_get before k)

-- names that were never bound, those that are bound, and those in reductions twice
pub tallied : (f : Instance) (none bound once twice : List Tally) (bs rs qs : List ℕ) →
    none ≡ replicate (length f.names) Never → bs ≡ binds f.body → rs ≡ reduced f.body → qs ≡ reduced f.body →
    ((k : ℕ) → counts k none bs bound) → ((k : ℕ) → counts k bound rs once) → ((k : ℕ) → counts k once qs twice) →
    AreTallies f twice
tallied f none bound once twice bs rs qs e is_bs is_rs is_qs b r s name within =
    let b_names : ℕ = times name (binds f.body) in
    let r_names : ℕ = times name (reduced f.body) in
    let first : slice_get none name ≡ Some Never =
    ap (λ (l : List Tally). slice_get l name) e ∙ never (length f.names) name within in
    let second : slice_get bound name ≡ Some (after b_names Never) =
    b name ∙ ap₂ (λ (l : List ℕ) (t : Option Tally). option_map (after (times name l)) t) is_bs first in
    let third : slice_get once name ≡ Some (after r_names (after b_names Never)) =
    r name ∙ ap₂ (λ (l : List ℕ) (t : Option Tally). option_map (after (times name l)) t) is_rs second in
    let fourth : slice_get twice name ≡ Some (after r_names (after r_names (after b_names Never))) =
    s name ∙ ap₂ (λ (l : List ℕ) (t : Option Tally). option_map (after (times name l)) t) is_qs third in
    ap is_once fourth ∙ (once_after b_names r_names
    ∙ ap (λ (t : Bool). (b_names == 1) && not t) (among_counted name (reduced f.body)))
  where
    never : (n k : ℕ) → k < n → slice_get (replicate n Never) k ≡ Some Never
    never zero k h = absurd (omega (arith, h))
    never (suc n) zero h = refl
    never (suc n) (suc k) h = never n k (omega (arith, h))
