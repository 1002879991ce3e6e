-- A well-typed call has no more names than its instance has values; and what a call comes to in the flat form.
use Rattle.std.proofs.Common.{◌≡◌, ◌∙◌, ap, sym, refl, arith, ℕ, suc, ◌+◌, ◌≤◌, Bool, true}
use Rattle.std.proofs.Common.{List, [], ◌∷◌, map, length, Option, Some, None}
use Rattle.std.proofs.lemmas.List.{length-map}
use Rattle.std.specs.Prelude.{nat_lt, slice_get, unwrap_or}
use Rattle.std.specs.List.{list_all}
use Rattle.eager_rules.specs.Blocks.{End, GoesOn, Faulted}
use Rattle.eager_rules.specs.Eager.{Calls, bind_all, block}
use Rattle.eager_rules.specs.Sound.{Head, call_fits, given_types, named_types, takes_values}
use Rattle.eager_rules.specs.State.{State, is_bound, operand, with_buffers}
use Rattle.eager_rules.specs.Types.{Ty, add_type, same_type, same_types, type_of, types_of}
use Rattle.eager_rules.specs.Works.{Done, Made, Failed, Blocked}
use Rattle.eager_rules.specs.declared.program.Oper.{Oper}
use Rattle.eager_rules.specs.declared.program.Oper.TheVariants as oper
use Rattle.inline.specs.Flat.{Inline}
use Rattle.inline.proofs.Frames.{LikeBelow, and_right, not_both}

-- ---- the types of a call
pub none_some : {A B : Type 0} (x : A) → ◌≡◌ {A = Option A} None (Some x) → B
none_some x e = absurd (let h = e in cc)

pub some_same : {A : Type 0} (x y : A) → Some x ≡ Some y → x ≡ y
some_same x y e = ap (λ (o : Option _). unwrap_or o x) e

some_given : {A : Type 0} (o : Option A) (test : A → Bool) → given_types o test ≡ true →
    (x : A) × ((o ≡ Some x) × (test x ≡ true))
some_given None test h = not_both (sym h)
some_given (Some x) test h = (x, (refl, h))

counted : (names : List Ty) (xs : List Oper) (types : List Ty) → types_of names xs ≡ Some types →
    length types ≡ length xs
counted names [] types e = ap length (sym (some_same [] types e))
counted names (x ∷ xs) types e = by_parts (type_of names x) (types_of names xs) (counted names xs) refl e
  where
    by_parts : (a : Option Ty) (b : Option (List Ty)) →
        ((ts : List Ty) → types_of names xs ≡ Some ts → length ts ≡ length xs) → types_of names xs ≡ b →
        add_type a b ≡ Some types → length types ≡ suc (length xs)
    by_parts None b rest is e = none_some types e
    by_parts (Some t) None rest is e = none_some types e
    by_parts (Some t) (Some ts) rest is e =
        ap length (sym (some_same (t ∷ ts) types e)) ∙ ap (λ (n : ℕ). suc n) (rest ts is)

pub same_count : (ts us : List Ty) → same_types ts us ≡ true → length ts ≡ length us
same_count [] [] h = refl
same_count [] (u ∷ us) h = not_both (sym h)
same_count (t ∷ ts) [] h = not_both (sym h)
same_count (t ∷ ts) (u ∷ us) h =
    ap (λ (n : ℕ). suc n) (same_count ts us (and_right (same_type t u) (same_types ts us) h))

abbrev pub TakesValues : Option Head → List ℕ → Type 0
TakesValues None to = Unit {0}
TakesValues (Some head) to = length to ≤ length head.1

values_taken : (names : List Ty) (to : List ℕ) (rets : List Ty) → takes_values names to rets ≡ true →
    length to ≤ length rets
values_taken names [] rets h = omega arith
values_taken names (n ∷ to) rets h =
    let found = some_given (named_types names (n ∷ to)) (λ types. same_types types rets) h in
    let mine : length found.0 ≡ length (map oper.Name (n ∷ to)) =
    counted names (map oper.Name (n ∷ to)) found.0 found.1.0 in
    let theirs : length found.0 ≡ length rets = same_count found.0 rets found.1.1 in
    let names : length (map oper.Name (n ∷ to)) ≡ length (n ∷ to) = length-map (n ∷ to) oper.Name in
    omega (arith, mine, theirs, names)

pub call_takes : (names : List Ty) (o : Option Head) (to : List ℕ) (args : List Oper) →
    call_fits names o to args ≡ true → TakesValues o to
call_takes names None to args h = tt
call_takes names (Some head) to args h =
    values_taken names to head.1
    (and_right (given_types (types_of names args) (λ types. same_types types head.0)) (takes_values names to head.1) h)

pub takes_same : (o : Option Head) (to others : List ℕ) → length others ≡ length to → TakesValues o to →
    TakesValues o others
takes_same None to others same h = tt
takes_same (Some head) to others same h = omega (arith, same, h)

-- ---- what a call comes to where its instance's body stands in its place, behind k names
abbrev pub Landed : ℕ → List ℕ → Done → State → State × End → Type 0
Landed k to (Made buffers values) t q =
    LikeBelow k (bind_all to values (with_buffers buffers t)) q.0 × (q.1 ≡ GoesOn)
Landed k to (Failed buffers fault at) t q = (buffers ≡ q.0.buffers) × (q.1 ≡ Faulted fault at)
Landed k to (Blocked buffers) t q = Unit {0}

abbrev pub oper_below : ℕ → Oper → Bool
oper_below k (oper.Int z) = true
oper_below k (oper.Truth b) = true
oper_below k (oper.Name n) = nat_lt n k

abbrev pub CallFollows : Calls → Calls → Inline → List Head → Type 0
CallFollows calls others flat heads =
    (i : ℕ) (to : List ℕ) (args : List Oper) (k : ℕ) (t : State) → TakesValues (slice_get heads i) to →
    k + length (flat i to args k).fresh ≤ length t.names →
    list_all (λ x. is_bound (operand t x)) args ≡ true → list_all (oper_below k) args ≡ true →
    list_all (λ n. nat_lt n k) to ≡ true →
    Landed k to (calls i (map (operand t) args) t.buffers) t (block others (flat i to args k).body t)
