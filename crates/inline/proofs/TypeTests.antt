-- What the tests of types say of an instance's names.
use Rattle.std.proofs.Common.{◌≡◌, ◌∙◌, ap, subst, refl, ℕ, zero, suc, Bool, true, false, ◌&&◌}
use Rattle.std.proofs.Common.{List, [], ◌∷◌, take, slice_get, Option, Some, None}
use Rattle.std.proofs.lemmas.Bool.{eqb-true}
use Rattle.std.specs.Prelude.{◌==◌, if◌then◌else◌}
use Rattle.krn_base.specs.declared.kind.Kind.{Kind}
use Rattle.krn_base.specs.declared.kind.Kind.TheVariants.{Int64, Bool as Boolean}
use Rattle.eager_rules.specs.Sound.{array_named, given_types, has_type, keep_array, named_types, one_type}
use Rattle.eager_rules.specs.Types.{Ty, add_type, is_array, same_kind, same_type, same_types, type_of, types_of}
use Rattle.eager_rules.specs.declared.program.Oper.{Oper}

pub not_true : {A : Type 0} → false ≡ true → A
not_true h = absurd (let e : false ≡ true = h in cc)

pub and_left : (a b : Bool) → a && b ≡ true → a ≡ true
and_left true b h = refl
and_left false b h = h

pub and_right : (a b : Bool) → a && b ≡ true → b ≡ true
and_right true b h = h
and_right false b h = not_true h

pub some_same : {A : Type 0} (a b : A) → Some a ≡ Some b → a ≡ b
some_same a b e = cc

pub none_some : {A B : Type 0} (a : A) → ◌≡◌ {A = Option A} None (Some a) → B
none_some a e = absurd (let h = e in cc)

same_kinds : (a b : Kind) → same_kind a b ≡ true → a ≡ b
same_kinds Int64 Int64 h = refl
same_kinds Int64 Boolean h = not_true h
same_kinds Boolean Int64 h = not_true h
same_kinds Boolean Boolean h = refl

pub same_one : (t u : Ty) → same_type t u ≡ true → t ≡ u
same_one (a, m) (b, n) h =
    ap (λ (k : Kind). let t : Ty = (k, m) in t) (same_kinds a b (and_left (same_kind a b) (m == n) h)) ∙
    ap (λ (x : ℕ). let t : Ty = (b, x) in t) (eqb-true m n (and_right (same_kind a b) (m == n) h))

pub same_all : (ts us : List Ty) → same_types ts us ≡ true → ts ≡ us
same_all [] [] h = refl
same_all [] (u ∷ us) h = not_true h
same_all (t ∷ ts) [] h = not_true h
same_all (t ∷ ts) (u ∷ us) h =
    ap (λ (x : Ty). x ∷ ts) (same_one t u (and_left (same_type t u) (same_types ts us) h)) ∙
    ap (λ (xs : List Ty). u ∷ xs) (same_all ts us (and_right (same_type t u) (same_types ts us) h))

pub some_given : {A : Type 0} (o : Option A) (test : A → Bool) → given_types o test ≡ true →
    (x : A) × (o ≡ Some x) × (test x ≡ true)
some_given None test h = not_true h
some_given (Some x) test h = (x, refl, h)

pub one_given : (o : Option Ty) (t : Ty) → one_type o t ≡ true → o ≡ Some t
one_given None t h = not_true h
one_given (Some u) t h = ap (λ (x : Ty). Some x) (same_one u t h)

pub typed_name : (names : List Ty) (name : ℕ) (o : Option Ty) → has_type names name o ≡ true →
    (t : Ty) × (o ≡ Some t) × (slice_get names name ≡ Some t)
typed_name names name None h = not_true h
typed_name names name (Some t) h = (t, refl, one_given (slice_get names name) t h)

kept_by : (test : Bool) (t u : Ty) → (if test then Some t else None) ≡ Some u → (t ≡ u) × (test ≡ true)
kept_by true t u h = (some_same t u h, refl)
kept_by false t u h = none_some u h

array_given : (o : Option Ty) (t : Ty) → keep_array o ≡ Some t → (o ≡ Some t) × (is_array t ≡ true)
array_given None t h = none_some t h
array_given (Some u) t h =
    let found = kept_by (is_array u) u t h in
    (ap (λ (x : Ty). Some x) found.0, subst (λ (x : Ty). is_array x ≡ true) found.0 found.1)

pub array_named_given : (names : List Ty) (of : ℕ) (test : Ty → Bool) →
    given_types (array_named names of) test ≡ true →
    (t : Ty) × (slice_get names of ≡ Some t) × (is_array t ≡ true) × (test t ≡ true)
array_named_given names of test f =
    let found = some_given (array_named names of) test f in
    let array = array_given (slice_get names of) found.0 found.1 in
    (found.0, array.0, array.1, found.2)

pub add_given : (o : Option Ty) (os : Option (List Ty)) (types : List Ty) → add_type o os ≡ Some types →
    (t : Ty) × (rest : List Ty) × (o ≡ Some t) × (os ≡ Some rest) × (t ∷ rest ≡ types)
add_given None os types h = none_some types h
add_given (Some t) None types h = none_some types h
add_given (Some t) (Some rest) types h = (t, rest, refl, refl, some_same (t ∷ rest) types h)

-- operands have these types
abbrev pub Reads : List Ty → List Oper → List Ty → Type 0
Reads names [] [] = Unit {0}
Reads names [] (t ∷ types) = ⊥
Reads names (x ∷ xs) [] = ⊥
Reads names (x ∷ xs) (t ∷ types) = (type_of names x ≡ Some t) × Reads names xs types

pub reads_given : (names : List Ty) (xs : List Oper) (types : List Ty) → types_of names xs ≡ Some types →
    Reads names xs types
reads_given names [] types h =
    subst (Reads names []) (some_same [] types h) tt
reads_given names (x ∷ xs) types h =
    let found = add_given (type_of names x) (types_of names xs) types h in
    subst (λ (ts : List Ty). Reads names (x ∷ xs) ts) found.4
    (found.2, reads_given names xs found.1 found.3)

-- names have these types
abbrev pub Named : List Ty → List ℕ → List Ty → Type 0
Named names [] types = Unit {0}
Named names (name ∷ to) [] = ⊥
Named names (name ∷ to) (t ∷ types) = (slice_get names name ≡ Some t) × Named names to types

pub names_given : (names : List Ty) (to : List ℕ) (types : List Ty) → named_types names to ≡ Some types →
    Named names to types
names_given names [] types h = tt
names_given names (name ∷ to) types h =
    let found = add_given (slice_get names name) (named_types names to) types h in
    subst (λ (ts : List Ty). Named names (name ∷ to) ts) found.4
    (found.2, names_given names to found.1 found.3)

-- an array's rank is no scalar's
pub array_rank : (t : Ty) → is_array t ≡ true → (r : ℕ) × (t.1 ≡ suc r)
array_rank (kind, zero) h = not_true h
array_rank (kind, suc r) h = (r, refl)

pub taken_get : {A : Type 0} (xs : List A) (n j : ℕ) (x : A) → slice_get (take n xs) j ≡ Some x →
    slice_get xs j ≡ Some x
taken_get [] n j x h = by_count n h
  where
    by_count : (n : ℕ) → slice_get (take n []) j ≡ Some x → slice_get [] j ≡ Some x
    by_count zero h = h
    by_count (suc n) h = h
taken_get (y ∷ xs) zero j x h = none_some x h
taken_get (y ∷ xs) (suc n) zero x h = h
taken_get (y ∷ xs) (suc n) (suc j) x h = taken_get xs n j x h
