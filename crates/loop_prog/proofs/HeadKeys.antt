-- Two kernels have one key where they have one name and the same types.
use Rattle.std.proofs.Common.{◌≡◌, ℕ, Bool, true, false, cond, ◌&&◌, ◌||◌, eqb, List, [], ◌∷◌, ◌++◌, refl, sym, ap}
use Rattle.std.proofs.Common.{◌∙◌}
use Rattle.std.proofs.lemmas.List.Folds.{list_any-append}
use Rattle.std.proofs.lemmas.Slice.Eq.{bytes_eq-Decides}
use Rattle.std.specs.List.{list_any}
use Rattle.std.specs.Str.{bytes_eq}
use Rattle.krn_base.specs.declared.kind.Kind.{Kind}
use Rattle.krn_base.specs.declared.kind.Kind.TheVariants.{Int64, Bool as Truth}
use Rattle.krn_base.specs.declared.kind.ParamType.{ParamType}
use Rattle.krn_base.specs.declared.kind.ParamType.TheVariants.{Scalar, Flat, Strided}
use Rattle.loop_prog.specs.declared.program.Kernel.{Kernel}
use Rattle.loop_prog.specs.Heads.{kind_code, type_code, key, head_key}
use Rattle.eager_rules.specs.Types.{same_kind}
use Rattle.loop_prog.specs.Check.{same_head, same_param, same_params}
use Rattle.loop_prog.specs.Serial.{types_of_params}

and_true : (a : Bool) → a ≡ (a && true)
and_true true = refl
and_true false = refl

and_false : (a : Bool) → false ≡ (a && false)
and_false true = refl
and_false false = refl

-- the parts of a key against the parts of a signature
regroup : (form kind rank text rest : Bool) → (form && (kind && (rank && (text && rest)))) ≡
    (text && ((form && (kind && rank)) && rest))
regroup true true true text rest = refl
regroup true true false true rest = refl
regroup true true false false rest = refl
regroup true false rank true rest = refl
regroup true false rank false rest = refl
regroup false kind rank true rest = refl
regroup false kind rank false rest = refl

kind_key : (k l : Kind) → eqb (kind_code k) (kind_code l) ≡ same_kind k l
kind_key Int64 Int64 = refl
kind_key Int64 Truth = refl
kind_key Truth Int64 = refl
kind_key Truth Truth = refl

abbrev code_form : ParamType → ParamType → Bool
code_form t u = eqb (type_code t).0 (type_code u).0

abbrev code_kind : ParamType → ParamType → Bool
code_kind t u = eqb (type_code t).1 (type_code u).1

abbrev code_rank : ParamType → ParamType → Bool
code_rank t u = eqb (type_code t).2 (type_code u).2

type_key : (t u : ParamType) → (code_form t u && (code_kind t u && code_rank t u)) ≡ same_param t u
type_key (Scalar k) (Scalar l) = sym (and_true (eqb (kind_code k) (kind_code l))) ∙ kind_key k l
type_key (Scalar k) (Flat l m) = refl
type_key (Scalar k) (Strided l m) = refl
type_key (Flat k n) (Scalar l) = refl
type_key (Flat k n) (Flat l m) = ap (λ (t : Bool). t && eqb n m) (kind_key k l)
type_key (Flat k n) (Strided l m) = refl
type_key (Strided k n) (Scalar l) = refl
type_key (Strided k n) (Flat l m) = refl
type_key (Strided k n) (Strided l m) = ap (λ (t : Bool). t && eqb n m) (kind_key k l)

keys_differ : (t : ParamType) (types : List ParamType) (n m : List ℕ) → bytes_eq (key [] n) (key (t ∷ types) m) ≡ false
keys_differ (Scalar k) types n m = refl
keys_differ (Flat k r) types n m = refl
keys_differ (Strided k r) types n m = refl

keys_differ_too : (t : ParamType) (types : List ParamType) (n m : List ℕ) →
    bytes_eq (key (t ∷ types) n) (key [] m) ≡ false
keys_differ_too (Scalar k) types n m = refl
keys_differ_too (Flat k r) types n m = refl
keys_differ_too (Strided k r) types n m = refl

keys_same : (ts us : List ParamType) (n m : List ℕ) →
    bytes_eq (key ts n) (key us m) ≡ (bytes_eq n m && same_params ts us)
keys_same [] [] n m = and_true (bytes_eq n m)
keys_same [] (u ∷ us) n m = keys_differ u us n m ∙ and_false (bytes_eq n m)
keys_same (t ∷ ts) [] n m = keys_differ_too t ts n m ∙ and_false (bytes_eq n m)
keys_same (t ∷ ts) (u ∷ us) n m =
    ap (λ (rest : Bool). code_form t u && (code_kind t u && (code_rank t u && rest))) (keys_same ts us n m)
    ∙ regroup (code_form t u) (code_kind t u) (code_rank t u) (bytes_eq n m) (same_params ts us)
    ∙ ap (λ (same : Bool). bytes_eq n m && (same && same_params ts us)) (type_key t u)

pub one_key : (a b : Kernel) → bytes_eq (head_key a) (head_key b) ≡ same_head a b
one_key a b = keys_same (types_of_params a) (types_of_params b) a.name b.name

-- ---- a set of keys with one more

found_by : {K : Type 0} (eq : K → Bool) (q : K → Bool) (x k : K) (xs : List K) (t : Bool) → eq x ≡ t →
    (eq x ≡ true → q x ≡ q k) → q k ≡ true
    → (list_any eq xs ≡ true → list_any q xs ≡ true) → (t || list_any eq xs) ≡ true → (q x || list_any q xs) ≡ true
found_by eq q x k xs true e same here again h = ap (λ (t : Bool). t || list_any q xs) (same e ∙ here)
found_by eq q x k xs false e same here again h = ap (λ (t : Bool). q x || t) (again h) ∙ or_true (q x)
  where
    or_true : (t : Bool) → (t || true) ≡ true
    or_true true = refl
    or_true false = refl

found : {K : Type 0} (eq : K → Bool) (q : K → Bool) (k : K) (xs : List K)
    → ((x : K) → eq x ≡ true → q x ≡ q k) → q k ≡ true → list_any eq xs ≡ true → list_any q xs ≡ true
found eq q k [] same here h = absurd cc
found eq q k (x ∷ xs) same here h = found_by eq q x k xs (eq x) refl (same x) here (λ g. found eq q k xs same here g) h

or_same : (a b : Bool) → (b ≡ true → a ≡ true) → a ≡ (a || b)
or_same true b h = refl
or_same false true h = absurd (let e : false ≡ true = h refl in cc)
or_same false false h = refl

pub or_end : (a b : Bool) → (a || (b || false)) ≡ (a || b)
or_end true b = refl
or_end false true = refl
or_end false false = refl

pub inserted : {K : Type 0} (eq : K → Bool) (q : K → Bool) (k : K) (xs : List K)
    → ((x : K) → eq x ≡ true → q x ≡ q k) → list_any q (cond (list_any eq xs) xs (xs ++ k ∷ [])) ≡ (list_any q xs
    || q k)
inserted eq q k xs same = by (list_any eq xs) refl
  where
    by : (t : Bool) → list_any eq xs ≡ t → list_any q (cond t xs (xs ++ k ∷ [])) ≡ (list_any q xs || q k)
    by true e = or_same (list_any q xs) (q k) (λ here. found eq q k xs same here e)
    by false e = list_any-append q xs (k ∷ []) ∙ or_end (list_any q xs) (q k)

pub text_is : (text own : List ℕ) → bytes_eq text own ≡ true → text ≡ own
text_is text own h = (bytes_eq-Decides text own).0 h
