-- Two signatures have one key where they have one name and the same types.
use Rattle.std.proofs.Common.{◌≡◌, ℕ, Bool, true, false, cond, ◌&&◌, ◌||◌, eqb, List, [], ◌∷◌, ◌++◌, refl, sym, ap, ap₂}
use Rattle.std.proofs.Common.{◌∙◌}
use Rattle.std.specs.List.{list_any}
use Rattle.std.specs.Str.{bytes_eq}
use Rattle.krn_base.specs.declared.kind.Kind.{Kind}
use Rattle.krn_base.specs.declared.kind.Kind.TheVariants.{Int64, Bool as Truth}
use Rattle.krn_base.specs.declared.kind.ParamType.{ParamType}
use Rattle.krn_base.specs.declared.kind.ParamType.TheVariants.{Scalar, Flat, Strided}
use Rattle.py_lex.specs.Bytes.{Bytes}
use Rattle.export_sig.specs.declared.signature.Signature.{Signature}
use Rattle.export_sig.specs.Keys.{kind_code, type_code, key, key_of}
use Rattle.export_sig.specs.Listing.{is_kind, is_type, are_types, is_repeated}

and_true : (a : Bool) → a ≡ (a && true)
and_true true = refl
and_true false = refl

and_false : (a : Bool) → false ≡ (a && false)
and_false true = refl
and_false false = refl

-- the parts of a key against the parts of a signature
regroup : (form kind rank text rest : Bool) → (form && (kind && (rank && (text && rest)))) ≡
    (text && ((form && (kind && rank)) && rest))
regroup true true true text rest = refl
regroup true true false true rest = refl
regroup true true false false rest = refl
regroup true false rank true rest = refl
regroup true false rank false rest = refl
regroup false kind rank true rest = refl
regroup false kind rank false rest = refl

kind_key : (k l : Kind) → eqb (kind_code k) (kind_code l) ≡ is_kind k l
kind_key Int64 Int64 = refl
kind_key Int64 Truth = refl
kind_key Truth Int64 = refl
kind_key Truth Truth = refl

abbrev same_form : ParamType → ParamType → Bool
same_form t u = eqb (type_code t).0 (type_code u).0

abbrev same_kind : ParamType → ParamType → Bool
same_kind t u = eqb (type_code t).1 (type_code u).1

abbrev same_rank : ParamType → ParamType → Bool
same_rank t u = eqb (type_code t).2 (type_code u).2

type_key : (t u : ParamType) → (same_form t u && (same_kind t u && same_rank t u)) ≡ is_type t u
type_key (Scalar k) (Scalar l) = sym (and_true (eqb (kind_code k) (kind_code l))) ∙ kind_key k l
type_key (Scalar k) (Flat l m) = refl
type_key (Scalar k) (Strided l m) = refl
type_key (Flat k n) (Scalar l) = refl
type_key (Flat k n) (Flat l m) = ap (λ (t : Bool). t && eqb n m) (kind_key k l)
type_key (Flat k n) (Strided l m) = refl
type_key (Strided k n) (Scalar l) = refl
type_key (Strided k n) (Flat l m) = refl
type_key (Strided k n) (Strided l m) = ap (λ (t : Bool). t && eqb n m) (kind_key k l)

keys_differ : (t : ParamType) (types : List ParamType) (n m : Bytes) → bytes_eq (key [] n) (key (t ∷ types) m) ≡ false
keys_differ (Scalar k) types n m = refl
keys_differ (Flat k r) types n m = refl
keys_differ (Strided k r) types n m = refl

keys_differ_too : (t : ParamType) (types : List ParamType) (n m : Bytes) →
    bytes_eq (key (t ∷ types) n) (key [] m) ≡ false
keys_differ_too (Scalar k) types n m = refl
keys_differ_too (Flat k r) types n m = refl
keys_differ_too (Strided k r) types n m = refl

keys_same : (ts us : List ParamType) (n m : Bytes) → bytes_eq (key ts n) (key us m) ≡ (bytes_eq n m && are_types ts us)
keys_same [] [] n m = and_true (bytes_eq n m)
keys_same [] (u ∷ us) n m = keys_differ u us n m ∙ and_false (bytes_eq n m)
keys_same (t ∷ ts) [] n m = keys_differ_too t ts n m ∙ and_false (bytes_eq n m)
keys_same (t ∷ ts) (u ∷ us) n m =
    ap (λ (rest : Bool). same_form t u && (same_kind t u && (same_rank t u && rest))) (keys_same ts us n m)
    ∙ regroup (same_form t u) (same_kind t u) (same_rank t u) (bytes_eq n m) (are_types ts us)
    ∙ ap (λ (same : Bool). bytes_eq n m && (same && are_types ts us)) (type_key t u)

pub one_key : (s t : Signature) → bytes_eq (key_of s) (key_of t) ≡ is_repeated s t
one_key s t = keys_same s.params t.params s.name.text t.name.text
