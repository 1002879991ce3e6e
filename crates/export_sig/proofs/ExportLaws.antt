-- What one pass gives an export note is its signature by the rules.
use Rattle.std.proofs.Common.{◌≡◌, ℕ, suc, ◌≤◌, ◌<◌, Bool, true, false, cond, not, ◌||◌, eqb, leb, ltb, List}
use Rattle.std.proofs.Common.{◌&&◌}
use Rattle.std.proofs.Common.{[], ◌∷◌, ◌++◌, length, Option, Some, None, refl, sym, ap, subst, ◌∙◌}
use Rattle.std.specs.List.{list_any, AllByRecursion}
use Rattle.std.specs.Str.{bytes_eq}
use Rattle.std.proofs.lemmas.Bool.{eqb-true, eq-eqb, leb-true, le-leb, ltb-true, lt-ltb}
use Rattle.krn_base.specs.declared.kind.Kind.{Kind}
use Rattle.krn_base.specs.declared.kind.Kind.TheVariants.{Int64, Bool as Truth}
use Rattle.krn_base.specs.declared.kind.ParamType.{ParamType}
use Rattle.krn_base.specs.declared.kind.ParamType.TheVariants.{Scalar, Flat, Strided}
use Rattle.py_parse.specs.declared.tree.Function.{Function}
use Rattle.py_parse.specs.declared.tree.Module.{Module}
use Rattle.py_parse.specs.declared.tree.Note.{Note}
use Rattle.export_sig.specs.declared.signature.Signature.{Signature}
use Rattle.export_sig.specs.Exports.{parameter_count, IsRepeated, most_params, most_exports, IsExport}
use Rattle.export_sig.specs.Listing.{is_count, is_kind, is_type, are_types, is_repeated, is_admitted, admitted}
use Rattle.py_lex.specs.Bytes.{Bytes}
use Rattle.export_sig.specs.Reading.{◌>>=◌}
use Rattle.export_sig.specs.Listing.{Count, export_from, export_given}
use Rattle.export_sig.specs.Reading.{signature_of}
use Rattle.export_sig.specs.Signatures.{IsSignature}
use Rattle.export_sig.proofs.Tools.{bind_some, seq, some_is, chosen_some, both_true, both, text_is, same_text}
use Rattle.export_sig.proofs.ExportTexts.{signature_took, signature_read, one_signature}

-- ---- the same types

kinds_are : (k l : Kind) → is_kind k l ≡ true → k ≡ l
kinds_are Int64 Int64 e = refl
kinds_are Int64 Truth e = absurd cc
kinds_are Truth Int64 e = absurd cc
kinds_are Truth Truth e = refl

same_kind : (k : Kind) → is_kind k k ≡ true
same_kind Int64 = refl
same_kind Truth = refl

types_are : (t u : ParamType) → is_type t u ≡ true → t ≡ u
types_are (Scalar k) (Scalar l) e = ap (λ (x : Kind). Scalar x) (kinds_are k l e)
types_are (Scalar k) (Flat l m) e = absurd cc
types_are (Scalar k) (Strided l m) e = absurd cc
types_are (Flat k n) (Scalar l) e = absurd cc
types_are (Flat k n) (Flat l m) e =
    let t = both_true (is_kind k l) (eqb n m) e in ap (λ (x : Kind). Flat x n) (kinds_are k l t.0) ∙ ap
    (λ (x : ℕ). Flat l x) (eqb-true n m t.1)
types_are (Flat k n) (Strided l m) e = absurd cc
types_are (Strided k n) (Scalar l) e = absurd cc
types_are (Strided k n) (Flat l m) e = absurd cc
types_are (Strided k n) (Strided l m) e =
    let t = both_true (is_kind k l) (eqb n m) e in ap (λ (x : Kind). Strided x n) (kinds_are k l t.0) ∙ ap
    (λ (x : ℕ). Strided l x) (eqb-true n m t.1)

same_type : (t : ParamType) → is_type t t ≡ true
same_type (Scalar k) = same_kind k
same_type (Flat k n) = both (is_kind k k) (eqb n n) (same_kind k) (eq-eqb n n refl)
same_type (Strided k n) = both (is_kind k k) (eqb n n) (same_kind k) (eq-eqb n n refl)

lists_are : (ts us : List ParamType) → are_types ts us ≡ true → ts ≡ us
lists_are [] [] e = refl
lists_are [] (u ∷ us) e = absurd cc
lists_are (t ∷ ts) [] e = absurd cc
lists_are (t ∷ ts) (u ∷ us) e =
    let p = both_true (is_type t u) (are_types ts us) e in
    ap (λ (x : ParamType). x ∷ ts) (types_are t u p.0) ∙ ap (λ (x : List ParamType). u ∷ x) (lists_are ts us p.1)

same_types : (ts : List ParamType) → are_types ts ts ≡ true
same_types [] = refl
same_types (t ∷ ts) = both (is_type t t) (are_types ts ts) (same_type t) (same_types ts)

repeated_is : (s t : Signature) → is_repeated s t ≡ true → IsRepeated t s
repeated_is s t e =
    let p = both_true (bytes_eq s.name.text t.name.text) (are_types s.params t.params) e in
    (sym (text_is s.name.text t.name.text p.0), sym (lists_are s.params t.params p.1))

is_repeated_by : (s t : Signature) → IsRepeated t s → is_repeated s t ≡ true
is_repeated_by s t h =
    both (bytes_eq s.name.text t.name.text) (are_types s.params t.params)
    (ap (bytes_eq s.name.text) h.0 ∙ same_text s.name.text) (ap (are_types s.params) h.1 ∙ same_types s.params)

-- ---- the signatures so far are those of the notes so far

abbrev pub Signs : List Note → List Signature → Type 0
Signs [] [] = Unit {0}
Signs [] (s ∷ ss) = ⊥
Signs (n ∷ ns) [] = ⊥
Signs (n ∷ ns) (s ∷ ss) = IsSignature n s × Signs ns ss

pub signs_grow : (before : List Note) (found : List Signature) (n : Note) (s : Signature) → Signs before found
    → IsSignature n s → Signs (before ++ n ∷ []) (found ++ s ∷ [])
signs_grow [] [] n s h g = (g, tt)
signs_grow [] (f ∷ found) n s h g = absurd h
signs_grow (b ∷ before) [] n s h g = absurd h
signs_grow (b ∷ before) (f ∷ found) n s h g = (h.0, signs_grow before found n s h.1 g)

as_many : (before : List Note) (found : List Signature) → Signs before found → length before ≡ length found
as_many [] [] h = refl
as_many [] (f ∷ found) h = absurd h
as_many (b ∷ before) [] h = absurd h
as_many (b ∷ before) (f ∷ found) h = ap suc (as_many before found h.1)

abbrev IsNew : Signature → List Note → Type 0
IsNew s before = AllByRecursion (λ earlier. (t : Signature) → IsSignature earlier t → IsRepeated t s → ⊥) before

or_false : (a b : Bool) → (a || b) ≡ false → (a ≡ false) × (b ≡ false)
or_false true b e = absurd cc
or_false false b e = (refl, e)

false_true : (t : Bool) → t ≡ true → t ≡ false → ⊥
false_true t e f = cc

new_of : (s f t : Signature) (n : Note) → IsSignature n f → is_repeated s f ≡ false → IsSignature n t
    → IsRepeated t s → ⊥
new_of s f t n hf e ht r = false_true (is_repeated s f) (is_repeated_by s f
    (subst (λ (x : Signature). IsRepeated x s) (one_signature n t f ht hf) r)) e

is_new : (s : Signature) (before : List Note) (found : List Signature) → Signs before found → list_any
    (is_repeated s) found ≡ false → IsNew s before
is_new s [] [] h e = tt
is_new s [] (f ∷ found) h e = absurd h
is_new s (b ∷ before) [] h e = absurd h
is_new s (b ∷ before) (f ∷ found) h e =
    let p = or_false (is_repeated s f) (list_any (is_repeated s) found) e in
    ((λ t g r. new_of s f t b h.0 p.0 g r), is_new s before found h.1 p.1)

none_by : (s f : Signature) (t rest : Bool) → is_repeated s f ≡ t → (IsRepeated f s → ⊥) → rest ≡ false →
    (t || rest) ≡ false
none_by s f true rest e h g = absurd (h (repeated_is s f e))
none_by s f false rest e h g = g

none_repeated : (s : Signature) (before : List Note) (found : List Signature) → Signs before found → IsNew s before
    → list_any (is_repeated s) found ≡ false
none_repeated s [] [] h g = refl
none_repeated s [] (f ∷ found) h g = absurd h
none_repeated s (b ∷ before) [] h g = absurd h
none_repeated s (b ∷ before) (f ∷ found) h g = none_by s f (is_repeated s f) (list_any (is_repeated s) found) refl
    (g.0 f h.0) (none_repeated s before found h.1 g.1)

-- ---- one note

count_is : (o : Option ℕ) (n : ℕ) → is_count o n ≡ true → o ≡ Some n
count_is None n e = absurd cc
count_is (Some m) n e = ap (λ (x : ℕ). Some x) (eqb-true m n e)

count_by : (o : Option ℕ) (n : ℕ) → o ≡ Some n → is_count o n ≡ true
count_by o n e = ap (λ (x : Option ℕ). is_count x n) e ∙ eq-eqb n n refl

not_true : (t : Bool) → not t ≡ true → t ≡ false
not_true true e = absurd cc
not_true false e = refl

not_by : (t : Bool) → t ≡ false → not t ≡ true
not_by t e = ap not e

record Admitted (functions : List Function) (found : List Signature) (s : Signature) : Type 0 where
  pub own : parameter_count functions s.name.text ≡ Some (length s.params)
  pub few : length s.params ≤ most_params
  pub room : length found < most_exports
  pub new : list_any (is_repeated s) found ≡ false

admitted_is : (functions : List Function) (found : List Signature) (s : Signature)
    → is_admitted (parameter_count functions) found s ≡ true → Admitted functions found s
unfolding is_admitted
admitted_is functions found s e =
    let a = both_true (is_count (parameter_count functions s.name.text) (length s.params)) _ e in
    let b = both_true (leb (length s.params) most_params) _ a.1 in
    let c = both_true (ltb (length found) most_exports) (not (list_any (is_repeated s) found)) b.1 in
    record {
      own = count_is (parameter_count functions s.name.text) (length s.params) a.0;
      few = leb-true
          (length s.params) most_params b.0;
      room = ltb-true (length found) most_exports c.0;
      new = not_true
          (list_any (is_repeated s) found) c.1;
    }

admitted_by : (functions : List Function) (found : List Signature) (s : Signature) → Admitted functions found s
    → is_admitted (parameter_count functions) found s ≡ true
unfolding is_admitted
admitted_by functions found s h =
    both _ _ (count_by (parameter_count functions s.name.text) (length s.params) h.own)
    (both _ _ (le-leb (length s.params) most_params h.few)
    (both _ _ (lt-ltb (length found) most_exports h.room) (not_by (list_any (is_repeated s) found) h.new)))

pub export_right : (m : Module) (before : List Note) (found : List Signature) (n : Note) (after : List Note)
    (s : Signature) → Signs before found → export_given (parameter_count m.functions) found n after ≡ Some s
    → IsExport m before n after s
unfolding export_from
export_right m before found n after s so e =
    let x = bind_some (signature_of n) (admitted (parameter_count m.functions) found) s e in
    let t = chosen_some (is_admitted (parameter_count m.functions) found x.0) (Some x.0) s x.2 in
    let same : x.0 ≡ s = some_is x.0 s t.1 in
    let a = admitted_is m.functions found x.0 t.0 in
    subst (IsExport m before n after) same (record {
      text = signature_took n x.0 x.1;
      own = a.own;
      few = a.few;
      new = is_new x.0 before found so a.new;
      room = subst (λ (k : ℕ). k < most_exports) (sym (as_many before found so)) a.room;
    })

pub export_whole : (m : Module) (before : List Note) (found : List Signature) (n : Note) (after : List Note)
    (s : Signature) → Signs before found → IsExport m before n after s
    → export_given (parameter_count m.functions) found n after ≡ Some s
unfolding export_from
export_whole m before found n after s so h =
    let a : is_admitted (parameter_count m.functions) found s ≡ true = admitted_by m.functions found s (record {
      own = h.own;
      few = h.few;
      room = subst (λ (k : ℕ). k < most_exports) (as_many before found so) h.room;
      new = none_repeated s before found so h.new;
    }) in
    seq (signature_of n) (admitted (parameter_count m.functions) found) s (Some s) (signature_read n s h.text)
    (ap (λ (t : Bool). cond t (Some s) None) a)

-- a count that is right for these functions
abbrev pub Counts : Count → List Function → Type 0
Counts count functions = (name : Bytes) → count name ≡ parameter_count functions name

bind_same : (o : Option Signature) (f g : Signature → Option Signature) → ((s : Signature) → f s ≡ g s)
    → (o >>= f) ≡ (o >>= g)
bind_same None f g e = refl
bind_same (Some s) f g e = e s

pub export_same : (count : Count) (functions : List Function) → Counts count functions → (found : List Signature)
    (n : Note) (after : List Note)
    → export_given count found n after ≡ export_given (parameter_count functions) found n after
unfolding export_from is_admitted
export_same count functions right found n after =
    bind_same (signature_of n) (admitted count found) (admitted (parameter_count functions) found)
    (λ s. ap (λ (k : Option ℕ). cond (is_count k (length s.params)
    && (leb (length s.params) most_params
    && (ltb (length found) most_exports
    && not (list_any (is_repeated s) found)))) (Some s) None) (right s.name.text))
