-- What is read is what the bytes are a file of, or the first part that breaks the form.
use Rattle.std.proofs.Common.{◌≡◌, ℕ, ◌+◌, ◌*◌, ◌≤◌, Bool, true, false, cond, eqb, ltb, List, [], ◌∷◌, ◌++◌, length}
use Rattle.std.proofs.Common.{take, drop, Option, Some, None, Result, Ok, Err, refl, sym, ap, subst, ◌∙◌, arith, inl}
use Rattle.std.proofs.Common.{inr, ◌⊎◌}
use Rattle.std.specs.Prelude.{ℤ, codes, ◌≢◌, IfOk, IfErr}
use Rattle.std.specs.Str.{bytes_eq}
use Rattle.std.proofs.lemmas.Bool.{eqb-true, eqb-false, eq-eqb, ltb-false, le-ltb}
use Rattle.std.proofs.lemmas.List.{take-append-drop, take_at, drop_at, length-append, length-take}
use Rattle.std.proofs.lemmas.Slice.Eq.{bytes_eq-Decides}
use Rattle.krn_base.specs.declared.kind.Kind.{Kind}
use Rattle.krn_base.specs.declared.kind.Kind.TheVariants as kinds
use Rattle.view_places.specs.declared.shape.Array.{Array}
use Rattle.view_places.specs.Arrays.{element_count, is_small}
use Rattle.np_file.specs.declared.fault.NpyFault.{NpyFault}
use Rattle.np_file.specs.declared.fault.NpyFault.TheVariants.{BadMagic, BadVersion, BadHeader, BadKind, TooLarge}
use Rattle.np_file.specs.declared.fault.NpyFault.TheVariants.{BadLength, Memory}
use Rattle.np_file.specs.Header.{Heading}
use Rattle.np_file.specs.Npy.{magic, version, HasHeader, descr_of, element_size, words_of, shape_of, IsNpy, Readable}
use Rattle.np_file.specs.Npy.{NamesNoKind, IsTooLarge, HasOtherLength, NpyRefusal, IsOnly, IsRefused}
use Rattle.np_file.specs.Reading.{stripped, header_at}
use Rattle.np_file.specs.Loading.{◌>>=◌, or_fault, text_at, preamble_at, kind_of, Plan, limited, plan_at, array_of}
use Rattle.np_file.specs.Loading.{array_at, Answers, first_words}
use Rattle.np_file.proofs.Pieces.{chosen_some, some_is, stripped_took, stripped_read}
use Rattle.view_places.specs.Shape.{extents}
use Rattle.np_file.specs.declared.reading.Layout.{Layout}
use Rattle.np_file.specs.Views.{view_layout, FitsElements}
use Rattle.np_file.proofs.Elements.{words_are}
use Rattle.np_file.proofs.Fields.{header_took, header_read}

-- ---- tools

abbrev done : {A : Type 0} → A → Result A NpyFault
done x = Ok x

abbrev failed : {A : Type 0} → NpyFault → Result A NpyFault
failed f = Err f

ok_is : {A : Type 0} (x y : A) → done x ≡ done y → x ≡ y
ok_is x y e = cc

err_is : {A : Type 0} (f g : NpyFault) → failed {A = A} f ≡ failed g → f ≡ g
err_is f g e = cc

bind_ok : {A B : Type 0} (r : Result A NpyFault) (f : A → Result B NpyFault) (y : B) → (r >>= f) ≡ Ok y →
    (x : A) × (r ≡ Ok x) × (f x ≡ Ok y)
bind_ok (Ok x) f y e = (x, refl, e)
bind_ok (Err d) f y e = absurd cc

bind_err : {A B : Type 0} (r : Result A NpyFault) (f : A → Result B NpyFault) (d : NpyFault) → (r >>= f) ≡ Err d →
    (r ≡ Err d) ⊎ ((x : A) × (r ≡ Ok x) × (f x ≡ Err d))
bind_err (Ok x) f d e = inr (x, refl, e)
bind_err (Err g) f d e = inl (ap (λ (x : NpyFault). Err x) (err_is g d e))

or_ok : {A : Type 0} (f : NpyFault) (o : Option A) (x : A) → or_fault f o ≡ Ok x → o ≡ Some x
or_ok f None x e = absurd cc
or_ok f (Some y) x e = ap (λ (z : _). Some z) (ok_is y x e)

or_err : {A : Type 0} (f : NpyFault) (o : Option A) (g : NpyFault) → or_fault f o ≡ Err g → (o ≡ None) × (f ≡ g)
or_err f None g e = (refl, err_is f g e)
or_err f (Some y) g e = absurd cc

seq : {A B : Type 0} (r : Result A NpyFault) (f : A → Result B NpyFault) (x : A) (s : Result B NpyFault) → r ≡ Ok x →
    f x ≡ s → (r >>= f) ≡ s
seq r f x s e g = ap (λ (p : Result _ NpyFault). p >>= f) e ∙ g

fails : {A B : Type 0} (r : Result A NpyFault) (f : A → Result B NpyFault) (d : NpyFault) → r ≡ Err d →
    (r >>= f) ≡ Err d
fails r f d e = ap (λ (p : Result _ NpyFault). p >>= f) e

chosen_none : {A : Type 0} (t : Bool) (x : A) → cond t (Some x) None ≡ None → t ≡ false
chosen_none true x e = absurd cc
chosen_none false x e = refl

ne_eqb : (a b : ℕ) → (a ≡ b → ⊥) → eqb a b ≡ false
ne_eqb a b ne = by (eqb a b) refl
  where
    by : (t : Bool) → eqb a b ≡ t → t ≡ false
    by true e = absurd (ne (eqb-true a b e))
    by false e = refl

-- ---- the front

stripped_none : (own us : List ℕ) → stripped own us ≡ None → take (length own) us ≡ own → ⊥
stripped_none own us e is =
    let no = chosen_none (bytes_eq (take (length own) us) own) (drop (length own) us) e in
    let yes : bytes_eq (take (length own) us) own ≡ true = (bytes_eq-Decides (take (length own) us) own).1 is in
    absurd cc

none_stripped : (own us : List ℕ) → (take (length own) us ≡ own → ⊥) → stripped own us ≡ None
none_stripped own us other = by (bytes_eq (take (length own) us) own) refl
  where
    by : (t : Bool) → bytes_eq (take (length own) us) own ≡ t → cond t (Some (drop (length own) us)) None ≡ None
    by true e = absurd (other ((bytes_eq-Decides (take (length own) us) own).0 e))
    by false e = refl

stripped_front : (own us rest : List ℕ) → stripped own us ≡ Some rest →
    (take (length own) us ≡ own) × (drop (length own) us ≡ rest)
stripped_front own us rest e =
    let t = chosen_some (bytes_eq (take (length own) us) own) (Some (drop (length own) us)) rest e in
    ((bytes_eq-Decides (take (length own) us) own).0 t.0, some_is _ _ t.1)

front_stripped : (own us : List ℕ) → take (length own) us ≡ own → stripped own us ≡ Some (drop (length own) us)
front_stripped own us is =
    let yes : bytes_eq (take (length own) us) own ≡ true = (bytes_eq-Decides (take (length own) us) own).1 is in
    rw yes refl

-- the header's text
record TextTook (us text elements : List ℕ) : Type 0 where
  pub low : ℕ
  pub high : ℕ
  pub parts : us ≡ low ∷ high ∷ (text ++ elements)
  pub len : length text ≡ low + 256 * high

not_chosen : {A : Type 0} (t : Bool) (x y : A) → cond t None (Some x) ≡ Some y → (t ≡ false) × (x ≡ y)
not_chosen true x y e = absurd cc
not_chosen false x y e = (refl, some_is x y e)

text_took : (us text elements : List ℕ) → text_at us ≡ Some (text, elements) → TextTook us text elements
text_took [] text elements e = absurd cc
text_took (low ∷ []) text elements e = absurd cc
text_took (low ∷ high ∷ rest) text elements e =
    let n = low + 256 * high in
    let t = not_chosen (ltb (length rest) n) (take n rest, drop n rest) (text, elements) e in
    let long : n ≤ length rest = ltb-false (length rest) n t.0 in
    let text_is : take n rest ≡ text = ap (λ (p : List ℕ × List ℕ). p.0) t.1 in
    let back_is : drop n rest ≡ elements = ap (λ (p : List ℕ × List ℕ). p.1) t.1 in
    record {
      low = low;
      high = high;
      parts = ap (λ (x : List ℕ). low ∷ high ∷ x)
          (sym (take-append-drop n rest) ∙ ap (λ (x : List ℕ). x ++ drop n rest) text_is ∙
          ap (λ (x : List ℕ). text ++ x) back_is);
      len = sym (ap length text_is) ∙ omega (arith, length-take n rest);
    }

text_read : (low high : ℕ) (text elements : List ℕ) → length text ≡ low + 256 * high →
    text_at (low ∷ high ∷ (text ++ elements)) ≡ Some (text, elements)
text_read low high text elements len =
    let long : ltb (length (text ++ elements)) (low + 256 * high) ≡ false =
    le-ltb _ _ (omega (arith, length-append text elements)) in
    rw (long, take_at text elements (low + 256 * high) len, drop_at text elements (low + 256 * high) len) refl

-- reading from the header's text on, from its length on and from the version on
abbrev from_text : List ℕ → List ℕ → Result (Heading × List ℕ) NpyFault
from_text text elements = or_fault BadHeader (header_at text) >>= λ heading. Ok (heading, elements)

abbrev from_length : List ℕ → Result (Heading × List ℕ) NpyFault
from_length behind = or_fault BadHeader (text_at behind) >>= λ text. from_text text.0 text.1

abbrev from_version : List ℕ → Result (Heading × List ℕ) NpyFault
from_version rest = or_fault BadVersion (stripped version rest) >>= from_length

preamble_took : (bytes : List ℕ) (h : Heading) (elements : List ℕ) → preamble_at bytes ≡ Ok (h, elements) →
    HasHeader bytes h elements
unfolding preamble_at
preamble_took bytes h elements e =
    let a = bind_ok (or_fault BadMagic (stripped magic bytes)) from_version (h, elements) e in
    let b = bind_ok (or_fault BadVersion (stripped version a.0)) from_length (h, elements) a.2 in
    let c = bind_ok (or_fault BadHeader (text_at b.0)) (λ text. from_text text.0 text.1) (h, elements) b.2 in
    let d = bind_ok (or_fault BadHeader (header_at c.0.0)) (λ heading. Ok (heading, c.0.1)) (h, elements) c.2 in
    let pair = ok_is (d.0, c.0.1) (h, elements) d.2 in
    let t = text_took b.0 c.0.0 c.0.1 (or_ok BadHeader (text_at b.0) c.0 c.1) in
    let front = stripped_took magic bytes a.0 (or_ok BadMagic (stripped magic bytes) a.0 a.1) in
    let next = stripped_took version a.0 b.0 (or_ok BadVersion (stripped version a.0) b.0 b.1) in
    let whole : HasHeader bytes d.0 c.0.1 = record {
      low = t.low;
      high = t.high;
      text = c.0.0;
      parts = front ∙ ap (λ (x : List ℕ). magic ++ x) (next ∙ ap (λ (x : List ℕ). version ++ x) t.parts);
      text_len = t.len;
      is_header = header_took c.0.0 d.0 (or_ok BadHeader (header_at c.0.0) d.0 d.1);
    } in
    subst (λ (p : Heading × List ℕ). HasHeader bytes p.0 p.1) pair whole

pub preamble_read : (bytes : List ℕ) (h : Heading) (elements : List ℕ) → HasHeader bytes h elements →
    preamble_at bytes ≡ Ok (h, elements)
unfolding preamble_at
preamble_read bytes h elements is =
    let tail = is.low ∷ is.high ∷ (is.text ++ elements) in
    let a : or_fault BadMagic (stripped magic bytes) ≡ Ok (version ++ tail) =
    ap (λ (x : List ℕ). or_fault BadMagic (stripped magic x)) is.parts ∙
    ap (or_fault BadMagic) (stripped_read magic (version ++ tail)) in
    let b : or_fault BadVersion (stripped version (version ++ tail)) ≡ Ok tail =
    ap (or_fault BadVersion) (stripped_read version tail) in
    let c : or_fault BadHeader (text_at tail) ≡ Ok (is.text, elements) =
    ap (or_fault BadHeader) (text_read is.low is.high is.text elements is.text_len) in
    let d : or_fault BadHeader (header_at is.text) ≡ Ok h =
    ap (or_fault BadHeader) (header_read is.text h is.is_header) in
    seq (or_fault BadMagic (stripped magic bytes)) from_version (version ++ tail) _ a
    (seq (or_fault BadVersion (stripped version (version ++ tail))) from_length tail _ b
    (seq (or_fault BadHeader (text_at tail)) (λ text. from_text text.0 text.1) (is.text, elements) _ c
    (seq (or_fault BadHeader (header_at is.text)) (λ heading. Ok (heading, elements)) h _ d refl)))

-- the bytes have no header where reading stops, and the fault is then one of three
record Begins (bytes : List ℕ) : Type 0 where
  pub magic_is : take 6 bytes ≡ magic
  pub version_is : take 2 (drop 6 bytes) ≡ version

no_header : (bytes : List ℕ) (f : NpyFault) → preamble_at bytes ≡ Err f → Readable bytes → ⊥
no_header bytes f e r = let k = preamble_read bytes r.heading r.elements r.header in absurd cc

header_refused : (bytes : List ℕ) (f : NpyFault) → Begins bytes → preamble_at bytes ≡ Err f → BadHeader ≡ f →
    NpyRefusal bytes f
header_refused bytes f begins e is =
    subst (NpyRefusal bytes) is (begins.magic_is, begins.version_is, λ r. no_header bytes f e r)

preamble_refused : (bytes : List ℕ) (f : NpyFault) → preamble_at bytes ≡ Err f → NpyRefusal bytes f
unfolding preamble_at
preamble_refused bytes f e =
    elim (bind_err {B = Heading × List ℕ} (or_fault BadMagic (stripped magic bytes)) from_version f e) [
      | inl x ↦ let o = or_err BadMagic (stripped magic bytes) f x in
          subst (NpyRefusal bytes) o.1 (stripped_none magic bytes o.0)
      | inr a ↦ at_version a.0 (or_ok BadMagic (stripped magic bytes) a.0 a.1) a.2
    ]
  where
    at_header : (text elements : List ℕ) → Begins bytes → from_text text elements ≡ Err f → NpyRefusal bytes f
    at_header text elements begins g =
        elim (bind_err {B = Heading × List ℕ} (or_fault BadHeader (header_at text))
        (λ heading. Ok (heading, elements)) f g) [
          | inl x ↦ header_refused bytes f begins e (or_err BadHeader (header_at text) f x).1
          | inr a ↦ absurd cc
        ]

    at_text : (behind : List ℕ) → Begins bytes → from_length behind ≡ Err f → NpyRefusal bytes f
    at_text behind begins g =
        elim (bind_err {B = Heading × List ℕ} (or_fault BadHeader (text_at behind))
        (λ text. from_text text.0 text.1) f g) [
          | inl x ↦ header_refused bytes f begins e (or_err BadHeader (text_at behind) f x).1
          | inr a ↦ at_header a.0.0 a.0.1 begins a.2
        ]

    at_version : (rest : List ℕ) → stripped magic bytes ≡ Some rest → from_version rest ≡ Err f → NpyRefusal bytes f
    at_version rest found g =
        let front = stripped_front magic bytes rest found in
        elim (bind_err {B = Heading × List ℕ} (or_fault BadVersion (stripped version rest)) from_length f g) [
          | inl x ↦ let o = or_err BadVersion (stripped version rest) f x in
              subst (NpyRefusal bytes) o.1 (
                front.0,
                subst (λ (r : List ℕ). take 2 r ≡ version → ⊥) (sym front.1) (stripped_none version rest o.0),
              )
          | inr a ↦ let next = stripped_front version rest a.0 (or_ok BadVersion (stripped version rest) a.0 a.1) in
              at_text a.0 (record { magic_is = front.0; version_is = ap (take 2) front.1 ∙ next.0 }) a.2
        ]

-- ---- the kind

kind_took : (descr : List ℕ) (k : Kind) → kind_of descr ≡ Some k → descr ≡ descr_of k
unfolding kind_of
kind_took descr k e = by (bytes_eq descr (codes "<i8")) (bytes_eq descr (codes "|b1")) refl refl e
  where
    by : (a b : Bool) → bytes_eq descr (codes "<i8") ≡ a → bytes_eq descr (codes "|b1") ≡ b →
        cond a (Some kinds.Int64) (cond b (Some kinds.Bool) None) ≡ Some k → descr ≡ descr_of k
    by true b p q g = (bytes_eq-Decides descr (codes "<i8")).0 p ∙ ap descr_of (some_is kinds.Int64 k g)
    by false true p q g = (bytes_eq-Decides descr (codes "|b1")).0 q ∙ ap descr_of (some_is kinds.Bool k g)
    by false false p q g = absurd cc

kind_read : (k : Kind) → kind_of (descr_of k) ≡ Some k
unfolding kind_of
kind_read kinds.Int64 = refl
kind_read kinds.Bool = refl

kind_found : (descr : List ℕ) (k : Kind) → descr ≡ descr_of k → kind_of descr ≡ Some k
kind_found descr k e = ap kind_of e ∙ kind_read k

-- ---- the whole

abbrev plan_of : Kind → Heading → List ℕ → Plan
plan_of kind h elements = record { kind = kind; first_fastest = h.first_fastest; shape = h.shape; elements = elements }

record Limits (kind : Kind) (h : Heading) (elements : List ℕ) (plan : Plan) : Type 0 where
  pub small : is_small h.shape ≡ true
  pub size : length elements ≡ element_size kind * element_count h.shape
  pub plan_is : plan_of kind h elements ≡ plan

limited_took : (kind : Kind) (h : Heading) (elements : List ℕ) (plan : Plan) → limited kind h elements ≡ Ok plan →
    Limits kind h elements plan
limited_took kind h elements plan e =
    by (is_small h.shape) (eqb (length elements) (element_size kind * element_count h.shape)) refl refl e
  where
    by : (a b : Bool) → is_small h.shape ≡ a → eqb (length elements) (element_size kind * element_count h.shape) ≡ b →
        cond a (cond b (Ok (plan_of kind h elements)) (Err BadLength)) (Err TooLarge) ≡ Ok plan →
        Limits kind h elements plan
    by true true p q g = record { small = p; size = eqb-true _ _ q; plan_is = ok_is (plan_of kind h elements) plan g }
    by true false p q g = absurd cc
    by false b p q g = absurd cc

limited_refused : (bytes : List ℕ) (kind : Kind) (h : Heading) (elements : List ℕ) (f : NpyFault) →
    HasHeader bytes h elements → h.descr ≡ descr_of kind → limited kind h elements ≡ Err f → NpyRefusal bytes f
limited_refused bytes kind h elements f header is e =
    by (is_small h.shape) (eqb (length elements) (element_size kind * element_count h.shape)) refl refl e
  where
    by : (a b : Bool) → is_small h.shape ≡ a → eqb (length elements) (element_size kind * element_count h.shape) ≡ b →
        cond a (cond b (Ok (plan_of kind h elements)) (Err BadLength)) (Err TooLarge) ≡ Err f → NpyRefusal bytes f
    by true true p q g = absurd cc
    by true false p q g = subst (NpyRefusal bytes) (err_is BadLength f g)
        (record {
          heading = h;
          elements = elements;
          header = header;
          kind = kind;
          kind_is = is;
          small = p;
          other =
              eqb-false _ _ q;
        })
    by false b p q g = subst (NpyRefusal bytes) (err_is TooLarge f g)
        (record { heading = h; elements = elements; header = header; kind = kind; kind_is = is; large = p })

pub array_took : (bytes : List ℕ) (a : Array) → array_at bytes ≡ Ok a → IsNpy bytes a
unfolding array_at plan_at
array_took bytes a e =
    let p = bind_ok (preamble_at bytes >>= λ read. or_fault BadKind
    (kind_of read.0.descr) >>= λ kind. limited kind read.0 read.1) (λ plan. Ok (array_of plan)) a e in
    let b = bind_ok (preamble_at bytes)
    (λ read. or_fault BadKind (kind_of read.0.descr) >>= λ kind. limited kind read.0 read.1) p.0 p.1 in
    let c = bind_ok (or_fault BadKind (kind_of b.0.0.descr)) (λ kind. limited kind b.0.0 b.0.1) p.0 b.2 in
    let k = kind_took b.0.0.descr c.0 (or_ok BadKind (kind_of b.0.0.descr) c.0 c.1) in
    let l = limited_took c.0 b.0.0 b.0.1 p.0 c.2 in
    let whole : IsNpy bytes (array_of (plan_of c.0 b.0.0 b.0.1)) = record {
      heading = b.0.0;
      elements = b.0.1;
      header = preamble_took bytes b.0.0 b.0.1 b.1;
      kind_is = k;
      shape_is = refl;
      small = l.small;
      size = l.size;
      words_are = refl;
    } in
    subst (IsNpy bytes) (ap array_of l.plan_is ∙ ok_is (array_of p.0) a p.2) whole

pub array_refused : (bytes : List ℕ) (f : NpyFault) → array_at bytes ≡ Err f → NpyRefusal bytes f
unfolding array_at plan_at
array_refused bytes f e =
    elim (bind_err {B = Array} (preamble_at bytes >>= λ read. or_fault BadKind
    (kind_of read.0.descr) >>= λ kind. limited kind read.0 read.1) (λ plan. Ok (array_of plan)) f e) [
      | inl x ↦ at_plan x
      | inr p ↦ absurd cc
    ]
  where
    at_kind : (h : Heading) (elements : List ℕ) → HasHeader bytes h elements →
        (or_fault BadKind (kind_of h.descr) >>= λ kind. limited kind h elements) ≡ Err f → NpyRefusal bytes f
    at_kind h elements header g =
        elim (bind_err {B = Plan} (or_fault BadKind (kind_of h.descr)) (λ kind. limited kind h elements) f g) [
          | inl x ↦ let o = or_err BadKind (kind_of h.descr) f x in
              subst (NpyRefusal bytes) o.1 (record {
                heading = h;
                elements = elements;
                header = header;
                none = λ kind is. let k =
                    kind_found h.descr kind is in absurd cc;
              })
          | inr a ↦ limited_refused bytes a.0 h elements f header
              (kind_took h.descr a.0 (or_ok BadKind (kind_of h.descr) a.0 a.1)) a.2
        ]

    at_plan : (preamble_at bytes >>= λ read. or_fault BadKind
        (kind_of read.0.descr) >>= λ kind. limited kind read.0 read.1) ≡ Err f → NpyRefusal bytes f
    at_plan g =
        elim (bind_err {B = Plan} (preamble_at bytes)
        (λ read. or_fault BadKind (kind_of read.0.descr) >>= λ kind. limited kind read.0 read.1) f g) [
          | inl x ↦ preamble_refused bytes f x
          | inr a ↦ at_kind a.0.0 a.0.1 (preamble_took bytes a.0.0 a.0.1 a.1) a.2
        ]

-- what stands behind a header that is there
pub behind_header : (bytes : List ℕ) (h : Heading) (elements : List ℕ) (kind : Kind) → HasHeader bytes h elements →
    h.descr ≡ descr_of kind → plan_at bytes ≡ limited kind h elements
unfolding plan_at
behind_header bytes h elements kind header is =
    seq (preamble_at bytes) (λ read. or_fault BadKind (kind_of read.0.descr) >>= λ kind. limited kind read.0 read.1)
    (h, elements) _ (preamble_read bytes h elements header)
    (seq (or_fault BadKind (kind_of h.descr)) (λ kind. limited kind h elements) kind _
    (ap (or_fault BadKind) (kind_found h.descr kind is)) refl)

pub array_read : (bytes : List ℕ) (a : Array) → IsNpy bytes a → array_at bytes ≡ Ok a
unfolding array_at
array_read bytes a is =
    let same : eqb (length is.elements) (element_size a.kind * element_count is.heading.shape) ≡ true =
    eq-eqb _ _ is.size in
    let small = is.small in
    let here : limited a.kind is.heading is.elements ≡ Ok (plan_of a.kind is.heading is.elements) =
    rw small (rw same refl) in
    let made : array_of (plan_of a.kind is.heading is.elements) ≡ a =
    array_is a.kind (shape_of is.heading.shape)
    (words_of a.kind is.heading.first_fastest is.heading.shape is.elements) a refl (sym is.shape_is)
    (sym is.words_are) in
    seq (plan_at bytes) (λ plan. Ok (array_of plan)) (plan_of a.kind is.heading is.elements) _
    (behind_header bytes is.heading is.elements a.kind is.header is.kind_is ∙ here) (ap (λ (x : Array). Ok x) made)
  where
    array_is : (k : Kind) (s : _) (ws : List _) (a : Array) → k ≡ a.kind → s ≡ a.shape → ws ≡ a.words →
        record { kind = k; shape = s; words = ws } ≡ a
    array_is k s ws a p q r = λ i. record { kind = p i; shape = q i; words = r i }

preamble_fails : (bytes : List ℕ) (f : NpyFault) → preamble_at bytes ≡ Err f → array_at bytes ≡ Err f
unfolding array_at plan_at
preamble_fails bytes f e = fails (plan_at bytes) (λ plan. Ok (array_of plan)) f
    (fails (preamble_at bytes) (λ read. or_fault BadKind (kind_of read.0.descr) >>= λ kind. limited kind read.0 read.1)
    f e)

magic_fails : (bytes : List ℕ) → take 6 bytes ≢ magic → preamble_at bytes ≡ Err BadMagic
unfolding preamble_at
magic_fails bytes other =
    fails (or_fault BadMagic (stripped magic bytes)) from_version BadMagic
    (ap (or_fault BadMagic) (none_stripped magic bytes other))

version_fails : (bytes : List ℕ) → take 6 bytes ≡ magic → take 2 (drop 6 bytes) ≢ version →
    preamble_at bytes ≡ Err BadVersion
unfolding preamble_at
version_fails bytes is other =
    seq (or_fault BadMagic (stripped magic bytes)) from_version (drop 6 bytes) _
    (ap (or_fault BadMagic) (front_stripped magic bytes is))
    (fails (or_fault BadVersion (stripped version (drop 6 bytes))) from_length BadVersion
    (ap (or_fault BadVersion) (none_stripped version (drop 6 bytes) other)))

-- reading behind the version
behind_version : (bytes : List ℕ) → Begins bytes → preamble_at bytes ≡ from_length (drop 2 (drop 6 bytes))
unfolding preamble_at
behind_version bytes begins =
    seq (or_fault BadMagic (stripped magic bytes)) from_version (drop 6 bytes) _
    (ap (or_fault BadMagic) (front_stripped magic bytes begins.magic_is))
    (seq (or_fault BadVersion (stripped version (drop 6 bytes))) from_length (drop 2 (drop 6 bytes)) _
    (ap (or_fault BadVersion) (front_stripped version (drop 6 bytes) begins.version_is)) refl)

abbrev with_heading : List ℕ → Option Heading → Result (Heading × List ℕ) NpyFault
with_heading elements o = or_fault BadHeader o >>= λ heading. Ok (heading, elements)

abbrev with_text : Option (List ℕ × List ℕ) → Result (Heading × List ℕ) NpyFault
with_text o = or_fault BadHeader o >>= λ text. from_text text.0 text.1

header_fails : (bytes : List ℕ) → Begins bytes → (Readable bytes → ⊥) → preamble_at bytes ≡ Err BadHeader
header_fails bytes begins none = by (text_at (drop 2 (drop 6 bytes))) (behind_version bytes begins)
  where
    by_header : (text elements : List ℕ) (o : Option Heading) → preamble_at bytes ≡ with_heading elements o →
        preamble_at bytes ≡ Err BadHeader
    by_header text elements None e = e
    by_header text elements (Some h) e =
        absurd (none (record { heading = h; elements = elements; header = preamble_took bytes h elements e }))

    by : (o : Option (List ℕ × List ℕ)) → preamble_at bytes ≡ with_text o → preamble_at bytes ≡ Err BadHeader
    by None e = e
    by (Some t) e = by_header t.0 t.1 (header_at t.0) e

kind_fails : (bytes : List ℕ) → NamesNoKind bytes → array_at bytes ≡ Err BadKind
unfolding array_at plan_at
kind_fails bytes is =
    fails (plan_at bytes) (λ plan. Ok (array_of plan)) BadKind
    (seq (preamble_at bytes) (λ read. or_fault BadKind (kind_of read.0.descr) >>= λ kind. limited kind read.0 read.1)
    (is.heading, is.elements) _ (preamble_read bytes is.heading is.elements is.header)
    (fails (or_fault BadKind (kind_of is.heading.descr)) (λ kind. limited kind is.heading is.elements) BadKind
    (ap (or_fault BadKind) (by (kind_of is.heading.descr) refl))))
  where
    by : (o : Option Kind) → kind_of is.heading.descr ≡ o → kind_of is.heading.descr ≡ None
    by None e = e
    by (Some k) e = absurd (is.none k (kind_took is.heading.descr k e))

large_fails : (bytes : List ℕ) → IsTooLarge bytes → array_at bytes ≡ Err TooLarge
unfolding array_at
large_fails bytes is =
    let large = is.large in
    fails (plan_at bytes) (λ plan. Ok (array_of plan)) TooLarge
    (behind_header bytes is.heading is.elements is.kind is.header is.kind_is ∙ rw large refl)

length_fails : (bytes : List ℕ) → HasOtherLength bytes → array_at bytes ≡ Err BadLength
unfolding array_at
length_fails bytes is =
    let small = is.small in
    let other : eqb (length is.elements) (element_size is.kind * element_count is.heading.shape) ≡ false =
    ne_eqb _ _ is.other in
    fails (plan_at bytes) (λ plan. Ok (array_of plan)) BadLength
    (behind_header bytes is.heading is.elements is.kind is.header is.kind_is ∙ rw small (rw other refl))

-- the bytes show a refusal exactly where reading has it
pub refusal_read : (bytes : List ℕ) (f : NpyFault) → NpyRefusal bytes f → array_at bytes ≡ Err f
refusal_read bytes BadMagic shown = preamble_fails bytes BadMagic (magic_fails bytes shown)
refusal_read bytes BadVersion shown = preamble_fails bytes BadVersion (version_fails bytes shown.0 shown.1)
refusal_read bytes BadHeader shown =
    preamble_fails bytes BadHeader (header_fails bytes (record { magic_is = shown.0; version_is = shown.1 }) shown.2)
refusal_read bytes BadKind shown = kind_fails bytes shown
refusal_read bytes TooLarge shown = large_fails bytes shown
refusal_read bytes BadLength shown = length_fails bytes shown
refusal_read bytes Memory shown = absurd shown

-- ---- the clauses of the public call

pub is_array : (bytes : List ℕ) (r : Result Array NpyFault) → Answers r (array_at bytes) → IfOk r (IsNpy bytes)
is_array bytes (Ok a) given = array_took bytes a given
is_array bytes (Err f) given = tt

pub is_refusal : (bytes : List ℕ) (r : Result Array NpyFault) → Answers r (array_at bytes) →
    IfErr r (λ f. (f ≡ Memory) ⊎ NpyRefusal bytes f)
is_refusal bytes (Ok a) given = tt
is_refusal bytes (Err f) (inl e) = inl e
is_refusal bytes (Err f) (inr e) = inr (array_refused bytes f e)

pub is_only : (bytes : List ℕ) (r : Result Array NpyFault) (a : Array) → IsNpy bytes a → Answers r (array_at bytes) →
    IsOnly a r
is_only bytes (Ok b) a is given = let e = array_read bytes a is in ok_is b a (sym given ∙ e)
is_only bytes (Err f) a is (inl e) = e
is_only bytes (Err f) a is (inr e) = let k = array_read bytes a is in absurd cc

pub is_shown : (bytes : List ℕ) (r : Result Array NpyFault) (f : NpyFault) → NpyRefusal bytes f →
    Answers r (array_at bytes) → IsRefused f r
is_shown bytes (Ok b) f shown given = let k = refusal_read bytes f shown in absurd cc
is_shown bytes (Err g) f shown (inl e) = inr e
is_shown bytes (Err g) f shown (inr e) = let k = refusal_read bytes f shown in inl (err_is g f (sym e ∙ k))

pub one_array : (bytes : List ℕ) (a b : Array) → IsNpy bytes a → IsNpy bytes b → a ≡ b
one_array bytes a b p q = ok_is a b (sym (array_read bytes a p) ∙ array_read bytes b q)

pub one_refusal : (bytes : List ℕ) (f g : NpyFault) → NpyRefusal bytes f → NpyRefusal bytes g → f ≡ g
one_refusal bytes f g p q = err_is f g (sym (refusal_read bytes f p) ∙ refusal_read bytes g q)

pub not_both : (bytes : List ℕ) (a : Array) (f : NpyFault) → IsNpy bytes a → NpyRefusal bytes f → ⊥
not_both bytes a f p q = let x = array_read bytes a p in let y = refusal_read bytes f q in absurd cc

pub either_one : (bytes : List ℕ) → ((a : Array) × IsNpy bytes a) ⊎ ((f : NpyFault) × NpyRefusal bytes f)
either_one bytes = by (array_at bytes) refl
  where
    by : (r : Result Array NpyFault) → array_at bytes ≡ r →
        ((a : Array) × IsNpy bytes a) ⊎ ((f : NpyFault) × NpyRefusal bytes f)
    by (Ok a) e = inl (a, array_took bytes a e)
    by (Err f) e = inr (f, array_refused bytes f e)

pub loaded : (bytes : List ℕ) (l : Layout) (ws : List ℤ) → plan_at bytes ≡ Ok (view_layout l) → FitsElements l →
    ws ≡ first_words (view_layout l) l.count →
    array_at bytes ≡ Ok (record { kind = l.kind; shape = l.shape; words = ws })
unfolding array_at
loaded bytes l ws e fits is =
    let words : words_of l.kind l.first_fastest (extents l.shape) l.elements.now ≡ ws =
    sym (is ∙ ap (first_words (view_layout l)) fits.count ∙
    words_are l.kind l.first_fastest (extents l.shape) l.elements.now) in
    let shape = sym fits.shape_is in
    seq (plan_at bytes) (λ plan. Ok (array_of plan)) (view_layout l) _ e
    (ap (λ (a : Array). Ok a) (λ i. record { kind = l.kind; shape = shape i; words = words i }))
