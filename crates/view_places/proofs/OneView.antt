-- A view is fixed by its buffer, its length, its extents and its places.
use Rattle.std.proofs.Common.{◌≡◌, ℕ, zero, suc, ◌-◌, List, ◌++◌, length, take, drop, replicate, refl, sym, ap, ap₂}
use Rattle.std.proofs.Common.{subst, ◌∙◌, arith, ℤ}
use Rattle.std.proofs.Props.{props}
use Rattle.std.proofs.lemmas.List.{take-append-drop, length-take-le}
use Rattle.view_places.specs.Arrays.{element_count}
use Rattle.view_places.specs.Strides.{strided, IsArrayShape, IsSettled, LeadsWithin, LeadsApart}
use Rattle.view_places.specs.View.{extents, places}
use Rattle.view_places.specs.declared.view.View.{View}
use Rattle.view_places.proofs.Settled.{only_strides, led-same}

pub extents-one : (q r : ℕ) (xs ys : List ℕ) → IsArrayShape q xs → IsArrayShape r ys → length xs ≡ 4 → length ys ≡ 4 →
    take q xs ≡ take r ys → (q ≡ r) × (xs ≡ ys)
extents-one q r xs ys a b four_xs four_ys e =
    let long_xs : length (take q xs) ≡ q = length-take-le q xs (omega (arith, a.rank_fits)) in
    let long_ys : length (take r ys) ≡ r = length-take-le r ys (omega (arith, b.rank_fits)) in
    let same : q ≡ r = sym long_xs ∙ ap length e ∙ long_ys in
    let rest : drop q xs ≡ drop r ys = a.unused ∙ ap (λ (k : ℕ). replicate (4 - k) 1) same ∙ sym b.unused in
    (same, sym (take-append-drop q xs) ∙ ap₂ (λ (us vs : List ℕ). us ++ vs) e rest ∙ take-append-drop r ys)

module _ (rank L M : ℕ) (extent : List ℕ) (o p : ℤ) (ss ts : List ℤ) (is_shape : IsArrayShape rank extent)
    (four : length extent ≡ 4) (four_first : length ss ≡ 4) (four_second : length ts ≡ 4)
    (settled : IsSettled (take rank extent) extent o ss) (also_settled : IsSettled (take rank extent) extent p ts)
    (w : LeadsWithin L (take rank extent) o ss) (v : LeadsWithin M (take rank extent) p ts)
    (same : strided o ss (take rank extent) ≡ strided p ts (take rank extent)) where
  by_count : (c : ℕ) → element_count (take rank extent) ≡ c → (o ≡ p) × (ss ≡ ts)
  by_count zero none = (
    settled.no_offset none ∙ sym (also_settled.no_offset none),
    settled.no_stride none ∙
        sym (also_settled.no_stride none),
  )
  by_count (suc c) some =
      only_strides rank (4 - rank) extent o p ss ts (four_first ∙ sym four) (four_second ∙ sym four) is_shape.unused
      (omega arith) settled.still also_settled.still
      (led-same L M (take rank extent) o p ss ts w v same)

  pub fields-one : (o ≡ p) × (ss ≡ ts)
  fields-one = by_count (element_count (take rank extent)) refl

-- the facts of a view have one proof each, so its numbers are all that it is
remade : (v : View) (s : IsArrayShape v.rank v.extent)
    (t : IsSettled (take v.rank v.extent) v.extent v.offset v.stride)
    (w : LeadsWithin v.length (take v.rank v.extent) v.offset v.stride)
    (d : LeadsApart (take v.rank v.extent) v.offset v.stride) →
    v ≡ record v { shape = s; settled = t; within = w; apart = d }
remade v s t w d =
    let shape_prop : IsProp (IsArrayShape v.rank v.extent) = hlevel props in
    let settled_prop : IsProp (IsSettled (take v.rank v.extent) v.extent v.offset v.stride) = hlevel props in
    let within_prop : IsProp (LeadsWithin v.length (take v.rank v.extent) v.offset v.stride) = hlevel props in
    let apart_prop : IsProp (LeadsApart (take v.rank v.extent) v.offset v.stride) = hlevel props in
    ap₂ (λ (a : IsArrayShape v.rank v.extent)
    (b : IsSettled (take v.rank v.extent) v.extent v.offset v.stride). record v { shape = a; settled = b })
    (shape_prop v.shape s) (settled_prop v.settled t) ∙
    ap₂ (λ (a : LeadsWithin v.length (take v.rank v.extent) v.offset v.stride)
    (b : LeadsApart (take v.rank v.extent) v.offset v.stride). record v
    { shape = s; settled = t; within = a; apart = b }) (within_prop v.within w) (apart_prop v.apart d)

-- a view of these numbers is v
abbrev pub IsMade : View → ℕ → ℕ → ℤ → ℕ → List ℕ → List ℤ → Type 0
IsMade v buffer length offset rank extent stride =
    (s : IsArrayShape rank extent) (t : IsSettled (take rank extent) extent offset stride)
    (w : LeadsWithin length (take rank extent) offset stride)
    (d : LeadsApart (take rank extent) offset stride) →
    v ≡ record {
      buffer = buffer;
      length = length;
      offset = offset;
      rank = rank;
      extent = extent;
      stride =
          stride;
      shape = s;
      settled = t;
      within = w;
      apart = d;
    }

same-numbers : (v : View) (buffer length : ℕ) (offset : ℤ) (rank : ℕ) (extent : List ℕ) (stride : List ℤ) →
    v.buffer ≡ buffer → v.length ≡ length → v.offset ≡ offset → v.rank ≡ rank → v.extent ≡ extent → v.stride ≡ stride →
    IsMade v buffer length offset rank extent stride
same-numbers v buffer length offset rank extent stride a b c d e f =
    subst (λ (z : ℕ). IsMade v z length offset rank extent stride) a
    (subst (λ (z : ℕ). IsMade v v.buffer z offset rank extent stride) b
    (subst (λ (z : ℤ). IsMade v v.buffer v.length z rank extent stride) c
    (subst (λ (z : ℕ). IsMade v v.buffer v.length v.offset z extent stride) d
    (subst (λ (z : List ℕ). IsMade v v.buffer v.length v.offset v.rank z stride) e
    (subst (λ (z : List ℤ). IsMade v v.buffer v.length v.offset v.rank v.extent z) f (remade v))))))

pub view-one : (a b : View) → length a.extent ≡ 4 → length b.extent ≡ 4 → length a.stride ≡ 4 → length b.stride ≡ 4 →
    a.buffer ≡ b.buffer → a.length ≡ b.length → extents a ≡ extents b → places a ≡ places b → a ≡ b
view-one a b four_a four_b strides_a strides_b buffer length e p =
    let shape : (a.rank ≡ b.rank) × (a.extent ≡ b.extent) =
    extents-one a.rank b.rank a.extent b.extent a.shape b.shape four_a four_b e in
    let settled : IsSettled (take a.rank a.extent) a.extent b.offset b.stride =
    subst (λ (r : ℕ). IsSettled (take r a.extent) a.extent b.offset b.stride) (sym shape.0)
    (subst (λ (xs : List ℕ). IsSettled (take b.rank xs) xs b.offset b.stride) (sym shape.1) b.settled) in
    let within : LeadsWithin b.length (take a.rank a.extent) b.offset b.stride =
    subst (λ (xs : List ℕ). LeadsWithin b.length xs b.offset b.stride) (sym e) b.within in
    let same : strided a.offset a.stride (take a.rank a.extent) ≡ strided b.offset b.stride (take a.rank a.extent) =
    p ∙ ap (strided b.offset b.stride) (sym e) in
    let numbers : (a.offset ≡ b.offset) ×
    (a.stride ≡ b.stride) = fields-one a.rank a.length b.length a.extent a.offset b.offset a.stride b.stride
    a.shape four_a strides_a strides_b a.settled settled a.within within same in
    same-numbers a b.buffer b.length b.offset b.rank b.extent b.stride buffer length numbers.0 shape.0 shape.1
    numbers.1 b.shape b.settled b.within b.apart
