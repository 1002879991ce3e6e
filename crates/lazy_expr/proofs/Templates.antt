-- What templates give: the elements of an element operation, however a nest stores them.
use Rattle.std.proofs.Common.{◌≡◌, ◌∙◌, ap, ap₂, sym, refl, arith, ℕ, zero, suc, ◌+◌, ◌*◌, ◌<◌, max, ℤ, pos}
use Rattle.std.proofs.Common.{Bool, true, false, not, ◌||◌, List, [], ◌∷◌, ◌++◌, map, length, get_or, replicate}
use Rattle.std.proofs.Common.{Option, Some}
use Rattle.std.proofs.Common.{None, length-append}
use Rattle.std.specs.List.{AllByRecursion, flat_map, range_with_len, zip}
use Rattle.std.proofs.lemmas.List.{get_or-map, get_or-replicate, length-map, length-replicate}
use Rattle.std.proofs.Math.Dec.{eqb-suc-zero}
use Rattle.std.proofs.lemmas.Slice.Zip.{get_or-zip, length-zip}
use mathlib.Core.Path.{fun_ext}
use Rattle.krn_base.specs.Numbers.{element_result, unary_result}
use Rattle.krn_base.specs.declared.kind.Kind.{Kind}
use Rattle.krn_base.specs.declared.operation.BinOp.{BinOp}
use Rattle.krn_base.specs.declared.operation.UnOp.{UnOp}
use Rattle.view_places.specs.Arrays.{element_count, indices, spread}
use Rattle.overlap.specs.Walks.{Leaf, BothWaysAlike, IsClear, SameAt}
use Rattle.overlap.specs.Walks.{with_words as walk_words}
use Rattle.array_ops.specs.Arrays.{ArrayRef, with_word, with_words, word_at}
use Rattle.array_ops.specs.Elements.{Bound, Unbound, WordOf, ArrayOf, choose, extents_of, map_elements, mapped}
use Rattle.array_ops.specs.Elements.{operand_elements}
use Rattle.array_ops.specs.declared.operation.MapOp.{MapOp}
use Rattle.array_ops.specs.declared.operation.MapOp.TheVariants as map_op
use Rattle.eager_rules.specs.Types.{Ty, is_array, map_type, with_array_rank, bin_kind, un_kind, select_kind}
use Rattle.eager_rules.specs.Works.{word_of}
use Rattle.eager_rules.specs.declared.program.Oper.{Oper}
use Rattle.lazy_expr.specs.Plain.{operation_step}
use Rattle.lazy_expr.proofs.Binds.{not_both}
use Rattle.lazy_expr.proofs.Lists.{items, zeros_read}
use Rattle.lazy_expr.proofs.Operands.{none_some, some_same}
use Rattle.loop_prog.specs.State.{operand_in, view_in}
use Rattle.loop_prog.specs.Templates.{clashes, element, elements, is_clash, leaf_values, leaves, nested}
use Rattle.loop_prog.specs.Templates.{push, push_all, some_clash, spread_leaf}
use Rattle.loop_prog.specs.declared.program.TemplateStep.{TemplateStep}
use Rattle.loop_prog.specs.declared.program.TemplateStep.TheVariants as step

-- ---- how many elements there are
abbrev row : List ℕ → ℕ → List (List ℕ)
row ns i = map (λ index. i ∷ index) (indices ns)

rows_count : (ns : List ℕ) (a n : ℕ) → length (indices ns) ≡ element_count ns →
    length (flat_map (row ns) (range_with_len a n)) ≡ n * element_count ns
rows_count ns a zero e = omega arith
rows_count ns a (suc n) e =
    omega (
      arith,
      length-append (row ns a) (flat_map (row ns) (range_with_len (a + 1) n)),
      length-map (indices ns) (λ index. a ∷ index),
      rows_count ns (a + 1) n e,
    )

pub indices_count : (ns : List ℕ) → length (indices ns) ≡ element_count ns
indices_count [] = refl
indices_count (n ∷ ns) = rows_count ns 0 n (indices_count ns)

pub spread_count : (from ns xs : List ℕ) → length (spread 0 from ns xs) ≡ element_count ns
spread_count from ns xs = length-map (indices ns) _ ∙ indices_count ns

pub operand_count : (buffers : List (List ℤ)) (ns : List ℕ) (v : Bound) →
    length (operand_elements buffers ns v) ≡ element_count ns
operand_count buffers ns Unbound = length-replicate (element_count ns) (pos 0)
operand_count buffers ns (WordOf z) = length-replicate (element_count ns) z
operand_count buffers ns (ArrayOf a) =
    length-map (spread 0 a.extents ns a.places) (word_at buffers a.buffer) ∙ spread_count a.extents ns a.places

abbrev pub item : List (List ℤ) → List ℕ → Bound → ℕ → ℤ
item buffers ns v k = get_or (operand_elements buffers ns v) k (pos 0)

-- ---- a step that stands for an operand
abbrev pub StepFor : List Bound → List Bound → TemplateStep → Bound → Type 0
StepFor words views (step.Leaf r) v = view_in views r ≡ v
StepFor words views (step.Word y) v = (operand_in words y ≡ v) × (extents_of v ≡ [])
StepFor words views (step.Un op) v = ⊥
StepFor words views (step.Bin op) v = ⊥
StepFor words views step.Select v = ⊥

word_item : (buffers : List (List ℤ)) (ns : List ℕ) (v : Bound) (k : ℕ) → extents_of v ≡ [] → k < element_count ns →
    word_of v ≡ item buffers ns v k
word_item buffers ns Unbound k e h = sym (get_or-replicate (element_count ns) k (pos 0) (pos 0) h)
word_item buffers ns (WordOf z) k e h = sym (get_or-replicate (element_count ns) k z (pos 0) h)
word_item buffers ns (ArrayOf a) k e h = absurd (let p : a.extents ∷ [] ≡ [] = e in cc)

module _ (words views : List Bound) (ns : List ℕ) (buffers : List (List ℤ)) (k : ℕ) (h : k < element_count ns) where
  push_for : (s : TemplateStep) (v : Bound) (stack : List ℤ) → StepFor words views s v →
      push words views ns buffers k s stack ≡ item buffers ns v k ∷ stack
  push_for (step.Leaf r) v stack f = ap (λ (w : Bound). item buffers ns w k ∷ stack) f
  push_for (step.Word y) v stack f =
      ap (λ (z : ℤ). z ∷ stack) (ap word_of f.0 ∙ word_item buffers ns v k f.1 h)
  push_for (step.Un op) v stack f = absurd f
  push_for (step.Bin op) v stack f = absurd f
  push_for step.Select v stack f = absurd f

  one_pushed : (s : TemplateStep) (v : Bound) (op : UnOp) → StepFor words views s v →
      element words views (s ∷ step.Un op ∷ []) ns buffers k ≡ unary_result op (item buffers ns v k)
  one_pushed s v op f = ap (λ (stack : List ℤ). get_or (push words views ns buffers k (step.Un op) stack) 0 (pos 0))
      (push_for s v [] f)

  pub one_item : (s : TemplateStep) (v : Bound) → StepFor words views s v →
      element words views (s ∷ []) ns buffers k ≡ item buffers ns v k
  one_item s v f = ap (λ (stack : List ℤ). get_or stack 0 (pos 0)) (push_for s v [] f)

  two_pushed : (s p : TemplateStep) (v w : Bound) (op : BinOp) → StepFor words views s v → StepFor words views p w →
      element words views (s ∷ p ∷ step.Bin op ∷ []) ns buffers k ≡
      element_result op (item buffers ns v k) (item buffers ns w k)
  two_pushed s p v w op f g =
      ap (λ (stack : List ℤ). get_or (push words views ns buffers k (step.Bin op)
      (push words views ns buffers k p stack)) 0 (pos 0)) (push_for s v [] f) ∙
      ap (λ (stack : List ℤ). get_or (push words views ns buffers k (step.Bin op) stack) 0 (pos 0))
      (push_for p w (item buffers ns v k ∷ []) g)

  three_pushed : (s p q : TemplateStep) (u v w : Bound) → StepFor words views s u → StepFor words views p v →
      StepFor words views q w →
      element words views (s ∷ p ∷ q ∷ step.Select ∷ []) ns buffers k ≡
      choose (item buffers ns u k, (item buffers ns v k, item buffers ns w k))
  three_pushed s p q u v w f g e =
      ap (λ (stack : List ℤ). get_or (push words views ns buffers k step.Select
      (push words views ns buffers k q (push words views ns buffers k p stack))) 0 (pos 0)) (push_for s u [] f) ∙
      ap (λ (stack : List ℤ). get_or (push words views ns buffers k step.Select
      (push words views ns buffers k q stack)) 0 (pos 0)) (push_for p v (item buffers ns u k ∷ []) g) ∙
      ap (λ (stack : List ℤ). get_or (push words views ns buffers k step.Select stack) 0 (pos 0))
      (push_for q w (item buffers ns v k ∷ item buffers ns u k ∷ []) e)

-- ---- the elements of an element operation
abbrev pub operands_of : MapOp → ℕ
operands_of (map_op.Bin op) = 2
operands_of (map_op.Un op) = 1
operands_of map_op.Select = 3

array_rank : (rank : ℕ) (o : Option Kind) (u : Ty) → with_array_rank rank o ≡ Some u → is_array u ≡ true
array_rank zero o u h = none_some u h
array_rank (suc n) None u h = none_some u h
array_rank (suc n) (Some kind) u h = ap is_array (sym (some_same (kind, suc n) u h)) ∙ ap not (eqb-suc-zero n)

pub map_given : (op : MapOp) (types : List Ty) (u : Ty) → map_type op types ≡ Some u →
    (length types ≡ operands_of op) × (is_array u ≡ true)
map_given (map_op.Bin op) [] u h = none_some u h
map_given (map_op.Bin op) (t ∷ []) u h = none_some u h
map_given (map_op.Bin op) ((a, m) ∷ (b, n) ∷ []) u h = (refl, array_rank (max m n) (bin_kind op a b) u h)
map_given (map_op.Bin op) (s ∷ t ∷ v ∷ types) u h = none_some u h
map_given (map_op.Un op) [] u h = none_some u h
map_given (map_op.Un op) ((a, m) ∷ []) u h = (refl, array_rank m (un_kind op a) u h)
map_given (map_op.Un op) (s ∷ t ∷ types) u h = none_some u h
map_given map_op.Select [] u h = none_some u h
map_given map_op.Select (s ∷ []) u h = none_some u h
map_given map_op.Select (s ∷ t ∷ []) u h = none_some u h
map_given map_op.Select ((c, k) ∷ (a, m) ∷ (b, n) ∷ []) u h =
    (refl, array_rank (max k (max m n)) (select_kind c a b) u h)
map_given map_op.Select (s ∷ t ∷ v ∷ w ∷ types) u h = none_some u h

module _ (words views : List Bound) (ns : List ℕ) (buffers : List (List ℤ)) where
  pub one_elements : (s : TemplateStep) (v : Bound) → StepFor words views s v →
      elements words views (s ∷ []) ns buffers ≡ operand_elements buffers ns v
  one_elements s v f =
      items (element words views (s ∷ []) ns buffers) (operand_elements buffers ns v) (element_count ns)
      (operand_count buffers ns v)
      (λ k h. one_item words views ns buffers k h s v f)

  pub unary_elements : (s : TemplateStep) (v : Bound) (op : UnOp) → StepFor words views s v →
      elements words views (s ∷ step.Un op ∷ []) ns buffers ≡ map (unary_result op) (operand_elements buffers ns v)
  unary_elements s v op f =
      let xs : List ℤ = operand_elements buffers ns v in
      let long : length xs ≡ element_count ns = operand_count buffers ns v in
      items (element words views (s ∷ step.Un op ∷ []) ns buffers) (map (unary_result op) xs) (element_count ns)
      (length-map xs (unary_result op) ∙ long)
      (λ k h. one_pushed words views ns buffers k h s v op f ∙
      sym (get_or-map (unary_result op) xs k (pos 0) (pos 0) (omega (arith, h, long))))

  binary_elements : (s p : TemplateStep) (v w : Bound) (op : BinOp) → StepFor words views s v →
      StepFor words views p w →
      elements words views (s ∷ p ∷ step.Bin op ∷ []) ns buffers ≡
      map (λ p. element_result op p.0 p.1) (zip (operand_elements buffers ns v) (operand_elements buffers ns w))
  binary_elements s p v w op f g =
      let xs : List ℤ = operand_elements buffers ns v in
      let ys : List ℤ = operand_elements buffers ns w in
      let first : length xs ≡ element_count ns = operand_count buffers ns v in
      let second : length ys ≡ element_count ns = operand_count buffers ns w in
      let both : length (zip xs ys) ≡ element_count ns = length-zip xs ys ∙ omega (arith, first, second) in
      let join : ℤ × ℤ → ℤ = λ q. element_result op q.0 q.1 in
      items (element words views (s ∷ p ∷ step.Bin op ∷ []) ns buffers) (map join (zip xs ys)) (element_count ns)
      (length-map (zip xs ys) join ∙ both)
      (λ k h. two_pushed words views ns buffers k h s p v w op f g ∙
      ap join (sym (get_or-zip xs ys k (pos 0, pos 0) (omega (arith, h, first)) (omega (arith, h, second)))) ∙
      sym (get_or-map join (zip xs ys) k (pos 0, pos 0) (pos 0) (omega (arith, h, both))))

  chosen_elements : (s p q : TemplateStep) (u v w : Bound) → StepFor words views s u → StepFor words views p v →
      StepFor words views q w →
      elements words views (s ∷ p ∷ q ∷ step.Select ∷ []) ns buffers ≡
      map choose (zip (operand_elements buffers ns u)
      (zip (operand_elements buffers ns v) (operand_elements buffers ns w)))
  chosen_elements s p q u v w f g e =
      let masks : List ℤ = operand_elements buffers ns u in
      let xs : List ℤ = operand_elements buffers ns v in
      let ys : List ℤ = operand_elements buffers ns w in
      let zeroth : length masks ≡ element_count ns = operand_count buffers ns u in
      let first : length xs ≡ element_count ns = operand_count buffers ns v in
      let second : length ys ≡ element_count ns = operand_count buffers ns w in
      let both : length (zip xs ys) ≡ element_count ns = length-zip xs ys ∙ omega (arith, first, second) in
      let all : length (zip masks (zip xs ys)) ≡ element_count ns =
      length-zip masks (zip xs ys) ∙ omega (arith, zeroth, both) in
      items (element words views (s ∷ p ∷ q ∷ step.Select ∷ []) ns buffers) (map choose (zip masks (zip xs ys)))
      (element_count ns) (length-map (zip masks (zip xs ys)) choose ∙ all)
      (λ k h. three_pushed words views ns buffers k h s p q u v w f g e ∙
      ap (λ (pair : ℤ × ℤ). choose (item buffers ns u k, pair))
      (sym (get_or-zip xs ys k (pos 0, pos 0) (omega (arith, h, first)) (omega (arith, h, second)))) ∙
      ap choose (sym (get_or-zip masks (zip xs ys) k (pos 0, (pos 0, pos 0)) (omega (arith, h, zeroth))
      (omega (arith, h, both)))) ∙
      sym (get_or-map choose (zip masks (zip xs ys)) k (pos 0, (pos 0, pos 0)) (pos 0) (omega (arith, h, all))))

  -- the steps of operands, then the operation
  module _ (f : Oper → TemplateStep) (g : Oper → Bound) where
    abbrev pub StepsFor : List Oper → Type 0
    StepsFor args = AllByRecursion (λ x. StepFor words views (f x) (g x)) args

    pub map_made : (op : MapOp) (args : List Oper) → length args ≡ operands_of op → StepsFor args →
        elements words views (map f args ++ operation_step op ∷ []) ns buffers ≡
        map_elements buffers ns op (map g args)
    map_made (map_op.Bin op) [] e h = absurd (omega (arith, e))
    map_made (map_op.Bin op) (x ∷ []) e h = absurd (omega (arith, e))
    map_made (map_op.Bin op) (x ∷ y ∷ []) e h = binary_elements (f x) (f y) (g x) (g y) op h.0 h.1.0
    map_made (map_op.Bin op) (x ∷ y ∷ z ∷ args) e h = absurd (omega (arith, e))
    map_made (map_op.Un op) [] e h = absurd (omega (arith, e))
    map_made (map_op.Un op) (x ∷ []) e h = unary_elements (f x) (g x) op h.0
    map_made (map_op.Un op) (x ∷ y ∷ args) e h = absurd (omega (arith, e))
    map_made map_op.Select [] e h = absurd (omega (arith, e))
    map_made map_op.Select (x ∷ []) e h = absurd (omega (arith, e))
    map_made map_op.Select (x ∷ y ∷ []) e h = absurd (omega (arith, e))
    map_made map_op.Select (x ∷ y ∷ z ∷ []) e h =
        chosen_elements (f x) (f y) (f z) (g x) (g y) (g z) h.0 h.1.0 h.1.1.0
    map_made map_op.Select (x ∷ y ∷ z ∷ w ∷ args) e h = absurd (omega (arith, e))

    leaves_for : (s : TemplateStep) (v : Bound) (xs ys : List (List ℕ)) (rest : List TemplateStep) →
        StepFor words views s v → flat_map extents_of (leaf_values views rest) ≡ ys →
        flat_map extents_of (leaf_values views (s ∷ rest)) ≡ extents_of v ++ ys
    leaves_for (step.Leaf r) v xs ys rest p e =
        ap₂ (λ (a b : List (List ℕ)). a ++ b) (ap extents_of p) e
    leaves_for (step.Word y) v xs ys rest p e = e ∙ ap (λ (a : List (List ℕ)). a ++ ys) (sym p.1)
    leaves_for (step.Un op) v xs ys rest p e = absurd p
    leaves_for (step.Bin op) v xs ys rest p e = absurd p
    leaves_for step.Select v xs ys rest p e = absurd p

    -- the leaves have the shapes of the operands
    pub shapes_same : (args : List Oper) (rest : List TemplateStep) → leaves rest ≡ [] → StepsFor args →
        flat_map extents_of (leaf_values views (map f args ++ rest)) ≡ flat_map extents_of (map g args)
    shapes_same [] rest e h = ap (λ (vs : List ℕ). flat_map extents_of (map (view_in views) vs)) e
    shapes_same (x ∷ args) rest e h =
        leaves_for (f x) (g x) [] (flat_map extents_of (map g args)) (map f args ++ rest) h.0
        (shapes_same args rest e h.1)

-- ---- a nest stores all elements
words_alike : (buffers : List (List ℤ)) (b : ℕ) (ps : List ℕ) (ws : List ℤ) →
    walk_words buffers b ps ws ≡ with_words buffers b ps ws
words_alike buffers b [] ws = refl
words_alike buffers b (p ∷ ps) [] = refl
words_alike buffers b (p ∷ ps) (w ∷ ws) = words_alike (with_word buffers b p w) b ps ws

pub or_left : (a b : Bool) → (a || b) ≡ false → a ≡ false
or_left true b h = h
or_left false b h = refl

pub or_right : (a b : Bool) → (a || b) ≡ false → b ≡ false
or_right true b h = not_both h
or_right false b h = h

module _ (words views : List Bound) (ns : List ℕ) (before after : List (List ℤ)) (k : ℕ) (inside : k < element_count ns)
  where
    leaf_same : (w : Bound) (rest : List Leaf) → SameAt (spread_leaf ns w ++ rest) k before after →
        (item before ns w k ≡ item after ns w k) × SameAt rest k before after
    leaf_same Unbound rest h = (refl, h)
    leaf_same (WordOf z) rest h = (refl, h)
    leaf_same (ArrayOf a) rest h =
        let ps : List ℕ = spread 0 a.extents ns a.places in
        let there : k < length ps = omega (arith, inside, spread_count a.extents ns a.places) in (
          get_or-map (word_at before a.buffer) ps k 0 (pos 0) there ∙ h.0 ∙
              sym (get_or-map (word_at after a.buffer) ps k 0 (pos 0) there),
          h.1,
        )

    push_same : (s : TemplateStep) (stack : List ℤ) (rest : List TemplateStep) →
        SameAt (flat_map (spread_leaf ns) (leaf_values views (s ∷ rest))) k before after →
        (push words views ns before k s stack ≡ push words views ns after k s stack) ×
        SameAt (flat_map (spread_leaf ns) (leaf_values views rest)) k before after
    push_same (step.Leaf r) stack rest h =
        let found = leaf_same (view_in views r) (flat_map (spread_leaf ns) (leaf_values views rest)) h in
        (ap (λ (z : ℤ). z ∷ stack) found.0, found.1)
    push_same (step.Word y) stack rest h = (refl, h)
    push_same (step.Un op) [] rest h = (refl, h)
    push_same (step.Un op) (a ∷ stack) rest h = (refl, h)
    push_same (step.Bin op) [] rest h = (refl, h)
    push_same (step.Bin op) (a ∷ []) rest h = (refl, h)
    push_same (step.Bin op) (b ∷ a ∷ stack) rest h = (refl, h)
    push_same step.Select [] rest h = (refl, h)
    push_same step.Select (a ∷ []) rest h = (refl, h)
    push_same step.Select (b ∷ a ∷ []) rest h = (refl, h)
    push_same step.Select (c ∷ b ∷ a ∷ stack) rest h = (refl, h)

    pushes_same : (steps : List TemplateStep) (stack : List ℤ) →
        SameAt (flat_map (spread_leaf ns) (leaf_values views steps)) k before after →
        push_all words views ns before k steps stack ≡ push_all words views ns after k steps stack
    pushes_same [] stack h = refl
    pushes_same (s ∷ steps) stack h =
        let found = push_same s stack steps h in
        ap (push_all words views ns before k steps) found.0 ∙
        pushes_same steps (push words views ns after k s stack) found.1

all_clear : (target : ArrayRef) (values : List Bound) → length target.places ≡ element_count target.extents →
    some_clash target values ≡ false →
    AllByRecursion (IsClear target.buffer target.places) (flat_map (spread_leaf target.extents) values)
all_clear target [] p h = tt
all_clear target (Unbound ∷ values) p h = all_clear target values p h
all_clear target (WordOf z ∷ values) p h = all_clear target values p h
all_clear target (ArrayOf a ∷ values) p h =
    let leaf : Leaf = record { buffer = a.buffer; places = spread 0 a.extents target.extents a.places } in (
      record {
        count = spread_count a.extents target.extents a.places ∙ sym p;
        verdict = λ e. not_both (sym (ap is_clash e) ∙ or_left (clashes target leaf) (some_clash target values) h);
      },
      all_clear target values p (or_right (clashes target leaf) (some_clash target values) h),
    )

module _ (alike : BothWaysAlike) (words views : List Bound) (steps : List TemplateStep) (target : ArrayRef)
    (proper : length target.places ≡ element_count target.extents) (buffers : List (List ℤ)) where
  abbrev each : List (List ℤ) → ℕ → ℤ
  each = element words views steps target.extents

  made_first : nested true each target buffers ≡
      with_words buffers target.buffer target.places (elements words views steps target.extents buffers)
  made_first =
      words_alike buffers target.buffer target.places (map (each buffers) (range_with_len 0 (length target.places))) ∙
      ap (λ (n : ℕ). with_words buffers target.buffer target.places (map (each buffers) (range_with_len 0 n))) proper

  by_clash : (clash : Bool) → some_clash target (leaf_values views steps) ≡ clash →
      nested clash each target buffers ≡
      with_words buffers target.buffer target.places (elements words views steps target.extents buffers)
  by_clash true e = made_first
  by_clash false e =
      alike each (flat_map (spread_leaf target.extents) (leaf_values views steps)) target.buffer target.places buffers
      (λ k before after inside same. ap (λ (stack : List ℤ). get_or stack 0 (pos 0))
      (pushes_same words views target.extents before after k (omega (arith, inside, proper)) steps [] same))
      (all_clear target (leaf_values views steps) proper e) ∙ made_first

  pub nest_stores : nested (some_clash target (leaf_values views steps)) each target buffers ≡
      with_words buffers target.buffer target.places (elements words views steps target.extents buffers)
  nest_stores = by_clash (some_clash target (leaf_values views steps)) refl

-- ---- a new buffer of zeros changes no operand
operand_read : (buffers : List (List ℤ)) (n : ℕ) (ns : List ℕ) (v : Bound) →
    operand_elements (buffers ++ replicate n (pos 0) ∷ []) ns v ≡ operand_elements buffers ns v
operand_read buffers n ns Unbound = refl
operand_read buffers n ns (WordOf z) = refl
operand_read buffers n ns (ArrayOf a) =
    ap (λ (f : ℕ → ℤ). map f (spread 0 a.extents ns a.places))
    (fun_ext (λ (p : ℕ). zeros_read buffers n a.buffer p))

pub map_read : (buffers : List (List ℤ)) (n : ℕ) (ns : List ℕ) (op : MapOp) (args : List Bound) →
    map_elements (buffers ++ replicate n (pos 0) ∷ []) ns op args ≡ map_elements buffers ns op args
map_read buffers n ns op args =
    ap (λ (f : Bound → List ℤ). mapped op (map f args)) (fun_ext (λ (v : Bound). operand_read buffers n ns v))
