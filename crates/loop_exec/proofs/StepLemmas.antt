-- What the steps of a template read, one step after another, and that a leaf reads its elements.
use Rattle.std.proofs.Common.{arith, ◌≡◌, ◌∙◌, ap, sym, refl, ℕ, zero, suc, ◌+◌, ◌*◌, ◌<◌}
use Rattle.std.proofs.Common.{List, [], ◌∷◌, ◌++◌, map, length, ℤ, pos, Option, Some, None, slice_index_or}
use Rattle.std.proofs.Common.{length-append}
use Rattle.std.specs.List.{flat_map, range_with_len}
use Rattle.std.proofs.lemmas.List.{get_or-map, get_or-replicate, length-map}
use Rattle.view_places.specs.Arrays.{element_count, indices, spread}
use Rattle.view_places.specs.View.{extents, places}
use Rattle.view_places.specs.declared.view.View.{View}
use Rattle.array_ops.specs.Arrays.{word_at}
use Rattle.array_ops.specs.Elements.{Bound, extents_of, operand_elements}
use Rattle.loop_prog.specs.State.{view_in}
use Rattle.loop_prog.specs.Templates.{leaf_values, spread_leaf}
use Rattle.loop_prog.specs.declared.program.TemplateStep.{TemplateStep}
use Rattle.loop_prog.specs.declared.program.TemplateStep.TheVariants as step
use Rattle.loop_exec.specs.Banks.{view_bound, views_bound}
use Rattle.loop_exec.specs.Leaves.{read_at, read_by}

-- ---- one step's part
pub extents_more : (views : List Bound) (s : TemplateStep) (steps : List TemplateStep) →
    flat_map extents_of (leaf_values views (s ∷ steps)) ≡
    extents_of (read_by views s) ++ flat_map extents_of (leaf_values views steps)
extents_more views (step.Leaf v) steps = refl
extents_more views (step.Word x) steps = refl
extents_more views (step.Un op) steps = refl
extents_more views (step.Bin op) steps = refl
extents_more views step.Select steps = refl

pub leaves_more : (views : List Bound) (ns : List ℕ) (s : TemplateStep) (steps : List TemplateStep) →
    flat_map (spread_leaf ns) (leaf_values views (s ∷ steps)) ≡
    spread_leaf ns (read_by views s) ++ flat_map (spread_leaf ns) (leaf_values views steps)
leaves_more views ns (step.Leaf v) steps = refl
leaves_more views ns (step.Word x) steps = refl
leaves_more views ns (step.Un op) steps = refl
leaves_more views ns (step.Bin op) steps = refl
leaves_more views ns step.Select steps = refl

-- ---- as many indices as elements
rows_count : (rest : List (List ℕ)) (m : ℕ) (a n : ℕ) → length rest ≡ m →
    length (flat_map (λ i. map (λ index. i ∷ index) rest) (range_with_len a n)) ≡ n * m
rows_count rest m a zero e = omega arith
rows_count rest m a (suc n) e =
    let first : length (map (λ index. a ∷ index) rest) ≡ length rest = length-map rest (λ index. a ∷ index) in
    let others : length (flat_map (λ i. map (λ index. i ∷ index) rest) (range_with_len (a + 1) n)) ≡ n * m =
    rows_count rest m (a + 1) n e in
    length-append (map (λ index. a ∷ index) rest) (flat_map (λ i. map (λ index. i ∷ index) rest) (range_with_len (a
    + 1) n))
    ∙ omega (arith, first, others, e)

pub index_count : (ns : List ℕ) → length (indices ns) ≡ element_count ns
index_count [] = refl
index_count (n ∷ ns) = rows_count (indices ns) (element_count ns) 0 n (index_count ns)

-- ---- a leaf reads its elements
leaf_word : (ns : List ℕ) (b : Option View) (buffers : List (List ℤ)) (k : ℕ) → k < element_count ns →
    slice_index_or (operand_elements buffers ns (view_bound b)) k (pos 0) ≡
    read_at buffers k (spread_leaf ns (view_bound b))
leaf_word ns None buffers k below = get_or-replicate (element_count ns) k (pos 0) (pos 0) below
leaf_word ns (Some v) buffers k below =
    let long : length (spread 0 (extents v) ns (places v)) ≡ length (indices ns) =
    length-map (indices ns) _ in
    let count : length (indices ns) ≡ element_count ns = index_count ns in
    get_or-map (word_at buffers v.buffer) (spread 0 (extents v) ns (places v)) k 0 (pos 0)
    (omega (arith, below, long, count))

pub view_at : (views : List (Option View)) (v : ℕ) → view_in (views_bound views) v ≡ view_bound (slice_index_or
    views v None)
view_at [] v = refl
view_at (x ∷ views) zero = refl
view_at (x ∷ views) (suc v) = view_at views v

pub leaf_reads : (ns : List ℕ) (views : List (Option View)) (v : ℕ) (buffers : List (List ℤ)) (k : ℕ) →
    k < element_count ns →
    slice_index_or (operand_elements buffers ns (view_in (views_bound views) v)) k (pos 0) ≡
    read_at buffers k (spread_leaf ns (view_in (views_bound views) v))
leaf_reads ns views v buffers k below =
    ap (λ (b : Bound). slice_index_or (operand_elements buffers ns b) k (pos 0)) (view_at views v) ∙
    leaf_word ns (slice_index_or views v None) buffers k below ∙
    ap (λ (b : Bound). read_at buffers k (spread_leaf ns b)) (sym (view_at views v))
