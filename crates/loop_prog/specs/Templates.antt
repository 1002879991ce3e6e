-- Templates: how one element is made of the elements of leaves, by steps in postfix order. What a template reads goes
-- by the lists of registers and not by the state, so that a store changes nothing but the buffers.
use Rattle.std.specs.Prelude.{ℕ, Bool, true, false, if◌then◌else◌, ℤ, pos, List, [], ◌∷◌, map}
use Rattle.std.specs.Prelude.{slice_index_or, Result, Ok, Err}
use Rattle.std.specs.List.{flat_map, list_all, list_any, range_with_len}
use Rattle.krn_base.specs.Numbers.{element_result, unary_result}
use Rattle.krn_base.specs.declared.fault.Fault.{Fault}
use Rattle.krn_base.specs.declared.fault.Fault.TheVariants.{ValueError}
use Rattle.view_places.specs.Arrays.{element_count, spread}
use Rattle.overlap.specs.Lists.{verdict_of_places}
use Rattle.overlap.specs.Walks.{Leaf, in_place, through_temporary}
use Rattle.overlap.specs.declared.table.Verdict.{Verdict}
use Rattle.overlap.specs.declared.table.Verdict.TheVariants.{Clash}
use Rattle.array_ops.specs.Arrays.{ArrayRef}
use Rattle.array_ops.specs.Elements.{Bound, ArrayOf, choose, extents_of, operand_elements, spreads_to}
use Rattle.eager_rules.specs.Works.{word_of}
use Rattle.loop_prog.specs.State.{operand_in, view_in}
use Rattle.loop_prog.specs.declared.program.TemplateStep.{TemplateStep}
use Rattle.loop_prog.specs.declared.program.TemplateStep.TheVariants as step

-- the view registers of the leaves, in the order of the steps, repeated ones too
abbrev pub leaf_of_step : TemplateStep → List ℕ
leaf_of_step (step.Leaf v) = v ∷ []
leaf_of_step _ = []

abbrev pub leaves : List TemplateStep → List ℕ
leaves steps = flat_map leaf_of_step steps

-- what the leaves stand for
abbrev pub leaf_values : List Bound → List TemplateStep → List Bound
leaf_values views steps = map (view_in views) (leaves steps)

-- A step on the values so far, the latest first, at the element with the number k of the shape `ns`. An operation for
-- which there are too few values leaves none.
abbrev pub push : List Bound → List Bound → List ℕ → List (List ℤ) → ℕ → TemplateStep → List ℤ → List ℤ
push words views ns buffers k (step.Leaf v) stack =
    slice_index_or (operand_elements buffers ns (view_in views v)) k (pos 0) ∷ stack
push words views ns buffers k (step.Word x) stack = word_of (operand_in words x) ∷ stack
push words views ns buffers k (step.Un op) (a ∷ stack) = unary_result op a ∷ stack
push words views ns buffers k (step.Bin op) (b ∷ a ∷ stack) = element_result op a b ∷ stack
push words views ns buffers k step.Select (y ∷ x ∷ mask ∷ stack) = choose (mask, (x, y)) ∷ stack
push words views ns buffers k _ stack = []

abbrev pub push_all : List Bound → List Bound → List ℕ → List (List ℤ) → ℕ → List TemplateStep → List ℤ → List ℤ
push_all words views ns buffers k [] stack = stack
push_all words views ns buffers k (s ∷ steps) stack =
    push_all words views ns buffers k steps (push words views ns buffers k s stack)

-- the element with the number k of the shape `ns`, made of the buffers
abbrev pub element : List Bound → List Bound → List TemplateStep → List ℕ → List (List ℤ) → ℕ → ℤ
element words views steps ns buffers k = slice_index_or (push_all words views ns buffers k steps []) 0 (pos 0)

-- all elements of the shape `ns`
abbrev pub elements : List Bound → List Bound → List TemplateStep → List ℕ → List (List ℤ) → List ℤ
elements words views steps ns buffers =
    map (element words views steps ns buffers) (range_with_len 0 (element_count ns))

-- a leaf's buffer and its places, spread to a shape
abbrev pub spread_leaf : List ℕ → Bound → List Leaf
spread_leaf ns (ArrayOf a) = record { buffer = a.buffer; places = spread 0 a.extents ns a.places } ∷ []
spread_leaf ns _ = []

abbrev pub is_clash : Verdict → Bool
is_clash Clash = true
is_clash _ = false

-- whether storing at the target's places may change what a leaf has yet to give
abbrev pub clashes : ArrayRef → Leaf → Bool
clashes target leaf = is_clash (verdict_of_places target.buffer target.places leaf.buffer leaf.places)

abbrev pub some_clash : ArrayRef → List Bound → Bool
some_clash target values = list_any (clashes target) (flat_map (spread_leaf target.extents) values)

-- the shape of a nest, which is its target's; ValueError where a leaf doesn't spread to it
abbrev pub nest_shape : List ℕ → List Bound → Result (List ℕ) Fault
nest_shape ns values =
    if list_all (λ from. spreads_to from ns) (flat_map extents_of values) then Ok ns else Err ValueError

-- the buffers after a nest: all elements made first, or each stored at once
abbrev pub nested : Bool → (List (List ℤ) → ℕ → ℤ) → ArrayRef → List (List ℤ) → List (List ℤ)
nested true each target buffers = through_temporary each target.buffer target.places buffers
nested false each target buffers = in_place each target.buffer 0 target.places buffers
