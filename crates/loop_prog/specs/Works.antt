-- The work of the statements that the core hasn't: new buffers of zeros, tests of shapes, nests and folds.
use Rattle.std.specs.Prelude.{ℕ, zero, suc, Bool, false, ℤ, List, Result, Ok, Err}
use Rattle.krn_base.specs.Numbers.{truth}
use Rattle.krn_base.specs.declared.fault.Fault.{Fault}
use Rattle.krn_base.specs.declared.fault.Fault.TheVariants.{ValueError}
use Rattle.krn_base.specs.declared.kind.Kind.{Kind}
use Rattle.krn_base.specs.declared.kind.Kind.TheVariants.{Int64, Bool as Boolean}
use Rattle.krn_base.specs.declared.operation.Join.{Join}
use Rattle.krn_base.specs.declared.place.Loc.{Loc}
use Rattle.view_places.specs.Arrays.{element_count}
use Rattle.array_ops.specs.Arrays.{ArrayRef}
use Rattle.array_ops.specs.Elements.{Bound, WordOf, shape_of, filled, joined, is_set}
use Rattle.array_ops.specs.Subscripts.{and_then}
use Rattle.array_ops.specs.declared.operation.Fill.TheVariants.{Zero}
use Rattle.eager_rules.specs.Blocks.{Meaning, given}
use Rattle.eager_rules.specs.Works.{Work, changed, made_new}
use Rattle.loop_prog.specs.State.{State, bind, count_nest, with_buffers, with_counts}
use Rattle.loop_prog.specs.Templates.{element, elements, leaf_values, nest_shape, nested, some_clash}
use Rattle.loop_prog.specs.declared.program.Reg.TheVariants as reg
use Rattle.loop_prog.specs.declared.program.TemplateStep.{TemplateStep}
use Rattle.loop_prog.specs.declared.program.Test.{Test}
use Rattle.loop_prog.specs.declared.program.Test.TheVariants.{Fits, Filled}

-- a new buffer of zeros with the broadcast shape of views
abbrev pub like_work : Loc → Work
like_work at values buffers = made_new buffers at (λ ns. filled Zero (element_count ns)) (shape_of values)

-- a shape that has an element
abbrev pub some_element : List ℕ → ℕ → Result (List ℕ) Fault
some_element ns zero = Err ValueError
some_element ns (suc n) = Ok ns

abbrev pub tested_shape : Test → List Bound → Result (List ℕ) Fault
tested_shape Fits values = shape_of values
tested_shape Filled values = and_then (shape_of values) (λ ns. some_element ns (element_count ns))

-- a test of the shapes of views
abbrev pub check_work : Test → Loc → Work
check_work test at values buffers = changed buffers at (and_then (tested_shape test values) (λ ns. Ok buffers))

-- The elements of a template stored into a target: one after another where no leaf clashes with it, else all made
-- first.
abbrev pub nest_into : ArrayRef → Bool → List TemplateStep → State → State
nest_into target clash steps t =
    with_counts (count_nest clash t.counts)
    (with_buffers (nested clash (element t.words t.views steps target.extents) target t.buffers) t)

abbrev pub nest : ArrayRef → List TemplateStep → Loc → Meaning State
nest target steps at t =
    given (nest_shape target.extents (leaf_values t.views steps)) at
    (λ ns. nest_into target (some_clash target (leaf_values t.views steps)) steps) t

-- what a register of a kind gets of a join
abbrev pub as_kind : Kind → ℤ → ℤ
as_kind Int64 z = z
as_kind Boolean z = truth (is_set z)

-- The join of all elements of a template over the broadcast shape of its leaves, from the unit.
abbrev pub folded : Join → List TemplateStep → List ℕ → State → ℤ
folded join steps ns t = joined join (elements t.words t.views steps ns t.buffers)

abbrev pub fold_to : ℕ → Kind → Join → List TemplateStep → Loc → Meaning State
fold_to to kind join steps at t =
    given (shape_of (leaf_values t.views steps)) at
    (λ ns u. with_counts (count_nest false u.counts)
    (bind (reg.Word to) (WordOf (as_kind kind (folded join steps ns u))) u)) t
