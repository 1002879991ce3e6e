-- What a call of a kernel leaves: its values, the final words of the call's buffers, and its fault.
use Rattle.std.specs.Prelude.{slice_index_or, ℕ, ◌-◌, ℤ, pos, List, [], ◌++◌, map, length, take, replicate, slice_get}
use Rattle.std.specs.Prelude.{Option, Some, None}
use Rattle.std.specs.List.{zip}
use Rattle.krn_base.specs.declared.kind.Kind.{Kind}
use Rattle.view_places.specs.declared.shape.Shape.{Shape}
use Rattle.array_ops.specs.Arrays.{elements_of}
use Rattle.array_ops.specs.Elements.{Bound, Unbound, WordOf, ArrayOf}
use Rattle.eager_rules.specs.Blocks.{End, GoesOn, Returned, Faulted, Stuck}
use Rattle.eager_rules.specs.Eager.{block, calls_at, entered}
use Rattle.eager_rules.specs.State.{State, bound_to}
use Rattle.eager_rules.specs.declared.call.Call.{Call}
use Rattle.eager_rules.specs.declared.outcome.Outcome.{Outcome}
use Rattle.eager_rules.specs.declared.outcome.Value.{Value}
use Rattle.eager_rules.specs.declared.outcome.Value.TheVariants as value
use Rattle.eager_rules.specs.declared.program.Instance.{Instance}
use Rattle.eager_rules.specs.declared.program.Program.{Program}

-- a shape with these extents
abbrev pub shape_with : List ℕ → Shape
shape_with ns = record { rank = length ns; extent = ns ++ replicate (4 - length ns) 1 }

-- a returned operand as a value of its kind; the elements of an array are read when the kernel returns
abbrev pub value_of : List (List ℤ) → (Kind × ℕ) × Bound → Value
value_of buffers (type, Unbound) = value.Word type.0 (pos 0)
value_of buffers (type, WordOf z) = value.Word type.0 z
value_of buffers (type, ArrayOf a) =
    value.Array (record { kind = type.0; shape = shape_with a.extents; words = elements_of buffers a })

-- a function of the items of two lists with one number
abbrev pub by_number : {A B C : Type 0} → (A × B → C) → A → B → List A → List B → ℕ → C
by_number f a b xs ys j = f (slice_index_or xs j a, slice_index_or ys j b)

-- the outcome by the end of a kernel's body; `count` is how many buffers the call has
abbrev pub finished : List (Kind × ℕ) → ℕ → List (List ℤ) → End → Outcome
finished rets count buffers GoesOn = record { ret = []; buffers = take count buffers; fault = None }
finished rets count buffers (Returned values) = record {
  ret = map (value_of buffers) (zip rets values);
  buffers = take count buffers;
  fault = None;
}
finished rets count buffers (Faulted fault at) =
    record { ret = []; buffers = take count buffers; fault = Some (fault, at) }
finished rets count buffers Stuck = record { ret = []; buffers = take count buffers; fault = None }

abbrev pub ended : List (Kind × ℕ) → ℕ → State × End → Outcome
ended rets count (s, end) = finished rets count s.buffers end

-- the words of the call's buffers
abbrev pub buffers_of : Call → List (List ℤ)
buffers_of call = map (λ a. a.words) call.buffers

-- what evaluating an instance on a call gives, where own calls go to a depth
abbrev pub instance_outcome : List Instance → ℕ → Instance → Call → Outcome
instance_outcome instances depth f call =
    ended f.rets (length call.buffers)
    (block (calls_at instances depth) f.body (entered f (map bound_to call.args) (buffers_of call)))

abbrev pub outcome_by : List Instance → Call → Option Instance → Outcome
outcome_by instances call None = record { ret = []; buffers = buffers_of call; fault = None }
outcome_by instances call (Some f) = instance_outcome instances (length instances) f call

-- what evaluating the instance with this number on a call gives; no chain of calls passes more instances than there are
abbrev pub outcome_at : Program → Option ℕ → Call → Outcome
outcome_at program None call = outcome_by program.instances call None
outcome_at program (Some number) call = outcome_by program.instances call (slice_get program.instances number)

-- What evaluating the kernel with this number on a call gives.
abbrev pub outcome_of : Program → ℕ → Call → Outcome
outcome_of program kernel call = outcome_at program (slice_get program.kernels kernel) call
