-- A state of eager evaluation and one of the loop program that agree: the same buffers, and each name stands for what
-- its register stands for. New view registers, above those of names, are nobody's; counts are in no relation.
use Rattle.std.specs.Prelude.{◌≡◌, ℕ, ◌<◌, false, true, List, [], length, slice_index_or}
use Rattle.krn_base.specs.declared.kind.Kind.TheVariants.{Int64}
use Rattle.view_places.specs.Arrays.{element_count, is_small}
use Rattle.array_ops.specs.Arrays.{ArrayRef}
use Rattle.array_ops.specs.Elements.{Bound, Unbound, WordOf, ArrayOf, extents_of}
use Rattle.eager_rules.specs.Eager.{entered}
use Rattle.eager_rules.specs.Kept.{FitsInstance}
use Rattle.eager_rules.specs.Outcome.{buffers_of}
use Rattle.eager_rules.specs.Sound.{Head, IsWellTyped}
use Rattle.eager_rules.specs.State.{bound_of, bound_to}
use Rattle.eager_rules.specs.State.{State as Eager}
use Rattle.eager_rules.specs.Types.{Ty}
use Rattle.eager_rules.specs.declared.call.Call.{Call}
use Rattle.eager_rules.specs.declared.program.Instance.{Instance}
use Rattle.lazy_expr.specs.Plain.{closed_for, lowered, plain_kernel}
use Rattle.lazy_expr.specs.Table.{is_array_name, number, register, table_of, view_types, word_kinds}
use Rattle.lazy_expr.specs.Promise.{has_ranked_params}
use Rattle.std.specs.Prelude.{map}
use Rattle.loop_prog.specs.Serial.{block, kind_of}
use Rattle.loop_prog.specs.Serial.{entered as entered_kernel, ended as ended_kernel}
use Rattle.loop_prog.specs.State.{State, look}
use Rattle.loop_prog.specs.declared.program.Reg.TheVariants as reg

-- A table gives each name a register of its class, of its own, and scalars ones of their kinds.
pub record IsTable (names : List Ty) : Type 0 where
  pub word : (n : ℕ) → n < length names → is_array_name names n ≡ false →
      register (table_of names) n ≡ reg.Word (number (table_of names) n)
  pub word_below : (n : ℕ) → n < length names → is_array_name names n ≡ false →
      number (table_of names) n < length (word_kinds names)
  pub kind : (n : ℕ) → n < length names → is_array_name names n ≡ false →
      kind_of (word_kinds names) (number (table_of names) n) ≡ (slice_index_or names n (Int64, 0)).0
  pub view : (n : ℕ) → n < length names → is_array_name names n ≡ true →
      register (table_of names) n ≡ reg.View (number (table_of names) n)
  pub view_below : (n : ℕ) → n < length names → is_array_name names n ≡ true →
      number (table_of names) n < length (view_types names)
  pub apart : (m n : ℕ) → m < length names → n < length names →
      register (table_of names) m ≡ register (table_of names) n → m ≡ n

-- an array has a place for each element, and a shape within the limits
pub record IsProper (a : ArrayRef) : Type 0 where
  pub count : length a.places ≡ element_count a.extents
  pub small : is_small a.extents ≡ true

abbrev pub IsArrayOrNothing : Bound → Type 0
IsArrayOrNothing Unbound = Unit {0}
IsArrayOrNothing (WordOf z) = ⊥
IsArrayOrNothing (ArrayOf a) = IsProper a

-- a scalar name stands for no array, and an array name for a proper one, if for anything
abbrev pub Fitting : List Ty → ℕ → Bound → Type 0
Fitting names n v =
    (is_array_name names n ≡ false → extents_of v ≡ []) × (is_array_name names n ≡ true → IsArrayOrNothing v)

-- `views` is the number of view registers, new ones among them.
pub record Agree (names : List Ty) (views : ℕ) (s : Eager) (t : State) : Type 0 where
  pub buffers : s.buffers ≡ t.buffers
  pub named : (n : ℕ) → n < length names → bound_of s n ≡ look t (register (table_of names) n)
  pub fitting : (n : ℕ) → Fitting names n (bound_of s n)
  pub size : length s.names ≡ length names
  pub words_size : length t.words ≡ length (word_kinds names)
  pub views_size : length t.views ≡ views

-- A call that fits begins in states that agree.
abbrev pub StartsAlike : Instance → Type 0
StartsAlike f =
    (heads : List Head) → IsWellTyped heads f → has_ranked_params f ≡ true → (call : Call) → FitsInstance f call →
    Agree f.names (length (plain_kernel f).views)
    (entered f (map bound_to call.args) (buffers_of call)) (entered_kernel (plain_kernel f) call)

-- A kernel's outcome is that of its statements before tail blocks are closed.
abbrev pub ClosesAlike : Instance → Type 0
ClosesAlike f =
    (count : ℕ) (t : State) →
    (ended_kernel f.rets count (block (word_kinds f.names) (closed_for f.rets (lowered f.names f.body).body) t)).0 ≡
    (ended_kernel f.rets count (block (word_kinds f.names) (lowered f.names f.body).body t)).0
