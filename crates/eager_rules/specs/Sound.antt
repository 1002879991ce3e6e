-- Well-typed and sound programs: what evaluation and every pass may rely on.
use Rattle.std.specs.Prelude.{◌≡◌, ℕ, ◌==◌, ◌&&◌, Bool, true, false, nat_lt, nat_le, ◌<◌, if◌then◌else◌}
use Rattle.std.specs.Prelude.{List, [], ◌∷◌, ◌++◌, map, length, take, replicate, slice_get, slice_set, Option, Some}
use Rattle.std.specs.Prelude.{None}
use Rattle.std.specs.List.{All, list_all, zip}
use Rattle.krn_base.specs.declared.kind.Kind.TheVariants.{Int64}
use Rattle.krn_base.specs.declared.operation.Join.{Join}
use Rattle.eager_rules.specs.Statements.{reads_of, binds_of, calls_of}
use Rattle.eager_rules.specs.Types.{Ty, same_type, same_types, is_array, type_of, types_of, type_of_param, word_type}
use Rattle.eager_rules.specs.Types.{map_type}
use Rattle.eager_rules.specs.Types.{reduce_type, store_fits, put_fits, is_number, is_truth, sub_fits, pick_type}
use Rattle.eager_rules.specs.Types.{fresh_fits}
use Rattle.eager_rules.specs.declared.program.Core.{Core}
use Rattle.eager_rules.specs.declared.program.Core.TheOpen as c
use Rattle.eager_rules.specs.declared.program.Core.TheFolds.{fold-Core}
use Rattle.eager_rules.specs.declared.program.Instance.{Instance}
use Rattle.eager_rules.specs.declared.program.Oper.{Oper}
use Rattle.eager_rules.specs.declared.program.Oper.TheVariants as oper
use Rattle.eager_rules.specs.declared.program.Program.{Program}

-- what a caller sees of an instance: the types of its parameters and of its values
abbrev pub Head : Type 0
Head = List Ty × List Ty

abbrev pub head_of : Instance → Head
head_of f = (map (λ p. type_of_param p.1) f.params, f.rets)

-- a name of this type
abbrev pub one_type : Option Ty → Ty → Bool
one_type None t = false
one_type (Some u) t = same_type u t

abbrev pub has_type : List Ty → ℕ → Option Ty → Bool
has_type names name None = false
has_type names name (Some t) = one_type (slice_get names name) t

-- what stands for an option of operands' types
abbrev pub given_types : {A : Type 0} → Option A → (A → Bool) → Bool
given_types None test = false
given_types (Some types) test = test types

-- the array that a statement speaks of
abbrev pub keep_array : Option Ty → Option Ty
keep_array None = None
keep_array (Some t) = if is_array t then Some t else None

abbrev pub array_named : List Ty → ℕ → Option Ty
array_named names of = keep_array (slice_get names of)

abbrev pub all_numbers : List Ty → List Oper → Bool
all_numbers names xs = list_all (λ x. is_number (type_of names x)) xs

-- an axis that the array has
abbrev pub axis_fits : Option ℕ → ℕ → Bool
axis_fits None rank = true
axis_fits (Some axis) rank = nat_lt axis rank

-- no names for the values, or as many of these types
abbrev pub named_types : List Ty → List ℕ → Option (List Ty)
named_types names to = types_of names (map oper.Name to)

abbrev pub takes_values : List Ty → List ℕ → List Ty → Bool
takes_values names [] rets = true
takes_values names (name ∷ to) rets = given_types (named_types names (name ∷ to)) (λ types. same_types types rets)

abbrev pub call_fits : List Ty → Option Head → List ℕ → List Oper → Bool
call_fits names None to args = false
call_fits names (Some head) to args =
    given_types (types_of names args) (λ types. same_types types head.0) && takes_values names to head.1

abbrev pub reduction_fits : List Ty → Option (List (Join × ℕ)) → Bool
reduction_fits names None = true
reduction_fits names (Some pairs) = list_all (λ p. has_type names p.1 (Some (Int64, 0))) pairs

-- A statement is well typed under a table of the names' types, where those of its blocks are. `heads` are those of
-- the instances, and `rets` are the types of the values of the instance that it stands in.
abbrev pub fits_step : List Head → List Ty → List Ty → c.Core-F Bool → Bool
fits_step heads rets names (c.Word to op args at) =
    given_types (types_of names args) (λ types. has_type names to (word_type op types))
fits_step heads rets names (c.Extent to of axis) =
    given_types (array_named names of) (λ t. axis_fits axis t.1) && has_type names to (Some (Int64, 0))
fits_step heads rets names (c.Get to of index at) =
    given_types (array_named names of) (λ t. (length index == t.1) && has_type names to (Some (t.0, 0)))
    && all_numbers names index
fits_step heads rets names (c.Put of index value at) =
    given_types (array_named names of) (λ t. (length index == t.1)
    && given_types (type_of names value) (λ v. put_fits t v)) && all_numbers names index
fits_step heads rets names (c.Pick to of subs at) =
    given_types (array_named names of) (λ t. has_type names to (pick_type t subs)) && list_all (sub_fits names) subs
fits_step heads rets names (c.Flip to of) = given_types (array_named names of) (λ t. has_type names to (Some t))
fits_step heads rets names (c.Alias to of) = given_types (array_named names of) (λ t. has_type names to (Some t))
fits_step heads rets names (c.Fresh to dims fill at) =
    given_types (slice_get names to) (fresh_fits fill (length dims)) && all_numbers names dims
fits_step heads rets names (c.Map to op args at) =
    given_types (types_of names args) (λ types. has_type names to (map_type op types))
fits_step heads rets names (c.Reduce to op of at) =
    given_types (array_named names of) (λ t. has_type names to (reduce_type op t))
fits_step heads rets names (c.Store of value at) =
    given_types (slice_get names of) (λ t. given_types (type_of names value) (λ v. store_fits t v))
fits_step heads rets names (c.Call to instance args) = call_fits names (slice_get heads instance) to args
fits_step heads rets names (c.If cond part other) =
    is_truth (type_of names cond) && (list_all (λ fits. fits) part && list_all (λ fits. fits) other)
fits_step heads rets names (c.For var lo hi step at omp body) =
    ((all_numbers names (lo ∷ hi ∷ step ∷ []) && has_type names var (Some (Int64, 0))) && reduction_fits names omp)
    && list_all (λ fits. fits) body
fits_step heads rets names (c.Return values) = given_types (types_of names values) (λ types. same_types types rets)

abbrev pub fits : List Head → List Ty → List Ty → Core → Bool
fits heads rets names = fold-Core Bool (fits_step heads rets names)

abbrev pub all_fit : List Head → List Ty → List Ty → List Core → Bool
all_fit heads rets names body = list_all (λ fit. fit) (map (fits heads rets names) body)

-- Where a body returns. `plain`: nowhere. `tail`: at the end of blocks in tail position alone. `shut`: and there
-- always. A body is in tail position, and so are both parts of an `If` that ends a block in tail position.
pub record Shape : Type 0 where
  pub plain : Bool
  pub tail : Bool
  pub shut : Bool

abbrev pub simple : Shape
simple = record { plain = true; tail = true; shut = false }

abbrev pub block_shape : List Shape → Shape
block_shape [] = simple
block_shape (x ∷ []) = x
block_shape (x ∷ y ∷ rest) = record {
  plain = x.plain && (block_shape (y ∷ rest)).plain;
  tail = x.plain && (block_shape (y ∷ rest)).tail;
  shut = x.plain && (block_shape (y ∷ rest)).shut;
}

abbrev pub both_shapes : Shape → Shape → Shape
both_shapes a b = record { plain = a.plain && b.plain; tail = a.tail && b.tail; shut = a.shut && b.shut }

abbrev pub shape_step : c.Core-F Shape → Shape
shape_step (c.If cond part other) = both_shapes (block_shape part) (block_shape other)
shape_step (c.For var lo hi step at omp body) =
    record { plain = (block_shape body).plain; tail = (block_shape body).plain; shut = false }
shape_step (c.Return values) = record { plain = false; tail = true; shut = true }
shape_step _ = simple

abbrev pub shape_of_body : List Core → Shape
shape_of_body body = block_shape (map (fold-Core Shape shape_step) body)

abbrev pub returns_values : List Ty → Shape → Bool
returns_values [] s = s.tail
returns_values (t ∷ rets) s = s.tail && s.shut

-- The names that are bound wherever a statement ends, by a walk over the body, or nothing where it reads an unbound
-- name. A list of tests has one for each name; where no path goes on, every name counts as bound. A loop may have no
-- turn.
abbrev pub Bindings : Type 0
Bindings = List Bool

abbrev pub bound_in : Bindings → ℕ → Bool
bound_in names name = given_types (slice_get names name) (λ bound. bound)

abbrev pub operand_bound : Bindings → Oper → Bool
operand_bound names (oper.Int z) = true
operand_bound names (oper.Truth b) = true
operand_bound names (oper.Name name) = bound_in names name

abbrev pub tested : Bool → Option Bindings → Option Bindings
tested true walked = walked
tested false walked = None

abbrev pub put_all : List ℕ → Bindings → Bindings
put_all [] names = names
put_all (name ∷ to) names = put_all to (slice_set names name true)

abbrev pub meet : Bindings → Bindings → Bindings
meet names others = map (λ p. p.0 && p.1) (zip names others)

abbrev pub both : Option Bindings → Option Bindings → Option Bindings
both (Some names) (Some others) = Some (meet names others)
both _ _ = None

abbrev pub next : Option Bindings → (Bindings → Option Bindings) → Option Bindings
next None walk = None
next (Some names) walk = walk names

abbrev pub stay : Bindings → Option Bindings → Option Bindings
stay names None = None
stay names (Some after) = Some names

abbrev pub in_walk : List (Bindings → Option Bindings) → Bindings → Option Bindings
in_walk [] names = Some names
in_walk (first ∷ rest) names = next (first names) (in_walk rest)

abbrev pub names_fit : Bindings → List ℕ → Bool
names_fit names to = list_all (λ name. nat_lt name (length names)) to

abbrev pub walk_step : c.Core-F (Bindings → Option Bindings) → Bindings → Option Bindings
walk_step (c.If cond part other) names =
    tested (operand_bound names cond) (both (in_walk part names) (in_walk other names))
walk_step (c.For var lo hi step at omp body) names =
    tested (list_all (operand_bound names) (lo ∷ hi ∷ step ∷ []) && names_fit names (var ∷ []))
    (stay names (in_walk body (slice_set names var true)))
walk_step (c.Return values) names =
    tested (list_all (operand_bound names) values) (Some (replicate (length names) true))
walk_step y names =
    tested (list_all (operand_bound names) (reads_of y) && names_fit names (binds_of y))
    (Some (put_all (binds_of y) names))

abbrev pub walk : List Core → Bindings → Option Bindings
walk body = in_walk (map (fold-Core (Bindings → Option Bindings) walk_step) body)

-- at the start the parameters are bound
abbrev pub at_start : Instance → Bindings
at_start f = replicate (length f.params) true ++ replicate (length f.names) false

abbrev pub is_assigned : Instance → Bool
is_assigned f = given_types (walk f.body (take (length f.names) (at_start f))) (λ names. true)

-- An instance is well typed: its statements are, its first names are its parameters, and it returns values of its
-- types on every path or on none.
pub record IsWellTyped (heads : List Head) (f : Instance) : Type 0 where
  pub body : all_fit heads f.rets f.names f.body ≡ true
  pub params : same_types (take (length f.params) f.names) (map (λ p. type_of_param p.1) f.params) ≡ true
  pub ranks : list_all (λ t. nat_le t.1 4) (f.names ++ f.rets) ≡ true
  pub returns : returns_values f.rets (shape_of_body f.body) ≡ true

-- no chain of calls leads from an instance back to it: each instance calls ones of a smaller height alone
abbrev pub CallsBelow : (ℕ → ℕ) → ℕ → Instance → Type 0
CallsBelow height number f = All (λ callee. height callee < height number) (calls_of f.body)

pub record HasNoCycle (instances : List Instance) : Type 0 where
  pub height : ℕ → ℕ
  pub below : (number : ℕ) (f : Instance) → slice_get instances number ≡ Some f → CallsBelow height number f

-- A program that is sound but for reads of unassigned names.
pub record IsTyped (program : Program) : Type 0 where
  pub instances : All (IsWellTyped (map head_of program.instances)) program.instances
  pub kernels : All (λ number. number < length program.instances) program.kernels
  pub no_cycle : HasNoCycle program.instances

-- A sound program: besides, no path reads a name that it leaves unassigned.
pub record IsSound (program : Program) : Type 0 where
  pub typed : IsTyped program
  pub assigned : All (λ f. is_assigned f ≡ true) program.instances
