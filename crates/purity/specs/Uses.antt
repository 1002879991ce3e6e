-- What the statements of an instance do to its names, as a list, by what is known of the instances that they call.
use Rattle.std.specs.Prelude.{ℕ, ◌==◌, Bool, true, false, List, [], ◌∷◌, ◌++◌, map, length, slice_get}
use Rattle.std.specs.Prelude.{Option, Some, None}
use Rattle.std.specs.List.{flat_map, range_with_len}
use Rattle.eager_rules.specs.Types.{Ty}
use Rattle.eager_rules.specs.declared.program.Core.{Core, out-Core}
use Rattle.eager_rules.specs.declared.program.Core.TheOpen as c
use Rattle.eager_rules.specs.declared.program.Oper.{Oper}
use Rattle.eager_rules.specs.declared.program.Oper.TheVariants as oper
use Rattle.purity.specs.Faulting.{may_fault_here}
use Rattle.purity.specs.Marks.{marked, row}
use Rattle.purity.specs.Tables.{known_at}
use Rattle.purity.specs.declared.listing.Line.{Line}
use Rattle.purity.specs.declared.summary.Summary.{Summary}
use Rattle.purity.specs.declared.uses.Use.{Use}
use Rattle.purity.specs.declared.uses.Use.TheVariants as u

-- the statements of lines
abbrev pub seen : Line → Core
seen line = line.core.now

abbrev pub listed : List Line → List Core
listed lines = map seen lines

-- the name that an operand is
abbrev pub name_of : Option Oper → List ℕ
name_of (Some (oper.Name name)) = name ∷ []
name_of _ = []

abbrev pub name_at : List Oper → ℕ → List ℕ
name_at args at = name_of (slice_get args at)

-- A call: each value that it returns flows from the arguments of the parameters that the value comes from, the
-- arguments of written parameters are written, and it faults where the called instance may.
abbrev pub flow_to : ℕ → ℕ → Use
flow_to name from = u.Flow from name

abbrev pub flows_at : List Oper → ℕ → ℕ → List Use
flows_at args name param = map (flow_to name) (name_at args param)

abbrev pub flows_by : List Oper → List ℕ → Option ℕ → List Use
flows_by args params None = []
flows_by args params (Some name) = flat_map (flows_at args name) params

abbrev pub flows_of : List (List ℕ) → List ℕ → List Oper → ℕ → List Use
flows_of gives to args value = flows_by args (row gives value) (slice_get to value)

abbrev pub writes_when : Bool → List ℕ → List Use
writes_when true names = map u.Write names
writes_when false names = []

abbrev pub writes_of : List Bool → List Oper → ℕ → List Use
writes_of writes args param = writes_when (marked writes param) (name_at args param)

abbrev pub fault_when : Bool → List Use
fault_when true = u.Fault ∷ []
fault_when false = []

abbrev pub call_uses : List ℕ → List Oper → Option Summary → List Use
call_uses to args None = []
call_uses to args (Some s) =
    flat_map (flows_of s.gives to args) (range_with_len 0 (length to)) ++
    (flat_map (writes_of s.writes args) (range_with_len 0 (length args)) ++ fault_when s.faults)

abbrev pub give_as : ℕ → ℕ → Use
give_as value name = u.Give value name

abbrev pub gives_of : List Oper → ℕ → List Use
gives_of values value = map (give_as value) (name_at values value)

-- a statement, its own faults apart
abbrev pub own_uses : List (Option Summary) → c.Core-F Core → List Use
own_uses known (c.Alias to of) = flow_to to of ∷ []
own_uses known (c.Pick to of subs at) = flow_to to of ∷ []
own_uses known (c.Flip to of) = flow_to to of ∷ []
own_uses known (c.Put of index value at) = u.Write of ∷ []
own_uses known (c.Store of value at) = u.Write of ∷ []
own_uses known (c.Call to instance args) = call_uses to args (known_at known instance)
own_uses known (c.Return values) = flat_map (gives_of values) (range_with_len 0 (length values))
own_uses known _ = []

abbrev pub uses_of : List (Option Summary) → List Ty → Core → List Use
uses_of known names x = fault_when (may_fault_here names (out-Core x)) ++ own_uses known (out-Core x)

abbrev pub all_uses : List (Option Summary) → List Ty → List Core → List Use
all_uses known names xs = flat_map (uses_of known names) xs

-- the instance that a statement calls
abbrev pub called_by : c.Core-F Core → List ℕ
called_by (c.Call to instance args) = instance ∷ []
called_by _ = []

abbrev pub callee_of : Core → List ℕ
callee_of x = called_by (out-Core x)

-- What uses come to: what flows into a name, what is returned as a value, what is written, and whether one is a fault.
abbrev pub only_by : Bool → ℕ → List ℕ
only_by true item = item ∷ []
only_by false item = []

abbrev pub only_at : ℕ → ℕ → ℕ → List ℕ
only_at number k item = only_by (number == k) item

abbrev pub flow_into : ℕ → Use → List ℕ
flow_into k (u.Flow from name) = only_at name k from
flow_into k _ = []

abbrev pub given_as : ℕ → Use → List ℕ
given_as k (u.Give value name) = only_at value k name
given_as k _ = []

abbrev pub written : Use → List ℕ
written (u.Write name) = name ∷ []
written _ = []

abbrev pub is_fault : Use → Bool
is_fault u.Fault = true
is_fault _ = false
