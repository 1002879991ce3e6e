-- The walk through a module: its kernels in order, and each function that they call once for each list of argument
-- types.
use Rattle.std.specs.Prelude.{◌≡◌, ℕ, zero, suc, ◌+◌, ◌==◌, ◌&&◌, Bool, true, false, nat_le, if◌then◌else◌, List, []}
use Rattle.std.specs.Prelude.{◌∷◌, ◌++◌, map, length, slice_get, slice_set}
use Rattle.std.specs.Prelude.{Option, Some, None, Result, Ok, Err, unwrap_or}
use Rattle.std.specs.List.{list_all, zip}
use Rattle.krn_base.specs.declared.kind.ParamType.{ParamType}
use Rattle.krn_base.specs.declared.kind.ParamType.TheVariants.{Scalar, Strided}
use Rattle.krn_base.specs.declared.place.Loc.{Loc}
use Rattle.krn_base.specs.declared.refusal.Refusal.{Refusal}
use Rattle.krn_base.specs.declared.refusal.Rule.TheVariants.{Types, Name, Recursion, Export}
use Rattle.krn_base.specs.declared.refusal.Stop.{Stop}
use Rattle.krn_base.specs.declared.refusal.Stop.TheVariants as stop
use Rattle.eager_rules.specs.Sound.{shape_of_body, returns_values}
use Rattle.eager_rules.specs.Types.{Ty, type_of_param}
use Rattle.eager_rules.specs.declared.program.Instance.{Instance}
use Rattle.eager_rules.specs.declared.program.Program.{Program}
use Rattle.module_terms.specs.declared.term.Routine.{Routine}
use Rattle.py_parse.specs.declared.tree.Name.{Name as Named}
use Rattle.array_types.specs.Forms.{Given, Calls, block}
pub use Rattle.array_types.specs.Keys.{instance_for}
use Rattle.array_types.specs.Settle.{numbers_from, settled_block}
use Rattle.array_types.specs.Walk.{Nothing, Outcome, Walk, and_then, ◌>>=◌, ◌>>◌, pure, refuse, test, find}
use Rattle.array_types.specs.declared.state.Key.{Key}
use Rattle.array_types.specs.declared.state.Key.TheVariants.{Kernel, Called}
use Rattle.array_types.specs.declared.state.Signature.{Signature}
use Rattle.array_types.specs.declared.state.State.{State}

-- names with their numbers
abbrev pub numbered_from : ℕ → List Named → List (List ℕ × ℕ)
numbered_from n [] = []
numbered_from n (name ∷ names) = (name.text, n) ∷ numbered_from (n + 1) names

abbrev pub numbered : List Named → List (List ℕ × ℕ)
numbered = numbered_from 0

abbrev pub functions : List Routine → List (List ℕ × ℕ)
functions routines = numbered (map (λ r. r.name) routines)

-- ---- instances

-- a parameter of a called instance
abbrev pub strided : Ty → ParamType
strided (kind, zero) = Scalar kind
strided (kind, suc r) = Strided kind (suc r)

abbrev pub texts : List Named → List (List ℕ)
texts names = map (λ name. name.text) names

-- the state in which a body begins: its instance has a number and is not yet made
abbrev pub begun : Key → Routine → List ParamType → State → State
begun key routine params s = record {
  keys = s.keys ++ key ∷ [];
  instances = s.instances ++ None ∷ [];
  types = map type_of_param params;
  known = numbered routine.params;
  awaited = [];
  places = [];
  out = [];
  rets = None;
}

abbrev pub instance_of : Routine → List ParamType → List ℕ → State → Instance
instance_of routine params numbers t = record {
  name = routine.name.text;
  weight = routine.weight;
  params = zip (texts routine.params) params;
  rets = unwrap_or t.rets [];
  names = t.types;
  body = settled_block numbers t.out;
}

abbrev pub finished_by : Bool → ℕ → Routine → List ParamType → List ℕ → State → State → Outcome Given
finished_by true n routine params numbers s t =
    Ok (
      (n, unwrap_or t.rets []),
      record s {
        keys = t.keys;
        instances = slice_set t.instances n (Some (instance_of routine params numbers t));
      },
    )
finished_by false n routine params numbers s t = Err (record { rule = Types; loc = routine.name.loc })

-- Behind its body a function is refused where a reduction's name is bound nowhere, and then where a path misses a
-- value.
abbrev pub finished : ℕ → Routine → List ParamType → State → State → Outcome Given
finished n routine params s t = and_then (numbers_from [] t.awaited t) (λ numbers u.
    finished_by (returns_values (unwrap_or u.rets []) (shape_of_body u.out)) n routine params numbers s u)

abbrev pub entered : Key → Routine → List ParamType → Walk Nothing → Walk Given
entered key routine params body = λ s. and_then (body (begun key routine params s)) (λ u t. finished
    (length s.instances) routine params s t)

-- ---- calls

abbrev pub given : ℕ → Option (Option Instance) → Loc → Walk Given
given n (Some (Some f)) at = pure (n, f.rets)
given n (Some None) at = refuse Recursion at
given n None at = refuse Recursion at

-- what a function that was not yet called with these types gives
abbrev pub New : Type 0
New = ℕ → Routine → List Ty → Loc → Walk Given

abbrev pub met_by : New → ℕ → Routine → List Ty → Loc → Option ℕ → Walk Given
met_by new function routine types at None = new function routine types at
met_by new function routine types at (Some n) = λ s. given n (slice_get s.instances n) at s

abbrev pub called_routine : New → ℕ → Option Routine → List Ty → Loc → Walk Given
called_routine new function None types at = refuse Name at
called_routine new function (Some routine) types at =
    test (length types == length routine.params) at >>
    (λ s. met_by new function routine types at (instance_for function types s.keys) s)

abbrev pub called_function : New → List Routine → Option ℕ → List Ty → Loc → Walk Given
called_function new routines None types at = refuse Name at
called_function new routines (Some function) types at = called_routine new function
    (slice_get routines function) types at

abbrev pub called : New → List Routine → List (List ℕ × ℕ) → Calls
called new routines names name types = called_function new routines (find name.text names) types name.loc

-- bodies within bodies, to a depth
abbrev pub new_at : List Routine → List (List ℕ × ℕ) → ℕ → New
new_at routines names zero function routine types at = refuse Recursion at
new_at routines names (suc depth) function routine types at =
    entered (Called function types) routine (map strided types)
    (block (called (new_at routines names depth) routines names) routine.body)

abbrev pub calls_at : List Routine → List (List ℕ × ℕ) → ℕ → Calls
calls_at routines names depth = called (new_at routines names depth) routines names

-- ---- kernels

abbrev pub has_rank : ParamType → Bool
has_rank p = nat_le (type_of_param p).1 4

abbrev pub fits_signature : List ParamType → Routine → Bool
fits_signature params routine = (length params == length routine.params) && list_all has_rank params

abbrev pub kernel_by : Bool → List Routine → List (List ℕ × ℕ) → Signature → Routine → Walk ℕ
kernel_by true routines names signature routine =
    entered Kernel routine signature.params (block (calls_at routines names 33) routine.body) >>= λ g. pure g.0
kernel_by false routines names signature routine = refuse Export signature.loc

abbrev pub kernel_of : List Routine → List (List ℕ × ℕ) → Signature → Option Routine → Walk ℕ
kernel_of routines names signature None = refuse Export signature.loc
kernel_of routines names signature (Some routine) =
    kernel_by (fits_signature signature.params routine) routines names signature routine

abbrev pub kernel : List Routine → List (List ℕ × ℕ) → Signature → Walk ℕ
kernel routines names signature = kernel_of routines names signature (slice_get routines signature.function)

abbrev pub kernels_from : List ℕ → List Routine → List (List ℕ × ℕ) → List Signature → Walk (List ℕ)
kernels_from found routines names [] = pure found
kernels_from found routines names (x ∷ xs) =
    kernel routines names x >>= λ n. kernels_from (found ++ n ∷ []) routines names xs

abbrev pub start : State
start = record {
  keys = [];
  instances = [];
  types = [];
  known = [];
  awaited = [];
  places = [];
  out = [];
  rets = None;
}

-- the instances whose bodies were walked, which are all
abbrev pub complete : List (Option Instance) → List Instance
complete [] = []
complete (Some f ∷ rest) = f ∷ complete rest
complete (None ∷ rest) = complete rest

abbrev pub program_by : Outcome (List ℕ) → Result Program Refusal
program_by (Ok p) = Ok (record { instances = complete p.1.instances; kernels = p.0 })
program_by (Err r) = Err r

-- the program of a module, or its refusal
abbrev pub program_of : List Routine → List Signature → Result Program Refusal
program_of routines signatures = program_by (kernels_from [] routines (functions routines) signatures start)

abbrev pub IsProgramOf : List Routine → List Signature → Result Program Stop → Type 0
IsProgramOf routines signatures (Ok program) = program_of routines signatures ≡ Ok program
IsProgramOf routines signatures (Err (stop.Refused r)) = program_of routines signatures ≡ Err r
IsProgramOf routines signatures (Err stop.Memory) = Unit {0}
