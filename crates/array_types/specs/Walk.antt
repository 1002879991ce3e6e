-- A walk goes on with what has been made so far, or refuses the module.
use Rattle.std.specs.Prelude.{◌≡◌, ℕ, ◌+◌, Bool, true, false, List, [], ◌∷◌, ◌++◌, length, slice_get}
use Rattle.std.specs.Prelude.{slice_index_or, Option, Some}
use Rattle.std.specs.Prelude.{None, Result, Ok, Err}
use Rattle.krn_base.specs.declared.kind.Kind.TheVariants.{Int64}
use Rattle.krn_base.specs.declared.place.Loc.{Loc}
use Rattle.krn_base.specs.declared.refusal.Refusal.{Refusal}
use Rattle.krn_base.specs.declared.refusal.Rule.{Rule}
use Rattle.krn_base.specs.declared.refusal.Rule.TheVariants.{Types, Retype, Name}
use Rattle.krn_base.specs.declared.refusal.Stop.{Stop}
use Rattle.krn_base.specs.declared.refusal.Stop.TheVariants as stop
use Rattle.eager_rules.specs.Types.{Ty, same_type}
use Rattle.eager_rules.specs.declared.program.Core.{Core}
use Rattle.eager_rules.specs.declared.program.Oper.{Oper}
use Rattle.eager_rules.specs.declared.program.Oper.TheVariants as oper
use Rattle.py_parse.specs.declared.tree.Name.{Name as Named}
pub use Rattle.array_types.specs.Find.{find}
use Rattle.array_types.specs.declared.state.State.{State}
use Rattle.array_types.specs.declared.state.Target.{Target}
use Rattle.array_types.specs.declared.state.Target.TheVariants.{Own, Into}
use Rattle.array_types.specs.declared.state.Value.{Value}

abbrev pub Nothing : Type 0
Nothing = Unit {0}

-- a value and what has been made with it, or the refusal
abbrev pub Outcome : Type 0 → Type 0
Outcome A = Result (A × State) Refusal

abbrev pub Walk : Type 0 → Type 0
Walk A = State → Outcome A

abbrev pub and_then : {A B : Type 0} → Outcome A → (A → Walk B) → Outcome B
and_then (Ok p) f = f p.0 p.1
and_then (Err r) f = Err r

infixl 10 ◌>>=◌
abbrev pub ◌>>=◌ : {A B : Type 0} → Walk A → (A → Walk B) → Walk B
w >>= f = λ s. and_then (w s) f

infixl 10 ◌>>◌
abbrev pub ◌>>◌ : {A B : Type 0} → Walk A → Walk B → Walk B
w >> v = λ s. and_then (w s) (λ x. v)

abbrev pub pure : {A : Type 0} → A → Walk A
pure x = λ s. Ok (x, s)

abbrev pub refuse : {A : Type 0} → Rule → Loc → Walk A
refuse rule at = λ s. Err (record { rule = rule; loc = at })

-- what a function that walks ensures
abbrev pub Walks : {A : Type 0} → Outcome A → Result A Stop → State → Type 0
Walks outcome (Ok x) new = outcome ≡ Ok (x, new)
Walks outcome (Err (stop.Refused r)) new = outcome ≡ Err r
Walks outcome (Err stop.Memory) new = Unit {0}

-- a row, or a refusal at its place
abbrev pub need : {A : Type 0} → Option A → Loc → Walk A
need None at = refuse Types at
need (Some x) at = pure x

abbrev pub test : Bool → Loc → Walk Nothing
test true at = pure tt
test false at = refuse Types at

-- ---- names

abbrev pub emit : Core → Walk Nothing
emit core = λ s. Ok (tt, record s { out = s.out ++ core ∷ [] })

-- a new name
abbrev pub add : Ty → Walk ℕ
add t = λ s. Ok (length s.types, record s { types = s.types ++ t ∷ [] })

-- the place of the loop of a name that waits
abbrev pub nowhere : Loc
nowhere = record { line = 0; col = 0 }

abbrev pub place_of : ℕ → List Loc → Loc
place_of i places = slice_index_or places i nowhere

-- a new name of the text, which loops may wait for as a reduction
abbrev pub awaited : Option ℕ → Ty → Walk Nothing
awaited None t = pure tt
awaited (Some i) t = λ s. test (same_type t (Int64, 0)) (place_of i s.places) s

abbrev pub know : List ℕ → ℕ → Walk Nothing
know text n = λ s. Ok (tt, record s { known = s.known ++ (text, n) ∷ [] })

abbrev pub add_text : List ℕ → Ty → Walk ℕ
add_text text t = λ s. and_then (awaited (find text s.awaited) t s) (λ u. add t >>= λ n. know text n >> pure n)

-- a binding of a name that has a type
abbrev pub if_same : Bool → ℕ → Loc → Walk ℕ
if_same true n first = pure n
if_same false n first = refuse Retype first

abbrev pub rebind : ℕ → Ty → Option Ty → Loc → Walk ℕ
rebind n t None first = refuse Name first
rebind n t (Some old) first = if_same (same_type old t) n first

abbrev pub bind_text : List ℕ → Loc → Ty → Option ℕ → Walk ℕ
bind_text text first t None = add_text text t
bind_text text first t (Some n) = λ s. rebind n t (slice_get s.types n) first s

abbrev pub bind : Target → Ty → Walk ℕ
bind Own t = add t
bind (Into text first eq) t = λ s. bind_text text first t (find text s.known) s

-- the value of a name
abbrev pub typed_name : ℕ → Option Ty → Loc → Walk Value
typed_name n None at = refuse Name at
typed_name n (Some t) at = pure (record { oper = oper.Name n; ty = t })

abbrev pub read_found : Option ℕ → Loc → Walk Value
read_found None at = refuse Name at
read_found (Some n) at = λ s. typed_name n (slice_get s.types n) at s

abbrev pub read : Named → Walk Value
read name = λ s. read_found (find name.text s.known) name.loc s
