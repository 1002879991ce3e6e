-- The instance for a call, calls as lists of numbers, and an index of keys by them.
use Rattle.std.specs.Prelude.{◌≡◌, ℕ, ◌+◌, ◌==◌, ◌&&◌, Bool, true, false, List, [], ◌∷◌, Option, Some, None}
use Rattle.std.specs.HashMap.{HashMap, get_by}
use Rattle.std.specs.Global.{Vec}
use Rattle.std.specs.Str.{bytes_eq}
use Rattle.krn_base.specs.declared.kind.Kind.{Kind}
use Rattle.krn_base.specs.declared.kind.Kind.TheVariants.{Int64, Bool as Boolean}
use Rattle.eager_rules.specs.Types.{Ty, same_types}
use Rattle.array_types.specs.declared.state.Key.{Key}
use Rattle.array_types.specs.declared.state.Key.TheVariants.{Kernel, Called}

-- the place of the first instance for the calls of a function with arguments of these types
abbrev pub is_call : ℕ → List Ty → Key → Bool
is_call function types Kernel = false
is_call function types (Called other others) = (other == function) && same_types others types

abbrev pub chosen : Bool → ℕ → Option ℕ → Option ℕ
chosen true n later = Some n
chosen false n later = later

abbrev pub instance_from : ℕ → ℕ → List Ty → List Key → Option ℕ
instance_from n function types [] = None
instance_from n function types (key ∷ keys) =
    chosen (is_call function types key) n (instance_from (n + 1) function types keys)

abbrev pub instance_for : ℕ → List Ty → List Key → Option ℕ
instance_for = instance_from 0

abbrev pub kind_code : Kind → ℕ
kind_code Int64 = 0
kind_code Boolean = 1

abbrev pub codes : List Ty → List ℕ
codes [] = []
codes (t ∷ ts) = kind_code t.0 ∷ t.1 ∷ codes ts

-- the function's number, and two numbers for each argument
abbrev pub code : ℕ → List Ty → List ℕ
code function types = function ∷ codes types

-- an index has, for each call, the number of its instance
abbrev pub Leads : {S : Type 0} → HashMap (Vec ℕ) ℕ S → List Key → Type 0
Leads index keys = (function : ℕ) (types : List Ty) →
    get_by (λ k. bytes_eq (code function types) k.items) index ≡ instance_for function types keys
