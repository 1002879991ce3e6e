-- What a call of an instance may do: which of its parameters it may write, and whether it may fault. These are the
-- least relations that their cases allow.
use Rattle.std.specs.Prelude.{◌≡◌, ℕ, ◌<◌, true, ◌⊎◌, List, [], ◌∷◌, length, slice_get, Some}
use Rattle.eager_rules.specs.Statements.{statements}
use Rattle.eager_rules.specs.declared.program.Core.{Core, out-Core}
use Rattle.eager_rules.specs.declared.program.Core.TheOpen as c
use Rattle.eager_rules.specs.declared.program.Instance.{Instance}
use Rattle.eager_rules.specs.declared.program.Oper.{Oper}
use Rattle.eager_rules.specs.declared.program.Oper.TheVariants.{Name}
use Rattle.purity.specs.Faulting.{may_fault_here}

-- a list has this item
abbrev pub Among : {A : Type 0} → List A → A → Type 0
Among [] x = ⊥
Among (y ∷ ys) x = (y ≡ x) ⊎ Among ys x

-- a statement stands in the instance with this number, in its body or in one of its blocks
pub record StandsIn (instances : List Instance) (number : ℕ) (y : c.Core-F Core) : Type 0 where
  pub instance : Instance
  pub numbered : slice_get instances number ≡ Some instance
  pub core : Core
  pub stands : Among (statements instance.body) core
  pub is : out-Core core ≡ y

-- an operation that makes one array's name another name of the same buffer
abbrev pub Passes : c.Core-F Core → ℕ → ℕ → Type 0
Passes (c.Alias to of) from name = (of ≡ from) × (to ≡ name)
Passes (c.Pick to of subs at) from name = (of ≡ from) × (to ≡ name)
Passes (c.Flip to of) from name = (of ≡ from) × (to ≡ name)
Passes _ from name = ⊥

-- a store of an element or of an array into the array of this name
abbrev pub Stores : c.Core-F Core → ℕ → Type 0
Stores (c.Put of index value at) name = of ≡ name
Stores (c.Store of value at) name = of ≡ name
Stores _ name = ⊥

-- A name of an instance comes from a parameter. A parameter comes from itself; another name of the same buffer passes
-- this on; and a call passes it on from an argument to the name of a value that the called instance returns, where
-- that value comes from the argument's parameter.
pub data Comes (instances : List Instance) : ℕ → ℕ → ℕ → Type 0 where
  Itself : (number param : ℕ) (f : Instance) → slice_get instances number ≡ Some f → param < length f.params →
      Comes instances number param param
  Passed : (number name from param : ℕ) (y : c.Core-F Core) → StandsIn instances number y → Passes y from name →
      Comes instances number from param → Comes instances number name param
  Returned : (number name from param : ℕ) (to : List ℕ) (callee : ℕ) (args values : List Oper) (j r inner : ℕ) →
      StandsIn instances number (c.Call to callee args) → slice_get to j ≡ Some name →
      slice_get args r ≡ Some (Name from) → StandsIn instances callee (c.Return values) →
      slice_get values j ≡ Some (Name inner) → Comes instances callee inner r →
      Comes instances number from param → Comes instances number name param

-- An instance writes a parameter: it stores into a name that comes from it, or passes such a name to an instance that
-- writes it.
pub data Writes (instances : List Instance) : ℕ → ℕ → Type 0 where
  Stored : (number param name : ℕ) (y : c.Core-F Core) → StandsIn instances number y → Stores y name →
      Comes instances number name param → Writes instances number param
  Handed : (number param name : ℕ) (to : List ℕ) (callee : ℕ) (args : List Oper) (r : ℕ) →
      StandsIn instances number (c.Call to callee args) → slice_get args r ≡ Some (Name name) →
      Writes instances callee r → Comes instances number name param → Writes instances number param

-- An instance may fault: one of its statements may, or it calls an instance that may.
pub data Faults (instances : List Instance) : ℕ → Type 0 where
  Here : (number : ℕ) (f : Instance) (core : Core) → slice_get instances number ≡ Some f →
      Among (statements f.body) core → may_fault_here f.names (out-Core core) ≡ true → Faults instances number
  Within : (number : ℕ) (to : List ℕ) (callee : ℕ) (args : List Oper) →
      StandsIn instances number (c.Call to callee args) → Faults instances callee → Faults instances number
