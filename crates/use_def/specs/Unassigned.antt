-- The rule Unassigned (this project's own): in a function that an exported one reaches, no path may read a name that it
-- leaves unassigned.
use Rattle.std.specs.Prelude.{◌≡◌, ℕ, Bool, true, false, List, ◌∷◌, ◌++◌, slice_get, Some}
use Rattle.std.specs.List.{list_any}
use Rattle.krn_base.specs.declared.place.Loc.{Loc}
use Rattle.krn_base.specs.declared.refusal.Rule.TheVariants.{Unassigned}
use Rattle.krn_base.specs.declared.refusal.Stop.{Stop}
use Rattle.krn_base.specs.declared.refusal.Stop.TheVariants as stop
use Rattle.module_names.specs.Places.{is_before}
use Rattle.module_names.specs.Words.{Bytes, is_same}
use Rattle.call_chains.specs.Calls.{own_calls}
use Rattle.call_chains.specs.Chains.{Reaches}
use Rattle.py_parse.specs.declared.tree.Function.{Function}
use Rattle.py_parse.specs.declared.tree.Module.{Module}
use Rattle.py_parse.specs.declared.tree.Name.{Name}
use Rattle.use_def.specs.Paths.{Event, Reads, Binds, Leaves, Choice, path}

-- an event after which a read of this name is none of a name that is left unassigned: it binds the name, or the path
-- ends there
abbrev pub settles : Bytes → Event → Bool
settles text (Reads name) = false
settles text (Binds name) = is_same text name
settles text Leaves = true

-- A path reads a name at this place, and nothing before it binds the name.
pub record ReadsUnassigned (events : List Event) (at : Loc) : Type 0 where
  pub before : List Event
  pub name : Name
  pub after : List Event
  pub parts : events ≡ before ++ Reads name ∷ after
  pub place : name.loc ≡ at
  pub unsettled : list_any (settles name.text) before ≡ false

-- Some path of a function does.
pub record IsReadUnassigned (m : Module) (f : Function) (at : Loc) : Type 0 where
  pub choice : Choice
  pub read : ReadsUnassigned (path m f choice) at

-- A function is refused at this place: it is exported, or an exported one reaches it by own calls.
pub record IsRefusedAt (m : Module) (exported : List ℕ) (at : Loc) : Type 0 where
  pub number : ℕ
  pub function : Function
  pub stands : slice_get m.functions number ≡ Some function
  pub reached : Reaches (own_calls m) exported number
  pub read : IsReadUnassigned m function at

-- no path of such a function reads a name that it leaves unassigned
abbrev pub IsAccepted : Module → List ℕ → Type 0
IsAccepted m exported = (at : Loc) → IsRefusedAt m exported at → ⊥

-- In other words: on each path of such a function, something before each read of a name settles it.
abbrev pub AreReadsSettled : Module → List ℕ → Type 0
AreReadsSettled m exported = (number : ℕ) (function : Function) (choice : Choice) (before after : List Event)
    (name : Name) → slice_get m.functions number ≡ Some function → Reaches (own_calls m) exported number
    → path m function choice ≡ before ++ Reads name ∷ after → list_any (settles name.text) before ≡ true

-- Some path does here, and none before it in the text.
pub record IsFirst (m : Module) (exported : List ℕ) (at : Loc) : Type 0 where
  pub refused : IsRefusedAt m exported at
  pub first : (x : Loc) → IsRefusedAt m exported x → is_before x at ≡ false

-- a refusal by the rule at the first such read
abbrev pub Refuses : Module → List ℕ → Stop → Type 0
Refuses m exported (stop.Refused r) = (r.rule ≡ Unassigned) × IsFirst m exported r.loc
Refuses m exported stop.Memory = Unit {0}
