-- Where the names of an instance stand in the kernel that its body is put into, and what the statements become there.
use Rattle.std.specs.Prelude.{ℕ, ◌+◌, ◌==◌, if◌then◌else◌, Bool, true, false, List, [], ◌∷◌, ◌++◌, map}
use Rattle.std.specs.Prelude.{Option, Some, None, option_map}
use Rattle.krn_base.specs.declared.operation.Join.{Join}
use Rattle.krn_base.specs.declared.place.Loc.{Loc}
use Rattle.eager_rules.specs.Types.{Ty, is_array}
use Rattle.eager_rules.specs.declared.program.Core.{Core}
use Rattle.eager_rules.specs.declared.program.Core.TheOpen as c
use Rattle.eager_rules.specs.declared.program.Core.TheVariants as core
use Rattle.eager_rules.specs.declared.program.CoreSub.{CoreSub}
use Rattle.eager_rules.specs.declared.program.CoreSub.TheVariants as sub
use Rattle.eager_rules.specs.declared.program.Oper.{Oper}
use Rattle.eager_rules.specs.declared.program.Oper.TheVariants as oper
use Rattle.eager_rules.specs.declared.program.WordOp.TheVariants.{Move}
use Rattle.inline.specs.declared.moves.Out.{Out}
use Rattle.inline.specs.declared.moves.Out.TheVariants as out
use Rattle.inline.specs.declared.moves.Target.{Target}
use Rattle.inline.specs.declared.places.Own.{Own}
use Rattle.inline.specs.declared.places.Place.{Place}

-- ---- names
-- An instance's names stand one after another from a first one on, but for the returned own name, which is the name
-- that the caller gives the value.
abbrev pub placed_by : ℕ → Option Own → ℕ → ℕ
placed_by first None name = first + name
placed_by first (Some own) name = if name == own.name then own.target else first + name

abbrev pub placed : Place → ℕ → ℕ
placed p name = placed_by p.first p.own name

-- the names of a kernel stand where they are
abbrev pub home : Place
home = record { first = 0; own = None }

-- those of a called body, whose values go to these names
abbrev pub place_for : Option ℕ → List ℕ → ℕ → Place
place_for (Some name) (target ∷ to) first =
    record { first = first; own = Some (record { name = name; target = target }) }
place_for _ _ first = record { first = first; own = None }

abbrev pub renamed : Place → Oper → Oper
renamed p (oper.Int z) = oper.Int z
renamed p (oper.Truth b) = oper.Truth b
renamed p (oper.Name name) = oper.Name (placed p name)

abbrev pub renamed_sub : Place → CoreSub → CoreSub
renamed_sub p (sub.At x) = sub.At (renamed p x)
renamed_sub p (sub.Cut start stop step) =
    sub.Cut (option_map (renamed p) start) (option_map (renamed p) stop) (option_map (renamed p) step)

abbrev pub renamed_pair : Place → Join × ℕ → Join × ℕ
renamed_pair p (join, name) = (join, placed p name)

abbrev pub renamed_pairs : Place → Option (List (Join × ℕ)) → Option (List (Join × ℕ))
renamed_pairs p None = None
renamed_pairs p (Some pairs) = Some (map (renamed_pair p) pairs)

-- a statement on words and elements, and one on whole arrays, by the places of its names
abbrev pub copied_word : Place → {A : Type 0} → c.Core-F A → List Core
copied_word p (c.Word to op args at) = core.Word (placed p to) op (map (renamed p) args) at ∷ []
copied_word p (c.Extent to of axis) = core.Extent (placed p to) (placed p of) axis ∷ []
copied_word p (c.Get to of index at) = core.Get (placed p to) (placed p of) (map (renamed p) index) at ∷ []
copied_word p (c.Put of index value at) = core.Put (placed p of) (map (renamed p) index) (renamed p value) at ∷ []
copied_word p (c.Reduce to op of at) = core.Reduce (placed p to) op (placed p of) at ∷ []
copied_word p _ = []

abbrev pub copied_array : Place → {A : Type 0} → c.Core-F A → List Core
copied_array p (c.Pick to of subs at) = core.Pick (placed p to) (placed p of) (map (renamed_sub p) subs) at ∷ []
copied_array p (c.Flip to of) = core.Flip (placed p to) (placed p of) ∷ []
copied_array p (c.Alias to of) = core.Alias (placed p to) (placed p of) ∷ []
copied_array p (c.Fresh to dims fill at) = core.Fresh (placed p to) (map (renamed p) dims) fill at ∷ []
copied_array p (c.Map to op args at) = core.Map (placed p to) op (map (renamed p) args) at ∷ []
copied_array p (c.Store of value at) = core.Store (placed p of) (renamed p value) at ∷ []
copied_array p _ = []

-- a statement that has no block, calls nothing and returns nothing
abbrev pub copied : Place → {A : Type 0} → c.Core-F A → List Core
copied p y = copied_word p y ++ copied_array p y

-- ---- values that go to names
-- names with their types, as far as there are both
abbrev pub targets : List Ty → List ℕ → List Target
targets [] names = []
targets (t ∷ types) [] = []
targets (t ∷ types) (name ∷ names) = record { ty = t; name = name } ∷ targets types names

-- names of these types, numbered from a first one on
abbrev pub numbered : ℕ → List Ty → List Target
numbered first [] = []
numbered first (t ∷ types) = record { ty = t; name = first } ∷ numbered (first + 1) types

-- a move can't fault, and one that stands for a call has no place in the text
abbrev pub nowhere : Loc
nowhere = record { line = 0; col = 0 }

-- a value goes to a name: an array is another name of it, a scalar is moved
abbrev pub name_or_word : Bool → ℕ → ℕ → Core
name_or_word true name from = core.Alias name from
name_or_word false name from = core.Word name Move (oper.Name from ∷ []) nowhere

-- Nothing is made where the value already has that name.
abbrev pub moved : Target → Oper → List Core
moved t (oper.Name from) = if from == t.name then [] else name_or_word (is_array t.ty) t.name from ∷ []
moved t x = core.Word t.name Move (x ∷ []) nowhere ∷ []

abbrev pub moves : List Target → List Oper → List Core
moves [] xs = []
moves (t ∷ ts) [] = []
moves (t ∷ ts) (x ∷ xs) = moved t x ++ moves ts xs

-- what stands for a Return: a kernel's is one, that of a called body is a move of each value to its name
abbrev pub given_back : Out → List Oper → List Core
given_back out.Returns xs = core.Return xs ∷ []
given_back (out.Moves ts) xs = moves ts xs
