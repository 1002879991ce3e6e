-- Names that are bound, in the code: a test for each name, what the block so far has bound, and whether a path comes.
use Rattle.std.specs.Prelude.{ℕ, Bool, true, false, if◌then◌else◌, List, [], ◌∷◌, length, replicate, slice_set}
use Rattle.std.specs.Prelude.{Option, Some, None}
use Rattle.eager_rules.specs.Sound.{Bindings, put_all, walk_step}
use Rattle.eager_rules.specs.declared.assigned.Names.{Names}
use Rattle.eager_rules.specs.declared.assigned.Part.{Part}
use Rattle.eager_rules.specs.declared.assigned.Part.TheVariants as part
use Rattle.eager_rules.specs.declared.program.Core.{Core}
use Rattle.eager_rules.specs.declared.program.Core.TheFolds.{fold-Core}

-- the names that are bound: all of them where no path comes
abbrev pub bindings : Names → Bindings
bindings names = if names.ended then replicate (length names.marks) true else names.marks

-- the list with the same answer for several names
abbrev pub set_all : List ℕ → Bool → Bindings → Bindings
set_all [] value marks = marks
set_all (name ∷ names) value marks = set_all names value (slice_set marks name value)

-- the tests as they were when the block began
abbrev pub outside : Names → Bindings
outside names = set_all names.fresh false names.marks

-- What is bound, and what was when the block began; or nothing where an unbound name was read.
abbrev pub seen : Bool → Names → Option (Bindings × Bindings)
seen true names = Some (bindings names, outside names)
seen false names = None

abbrev pub beside : {A : Type 0} → A → Option Bindings → Option (Bindings × A)
beside outer None = None
beside outer (Some bound) = Some (bound, outer)

-- what the first part of an `If` comes to, and the names behind it
abbrev pub comes_to : Part → Names → Option (Bindings × Names)
comes_to part.Unbound names = None
comes_to part.Ended names = Some (replicate (length names.marks) true, names)
comes_to (part.Binds first) names = Some (put_all first names.marks, names)

-- one statement
abbrev pub walk_of : Core → Bindings → Option Bindings
walk_of = fold-Core (Bindings → Option Bindings) walk_step
