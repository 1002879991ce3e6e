-- Statements that have no block and are none on scalars, with literals in place of names.
use Rattle.std.specs.Prelude.{◌++◌, List, [], ◌∷◌, map}
use Rattle.eager_rules.specs.declared.program.Core.{Core}
use Rattle.eager_rules.specs.declared.program.Core.TheOpen as c
use Rattle.eager_rules.specs.declared.program.Core.TheVariants as core
use Rattle.const_fold.specs.Folded.{Literals, folded, folded_sub}

-- a statement on an extent or an element, a call or a Return
abbrev pub copied_element : Literals → {A : Type 0} → c.Core-F A → List Core
copied_element table (c.Extent to of axis) = core.Extent to of axis ∷ []
copied_element table (c.Get to of index at) = core.Get to of (map (folded table) index) at ∷ []
copied_element table (c.Put of index value at) = core.Put of (map (folded table) index) (folded table value) at ∷ []
copied_element table (c.Call to instance args) = core.Call to instance (map (folded table) args) ∷ []
copied_element table (c.Return values) = core.Return (map (folded table) values) ∷ []
copied_element table _ = []

-- a statement on whole arrays
abbrev pub copied_array : Literals → {A : Type 0} → c.Core-F A → List Core
copied_array table (c.Pick to of subs at) = core.Pick to of (map (folded_sub table) subs) at ∷ []
copied_array table (c.Flip to of) = core.Flip to of ∷ []
copied_array table (c.Alias to of) = core.Alias to of ∷ []
copied_array table (c.Fresh to dims fill at) = core.Fresh to (map (folded table) dims) fill at ∷ []
copied_array table (c.Map to op args at) = core.Map to op (map (folded table) args) at ∷ []
copied_array table (c.Reduce to op of at) = core.Reduce to op of at ∷ []
copied_array table (c.Store of value at) = core.Store of (folded table value) at ∷ []
copied_array table _ = []

abbrev pub copied : Literals → {A : Type 0} → c.Core-F A → List Core
copied table y = copied_element table y ++ copied_array table y
