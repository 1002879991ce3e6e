-- The own name that an instance returns.
use Rattle.std.specs.Prelude.{ℕ, ◌==◌, ◌&&◌, nat_le, if◌then◌else◌, Bool, true, false, List, [], ◌∷◌, ◌++◌, map, length}
use Rattle.std.specs.Prelude.{Option, Some, None}
use Rattle.std.specs.List.{list_any}
use Rattle.eager_rules.specs.Statements.{binds_of}
use Rattle.eager_rules.specs.declared.program.Core.{Core}
use Rattle.eager_rules.specs.declared.program.Core.TheOpen as c
use Rattle.eager_rules.specs.declared.program.Core.TheFolds.{fold-Core}
use Rattle.eager_rules.specs.declared.program.Instance.{Instance}
use Rattle.eager_rules.specs.declared.program.Oper.{Oper}
use Rattle.eager_rules.specs.declared.program.Oper.TheVariants as oper
use Rattle.eager_rules.specs.declared.program.WordOp.TheVariants as word_op
use Rattle.inline.specs.declared.own.Binder.{Binder}
use Rattle.inline.specs.declared.own.Binder.TheVariants as binder

abbrev pub joined : {A : Type 0} → List (List A) → List A
joined [] = []
joined (xs ∷ rest) = xs ++ joined rest

-- what each Return of a body returns, where that is one name
abbrev pub only_name : List Oper → Option ℕ
only_name (oper.Name name ∷ []) = Some name
only_name _ = None

abbrev pub returned_step : c.Core-F (List (Option ℕ)) → List (Option ℕ)
returned_step (c.Return values) = only_name values ∷ []
returned_step (c.If cond part other) = joined part ++ joined other
returned_step (c.For var lo hi by at omp body) = joined body
returned_step _ = []

abbrev pub returned : List Core → List (Option ℕ)
returned body = joined (map (fold-Core (List (Option ℕ)) returned_step) body)

-- the statements that bind a name: whether each is a move
abbrev pub kind_of : {A : Type 0} → c.Core-F A → Binder
kind_of (c.Word to word_op.Move args at) = binder.Move
kind_of _ = binder.Other

abbrev pub binder_when : Bool → Binder → List Binder
binder_when true b = b ∷ []
binder_when false b = []

abbrev pub is_among : ℕ → List ℕ → Bool
is_among name names = list_any (λ other. other == name) names

abbrev pub binder_here : ℕ → {A : Type 0} → c.Core-F A → List Binder
binder_here name y = binder_when (is_among name (binds_of y)) (kind_of y)

abbrev pub binders_step : ℕ → c.Core-F (List Binder) → List Binder
binders_step name (c.If cond part other) = joined part ++ joined other
binders_step name (c.For var lo hi by at omp body) = binder_when (var == name) binder.Other ++ joined body
binders_step name y = binder_here name y

abbrev pub binders : ℕ → List Core → List Binder
binders name body = joined (map (fold-Core (List Binder) (binders_step name)) body)

-- An own name of an instance is no parameter, and one statement binds it, which is no move.
abbrev pub is_one : List Binder → Bool
is_one (binder.Other ∷ []) = true
is_one _ = false

abbrev pub is_own : Instance → ℕ → Bool
is_own f name = nat_le (length f.params) name && is_one (binders name f.body)

-- The own name that an instance returns, where it has one Return and that returns one value, which is one.
abbrev pub own_among : Instance → List (Option ℕ) → Option ℕ
own_among f (Some name ∷ []) = if is_own f name then Some name else None
own_among f _ = None

abbrev pub own_of : Instance → Option ℕ
own_of f = own_among f (returned f.body)
