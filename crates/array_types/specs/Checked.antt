-- A test of a program, by a height for each instance. It holds only of well-typed programs.
use Rattle.std.specs.Prelude.{◌≡◌, ℕ, ◌+◌, ◌&&◌, Bool, true, nat_lt, nat_le}
use Rattle.std.specs.Prelude.{List, [], ◌∷◌, map, length, take, slice_get}
use Rattle.std.specs.Prelude.{unwrap_or}
use Rattle.std.specs.List.{list_all}
use Rattle.eager_rules.specs.Sound.{Head, head_of, all_fit, shape_of_body, returns_values}
use Rattle.eager_rules.specs.Statements.{calls_of}
use Rattle.eager_rules.specs.Types.{Ty, same_types, type_of_param}
use Rattle.eager_rules.specs.declared.program.Instance.{Instance}
use Rattle.eager_rules.specs.declared.program.Program.{Program}

abbrev pub param_types : Instance → List Ty
param_types f = map (λ p. type_of_param p.1) f.params

abbrev pub is_small : Ty → Bool
is_small t = nat_le t.1 4

abbrev pub is_well_typed : List Head → Instance → Bool
is_well_typed heads f =
    (all_fit heads f.rets f.names f.body && same_types (take (length f.params) f.names) (param_types f))
    && ((list_all is_small f.names && list_all is_small f.rets) && returns_values f.rets (shape_of_body f.body))

abbrev pub height_in : List ℕ → ℕ → ℕ
height_in heights n = unwrap_or (slice_get heights n) 0

abbrev pub is_lower : List ℕ → ℕ → ℕ → Bool
is_lower heights number callee = nat_lt (height_in heights callee) (height_in heights number)

-- each instance from this number on calls lower ones alone
abbrev pub descend_from : ℕ → List ℕ → List Instance → Bool
descend_from n heights [] = true
descend_from n heights (f ∷ rest) =
    list_all (is_lower heights n) (calls_of f.body) && descend_from (n + 1) heights rest

abbrev pub is_checked : List ℕ → Program → Bool
is_checked heights program =
    (list_all (is_well_typed (map head_of program.instances)) program.instances
    && list_all (λ kernel. nat_lt kernel (length program.instances)) program.kernels)
    && descend_from 0 heights program.instances
