use Rattle.std.proofs.Common.{◌≡◌, drop}
use Rattle.std.specs.List.{list_all}
use Rattle.array_types.specs.Forms.{types_in}
use Rattle.array_types.specs.Rows.{is_number_type}
use Rattle.array_types.proofs.rows.all_numbers.Given as goal

-- the test of what is left is that of the whole list
abbrev pub invariant-loop-v : goal.invariant-loop-v
invariant-loop-v l =
    list_all is_number_type (types_in (drop l.v-index l.values)) ≡ list_all is_number_type (types_in l.values)
