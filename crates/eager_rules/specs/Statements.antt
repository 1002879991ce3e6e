-- The statements of a body: what each reads and binds by itself, and the list of all of them by which they are
-- numbered.
use Rattle.std.specs.Prelude.{ℕ, List, [], ◌∷◌, ◌++◌}
use Rattle.std.specs.List.{flat_map}
use Rattle.eager_rules.specs.Works.{sub_operands}
use Rattle.eager_rules.specs.declared.program.Core.{Core}
use Rattle.eager_rules.specs.declared.program.Core.TheOpen as c
use Rattle.eager_rules.specs.declared.program.Core.TheFolds.{fold-Core, para-Core}
use Rattle.eager_rules.specs.declared.program.Oper.{Oper}
use Rattle.eager_rules.specs.declared.program.Oper.TheVariants.{Name}

-- the operands that a statement reads before its blocks, in order; the array of an operation is read there
abbrev pub reads_of : {A : Type 0} → c.Core-F A → List Oper
reads_of (c.Word to op args at) = args
reads_of (c.Extent to of axis) = Name of ∷ []
reads_of (c.Get to of index at) = Name of ∷ index
reads_of (c.Put of index value at) = Name of ∷ value ∷ index
reads_of (c.Pick to of subs at) = Name of ∷ flat_map sub_operands subs
reads_of (c.Flip to of) = Name of ∷ []
reads_of (c.Alias to of) = Name of ∷ []
reads_of (c.Fresh to dims fill at) = dims
reads_of (c.Map to op args at) = args
reads_of (c.Reduce to op of at) = Name of ∷ []
reads_of (c.Store of value at) = Name of ∷ value ∷ []
reads_of (c.Call to instance args) = args
reads_of (c.If cond part other) = cond ∷ []
reads_of (c.For var lo hi step at omp body) = lo ∷ hi ∷ step ∷ []
reads_of (c.Return values) = values

-- the names that a statement binds by itself, its blocks apart; a loop binds its variable
abbrev pub binds_of : {A : Type 0} → c.Core-F A → List ℕ
binds_of (c.Word to op args at) = to ∷ []
binds_of (c.Extent to of axis) = to ∷ []
binds_of (c.Get to of index at) = to ∷ []
binds_of (c.Put of index value at) = []
binds_of (c.Pick to of subs at) = to ∷ []
binds_of (c.Flip to of) = to ∷ []
binds_of (c.Alias to of) = to ∷ []
binds_of (c.Fresh to dims fill at) = to ∷ []
binds_of (c.Map to op args at) = to ∷ []
binds_of (c.Reduce to op of at) = to ∷ []
binds_of (c.Store of value at) = []
binds_of (c.Call to instance args) = to
binds_of (c.If cond part other) = []
binds_of (c.For var lo hi step at omp body) = var ∷ []
binds_of (c.Return values) = []

-- what stands in the blocks of a statement
abbrev pub blocks_of : {A : Type 0} → c.Core-F A → List A
blocks_of (c.If cond part other) = part ++ other
blocks_of (c.For var lo hi step at omp body) = body
blocks_of _ = []

-- all names that a statement and those of its blocks bind, in the order of the statements' numbers
abbrev pub binds_step : c.Core-F (List ℕ) → List ℕ
binds_step y = binds_of y ++ flat_map (λ names. names) (blocks_of y)

abbrev pub binds : List Core → List ℕ
binds block = flat_map (fold-Core (List ℕ) binds_step) block

-- The statements of a block, those with blocks before those in their blocks and the first part of an `If` before the
-- second. A statement's number is its place in this list.
abbrev pub with_inner : Core × List Core → List Core
with_inner (core, inner) = core ∷ inner

abbrev pub inner_step : c.Core-F (Core × List Core) → List Core
inner_step y = flat_map with_inner (blocks_of y)

abbrev pub inner : Core → List Core
inner = para-Core (List Core) inner_step

abbrev pub statements : List Core → List Core
statements block = flat_map (λ core. core ∷ inner core) block

-- the instances that a block calls, one for each call, in order
abbrev pub calls_step : c.Core-F (List ℕ) → List ℕ
calls_step (c.Call to instance args) = instance ∷ []
calls_step y = flat_map (λ calls. calls) (blocks_of y)

abbrev pub calls_of : List Core → List ℕ
calls_of block = flat_map (fold-Core (List ℕ) calls_step) block
