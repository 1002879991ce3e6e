-- The text of a directive note, and the reductions that it names. The clauses are those of OpenMP's `parallel for`
-- that this project
-- takes.
use Rattle.std.specs.Prelude.{◌≡◌, ℕ, ◌+◌, ◌≢◌, true, List, [], ◌∷◌, ◌++◌, length, map, codes}
use Rattle.std.specs.List.{AllByRecursion}
use Rattle.krn_base.specs.declared.place.Loc.{Loc}
use Rattle.krn_base.specs.declared.operation.Join.{Join}
use Rattle.krn_base.specs.declared.operation.Join.TheVariants.{Sum, Prod, And, Or, Xor, Max, Min}
use Rattle.py_lex.specs.Bytes.{Bytes}
use Rattle.py_lex.specs.Words.{is_name}
use Rattle.py_parse.specs.declared.tree.Name.{Name}
use Rattle.py_parse.specs.declared.tree.Note.{Note}
use Rattle.export_sig.specs.Blanks.{AreBlanks, AreSomeBlanks, moved}

pub data Clause : Type 0 where
  Reduction : Join → List Bytes → Clause
  Private : List Bytes → Clause
  Schedule : Clause
  Default : Clause

abbrev pub sign : Join → Bytes
sign Sum = codes "+"
sign Prod = codes "*"
sign And = codes "&"
sign Or = codes "|"
sign Xor = codes "^"
sign Max = codes "max"
sign Min = codes "min"

-- names with commas (44) between, and the `)` (41) behind the last
abbrev pub more_names : List Bytes → Bytes
more_names [] = 41 ∷ []
more_names (name ∷ names) = 44 ∷ (name ++ more_names names)

abbrev pub names_text : List Bytes → Bytes
names_text [] = 41 ∷ []
names_text (name ∷ names) = name ++ more_names names

-- what stands before the names of a reduction; 58 is `:`
abbrev pub opening : Join → Bytes
opening j = codes "reduction(" ++ (sign j ++ 58 ∷ [])

abbrev pub clause_text : Clause → Bytes
clause_text (Reduction j names) = opening j ++ names_text names
clause_text (Private names) = codes "private(" ++ names_text names
clause_text Schedule = codes "schedule(static)"
clause_text Default = codes "default(shared)"

-- there is a name, and each is one
abbrev pub AreNames : List Bytes → Type 0
AreNames names = (names ≢ []) × AllByRecursion (λ n. is_name n ≡ true) names

abbrev pub IsFine : Clause → Type 0
IsFine (Reduction j names) = AreNames names
IsFine (Private names) = AreNames names
IsFine Schedule = Unit {0}
IsFine Default = Unit {0}

-- clauses, each with the blanks before it
abbrev pub clauses_text : List (Bytes × Clause) → Bytes
clauses_text [] = []
clauses_text (c ∷ cs) = c.0 ++ (clause_text c.1 ++ clauses_text cs)

-- the names of a list with their places, where the first stands behind so many bytes of the note
abbrev pub names_at : Loc → ℕ → List Bytes → List Name
names_at start before [] = []
names_at start before (name ∷ names) =
    record { text = name; loc = moved start before } ∷ names_at start (before + length name + 1) names

-- the reductions of a clause that stands behind so many bytes of the note
abbrev pub reductions_at : Loc → ℕ → Clause → List (Join × Name)
reductions_at start before (Reduction j names) = map (λ n. (j, n)) (names_at start (before + length (opening j)) names)
reductions_at start before _ = []

-- the reductions of all clauses, in the order of the text
abbrev pub all_reductions : Loc → ℕ → List (Bytes × Clause) → List (Join × Name)
all_reductions start before [] = []
all_reductions start before (c ∷ cs) =
    reductions_at start (before + length c.0) c.1
    ++ all_reductions start (before + length c.0 + length (clause_text c.1)) cs

-- What stands before the clauses. 35 is `#`.
pub record IsDirectiveHead (ts : Bytes) : Type 0 where
  pub first : Bytes
  pub second : Bytes
  pub third : Bytes
  pub text_is : ts ≡ 35 ∷ (first ++ (codes "omp" ++ (second ++ (codes "parallel" ++ (third ++ codes "for")))))
  pub blanks : AreBlanks first × AreSomeBlanks second × AreSomeBlanks third

-- The reductions of a directive note.
pub record AreReductions (note : Note) (reductions : List (Join × Name)) : Type 0 where
  pub front : Bytes
  pub clauses : List (Bytes × Clause)
  pub text_is : note.text ≡ front ++ clauses_text clauses
  pub head : IsDirectiveHead front
  pub apart : AllByRecursion (λ c. AreSomeBlanks c.0 × IsFine c.1) clauses
  pub reductions_are : reductions ≡ all_reductions note.loc (length front) clauses
