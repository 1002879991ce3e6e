-- What a sink was given (this project).
use Rattle.std.specs.Prelude.{ℕ, List, Option, option_map, ◌++◌}

-- what was written once these bytes follow, where it is told
abbrev pub appended : Option (List ℕ) → List ℕ → Option (List ℕ)
appended written bytes = option_map (λ before. before ++ bytes) written
