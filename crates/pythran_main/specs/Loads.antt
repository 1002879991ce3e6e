-- The files that a command loads: what the load of its source gave, and what its array files are read as.
use Rattle.std.specs.Prelude.{◌≡◌, ℕ, ◌+◌, ◌≤◌, List, length, Option}
use Rattle.host_io.specs.Files.{Held, IsContent, IsCutContent}
use Rattle.view_places.specs.declared.shape.Array.{Array}

-- what a load gave: the whole file, or that the file is longer than the limit
pub data Content : Type 0 where
  Whole : List ℕ → Content
  Longer : Content

-- a file is longer than a limit
pub record IsLonger (file : Held) (most : ℕ) : Type 0 where
  pub first : List ℕ
  pub cut : IsCutContent file most first
  pub length_is : length first ≡ most + 1

-- a load may give this of what a name holds
abbrev pub Gives : Held → ℕ → Content → Type 0
Gives file most (Whole bytes) = IsContent file bytes × (length bytes ≤ most)
Gives file most Longer = IsLonger file most

-- what was loaded for a request: what the load of its source gave, and what the first of its array files are read as,
-- where one that is none is `None`
pub record Loaded : Type 0 where
  pub source : Content
  pub arrays : List (Option Array)
