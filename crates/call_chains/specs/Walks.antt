-- The walk along calls: the functions that were met, and those of them whose calls were not yet followed.
use Rattle.std.specs.Prelude.{◌≡◌, ℕ, ◌+◌, ◌<◌, ◌≤◌, ◌==◌, Bool, true, false, ◌||◌, not, ◌⊎◌, List, [], length}
use Rattle.std.specs.List.{Contains, list_any, count_by}
use Rattle.call_chains.specs.Chains.{Rows, calls, IsChain}
use Rattle.call_chains.specs.Sets.{marked}
use Rattle.call_chains.specs.declared.reach.Walk.{Walk}

abbrev pub marks_of : Walk → List Bool
marks_of walk = walk.marks.items

abbrev pub work_of : Walk → List ℕ
work_of walk = walk.work.items

-- what is left to do: functions that were not met, and those to be followed
abbrev pub left : Walk → ℕ
left walk = count_by not (marks_of walk) + length (work_of walk)

-- The functions of a test were met, and are to be followed where they were not met before.
pub record Grows (test : ℕ → Bool) (old new : Walk) : Type 0 where
  pub count_is : length (marks_of new) ≡ length (marks_of old)
  pub marks : (g : ℕ) → g < length (marks_of old) → marked (marks_of new) g ≡ (marked (marks_of old) g || test g)
  pub kept : (f : ℕ) → Contains (work_of old) f → Contains (work_of new) f
  pub fresh : (f : ℕ) → marked (marks_of new) f ≡ true → (marked (marks_of old) f ≡ true) ⊎ Contains (work_of new) f
  pub within : (f : ℕ) → Contains (work_of new) f → Contains (work_of old) f ⊎ (marked (marks_of new) f ≡ true)
  pub less : left new ≤ left old

-- Each function that was met is reached, and what it calls was met unless it is still to be followed.
pub record IsSpread (rows : Rows) (starts : List ℕ) (walk : Walk) : Type 0 where
  pub count_is : length (marks_of walk) ≡ length rows
  pub sound : (g : ℕ) → marked (marks_of walk) g ≡ true → (before : List ℕ) × IsChain rows starts g before
  pub begun : (g : ℕ) → g < length rows → Contains starts g → marked (marks_of walk) g ≡ true
  pub closed : (f g : ℕ) → marked (marks_of walk) f ≡ true → calls rows f g ≡ true → g < length rows
      → (marked (marks_of walk) g ≡ true) ⊎ Contains (work_of walk) f
  pub within : (f : ℕ) → Contains (work_of walk) f → marked (marks_of walk) f ≡ true
