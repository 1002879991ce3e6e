-- Sets of numbers as marks, and what leads to what as rows: the row of a number has those that lead to it.
use Rattle.std.specs.Prelude.{◌≡◌, ℕ, ◌+◌, ◌<◌, ◌≤◌, ◌==◌, ◌||◌, ◌⊎◌, Bool, true, false, not, List, [], ◌∷◌, length}
use Rattle.std.specs.Prelude.{slice_index_or}
use Rattle.std.specs.List.{Contains, list_any, count_by}
use Rattle.purity.specs.declared.reach.Walk.{Walk}

-- the number is marked; one that has no mark isn't
abbrev pub marked : List Bool → ℕ → Bool
marked marks number = slice_index_or marks number false

abbrev pub row : List (List ℕ) → ℕ → List ℕ
row rows number = slice_index_or rows number []

-- a list has the number
abbrev pub has : ℕ → List ℕ → Bool
has number numbers = list_any (λ n. n == number) numbers

-- `from` leads to `to` in one step
abbrev pub leads : List (List ℕ) → ℕ → ℕ → Bool
leads rows to from = has from (row rows to)

-- steps that lead from a number to one of these: the numbers behind it, the nearest first
abbrev pub IsWay : List (List ℕ) → List ℕ → ℕ → List ℕ → Type 0
IsWay rows ends number [] = Contains ends number
IsWay rows ends number (next ∷ behind) = (leads rows next number ≡ true) × IsWay rows ends next behind

-- Exactly the numbers are marked that lead to one of these.
pub record AreLeading (rows : List (List ℕ)) (ends : List ℕ) (marks : List Bool) : Type 0 where
  pub count_is : length marks ≡ length rows
  pub sound : (n : ℕ) → marked marks n ≡ true → (behind : List ℕ) × IsWay rows ends n behind
  pub whole : (n : ℕ) (behind : List ℕ) → n < length rows → IsWay rows ends n behind → marked marks n ≡ true

abbrev pub marks_of : Walk → List Bool
marks_of walk = walk.marks.items

abbrev pub work_of : Walk → List ℕ
work_of walk = walk.work.items

-- what is left to do: numbers that were not met, and those to be followed
abbrev pub left : Walk → ℕ
left walk = count_by not (marks_of walk) + length (work_of walk)

-- The numbers of a test were met, and are to be followed where they were not met before.
pub record Grows (test : ℕ → Bool) (old new : Walk) : Type 0 where
  pub count_is : length (marks_of new) ≡ length (marks_of old)
  pub marks : (n : ℕ) → n < length (marks_of old) → marked (marks_of new) n ≡ (marked (marks_of old) n || test n)
  pub kept : (n : ℕ) → Contains (work_of old) n → Contains (work_of new) n
  pub fresh : (n : ℕ) → marked (marks_of new) n ≡ true → (marked (marks_of old) n ≡ true) ⊎ Contains (work_of new) n
  pub within : (n : ℕ) → Contains (work_of new) n → Contains (work_of old) n ⊎ (marked (marks_of new) n ≡ true)
  pub less : left new ≤ left old

-- Each number that was met leads to an end, and what leads to it was met unless it is still to be followed.
pub record IsSpread (rows : List (List ℕ)) (ends : List ℕ) (walk : Walk) : Type 0 where
  pub count_is : length (marks_of walk) ≡ length rows
  pub sound : (n : ℕ) → marked (marks_of walk) n ≡ true → (behind : List ℕ) × IsWay rows ends n behind
  pub begun : (n : ℕ) → n < length rows → Contains ends n → marked (marks_of walk) n ≡ true
  pub closed : (m n : ℕ) → marked (marks_of walk) m ≡ true → leads rows m n ≡ true → n < length rows
      → (marked (marks_of walk) n ≡ true) ⊎ Contains (work_of walk) m
  pub within : (n : ℕ) → Contains (work_of walk) n → marked (marks_of walk) n ≡ true
