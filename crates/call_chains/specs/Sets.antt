-- Sets of functions, as marks by their numbers.
use Rattle.std.specs.Prelude.{◌≡◌, ℕ, ◌<◌, ◌≤◌, Bool, true, false, List, length, slice_index_or}
use Rattle.call_chains.specs.Chains.{Rows, calls, has_callee, IsChain}
use Rattle.call_chains.specs.declared.graph.OwnCall.{OwnCall}

-- the function with this number is marked; one that isn't there isn't
abbrev pub marked : List Bool → ℕ → Bool
marked marks f = slice_index_or marks f false

-- Exactly the functions are marked to which a chain of so many calls leads.
pub record IsLayer (rows : Rows) (exported : List ℕ) (count : ℕ) (marks : List Bool) : Type 0 where
  pub count_is : length marks ≡ length rows
  pub sound : (g : ℕ) → marked marks g ≡ true → (before : List ℕ) × (length before ≡ count)
      × IsChain rows exported g before
  pub whole : (g : ℕ) (before : List ℕ) → g < length rows → length before ≡ count → IsChain rows exported g before
      → marked marks g ≡ true

-- one of the first marked functions calls g
abbrev pub CalledBelow : Rows → List Bool → ℕ → ℕ → Type 0
CalledBelow rows marks end g = (f : ℕ) × (f < end) × (marked marks f ≡ true) × (calls rows f g ≡ true)

-- Exactly the functions are marked that the first marked ones call.
pub record AreCalled (rows : Rows) (marks : List Bool) (end : ℕ) (out : List Bool) : Type 0 where
  pub count_is : length out ≡ length rows
  pub sound : (g : ℕ) → marked out g ≡ true → CalledBelow rows marks end g
  pub whole : (g : ℕ) → g < length rows → CalledBelow rows marks end g → marked out g ≡ true

-- Exactly the functions are marked to which a chain leads.
pub record AreReached (rows : Rows) (starts : List ℕ) (marks : List Bool) : Type 0 where
  pub count_is : length marks ≡ length rows
  pub sound : (g : ℕ) → marked marks g ≡ true → (before : List ℕ) × IsChain rows starts g before
  pub whole : (g : ℕ) (before : List ℕ) → g < length rows → IsChain rows starts g before → marked marks g ≡ true

-- numbers of functions that don't rise along calls; a function without a number has the number 0
abbrev pub rank_of : List ℕ → ℕ → ℕ
rank_of ranks f = slice_index_or ranks f 0

abbrev pub Falls : Rows → List ℕ → Type 0
Falls rows ranks = (f g : ℕ) → calls rows f g ≡ true → rank_of ranks g ≤ rank_of ranks f

-- they don't along the calls of the first functions, and along these calls of one function
abbrev pub FallsBelow : Rows → List ℕ → ℕ → Type 0
FallsBelow rows ranks end = (f g : ℕ) → f < end → calls rows f g ≡ true → rank_of ranks g ≤ rank_of ranks f

abbrev pub FallsAlong : List OwnCall → List ℕ → ℕ → Type 0
FallsAlong calls ranks f = (g : ℕ) → has_callee g calls ≡ true → rank_of ranks g ≤ rank_of ranks f
