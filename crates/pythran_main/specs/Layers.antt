-- A reading by layers: each layer gives what it reads, or refuses; what comes behind a layer is read of what that layer
-- gave.
use Rattle.std.specs.Prelude.{◌≡◌, ◌⊎◌, Result, Ok, Err}
use Rattle.krn_base.specs.declared.refusal.Refusal.{Refusal}

-- one layer, and behind it what follows from what it gave
abbrev pub Then : {A B : Type 0} → (Result A Refusal → Type 0) → (A → Result B Refusal → Type 0) → Result B Refusal
    → Type 0
Then {A = A} first next (Ok b) = (a : A) × first (Ok a) × next a (Ok b)
Then {A = A} first next (Err r) = first (Err r) ⊎ ((a : A) × first (Ok a) × next a (Err r))

-- A reading gives this, and nothing else.
pub record IsOne {A : Type 0} (reads : Result A Refusal → Type 0) (found : Result A Refusal) : Type 0 where
  pub gives : reads found
  pub alone : (other : Result A Refusal) → reads other → other ≡ found
