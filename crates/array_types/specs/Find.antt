-- What stands for a text in a list, and in an index of the list.
use Rattle.std.specs.Prelude.{◌≡◌, ℕ, List, [], ◌∷◌, Bool, true, false, Option, Some, None}
use Rattle.std.specs.Global.{Vec}
use Rattle.std.specs.HashMap.{HashMap, get_by}
use Rattle.std.specs.Str.{bytes_eq}

-- what stands for a text in a list: the first one counts
abbrev pub given_by : {A : Type 0} → Bool → A → Option A → Option A
given_by true x later = Some x
given_by false x later = later

abbrev pub find : {A : Type 0} → List ℕ → List (List ℕ × A) → Option A
find text [] = None
find text (entry ∷ rest) = given_by (bytes_eq entry.0 text) entry.1 (find text rest)

-- an index has the number that a list has, for each text
abbrev pub Held : {S : Type 0} → HashMap (Vec ℕ) ℕ S → List (List ℕ × ℕ) → Type 0
Held index list = (text : List ℕ) → get_by (λ k. bytes_eq text k.items) index ≡ find text list
