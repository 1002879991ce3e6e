-- Laws of broadcasting, in the NumPy reference's own words.
use Rattle.std.specs.Prelude.{◌≡◌, ℕ, true, List, [], ◌∷◌, length, Ok}
use Rattle.std.specs.List.{All}
use Rattle.view_places.specs.Arrays.{SpreadsTo, broadcast_of, element_count, is_small, spread}

-- each of the shapes spreads to their broadcast
abbrev pub EachSpreads : Type 0
EachSpreads =
    (shapes : List (List ℕ)) (ms : List ℕ) → broadcast_of shapes ≡ Ok ms → All (λ ns. SpreadsTo ns ms) shapes

-- one shape within the limits is its own broadcast
abbrev pub IsOwnBroadcast : Type 0
IsOwnBroadcast = (ns : List ℕ) → is_small ns ≡ true → broadcast_of (ns ∷ []) ≡ Ok ns

-- an array spread to its own shape stays as it is
abbrev pub StaysOverItsShape : Type 0
StaysOverItsShape = (ns xs : List ℕ) → length xs ≡ element_count ns → spread 0 ns ns xs ≡ xs
