-- Lists of whole numbers: their least and greatest number, and whether they rise.
use Rattle.std.specs.Prelude.{Bool, true, false, not, ◌&&◌, ◌||◌, List, [], ◌∷◌, ℤ, pos, int_lt}
use Rattle.std.specs.Int.{int_max, int_min}
use Rattle.std.specs.List.{list_all}
use Rattle.std.specs.Ordering.{int_eq}

abbrev pub is_empty : List ℤ → Bool
is_empty [] = true
is_empty (x ∷ xs) = false

-- the first number, or 0
abbrev pub first_of : List ℤ → ℤ
first_of [] = pos 0
first_of (x ∷ xs) = x

-- the least number, or 0
abbrev pub least : List ℤ → ℤ
least [] = pos 0
least (x ∷ []) = x
least (x ∷ y ∷ xs) = int_min x (least (y ∷ xs))

-- the greatest number, or 0
abbrev pub greatest : List ℤ → ℤ
greatest [] = pos 0
greatest (x ∷ []) = x
greatest (x ∷ y ∷ xs) = int_max x (greatest (y ∷ xs))

-- no number lies in the intervals from least to greatest number of both lists, which have numbers
abbrev pub are_disjoint : List ℤ → List ℤ → Bool
are_disjoint xs ys = int_lt (greatest xs) (least ys) || int_lt (greatest ys) (least xs)

-- each number is above the one before it
abbrev pub rises : List ℤ → Bool
rises [] = true
rises (x ∷ []) = true
rises (x ∷ y ∷ xs) = int_lt x y && rises (y ∷ xs)

-- the same numbers in the same order
abbrev pub are_equal : List ℤ → List ℤ → Bool
are_equal [] [] = true
are_equal [] (y ∷ ys) = false
are_equal (x ∷ xs) [] = false
are_equal (x ∷ xs) (y ∷ ys) = int_eq x y && are_equal xs ys

-- no number stands there twice
abbrev pub is_distinct : List ℤ → Bool
is_distinct [] = true
is_distinct (x ∷ xs) = list_all (λ y. not (int_eq x y)) xs && is_distinct xs
