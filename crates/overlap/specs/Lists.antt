-- The verdict on two lists of places alone, and what each verdict says of them.
use Rattle.std.specs.Prelude.{◌≡◌, ◌≢◌, ℕ, ◌==◌, ◌<◌, Bool, not, ◌&&◌, ◌||◌, if◌then◌else◌, List, [], ◌∷◌, map}
use Rattle.std.specs.Prelude.{length, slice_index, ℤ, ◌+ℤ◌, ◌-ℤ◌, int_le, unsigned_abs}
use Rattle.std.specs.Prelude.{pos}
use Rattle.overlap.specs.Divisors.{gcd, is_multiple}
use Rattle.overlap.specs.Spans.{is_empty, first_of, are_disjoint, rises, are_equal, is_distinct}
use Rattle.overlap.specs.declared.table.Verdict.{Verdict}
use Rattle.overlap.specs.declared.table.Verdict.TheVariants.{Apart, Same, Ahead, Clash}

-- the greatest common divisor of all distances from a place
abbrev pub divisor_from : ℤ → List ℤ → ℕ
divisor_from o [] = 0
divisor_from o (x ∷ xs) = gcd (divisor_from o xs) (unsigned_abs (x -ℤ o))

-- a list has no place; or the intervals are disjoint; or the distance of the first places is no multiple of the
-- greatest common divisor of all distances within each list
unfoldable pub lists_apart : List ℤ → List ℤ → Bool
lists_apart xs ys =
    (is_empty xs || is_empty ys) || (are_disjoint xs ys ||
    not (is_multiple (gcd (divisor_from (first_of ys) ys) (divisor_from (first_of xs) xs))
    (first_of ys -ℤ first_of xs)))

-- the second list is the first one, moved by a constant
abbrev pub is_moved : List ℤ → List ℤ → Bool
is_moved xs ys = are_equal (map (λ x. x +ℤ (first_of ys -ℤ first_of xs)) xs) ys

-- the verdict on a target's buffer and places and a leaf's buffer and places
unfoldable pub verdict_of_lists : ℕ → List ℤ → ℕ → List ℤ → Verdict
verdict_of_lists b xs c ys =
    if not (b == c) || lists_apart xs ys then Apart
    else (if are_equal xs ys && is_distinct xs then Same
    else (if is_moved xs ys && (rises xs && int_le (first_of xs) (first_of ys)) then Ahead
    else Clash))

-- the same on places as natural numbers
abbrev pub verdict_of_places : ℕ → List ℕ → ℕ → List ℕ → Verdict
verdict_of_places b ps c qs = verdict_of_lists b (map pos ps) c (map pos qs)

-- the first row of the verdict alone
abbrev pub places_apart : ℕ → List ℕ → ℕ → List ℕ → Bool
places_apart b ps c qs = not (b == c) || lists_apart (map pos ps) (map pos qs)

-- no place is common
abbrev pub NoneCommon : List ℕ → List ℕ → Type 0
NoneCommon ps qs = (i k : ℕ) → i < length ps → k < length qs → slice_index ps i ≢ slice_index qs k

-- no entry of the leaf's list stands at a smaller position in the target's
abbrev pub NoneEarlier : List ℕ → List ℕ → Type 0
NoneEarlier ps qs = (i k : ℕ) → i < k → k < length qs → slice_index ps i ≢ slice_index qs k

-- in one buffer no place is common
abbrev pub MeetNowhere : ℕ → List ℕ → ℕ → List ℕ → Type 0
MeetNowhere b ps c qs = b ≡ c → NoneCommon ps qs

-- ---- what the verdict on any two lists says
abbrev pub ApartMeetsNowhere : Type 0
ApartMeetsNowhere = (b c : ℕ) (ps qs : List ℕ) → verdict_of_places b ps c qs ≡ Apart → MeetNowhere b ps c qs

abbrev pub OthersShareBuffer : Type 0
OthersShareBuffer = (b c : ℕ) (ps qs : List ℕ) → verdict_of_places b ps c qs ≢ Apart → b ≡ c

abbrev pub SameIsEqual : Type 0
SameIsEqual = (b c : ℕ) (ps qs : List ℕ) → verdict_of_places b ps c qs ≡ Same → ps ≡ qs

abbrev pub AheadIsNoneEarlier : Type 0
AheadIsNoneEarlier = (b c : ℕ) (ps qs : List ℕ) → verdict_of_places b ps c qs ≡ Ahead → NoneEarlier ps qs

-- in one buffer, of as many places, nothing but Clash has an entry of the leaf at a smaller position
abbrev pub ClearIsNoneEarlier : Type 0
ClearIsNoneEarlier =
    (b c : ℕ) (ps qs : List ℕ) → verdict_of_places b ps c qs ≢ Clash → length qs ≡ length ps → b ≡ c → NoneEarlier ps qs
