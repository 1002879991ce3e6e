-- Consecutive places, and parts of an array's rank.
use Rattle.std.proofs.Common.{◌≡◌, ℕ, Bool, true, false, ◌↔◌, List, [], ◌∷◌, length, refl, ap, sym, ◌∙◌, arith}
use Rattle.std.proofs.lemmas.Slice.Eq.{bytes_eq-Decides}
use Rattle.std.specs.List.{range_with_len}
use Rattle.view_places.specs.View.{IsConsecutive}
use Rattle.call_binding.specs.Binding.{is_consecutive}

pub consecutive : (places : List ℕ) → is_consecutive places ≡ true → IsConsecutive places
consecutive [] e = (0, refl)
consecutive (k ∷ places) e = (k, (bytes_eq-Decides (k ∷ places) (range_with_len k (length (k ∷ places)))).0 e)

first_place : (first k : ℕ) (places : List ℕ) → k ∷ places ≡ range_with_len first (length (k ∷ places)) → first ≡ k
first_place first k places e = cc

pub is_so : (places : List ℕ) → IsConsecutive places → is_consecutive places ≡ true
is_so [] h = refl
is_so (k ∷ places) h =
    (bytes_eq-Decides (k ∷ places) (range_with_len k (length (k ∷ places)))).1
    (h.1 ∙ ap (λ first. range_with_len first (length (k ∷ places))) (first_place h.0 k places h.1))

same_bool : (a b : Bool) → (a ≡ true → b ≡ true) → (b ≡ true → a ≡ true) → a ≡ b
same_bool true b f g = sym (f refl)
same_bool false true f g = g refl
same_bool false false f g = refl

-- an answer that is true exactly where places are consecutive
pub flat_is : (r : Bool) (places : List ℕ) → ((r ≡ true) ↔ IsConsecutive places) → r ≡ is_consecutive places
flat_is r places h = same_bool r (is_consecutive places) (λ t. is_so places (h.0 t)) (λ t. h.1 (consecutive places t))
