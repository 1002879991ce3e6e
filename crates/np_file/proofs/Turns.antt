-- The numbers of a shape, one after the other, and loops that push.
use Rattle.std.proofs.Common.{◌≡◌, ℕ, zero, suc, ◌+◌, ◌-◌, ◌<◌, ◌≤◌, List, [], ◌∷◌, ◌++◌, length, get_or, take, set}
use Rattle.std.proofs.Common.{Option, Some, None, refl, sym, ap, ◌∙◌, arith}
use Rattle.std.specs.List.{flat_map, AllByRecursion}
use Rattle.std.proofs.lemmas.Grind.{take-set_at, take_at_read}
use Rattle.std.proofs.lemmas.List.{flat_map_more, length-take}
use Rattle.np_file.specs.Reading.{◌>>=◌, Step, step_at, by_step, numbers_at}
use Rattle.np_file.specs.Reading.Step.{Next, End}
use Rattle.np_file.proofs.Fields.{seq}

found_len : (turn count : ℕ) (number : List ℕ) → turn < 4 → count ≡ turn + 1 → length number ≡ 4 →
    length (take count number) ≡ count
found_len turn count number lt is len = omega (arith, length-take count number)

pub goes_on : (turn count : ℕ) (number ts : List ℕ) (value : ℕ) (behind : List ℕ) (total : Option (List ℕ × List ℕ)) →
    turn < 3 → count ≡ turn + 1 → length number ≡ 4
    → step_at count ts ≡ Some (Next value behind) → numbers_at (4 - turn) (take count number) ts ≡ total →
    numbers_at (4 - (turn + 1)) (take (count + 1) (set number count value)) behind ≡ total
unfolding numbers_at
goes_on turn count number ts value behind total lt is len step so_far =
    let k : 4 - turn ≡ suc (4 - (turn + 1)) = omega arith in
    let f = found_len turn count number (omega arith) is len in
    let t : take (count + 1) (set number count value) ≡ take count number ++ value ∷ [] =
    take-set_at number count (count + 1) value refl (omega arith) in
    let one : numbers_at (suc (4 - (turn + 1))) (take count number) ts ≡
    numbers_at (4 - (turn + 1)) (take count number ++ value ∷ []) behind =
    seq (step_at (length (take count number)) ts) (by_step (numbers_at (4 - (turn + 1))) (take count number))
    (Next value behind) _ (ap (λ (n : ℕ). step_at n ts) f ∙ step) refl in
    ap (λ (xs : List ℕ). numbers_at (4 - (turn + 1)) xs behind) t ∙ sym one ∙
    sym (ap (λ (n : ℕ). numbers_at n (take count number) ts) k) ∙ so_far

pub ends : (turn count : ℕ) (number ts behind : List ℕ) (total : Option (List ℕ × List ℕ)) → turn < 4 →
    count ≡ turn + 1 → length number ≡ 4
    → step_at count ts ≡ Some (End behind) → numbers_at (4 - turn) (take count number) ts ≡ total →
    total ≡ Some (take count number, behind)
unfolding numbers_at
ends turn count number ts behind total lt is len step so_far =
    let k : 4 - turn ≡ suc (4 - (turn + 1)) = omega arith in
    let f = found_len turn count number lt is len in
    let one : numbers_at (suc (4 - (turn + 1))) (take count number) ts ≡ Some (take count number, behind) =
    seq (step_at (length (take count number)) ts) (by_step (numbers_at (4 - (turn + 1))) (take count number))
    (End behind) _ (ap (λ (n : ℕ). step_at n ts) f ∙ step) refl in
    sym so_far ∙ ap (λ (n : ℕ). numbers_at n (take count number) ts) k ∙ one

pub fails : (turn count : ℕ) (number ts : List ℕ) (total : Option (List ℕ × List ℕ)) → turn < 4 → count ≡ turn + 1 →
    length number ≡ 4
    → step_at count ts ≡ None → numbers_at (4 - turn) (take count number) ts ≡ total → total ≡ None
unfolding numbers_at
fails turn count number ts total lt is len step so_far =
    let k : 4 - turn ≡ suc (4 - (turn + 1)) = omega arith in
    let f = found_len turn count number lt is len in
    let one : numbers_at (suc (4 - (turn + 1))) (take count number) ts ≡ None =
    ap (λ (o : Option Step). o >>= by_step (numbers_at (4 - (turn + 1))) (take count number))
    (ap (λ (n : ℕ). step_at n ts) f ∙ step) in
    sym so_far ∙ ap (λ (n : ℕ). numbers_at n (take count number) ts) k ∙ one

pub too_many : (turn count : ℕ) (number ts : List ℕ) (value : ℕ) (behind : List ℕ) (total : Option (List ℕ × List ℕ)) →
    turn ≡ 3 → count ≡ turn + 1 → length number ≡ 4
    → step_at count ts ≡ Some (Next value behind) → numbers_at (4 - turn) (take count number) ts ≡ total → total ≡ None
unfolding numbers_at
too_many turn count number ts value behind total three is len step so_far =
    let k : 4 - turn ≡ 1 = omega arith in
    let f = found_len turn count number (omega arith) is len in
    let one : numbers_at 1 (take count number) ts ≡ None =
    seq (step_at (length (take count number)) ts) (by_step (numbers_at 0) (take count number))
    (Next value behind) _ (ap (λ (n : ℕ). step_at n ts) f ∙ step) refl in
    sym so_far ∙ ap (λ (n : ℕ). numbers_at n (take count number) ts) k ∙ one

-- one more element's bytes at the end
pub pushed : {X : Type 0} (f : X → List ℕ) (start now new : List ℕ) (xs : List X) (i : ℕ) (d : X) → i < length xs →
    new ≡ now ++ f (get_or xs i d) → now ≡ start ++ flat_map f (take i xs) → new ≡ start ++ flat_map f (take (i + 1) xs)
pushed f start now new xs i d lt e g =
    let t = (take_at_read xs i d lt).1 in
    e ∙ ap (λ (x : List ℕ). x ++ f (get_or xs i d)) g ∙ flat_map_more f start (take i xs) (get_or xs i d) ∙
    ap (λ (ys : List _). start ++ flat_map f ys) (sym t)

-- what holds of each element so far, and of one more
pub all_more : {X : Type 0} (P : X → Type 0) (xs : List X) (i : ℕ) (d : X) → i < length xs →
    AllByRecursion P (take i xs) → P (get_or xs i d) → AllByRecursion P (take (i + 1) xs)
all_more P [] i d lt all p = absurd (omega arith)
all_more P (x ∷ xs) zero d lt all p = (p, tt)
all_more P (x ∷ xs) (suc i) d lt all p = let e : suc i + 1 ≡ suc (i + 1) = omega arith in
    rw e (all.0, all_more P xs i d (omega arith) all.1 p)

-- what holds of each element up to the end
pub all_whole : {X : Type 0} (P : X → Type 0) (xs : List X) (n : ℕ) → length xs ≤ n → AllByRecursion P (take n xs) →
    AllByRecursion P xs
all_whole P [] n le all = tt
all_whole P (x ∷ xs) zero le all = absurd (omega arith)
all_whole P (x ∷ xs) (suc n) le all = (all.0, all_whole P xs n (omega arith) all.1)
