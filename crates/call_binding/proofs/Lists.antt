-- Lemmas on lists that the toolchain's library lacks.
use Rattle.std.proofs.Common.{◌≡◌, ℕ, Bor, zero, suc, add-one, drop, take, get_or, ◌+◌, ◌<◌, Bool, true, false, not}
use Rattle.std.proofs.Common.{◌||◌, cond, nat_lt, List, [], ◌∷◌, ◌++◌, map, length, refl, ap, sym, ◌∙◌, append-nil}
use Rattle.std.proofs.Common.{append_assoc, arith, Option, Some, None, option_map}
use Rattle.std.proofs.Math.Seq.{drop-cons}
use Rattle.std.proofs.lemmas.List.{length-map, map-append, take_more}
use Rattle.std.proofs.lemmas.Bool.{cond-true, cond_both, lt-ltb, false_from_ne_true}
use Rattle.std.proofs.lemmas.List.Elements.{filter_map-append, All-cons, All-nil}
use Rattle.std.specs.List.{All, slice_get, cons_option, find, filter_map, list_any, position, position_or_len}
use Rattle.std.specs.Option.{IfSome}
use Rattle.call_binding.specs.Integers.{each, onto}

pub any_in_map : {X Y : Type 0} (p : Y → Bool) (f : X → Y) (xs : List X)
    → list_any p (map f xs) ≡ list_any (λ x. p (f x)) xs
any_in_map p f [] = refl
any_in_map p f (x ∷ xs) = ap (λ b. p (f x) || b) (any_in_map p f xs)

place_in_map : {X Y : Type 0} (p : Y → Bool) (f : X → Y) (xs : List X)
    → position_or_len p (map f xs) ≡ position_or_len (λ x. p (f x)) xs
place_in_map p f [] = refl
place_in_map p f (x ∷ xs) = ap (λ n. cond (not (p (f x))) (1 + n) 0) (place_in_map p f xs)

pub position_in_map : {X Y : Type 0} (p : Y → Bool) (f : X → Y) (xs : List X)
    → position p (map f xs) ≡ position (λ x. p (f x)) xs
position_in_map p f xs =
    ap (λ n. cond (nat_lt n (length (map f xs))) (Some n) None) (place_in_map p f xs)
    ∙ ap (λ m. cond (nat_lt (position_or_len (λ x. p (f x)) xs) m) (Some (position_or_len (λ x. p (f x)) xs)) None)
    (length-map xs f)

pub find_in_map : {X Y : Type 0} (p : Y → Bool) (f : X → Y) (xs : List X)
    → find p (map f xs) ≡ option_map f (find (λ x. p (f x)) xs)
find_in_map p f [] = refl
find_in_map p f (x ∷ xs) =
    elim (p (f x)) as (λ b. cond b (Some (f x)) (find p (map f xs))
    ≡ option_map f (cond b (Some x) (find (λ y. p (f y)) xs))) [
      | true ↦ refl
      | false ↦ find_in_map p f xs
    ]

-- what passes a test has a place
pub within : {X : Type 0} (p : X → Bool) (xs : List X) → list_any p xs ≡ true → position_or_len p xs < length xs
within p [] e = absurd cc
within p (x ∷ xs) e =
    (elim (p x) as (λ b. (b || list_any p xs) ≡ true → cond (not b) (1 + position_or_len p xs) 0 < length (x ∷ xs)) [
      | true ↦ λ e'. omega arith
      | false ↦ λ e'. omega (arith, within p xs e')
    ]) e

pub has_place : {X : Type 0} (p : X → Bool) (xs : List X) → list_any p xs ≡ true
    → position p xs ≡ Some (position_or_len p xs)
has_place p xs e = cond-true _ _ _ (lt-ltb (position_or_len p xs) (length xs) (within p xs e))

pub none_passes : {X : Type 0} (p : X → Bool) (xs : List X) → position p xs ≡ None → list_any p xs ≡ false
none_passes p xs e =
    false_from_ne_true _ (λ t. let k : position p xs ≡ Some (position_or_len p xs) = has_place p xs t in absurd cc)

-- one more element, which gives something or nothing
module _ {A B : Type 0} (h : A
    → Option B) (xs : List A) (x y : A) (so : List B) (inv : so ≡ filter_map h xs) (is : x ≡ y) where
  pub gives_more : so ++ filter_map h (y ∷ []) ≡ filter_map h (xs ++ x ∷ [])
  gives_more = ap (λ s. s ++ filter_map h (y ∷ [])) inv
      ∙ (ap (λ z. filter_map h xs ++ filter_map h (z ∷ [])) (sym is) ∙ sym (filter_map-append h xs (x ∷ [])))

  pub gives_none : filter_map h (y ∷ []) ≡ [] → so ≡ filter_map h (xs ++ x ∷ [])
  gives_none e = sym (append-nil so) ∙ (ap (λ s. so ++ s) (sym e) ∙ gives_more)

-- the same in a loop over a list
pub filter_more : {A B : Type 0} (h : A → Option B) (xs : List A) (i : ℕ) (x : A) → i < length xs → x ≡ get_or xs i x
    → (so new : List B)
    → so ≡ filter_map h (take i xs) → new ≡ so ++ filter_map h (x ∷ []) → new ≡ filter_map h (take (i + 1) xs)
filter_more h xs i x lt is so new inv e =
    e
    ∙ (ap (λ s. s ++ filter_map h (x ∷ [])) inv
    ∙ (sym (filter_map-append h (take i xs) (x ∷ []))
    ∙ ap (filter_map h) (sym (take_more xs i x lt ∙ ap (λ y. take i xs ++ y ∷ []) (sym is)))))

-- the same of what is made of each value
module _ {A B C : Type 0} (h : A → Option B) (f : B
    → C) (xs : List A) (x : A) (so : List C) (inv : so ≡ map f (filter_map h xs)) where
  pub made_more : (b : B) → h x ≡ Some b → so ++ f b ∷ [] ≡ map f (filter_map h (xs ++ x ∷ []))
  made_more b e =
      ap (λ s. s ++ f b ∷ []) inv
      ∙ (sym (map-append f (filter_map h xs) (b ∷ []))
      ∙ ap (map f) (ap (λ o. filter_map h xs ++ cons_option o []) (sym e) ∙ sym (filter_map-append h xs (x ∷ []))))

  pub made_none : h x ≡ None → so ≡ map f (filter_map h (xs ++ x ∷ []))
  made_none e =
      inv
      ∙ ap (map f) (sym (append-nil (filter_map h xs))
      ∙ (ap (λ o. filter_map h xs ++ cons_option o []) (sym e) ∙ sym (filter_map-append h xs (x ∷ []))))

cons_all : {B : Type 0} (P : B → Type 0) (o : Option B) (rest : List B) → IfSome o P → All P rest
    → All P (cons_option o rest)
cons_all P None rest h k = k
cons_all P (Some z) rest h k = All-cons P z rest h k

pub filter_all : {A B : Type 0} (h : A → Option B) (P : B → Type 0) (xs : List A) → All (λ x. IfSome (h x) P) xs
    → All P (filter_map h xs)
filter_all h P [] k = All-nil P
filter_all h P (x ∷ xs) k =
    cons_all P (h x) (filter_map h xs) (k 0 x (omega arith)) (filter_all h P xs (λ j d lt. k (suc j) d (omega arith)))

pub find_all : {A : Type 0} (q : A → Bool) (P : A → Type 0) (xs : List A) → All P xs → IfSome (find q xs) P
find_all q P [] k = tt
find_all q P (x ∷ xs) k =
    cond_both (q x) _ _ (λ o. IfSome o P) (λ e. k 0 x (omega arith))
    (λ e. find_all q P xs (λ j d lt. k (suc j) d (omega arith)))

pub slice_get_map : {A B : Type 0} (f : A → B) (xs : List A) (k : ℕ)
    → slice_get (map f xs) k ≡ option_map f (slice_get xs k)
slice_get_map f [] k = refl
slice_get_map f (x ∷ xs) zero = refl
slice_get_map f (x ∷ xs) (suc k) = slice_get_map f xs k

-- ---- texts that are read one after another

-- the text at a place, and those behind it
pub piece_here : (xs : List (Bor (List ℕ))) (i : ℕ) (d : Bor (List ℕ)) → i < length xs
    → map (λ (x : Bor (List ℕ)). x.now) (drop i xs) ≡ (get_or xs i d).now
    ∷ map (λ (x : Bor (List ℕ)). x.now) (drop (i + 1) xs)
piece_here xs i d lt = rw add-one (ap (map (λ (x : Bor (List ℕ)). x.now)) (drop-cons xs i d lt))

-- what the values so far and those that follow make
abbrev pub behind : {B : Type 0} → List B → Option (List B) → Option (List B)
behind so rest = option_map (λ zs. so ++ zs) rest

behind_more : {B : Type 0} (so : List B) (z : B) (rest : Option (List B))
    → behind so (onto (Some z) rest) ≡ behind (so ++ z ∷ []) rest
behind_more so z None = refl
behind_more so z (Some zs) = ap Some (sym (append_assoc so (z ∷ []) zs))

module _ {A B : Type 0} (f : A
    → Option B) (so : List B) (x : A) (xs : List A) (whole : Option (List B)) (left : behind so (each f (x ∷ xs))
    ≡ whole) where
  pub each_stops : None ≡ f x → None ≡ whole
  each_stops n = ap (λ o. behind so (onto o (each f xs))) n ∙ left

  pub each_goes_on : (z : B) → Some z ≡ f x → behind (so ++ z ∷ []) (each f xs) ≡ whole
  each_goes_on z n = sym (behind_more so z (each f xs)) ∙ (ap (λ o. behind so (onto o (each f xs))) n ∙ left)

-- a fact of each value
onto_all : {B : Type 0} (P : B → Type 0) (o : Option B) (rest : Option (List B)) → IfSome o P → IfSome rest (All P)
    → IfSome (onto o rest) (All P)
onto_all P None rest h k = tt
onto_all P (Some z) None h k = tt
onto_all P (Some z) (Some zs) h k = All-cons P z zs h k

pub each_all : {A B : Type 0} (f : A → Option B) (P : B → Type 0) → ((x : A) → IfSome (f x) P) → (xs : List A)
    → IfSome (each f xs) (All P)
each_all f P h [] = All-nil P
each_all f P h (x ∷ xs) = onto_all P (f x) (each f xs) (h x) (each_all f P h xs)

pub not_some : {A : Type 0} (o : Option A) → ((x : A) → o ≡ Some x → ⊥) → o ≡ None
not_some None n = refl
not_some (Some x) n = absurd (n x refl)
