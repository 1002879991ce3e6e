-- Tools on options, tests and prefixes.
use Rattle.std.proofs.Common.{◌≡◌, ℕ, suc, ◌+◌, Bool, true, false, cond, ◌&&◌, ◌||◌, List, [], ◌∷◌, ◌++◌, length, take}
use Rattle.std.proofs.Common.{Option, Some, None, refl, ap, ◌∙◌, append_assoc, arith, inl, inr, ◌⊎◌}
use Rattle.std.specs.List.{prefix_len, list_all}
use Rattle.std.specs.Str.{bytes_eq}
use Rattle.std.proofs.lemmas.Slice.Eq.{bytes_eq-Decides}
use Rattle.export_sig.specs.Reading.{◌>>=◌}

-- the value of a step that gave one
pub bind_some : {A B : Type 0} (o : Option A) (f : A → Option B) (y : B) → (o >>= f) ≡ Some y → (x : A) ×
    (o ≡ Some x) × (f x ≡ Some y)
bind_some None f y e = absurd cc
bind_some (Some x) f y e = (x, refl, e)

-- a step that gave a value
pub seq : {A B : Type 0} (o : Option A) (f : A → Option B) (x : A) (r : Option B) → o ≡ Some x → f x ≡ r → (o >>= f) ≡ r
seq o f x r e g = ap (λ (p : Option _). p >>= f) e ∙ g

abbrev one : {A : Type 0} → A → Option A
one x = Some x

pub some_is : {A : Type 0} (x y : A) → one x ≡ one y → x ≡ y
some_is x y e = cc

-- a test that gave a value
pub chosen_some : {A : Type 0} (t : Bool) (o : Option A) (y : A) → cond t o None ≡ Some y → (t ≡ true) × (o ≡ Some y)
chosen_some true o y e = (refl, e)
chosen_some false o y e = absurd cc

-- a test that gave a value, or what comes behind it
pub chosen_or : {A : Type 0} (t : Bool) (x : A) (o : Option A) (y : A) → cond t (one x) o ≡ Some y →
    ((t ≡ true) × (x ≡ y)) ⊎ (o ≡ Some y)
chosen_or true x o y e = inl (refl, some_is x y e)
chosen_or false x o y e = inr e

pub both_true : (a b : Bool) → (a && b) ≡ true → (a ≡ true) × (b ≡ true)
both_true true b e = (refl, e)
both_true false b e = absurd cc

pub both : (a b : Bool) → a ≡ true → b ≡ true → (a && b) ≡ true
both a b p q = ap (λ (x : Bool). x && b) p ∙ q

pub either_true : (a b : Bool) → (a || b) ≡ true → (a ≡ true) ⊎ (b ≡ true)
either_true true b e = inl refl
either_true false b e = inr e

pub text_is : (ts own : List ℕ) → bytes_eq ts own ≡ true → ts ≡ own
text_is ts own h = (bytes_eq-Decides ts own).0 h

pub same_text : (own : List ℕ) → bytes_eq own own ≡ true
same_text own = (bytes_eq-Decides own own).1 refl

pub regroup : (used a b rest : List ℕ) → used ≡ a ++ b → used ++ rest ≡ a ++ (b ++ rest)
regroup used a b rest e = ap (λ (x : List ℕ). x ++ rest) e ∙ append_assoc a b rest

all_in_prefix_by : {A : Type 0} (p : A → Bool) (x : A) (xs : List A) (t : Bool) → p x ≡ t → list_all p
    (take (prefix_len p xs) xs) ≡ true → list_all p (take (cond t (1 + prefix_len p xs) 0) (x ∷ xs)) ≡ true
all_in_prefix_by p x xs true e h = let one_up : 1 + prefix_len p xs ≡ suc (prefix_len p xs) = omega arith in
    rw (one_up, e) h
all_in_prefix_by p x xs false e h = refl

pub all_in_prefix : {A : Type 0} (p : A → Bool) (xs : List A) → list_all p (take (prefix_len p xs) xs) ≡ true
all_in_prefix p [] = refl
all_in_prefix p (x ∷ xs) = all_in_prefix_by p x xs (p x) refl (all_in_prefix p xs)

-- all of them, and then one that isn't
pub prefix_is : {A : Type 0} (p : A → Bool) (xs ys : List A) → list_all p xs ≡ true → prefix_len p ys ≡ 0
    → prefix_len p (xs ++ ys) ≡ length xs
prefix_is p [] ys all e = e
prefix_is p (x ∷ xs) ys all e =
    let t = both_true (p x) (list_all p xs) all in
    rw (t.0) (ap (λ (n : ℕ). 1 + n) (prefix_is p xs ys t.1 e) ∙ omega arith)
