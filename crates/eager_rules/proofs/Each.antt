-- A relation between the items of two lists of one length, place by place.
use Rattle.std.proofs.Common.{◌≡◌, ap, subst, sym, refl, ℕ, zero, suc, List, [], ◌∷◌, ◌++◌, length, take}
use Rattle.std.proofs.Common.{slice_index_or, slice_get, Some, None}
use Rattle.std.specs.Prelude.{slice_set, Option, unwrap_or}
use Rattle.eager_rules.specs.TypedStates.{Each, Extends}

pub some_same : {A : Type 0} (a b : A) → Some a ≡ Some b → a ≡ b
some_same a b e = ap (λ (o : Option _). unwrap_or o a) e

pub none_some : {A B : Type 0} (a : A) → ◌≡◌ {A = Option A} None (Some a) → B
none_some a e = absurd (let h = e in cc)

module _ {A B : Type 0} (R : A → B → Type 0) where
  pub each_get : (xs : List A) (ys : List B) (k : ℕ) (x : A) (d : B) → Each R xs ys → slice_get xs k ≡ Some x →
      R x (slice_index_or ys k d)
  each_get [] ys k x d h e = none_some x e
  each_get (a ∷ xs) [] k x d h e = absurd h
  each_get (a ∷ xs) (y ∷ ys) zero x d h e = subst (λ b. R b y) (some_same a x e) h.0
  each_get (a ∷ xs) (y ∷ ys) (suc k) x d h e = each_get xs ys k x d h.1 e

  pub each_set : (xs : List A) (ys : List B) (k : ℕ) (x : A) (y : B) → Each R xs ys → slice_get xs k ≡ Some x →
      R x y → Each R xs (slice_set ys k y)
  each_set [] ys k x y h e r = none_some x e
  each_set (a ∷ xs) [] k x y h e r = absurd h
  each_set (a ∷ xs) (b ∷ ys) zero x y h e r = (subst (λ c. R c y) (sym (some_same a x e)) r, h.1)
  each_set (a ∷ xs) (b ∷ ys) (suc k) x y h e r = (h.0, each_set xs ys k x y h.1 e r)

  pub each_push : (xs : List A) (ys : List B) (x : A) (y : B) → Each R xs ys → R x y →
      Each R (xs ++ x ∷ []) (ys ++ y ∷ [])
  each_push [] [] x y h r = (r, tt)
  each_push [] (b ∷ ys) x y h r = absurd h
  each_push (a ∷ xs) [] x y h r = absurd h
  each_push (a ∷ xs) (b ∷ ys) x y h r = (h.0, each_push xs ys x y h.1 r)

  pub each_last : (xs : List A) (ys : List B) (x : A) → Each R xs ys → slice_get (xs ++ x ∷ []) (length ys) ≡ Some x
  each_last [] [] x h = refl
  each_last [] (b ∷ ys) x h = absurd h
  each_last (a ∷ xs) [] x h = absurd h
  each_last (a ∷ xs) (b ∷ ys) x h = each_last xs ys x h.1

  pub each_length : (xs : List A) (ys : List B) → Each R xs ys → length ys ≡ length xs
  each_length [] [] h = refl
  each_length [] (b ∷ ys) h = absurd h
  each_length (a ∷ xs) [] h = absurd h
  each_length (a ∷ xs) (b ∷ ys) h = ap suc (each_length xs ys h.1)

pub each_more : {A B : Type 0} (R S : A → B → Type 0) → ((x : A) (y : B) → R x y → S x y) →
    (xs : List A) (ys : List B) →
    Each R xs ys → Each S xs ys
each_more R S f [] [] h = tt
each_more R S f [] (y ∷ ys) h = h
each_more R S f (x ∷ xs) [] h = h
each_more R S f (x ∷ xs) (y ∷ ys) h = (f x y h.0, each_more R S f xs ys h.1)

module _ {A : Type 0} where
  pub extends_refl : (xs : List A) → Extends xs xs
  extends_refl [] = tt
  extends_refl (x ∷ xs) = (refl, extends_refl xs)

  pub extends_trans : (xs ys zs : List A) → Extends xs ys → Extends ys zs → Extends xs zs
  extends_trans [] ys zs h k = tt
  extends_trans (x ∷ xs) [] zs h k = absurd h
  extends_trans (x ∷ xs) (y ∷ ys) [] h k = absurd k
  extends_trans (x ∷ xs) (y ∷ ys) (z ∷ zs) h k =
      (subst (λ a. x ≡ a) k.0 h.0, extends_trans xs ys zs h.1 k.1)

  pub extends_push : (xs : List A) (x : A) → Extends xs (xs ++ x ∷ [])
  extends_push [] x = tt
  extends_push (a ∷ xs) x = (refl, extends_push xs x)

  pub extends_get : (xs more : List A) (k : ℕ) (x : A) → Extends xs more → slice_get xs k ≡ Some x →
      slice_get more k ≡ Some x
  extends_get [] more k x h e = none_some x e
  extends_get (a ∷ xs) [] k x h e = absurd h
  extends_get (a ∷ xs) (b ∷ more) zero x h e = subst (λ c. Some c ≡ Some x) h.0 e
  extends_get (a ∷ xs) (b ∷ more) (suc k) x h e = extends_get xs more k x h.1 e

-- the first items of what a longer list goes with
pub each_take : {A B : Type 0} (R : A → B → Type 0) (xs more : List A) (ys : List B) → Extends xs more →
    Each R more ys → Each R xs (take (length xs) ys)
each_take R [] more ys h e = tt
each_take R (x ∷ xs) [] ys h e = absurd h
each_take R (x ∷ xs) (a ∷ more) [] h e = absurd e
each_take R (x ∷ xs) (a ∷ more) (y ∷ ys) h e =
    (subst (λ c. R c y) (sym h.0) e.0, each_take R xs more ys h.1 e.1)
