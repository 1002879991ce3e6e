-- Where each of two layers has one reading, so have both.
use Rattle.std.proofs.Common.{◌≡◌, inl, inr, Result, Ok, Err, IfOk, subst, refl}
use Rattle.krn_base.specs.declared.refusal.Refusal.{Refusal}
use Rattle.krn_base.specs.declared.refusal.Stop.{Stop}
use Rattle.krn_base.specs.declared.refusal.Stop.TheVariants as stop
use Rattle.pythran_main.specs.Layers.{Then, IsOne}
use Rattle.pythran_main.specs.Reading.{Answered}

same_ok : {A : Type 0} (x y : A) → (let P : Result A Refusal = Ok x in P) ≡ Ok y → x ≡ y
same_ok x y h = cc

err_ok : {A : Type 0} (r : Refusal) (y : A) → (let P : Result A Refusal = Err r in P) ≡ Ok y → ⊥
err_ok r y h = cc

same_err : {A : Type 0} (q r : Refusal) → (let P : Result A Refusal = Err q in P) ≡ Err r → q ≡ r
same_err q r h = cc

ok_err : {A : Type 0} (x : A) (r : Refusal) → (let P : Result A Refusal = Ok x in P) ≡ Err r → ⊥
ok_err x r h = cc

module _ {A B : Type 0} (first : Result A Refusal → Type 0) (next : A → Result B Refusal → Type 0) where
  -- behind a layer that gives something
  pub then_one : (a : A) (found : Result B Refusal) → IsOne first (Ok a) → IsOne (next a) found
      → IsOne (Then first next) found
  then_one a found one two = record { gives = given found two.gives; alone = alone }
    where
      given : (x : Result B Refusal) → next a x → Then first next x
      given (Ok b) n = (a, one.gives, n)
      given (Err r) n = inr (a, one.gives, n)

      follows : (c : A) (other : Result B Refusal) → first (Ok c) → next c other → other ≡ found
      follows c other f n =
          let P : A → Type 0 = λ x. next x other in
          two.alone other (subst P (same_ok c a (one.alone (Ok c) f)) n)

      alone : (other : Result B Refusal) → Then first next other → other ≡ found
      alone (Ok b) h = follows (h.0) (Ok b) (h.1) (h.2)
      alone (Err r) (inl f) = absurd (err_ok r a (one.alone (Err r) f))
      alone (Err r) (inr h) = follows (h.0) (Err r) (h.1) (h.2)

  -- behind a layer that refuses
  pub then_none : (q : Refusal) → IsOne first (Err q) → IsOne (Then first next) (Err q)
  then_none q one = record { gives = inl one.gives; alone = alone }
    where
      alone : (other : Result B Refusal) → Then first next other → other ≡ Err q
      alone (Ok b) h = absurd (ok_err (h.0) q (one.alone (Ok (h.0)) (h.1)))
      alone (Err r) (inl f) =
          let E : Refusal → Result B Refusal = λ x. Err x in
          subst (λ (x : Refusal). E r ≡ E x) (same_err r q (one.alone (Err r) f)) refl
      alone (Err r) (inr h) = absurd (ok_err (h.0) q (one.alone (Ok (h.0)) (h.1)))

-- where what is behind a layer is read, if there is memory for it
pub if_one : {A B E : Type 0} (first : Result A Refusal → Type 0) (next : A → Result B Refusal → Type 0) (a : A)
    (result : Result (Result B Refusal) E) → IsOne first (Ok a) → IfOk result (IsOne (next a))
    → IfOk result (IsOne (Then first next))
if_one first next a (Ok found) one two = then_one first next a found one two
if_one first next a (Err e) one two = tt

-- where a layer refuses
pub refused_one : {A B : Type 0} (first : Result A Refusal → Type 0) (next : A → Result B Refusal → Type 0) (s : Stop)
    (r : Refusal) → s ≡ stop.Refused r → Answered (IsOne first) (Err s) → IsOne (Then first next) (Err r)
refused_one {A = A} first next s r is one =
    let P : Stop → Type 0 = λ x. Answered (IsOne first) (Err x) in then_none first next r (subst P is one)
