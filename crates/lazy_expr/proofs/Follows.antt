-- Two meanings of which one follows the other: from states that are related, where the first isn't stuck, they end
-- alike in states that are related. `Kept` holds of the first meaning's states.
use Rattle.std.proofs.Common.{◌≡◌, subst, refl, zero, suc, ℤ, pos, negsuc, List, [], ◌∷◌, Option, Some, None}
use Rattle.std.proofs.Common.{Bool, true, false}
use Rattle.krn_base.specs.declared.place.Loc.{Loc}
use Rattle.eager_rules.specs.Blocks.{Meaning, End, GoesOn, Returned, Faulted, Stuck, then_do, for_each}
use Rattle.eager_rules.specs.Blocks.{loop_over, choice}
use Rattle.eager_rules.specs.Eager.{where_ready}
use Rattle.eager_rules.specs.State.{State as Eager}

abbrev pub NotStuck : End → Type 0
NotStuck GoesOn = Unit {0}
NotStuck (Returned values) = Unit {0}
NotStuck (Faulted fault at) = Unit {0}
NotStuck Stuck = ⊥

abbrev pub Goes : {S : Type 0} → (S → Type 0) → S × End → Type 0
Goes Kept (s, GoesOn) = Kept s
Goes Kept (s, Returned values) = Unit {0}
Goes Kept (s, Faulted fault at) = Unit {0}
Goes Kept (s, Stuck) = Unit {0}

abbrev pub Ends : {S T : Type 0} → (S → T → Type 0) → S × End → T × End → Type 0
Ends Alike p q = NotStuck p.1 → Alike p.0 q.0 × (p.1 ≡ q.1)

module _ (S T : Type 0) (Kept : S → Type 0) (Alike : S → T → Type 0) where
  abbrev pub Follows : Meaning S → Meaning T → Type 0
  Follows m n = (s : S) (t : T) → Kept s → Alike s t → Ends Alike (m s) (n t)

  pub then_follows : (p : S × End) (q : T × End) (m : Meaning S) (n : Meaning T) → Ends Alike p q → Goes Kept p →
      Follows m n → Ends Alike (then_do p m) (then_do q n)
  then_follows (s, GoesOn) (t, end) m n e g f =
      subst (λ (x : End). Ends Alike (m s) (then_do (t, x) n)) (e tt).1 (f s t g (e tt).0)
  then_follows (s, Returned values) (t, end) m n e g f =
      subst (λ (x : End). Ends Alike (s, Returned values) (then_do (t, x) n)) (e tt).1 (λ free. ((e tt).0, refl))
  then_follows (s, Faulted fault at) (t, end) m n e g f =
      subst (λ (x : End). Ends Alike (s, Faulted fault at) (then_do (t, x) n)) (e tt).1 (λ free. ((e tt).0, refl))
  then_follows (s, Stuck) (t, end) m n e g f = λ free. absurd free

  pub turns_follow : (f : ℤ → S → S) (g : ℤ → T → T) (m : Meaning S) (n : Meaning T) →
      ((i : ℤ) (s : S) (t : T) → Kept s → Alike s t → Kept (f i s) × Alike (f i s) (g i t)) →
      ((s : S) → Kept s → Goes Kept (m s)) → Follows m n → (xs : List ℤ) → Follows (for_each f m xs) (for_each g n xs)
  turns_follow f g m n set keeps follows [] s t k r = λ free. (r, refl)
  turns_follow f g m n set keeps follows (i ∷ xs) s t k r =
      then_follows (m (f i s)) (n (g i t)) (for_each f m xs) (for_each g n xs)
      (follows (f i s) (g i t) (set i s t k r).0 (set i s t k r).1)
      (keeps (f i s) (set i s t k r).0)
      (turns_follow f g m n set keeps follows xs)

  pub loop_follows : (f : ℤ → S → S) (g : ℤ → T → T) (m : Meaning S) (n : Meaning T) (at : Loc) →
      ((i : ℤ) (s : S) (t : T) → Kept s → Alike s t → Kept (f i s) × Alike (f i s) (g i t)) →
      ((s : S) → Kept s → Goes Kept (m s)) → Follows m n → (turns : Option (List ℤ)) →
      Follows (loop_over f m at turns) (loop_over g n at turns)
  loop_follows f g m n at set keeps follows None s t k r = λ free. (r, refl)
  loop_follows f g m n at set keeps follows (Some xs) s t k r = turns_follow f g m n set keeps follows xs s t k r

  pub choice_follows : (z : ℤ) (part other : Meaning S) (first second : Meaning T) → Follows part first →
      Follows other second → Follows (choice z part other) (choice z first second)
  choice_follows (pos zero) part other first second f g = g
  choice_follows (pos (suc k)) part other first second f g = f
  choice_follows (negsuc k) part other first second f g = f

-- a statement that isn't stuck is ready
pub ready_ends : (T : Type 0) (Alike : Eager → T → Type 0) (test : Bool) (p : Eager × End) (s : Eager) (q : T × End) →
    (test ≡ true → Ends Alike p q) → Ends Alike (where_ready test p s) q
ready_ends T Alike true p s q k = k refl
ready_ends T Alike false p s q k = λ free. absurd free
