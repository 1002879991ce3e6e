-- Effects say which instances write no parameter and can't fault.
use Rattle.std.proofs.Common.{arith, ◌≡◌, ◌∙◌, ◌+◌, ◌<◌, ◌≤◌, ap, sym, subst, refl, ℕ, zero, suc, Bool, true, false}
use Rattle.std.proofs.Common.{◌&&◌, not, List, [], ◌∷◌, length, Option, Some, slice_get, unwrap_or}
use Rattle.std.proofs.Common.{inl, inr}
use Rattle.std.proofs.lemmas.Bool.{cases_lt}
use Rattle.std.specs.Prelude.{◌⊎◌}
use Rattle.std.specs.List.{list_all, range_with_len}
use Rattle.eager_rules.specs.declared.program.Instance.{Instance}
use Rattle.eager_rules.specs.declared.program.Program.{Program}
use Rattle.purity.specs.Answers.{AreEffects, may_fault_in, may_write_in}
use Rattle.purity.specs.Effects.{Comes, Writes}
use Rattle.purity.specs.Effects.{Itself, Passed, Returned, Stored, Handed}
use Rattle.purity.specs.declared.answers.Effects.{Effects}
use Rattle.inline.specs.Idle.{AreCalm, calm_by, calm_in}

same_instance : (f g : Instance) → Some g ≡ Some f → g ≡ f
same_instance f g is = ap (λ (o : Option Instance). unwrap_or o g) is

-- a name comes from parameters alone
comes_below : (instances : List Instance) (number name param : ℕ) → Comes instances number name param →
    (f : Instance) → slice_get instances number ≡ Some f → param < length f.params
comes_below instances number name param (Itself number' param' g at lt) f is =
    subst (λ (f : Instance). param' < length f.params) (same_instance f g (sym at ∙ is)) lt
comes_below instances number name param (Passed number' name' from param' y s p c) f is =
    comes_below instances number' from param' c f is
comes_below instances number name param (Returned number' name' from param' to callee args vs j r inner s a b t v d c)
    f is = comes_below instances number' from param' c f is

writes_below : (instances : List Instance) (number param : ℕ) → Writes instances number param →
    (f : Instance) → slice_get instances number ≡ Some f → param < length f.params
writes_below instances number param (Stored number' param' name y s st c) f is =
    comes_below instances number' name param' c f is
writes_below instances number param (Handed number' param' name to callee args r s a w c) f is =
    comes_below instances number' name param' c f is

left : (a b : Bool) → a && b ≡ true → a ≡ true
left true b h = refl
left false b h = h

right : (a b : Bool) → a && b ≡ true → b ≡ true
right true b h = h
right false b h = absurd (let e : false ≡ true = h in cc)

both : (a b : Bool) → a ≡ true → b ≡ true → a && b ≡ true
both true b h k = k
both false b h k = h

here_or_later : (p : ℕ → Bool) (a k : ℕ) → a ≤ k → p a ≡ true → (a < k → p k ≡ true) → (a < k) ⊎ (k ≤ a) → p k ≡ true
here_or_later p a k low here later (inl past) = later past
here_or_later p a k low here later (inr at) =
    let same : a ≡ k = omega (arith, low, at) in
    subst (λ (i : ℕ). p i ≡ true) same here

pub one_of : (p : ℕ → Bool) (a n k : ℕ) → list_all p (range_with_len a n) ≡ true → a ≤ k → k < a + n → p k ≡ true
one_of p a zero k all low high = absurd (omega (arith, low, high))
one_of p a (suc n) k all low high =
    here_or_later p a k low (left (p a) (list_all p (range_with_len (a + 1) n)) all)
    (λ past. one_of p (a + 1) n k (right (p a) (list_all p (range_with_len (a + 1) n)) all) (omega (arith, past))
    (omega (arith, high))) (cases_lt a k)

every : (p : ℕ → Bool) → ((k : ℕ) → p k ≡ true) → (ks : List ℕ) → list_all p ks ≡ true
every p each [] = refl
every p each (k ∷ ks) = both (p k) (list_all p ks) (each k) (every p each ks)

off : (b : Bool) → not b ≡ true → b ≡ true → ⊥
off true h k = let e : false ≡ true = h in cc
off false h k = let e : false ≡ true = k in cc

on : (b : Bool) → (b ≡ true → ⊥) → not b ≡ true
on true h = absurd (h refl)
on false h = refl

module _ (program : Program) (effects : Effects) (exact : AreEffects program effects) where
  abbrev unwritten : ℕ → ℕ → Bool
  unwritten number param = not (may_write_in effects number param)

  abbrev steady : ℕ → Bool
  steady number = not (may_fault_in effects number)

  abbrev untouched : ℕ → Instance → Bool
  untouched number f = list_all (unwritten number) (range_with_len 0 (length f.params))

  calm_is : (number : ℕ) (f : Instance) → slice_get program.instances number ≡ Some f →
      calm_in program effects number ≡ (steady number && untouched number f)
  calm_is number f is = ap (calm_by effects number) is

  writes_none : (number : ℕ) (f : Instance) → slice_get program.instances number ≡ Some f →
      untouched number f ≡ true → (param : ℕ) → Writes program.instances number param → ⊥
  writes_none number f is none param writes =
      let low : param < length f.params = writes_below program.instances number param writes f is in
      off (may_write_in effects number param)
      (one_of (unwritten number) 0 (length f.params) param none (omega arith) (omega (arith, low)))
      (exact.writes number param writes)

  pub calm_exactly : AreCalm program.instances (calm_in program effects)
  calm_exactly = record {
    sound = λ number f is calm.
        let parts : steady number && untouched number f ≡ true = sym (calm_is number f is) ∙ calm in
        record {
          writes_none = writes_none number f is (right (steady number) (untouched number f) parts);
          never_faults = λ faults. off (may_fault_in effects number)
              (left (steady number) (untouched number f) parts) (exact.faults number faults);
        };
    whole = λ number f is calm. calm_is number f is
        ∙ both (steady number) (untouched number f)
        (on (may_fault_in effects number) (λ faults. calm.never_faults (exact.faulty number faults)))
        (every (unwritten number)
        (λ param. on (may_write_in effects number param)
        (λ writes. calm.writes_none param (exact.written number param writes)))
        (range_with_len 0 (length f.params)));
  }
