-- Rounds that come after a round.
use Rattle.std.proofs.Common.{arith, ◌≡◌, ◌∙◌, ap, sym, refl, ℕ, zero, suc, ◌+◌, ◌<◌, Bool, true, false, nat_lt}
use Rattle.std.proofs.Common.{if◌then◌else◌}
use Rattle.std.proofs.lemmas.Bool.Decides.{nat_tests}
use Rattle.eager_rules.specs.declared.program.Instance.{Instance}
use Rattle.const_fold.specs.Folded.{bindings, round, rounds}

-- as many rounds as there are bindings, and one more, are enough
rounds_enough : (n m : ℕ) (f : Instance) → bindings f < n → bindings f < m → rounds n f ≡ rounds m f
rounds_enough zero m f h k = absurd (omega (arith, h))
rounds_enough (suc n) zero f h k = absurd (omega (arith, k))
rounds_enough (suc n) (suc m) f h k =
    by_test (nat_lt (bindings (round f)) (bindings f))
    (λ e. rounds_enough n m (round f) (grind (arith, nat_tests)) (grind (arith, nat_tests)))
  where
    by_test : (b : Bool) → (b ≡ true → rounds n (round f) ≡ rounds m (round f)) →
        (if b then rounds n (round f) else round f) ≡ (if b then rounds m (round f) else round f)
    by_test true same = same refl
    by_test false same = refl

pub another_round : (before after : ℕ) (last folded f whole : Instance) → folded ≡ round last →
    before ≡ bindings last → after ≡ bindings folded → rounds (before + 1) last ≡ whole → after < before →
    rounds (after + 1) folded ≡ whole
another_round before after last folded f whole e b a given less =
    let one_more : suc before ≡ before + 1 = omega arith in
    let fewer : after ≡ bindings (round last) = a ∙ ap bindings e in
    let test : nat_lt (bindings (round last)) (bindings last) ≡ true = grind (arith, nat_tests) in
    let taken : rounds (suc before) last ≡ rounds before (round last) =
    ap (λ (t : Bool). if t then rounds before (round last) else round last) test in
    rounds_enough (after + 1) before folded (omega (arith, a)) (omega (arith, a, less))
    ∙ (ap (rounds before) e ∙ (sym taken ∙ (ap (λ (n : ℕ). rounds n last) one_more ∙ given)))
