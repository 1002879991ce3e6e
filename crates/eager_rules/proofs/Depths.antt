-- A call where the depth isn't used up.
use Rattle.std.proofs.Common.{arith, ◌≡◌, ◌-◌, ℕ, zero, suc, List, slice_get, ap, refl}
use Rattle.eager_rules.specs.Eager.{called, calls_at}
use Rattle.eager_rules.specs.Holding.{called_held, calls_held}
use Rattle.eager_rules.specs.declared.program.Instance.{Instance}

pub calls_below : (instances : List Instance) (depth instance : ℕ) → (depth ≡ 0 → ⊥) →
    calls_at instances depth instance ≡ called (calls_at instances (depth - 1)) (slice_get instances instance)
calls_below instances zero instance h = absurd (h refl)
calls_below instances (suc depth) instance h =
    let below : depth ≡ suc depth - 1 = omega arith in
    ap (λ (d : ℕ). called (calls_at instances d) (slice_get instances instance)) below

pub held_below : (instances : List Instance) (depth instance : ℕ) → (depth ≡ 0 → ⊥) →
    calls_held instances depth instance ≡
    called_held (calls_held instances (depth - 1)) (slice_get instances instance)
held_below instances zero instance h = absurd (h refl)
held_below instances (suc depth) instance h =
    let below : depth ≡ suc depth - 1 = omega arith in
    ap (λ (d : ℕ). called_held (calls_held instances d) (slice_get instances instance)) below
