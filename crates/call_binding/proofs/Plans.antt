-- The tests 8 and 9, and the arguments of a plan.
use Rattle.std.proofs.Common.{◌≡◌, ℕ, ◌<◌, List, [], ◌∷◌, refl, ap, sym, ◌∙◌, length, map, get_or, Option, Some, None}
use Rattle.std.proofs.Common.{Result, Ok, Err}
use Rattle.std.proofs.lemmas.List.{get_or-map}
use Rattle.std.specs.Result.{IfOk}
use Rattle.krn_base.specs.declared.kind.ParamType.{ParamType}
use Rattle.call_binding.specs.Binding.{params_at}
use Rattle.call_binding.specs.Tests.{first_answer}
use Rattle.call_binding.specs.declared.head.KernelHead.{KernelHead}

-- where the first test says nothing, the second one decides
pub second_answer : (a b : Option ℕ) → a ≡ None → b ≡ first_answer (a ∷ b ∷ [])
second_answer (Some n) b e = absurd cc
second_answer None None e = refl
second_answer None (Some n) e = refl

-- where the first test answers, it decides
pub first_decides : (a b : Option ℕ) (n : ℕ) → a ≡ Some n → Some n ≡ first_answer (a ∷ b ∷ [])
first_decides (Some m) b n e = sym e
first_decides None b n e = absurd cc

pub params_here : (kernels : List KernelHead) (k : ℕ) (d : KernelHead) → k < length kernels
    → (ps : List (List ℕ × ParamType))
    → ps ≡ (get_or kernels k d).params → ps ≡ params_at kernels k
params_here kernels k d lt ps e = e ∙ sym (get_or-map (λ (h : KernelHead). h.params) kernels k d [] lt)
