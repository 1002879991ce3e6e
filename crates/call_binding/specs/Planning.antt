-- What is made of items that are to be taken apart.
use Rattle.std.specs.Prelude.{◌≡◌, ℕ, ◌<◌, List, [], ◌∷◌, map, length, Option, Some, None, Result, Ok, Err}
use Rattle.std.specs.List.{filter_map, position}
use Rattle.eager_rules.specs.State.{bound_to}
use Rattle.view_places.specs.declared.shape.Array.{Array}
use Rattle.call_binding.specs.Binding.{BoundMeaning, Passed, passed_by, passed_to, value_of, length_of, params_at}
use Rattle.call_binding.specs.Binding.{save_by, fits, unfitting, words_of}
use Rattle.call_binding.specs.Tests.{first_answer, numbered}
use Rattle.call_binding.specs.Views.{buffers, is_faulty}
use Rattle.call_binding.specs.declared.call.Plan.{Plan}
use Rattle.call_binding.specs.declared.head.KernelHead.{KernelHead}
use Rattle.call_binding.specs.declared.items.Item.{Item}

abbrev pub refusal_of : Result Plan ℕ → Option ℕ
refusal_of (Ok plan) = None
refusal_of (Err n) = Some n

-- test 9 with these buffers, and the tests 8 and 9
abbrev pub unfitting_among : List KernelHead → List ℕ → List Item → List (List ℕ × Array) → Option ℕ
unfitting_among kernels name items held = unfitting (position (fits name (filter_map (passed_by held) items)) kernels)

abbrev pub late_among : List KernelHead → List ℕ → List Item → List (List ℕ × Array) → Option ℕ
late_among kernels name items held =
    first_answer (numbered (position (is_faulty held) items) ∷ unfitting_among kernels name items held ∷ [])

-- A plan is of the first kernel that fits what is given, and of the saves among these buffers.
pub record IsPlanOf (kernels : List KernelHead) (name : List ℕ) (given : List Passed) (held : List (List ℕ × Array))
    (items : List Item) (plan : Plan) : Type 0 where
  pub kernel : position (fits name given) kernels ≡ Some plan.kernel
  pub within : plan.kernel < length kernels
  pub args : map bound_to plan.args ≡ map (λ param. value_of (passed_to given param.0)) (params_at kernels plan.kernel)
  pub lengths : map words_of plan.args
      ≡ map (λ param. length_of (passed_to given param.0)) (params_at kernels plan.kernel)
  pub saved : plan.saves ≡ filter_map (save_by held) items

-- a plan with what the items pass among these buffers, and among their own
abbrev pub IsPlanAmong : List KernelHead → List ℕ → List Item → List (List ℕ × Array) → Plan → Type 0
IsPlanAmong kernels name items held plan = IsPlanOf kernels name (filter_map (passed_by held) items) held items plan

abbrev pub IsPlan : List KernelHead → List ℕ → List Item → Plan → Type 0
IsPlan kernels name items plan = IsPlanAmong kernels name items (buffers items) plan

-- the call of a plan
abbrev pub planned_call : Plan → List Item → BoundMeaning
planned_call plan items = record {
  kernel = plan.kernel;
  names = map (λ buffer. buffer.0) (buffers items);
  arrays = map (λ buffer. buffer.1) (buffers items);
  args = map bound_to plan.args;
  lengths = map words_of plan.args;
  saves = plan.saves;
}
