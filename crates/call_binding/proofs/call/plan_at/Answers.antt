use Rattle.std.proofs.Common.{◌≡◌, ◌∙◌, ap, map, List, ℕ}
use Rattle.krn_base.specs.declared.kind.ParamType.{ParamType}
use Rattle.call_binding.specs.Binding.{passed_to, value_of, length_of, params_at}
use Rattle.call_binding.specs.Seen.{passed}
use Rattle.call_binding.proofs.Plans.{params_here}
use Rattle.call_binding.proofs.call.plan_at.Goals as goal

pub returns : goal.returns
returns c =
    let given = map passed c.args.given.now in
    let params : c.as_slice.result.now ≡ params_at c.args.kernels.now c.args.kernel =
    params_here c.args.kernels.now c.args.kernel c.index-kernels-kernel.result c.requires.within c.as_slice.result.now
    c.as_slice.ensures in
    record {
      kernel = c.requires.found;
      within = c.requires.within;
      args = c.in_ok-args.ensures.values
          ∙ ap (map (λ (param : List ℕ × ParamType). value_of (passed_to given param.0))) params;
      lengths = c.in_ok-args.ensures.lengths
          ∙ ap (map (λ (param : List ℕ × ParamType). length_of (passed_to given param.0))) params;
      saved = c.in_ok-saves.ensures;
    }
