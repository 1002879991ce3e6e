use Rattle.std.proofs.Common.{◌≡◌, map, take}
use Rattle.eager_rules.specs.State.{bound_to}
use Rattle.call_binding.specs.Binding.{passed_to, value_of, length_of, words_of}
use Rattle.call_binding.specs.Seen.{passed}
use Rattle.call_binding.proofs.fitting.args_for.Given as goal

abbrev pub invariant-loop-param : goal.invariant-loop-param
invariant-loop-param l =
    record {
      values : map bound_to l.args.items
          ≡ map (λ param. value_of (passed_to (map passed l.given) param.0)) (take l.param-index l.params);
      lengths : map words_of l.args.items
          ≡ map (λ param. length_of (passed_to (map passed l.given) param.0)) (take l.param-index l.params);
    }
