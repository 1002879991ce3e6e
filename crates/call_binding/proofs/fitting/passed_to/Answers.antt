use Rattle.std.proofs.Common.{◌∙◌, ap, sym, option_map}
use Rattle.std.specs.Str.{bytes_eq}
use Rattle.call_binding.specs.Seen.{passed}
use Rattle.call_binding.proofs.Lists.{find_in_map}
use Rattle.call_binding.proofs.fitting.passed_to.Goals as goal

pub returns-in-Some : goal.returns-in-Some
returns-in-Some c =
    ap (option_map passed) c.in-Some.ensures
    ∙ sym (find_in_map (λ p. bytes_eq p.parameter c.args.parameter.now) passed c.args.given.now)

pub returns-in-None : goal.returns-in-None
returns-in-None c =
    ap (option_map passed) c.in-None.ensures
    ∙ sym (find_in_map (λ p. bytes_eq p.parameter c.args.parameter.now) passed c.args.given.now)
