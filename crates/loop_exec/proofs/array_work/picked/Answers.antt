use Rattle.std.proofs.Common.{◌∙◌, ap, sym, List}
use Rattle.array_ops.specs.Arrays.{array_of}
use Rattle.array_ops.specs.Subscripts.{picked}
use Rattle.array_ops.specs.declared.subscript.Subscript.{Subscript}
use Rattle.eager_rules.specs.Works.{as_array, valued}
use Rattle.loop_exec.specs.Banks.{words_bound}
use Rattle.loop_exec.proofs.PickLemmas.{subscripts_are}
use Rattle.loop_exec.proofs.array_work.picked.Goals as goal

pub returns : goal.returns
returns c buffers =
    c.view_or_fault.ensures buffers ∙
    ap (λ (found : List Subscript). valued buffers c.args.at (as_array (picked found (array_of c.args.view.now))))
    (c.as_slice.ensures.value ∙ c.in_ok-subscripts.ensures ∙
    sym (subscripts_are (words_bound c.args.words.now) c.args.subs.now))
