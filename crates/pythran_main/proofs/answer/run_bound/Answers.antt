use Rattle.std.proofs.Common.{◌≡◌, ◌∙◌, ap, map, List, ℕ, Option, is_some}
use Rattle.call_binding.specs.Binding.{BoundMeaning, meaning as bound_meaning}
use Rattle.call_binding.specs.declared.head.Save as bound_save
use Rattle.call_report.specs.Report.{report_of}
use Rattle.eager_rules.specs.declared.outcome.Counts.{Counts}
use Rattle.eager_rules.specs.declared.outcome.Outcome.{Outcome}
use Rattle.view_places.specs.declared.shape.Array.{Array}
use Rattle.pythran_main.specs.Answer.{product_of, Run, run_of, buffer_heads, saved_of, final_arrays}
use Rattle.pythran_main.specs.Saves.{Save}
use Rattle.pythran_main.specs.Steps.{save_of}
use Rattle.pythran_main.proofs.Buffers.{product_so, run_so}
use Rattle.pythran_main.proofs.answer.run_bound.Goals as goal

pub returns : goal.returns
returns c =
    let o : Outcome = c.in_ok-outcome.field-0.outcome in
    let counts : Option Counts = c.in_ok-outcome.field-0.counts in
    let made : Run = record { outcome = o; counts = counts } in
    let b : BoundMeaning = bound_meaning c.args.bound in
    let r : Run = run_of c.args.command c.args.found.now b in
    let files : List Save = map save_of c.in_ok-run_files.field-0 in
    let names_are : c.as_slice.result.now ≡ b.names = c.as_slice.ensures in
    let arrays_are : c.as_slice-2.result.now ≡ b.arrays = c.as_slice-2.ensures in
    let saves_are : c.as_slice-3.result.now ≡ b.saves = c.as_slice-3.ensures in
    let fault : c.is_some-has_fault.result ≡ is_some o.fault = cc in
    let text : c.in_ok-text.text ≡ report_of (buffer_heads b.names b.arrays) o counts =
    c.in_ok-text.ensures
    ∙ ap (λ (n : List (List ℕ)). report_of (buffer_heads n c.as_slice-2.result.now) o counts) names_are
    ∙ ap (λ (a : List Array). report_of (buffer_heads b.names a) o counts) arrays_are in
    let saved : files ≡ map (saved_of (final_arrays b.arrays o.buffers)) b.saves =
    c.in_ok-run_files.ensures
    ∙ ap (λ (s : List bound_save.Save). map (saved_of (final_arrays b.arrays o.buffers)) s) saves_are in
    product_so b made c.in_ok-text.text c.is_some-has_fault.result files text fault saved
    ∙ ap (λ (x : Run). product_of b x)
    (run_so o r.outcome counts r.counts c.in_ok-outcome.ensures.outcome c.in_ok-outcome.ensures.counts)
