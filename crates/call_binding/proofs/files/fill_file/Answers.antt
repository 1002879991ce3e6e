use Rattle.std.proofs.Common.{◌∙◌, subst, List, ℕ}
use Rattle.std.specs.Result.{IsErrOf}
use Rattle.host_io.specs.declared.files.LoadFault.TheVariants.{TooLong}
use Rattle.call_binding.specs.Files.{IsTooLong}
use Rattle.call_binding.proofs.files.fill_file.Goals as goal

pub returns-in-Err-TooLong-clause-fills : goal.returns-in-Err-TooLong-clause-fills
returns-in-Err-TooLong-clause-fills g c =
    let is : IsErrOf c.load_array.result TooLong = cc in
    subst (λ (path : List ℕ). IsTooLong (g.F.Files.held c.args.files.now path)) (c.as_text.ensures
    ∙ c.as_slice.ensures) (c.load_array.ensures.long is)
