use Rattle.std.proofs.Common.{◌≡◌, length, ap, subst, sym, ◌∙◌, arith}
use Rattle.std.specs.Int.{w64}
use Rattle.std.specs.Int.RustNames.{FitsSigned}
use Rattle.std.specs.List.{AllByRecursion}
use Rattle.std.proofs.lemmas.Grind.{common_steps}
use Rattle.view_places.specs.Shape.{extents}
use Rattle.np_file.specs.Npy.{IsNpy, dictionary, file_text}
use Rattle.np_file.proofs.Printed.{printed, header-aligned, padding-least}
use Rattle.np_file.proofs.writing.write_npy.Goals as goal

pub returns-clause-back : goal.returns-clause-back
returns-clause-back c =
    let a = c.args.array.now in
    let len : length (extents a.shape) ≡ a.shape.rank = grind (arith, common_steps) in
    let words = c.as_slice-words.ensures in
    let fits = subst (AllByRecursion (FitsSigned w64)) words c.in_ok-file_of.ensures.fits in
    subst (λ bytes. IsNpy bytes a) (sym (c.in_ok-file_of.ensures.text ∙ ap (file_text a.kind (extents a.shape)) words))
    (printed a c.requires.shape len c.requires.rank c.requires.small c.requires.count c.requires.words fits)

pub returns-clause-aligned : goal.returns-clause-aligned
returns-clause-aligned c = header-aligned c.args.array.now.kind (extents c.args.array.now.shape)

pub returns-clause-least : goal.returns-clause-least
returns-clause-least c = padding-least (length (dictionary c.args.array.now.kind (extents c.args.array.now.shape)))
