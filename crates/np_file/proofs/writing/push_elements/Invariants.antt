use Rattle.std.proofs.Common.{◌≡◌, ◌++◌, take}
use Rattle.std.specs.Int.{w64}
use Rattle.std.specs.Int.RustNames.{FitsSigned}
use Rattle.std.specs.List.{flat_map, AllByRecursion}
use Rattle.np_file.specs.Npy.{element}
use Rattle.np_file.proofs.writing.push_elements.Given as goal

abbrev pub invariant-loop-word : goal.invariant-loop-word
invariant-loop-word l = record {
  text : l.out.items ≡
      l.fn.out.items ++ flat_map (element l.kind) (take l.word-index l.words);
  fits : AllByRecursion (FitsSigned w64)
      (take l.word-index l.words);
}
