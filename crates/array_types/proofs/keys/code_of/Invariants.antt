use Rattle.std.proofs.Common.{◌≡◌, ◌++◌, drop}
use Rattle.array_types.specs.Keys.{code, codes}
use Rattle.array_types.proofs.keys.code_of.Given as goal

-- what is left has the last numbers
abbrev pub invariant-loop-ty : goal.invariant-loop-ty
invariant-loop-ty l = l.code.items ++ codes (drop l.ty-index l.types) ≡ code l.function l.types
