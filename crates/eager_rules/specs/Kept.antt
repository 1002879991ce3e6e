-- What a run keeps of a call's buffers.
use Rattle.std.specs.Prelude.{◌≡◌, ℕ, ℤ, List, length, map, slice_get, Some}
use Rattle.view_places.specs.declared.shape.Array.{Array}
use Rattle.array_ops.specs.Arrays.{words_of}
use Rattle.eager_rules.specs.Fits.{Fits, IsFilled}
use Rattle.eager_rules.specs.declared.call.Call.{Call}
use Rattle.eager_rules.specs.declared.outcome.Outcome.{Outcome}
use Rattle.eager_rules.specs.declared.program.Instance.{Instance}
use Rattle.eager_rules.specs.declared.program.Program.{Program}

-- the instance that the kernel with this number is
pub record IsKernel (program : Program) (kernel : ℕ) (f : Instance) : Type 0 where
  pub number : ℕ
  pub numbered : slice_get program.kernels kernel ≡ Some number
  pub there : slice_get program.instances number ≡ Some f

-- a call fits an instance
abbrev pub FitsInstance : Instance → Call → Type 0
FitsInstance f call = Fits (map (λ p. p.1) f.params) call

-- an array with other words
abbrev pub holding : List ℤ → Array → Array
holding words a = record { kind = a.kind; shape = a.shape; words = words }

-- There are as many final buffers as the call has, and each has as many words as before, of the buffer's kind.
pub record KeepsBuffers (call : Call) (o : Outcome) : Type 0 where
  pub count : length o.buffers ≡ length call.buffers
  pub filled : (number : ℕ) (a : Array) → slice_get call.buffers number ≡ Some a →
      IsFilled (holding (words_of o.buffers number) a)
