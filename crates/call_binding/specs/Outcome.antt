-- What binding answers.
use Rattle.std.specs.Prelude.{◌≡◌, ℕ, List, Result, Ok, Err}
use Rattle.std.specs.List.{All}
use Rattle.host_io.specs.Counts.{Rose}
use Rattle.host_io.specs.Files.{Held}
use Rattle.call_binding.specs.Binding.{Call, Refused, Asks, ComesBy, Asked, meaning}
use Rattle.call_binding.specs.Files.{IsTooLong}
use Rattle.call_binding.specs.Fitting.{IsFitting, IsSave}
use Rattle.call_binding.specs.Reading.{read_from}
use Rattle.call_binding.specs.Sound.{IsArray}
use Rattle.call_binding.specs.declared.head.BindStop.{BindStop}
use Rattle.call_binding.specs.declared.head.BindStop.TheVariants as stop
use Rattle.call_binding.specs.declared.head.BoundCall.{BoundCall}
use Rattle.call_binding.specs.declared.head.KernelHead.{KernelHead}
use Rattle.call_binding.specs.declared.items.Item.{Item}

-- The file that is to be read next is too long.
pub record MeetsLongBy (held : List ℕ
    → Held) (kernels : List KernelHead) (name : List ℕ) (read : Result (List Item) ℕ) : Type 0 where
  pub path : List ℕ
  pub comes : ComesBy held kernels name read (Asks path)
  pub long : IsTooLong (held path)

abbrev pub MeetsLong : (List ℕ → Held) → Asked → Type 0
MeetsLong held a = MeetsLongBy held a.kernels a.name (read_from 1 a.texts)

-- what an answer says of items that are read
abbrev pub Binds : (List ℕ → Held) → ℕ → ℕ → List KernelHead → List ℕ → Result (List Item) ℕ
    → Result BoundCall BindStop → Type 0
Binds held before after kernels name read (Ok bound) = ComesBy held kernels name read (Call (meaning bound))
Binds held before after kernels name read (Err (stop.Item n)) = ComesBy held kernels name read (Refused n)
Binds held before after kernels name read (Err stop.LoadFailed) = Rose before after
Binds held before after kernels name read (Err stop.TooLong) = MeetsLongBy held kernels name read
Binds held before after kernels name read (Err stop.Memory) = Unit {0}

-- What holds of a bound call: it fits its kernel, its buffers hold arrays, and what is saved is there.
pub record IsGood (kernels : List KernelHead) (name : List ℕ) (bound : BoundCall) : Type 0 where
  pub fits : IsFitting kernels name bound
  pub arrays : All IsArray bound.call.buffers
  pub saves : All (IsSave bound.call.buffers) bound.saves
