-- What holds of a call that binds.
use Rattle.std.specs.Prelude.{◌≡◌, ℕ, ◌<◌, List, map, length, slice_get, Some}
use Rattle.std.specs.Str.{IsUtf8}
use Rattle.eager_rules.specs.Fits.{Fits}
use Rattle.view_places.specs.declared.shape.Array.{Array}
use Rattle.call_binding.specs.declared.head.BoundCall.{BoundCall}
use Rattle.call_binding.specs.declared.head.KernelHead.{KernelHead}
use Rattle.call_binding.specs.declared.head.Save.{Save}

-- The call's kernel is one of these, has this name, and takes the call.
pub record IsFitting (kernels : List KernelHead) (name : List ℕ) (bound : BoundCall) : Type 0 where
  pub head : KernelHead
  pub is_there : slice_get kernels bound.kernel ≡ Some head
  pub name_is : head.name ≡ name
  pub fits : Fits (map (λ param. param.1) head.params) bound.call

-- A save is of one of the buffers, under a path that is UTF-8.
pub record IsSave (arrays : List Array) (save : Save) : Type 0 where
  pub buffer : save.buffer < length arrays
  pub path : IsUtf8 save.path
