-- What binding comes to, from what its parts come to.
use Rattle.std.proofs.Common.{◌≡◌, ℕ, ◌<◌, List, [], ◌∷◌, map, refl, ap, sym, ◌∙◌, subst, length, Option, Some, None}
use Rattle.std.proofs.Common.{Result, Ok, Err}
use Rattle.std.specs.List.{All}
use Rattle.std.specs.Option.{unwrap_or}
use Rattle.std.specs.Result.{IfOk, IsErrOf}
use Rattle.eager_rules.specs.State.{bound_to}
use Rattle.host_io.specs.Counts.{Rose}
use Rattle.host_io.specs.Files.{Held}
use Rattle.view_places.specs.declared.shape.Array.{Array}
use Rattle.call_binding.specs.Binding.{Binding, Call, Refused, Asks, ComesBy, BoundMeaning, meaning, words_of, unless}
use Rattle.call_binding.specs.Binding.{bind_filled, bound_at, late, fitting}
use Rattle.call_binding.specs.Files.{Filled, Whole, NoArray, Wants, filled}
use Rattle.call_binding.specs.Filling.{Fills, FillsTo}
use Rattle.call_binding.specs.Fitting.{IsFitting, IsSave}
use Rattle.call_binding.specs.Outcome.{Binds, IsGood, MeetsLongBy}
use Rattle.call_binding.specs.Planning.{IsPlan, planned_call}
use Rattle.call_binding.specs.Sound.{IsArray}
use Rattle.call_binding.specs.Tests.{early}
use Rattle.call_binding.specs.Views.{buffers}
use Rattle.call_binding.specs.declared.call.Plan.{Plan}
use Rattle.call_binding.specs.declared.head.BindStop.{BindStop}
use Rattle.call_binding.specs.declared.head.BindStop.TheVariants as stop
use Rattle.call_binding.specs.declared.head.BoundCall.{BoundCall}
use Rattle.call_binding.specs.declared.head.KernelHead.{KernelHead}
use Rattle.call_binding.specs.declared.items.Item.{Item}

module _ (held : List ℕ → Held) (kernels : List KernelHead) (name : List ℕ) where
  pub misspelled : (n : ℕ) → ComesBy held kernels name (Err n) (Refused n)
  misspelled n = record { reads = []; are_read = tt; is = refl }

  module _ (items : List Item) where
    pub refused_early : (n : ℕ) → early kernels name items ≡ Some n → ComesBy held kernels name (Ok items) (Refused n)
    refused_early n e =
        record { reads = []; are_read = tt; is = ap (λ o. unless o (bind_filled kernels name (filled 1 items []))) e }

    module _ (none : early kernels name items ≡ None) where
      pub comes : (full : Filled) (binding : Binding) → FillsTo held items full
          → bind_filled kernels name full ≡ binding → ComesBy held kernels name (Ok items) binding
      comes full binding f e = record {
        reads = f.reads;
        are_read = f.are_read;
        is = ap (λ o. unless o (bind_filled kernels name (filled 1 items f.reads))) none
            ∙ (ap (bind_filled kernels name) f.is ∙ e);
      }

      pub by_fault : (before after : ℕ) (fault : BindStop) → Fills held before after items (Err fault)
          → Binds held before after kernels name (Ok items) (Err fault)
      by_fault before after (stop.Item n) f = comes (NoArray n) (Refused n) f refl
      by_fault before after stop.LoadFailed f = f
      by_fault before after stop.TooLong f =
          record { path = f.path; comes = comes (Wants f.path) (Asks f.path) f.wants refl; long = f.long }
      by_fault before after stop.Memory f = tt

-- the call of a plan
pub planned : (kernels : List KernelHead) (name : List ℕ) (items : List Item) (plan : Plan)
    → IsPlan kernels name items plan → None ≡ late kernels name items
    → Call (planned_call plan items) ≡ bind_filled kernels name (Whole items)
planned kernels name items plan is none =
    let same : planned_call plan items ≡ bound_at kernels items plan.kernel = λ i. record {
      kernel = plan.kernel;
      names = map (λ buffer. buffer.0) (buffers items);
      arrays = map (λ buffer. buffer.1) (buffers items);
      args = is.args i;
      lengths = is.lengths i;
      saves = is.saved i;
    } in
    ap Call (same ∙ ap (bound_at kernels items) (sym (ap (λ o. unwrap_or o 0) is.kernel)))
    ∙ ap (λ o. unless o (Call (bound_at kernels items (unwrap_or (fitting kernels name items) 0)))) none

pub refused_late : (kernels : List KernelHead) (name : List ℕ) (items : List Item) (n : ℕ)
    → Some n ≡ late kernels name items → Refused n ≡ bind_filled kernels name (Whole items)
refused_late kernels name items n e =
    ap (λ o. unless o (Call (bound_at kernels items (unwrap_or (fitting kernels name items) 0)))) e

-- the clauses of the public call
module _ (held : List ℕ
    → Held) (before after : ℕ) (kernels : List KernelHead) (name : List ℕ) (read : Result (List Item) ℕ) where
  pub bound : (r : Result BoundCall BindStop) → Binds held before after kernels name read r
      → IfOk r (λ b. ComesBy held kernels name read (Call (meaning b)))
  bound (Ok b) h = h
  bound (Err e) h = tt

  pub refused : (r : Result BoundCall BindStop) → Binds held before after kernels name read r → (n : ℕ)
      → IsErrOf r (stop.Item n) → ComesBy held kernels name read (Refused n)
  refused (Ok b) h n e = absurd cc
  refused (Err (stop.Item m)) h n e = let same : m ≡ n =
      cc in subst (λ (k : ℕ). ComesBy held kernels name read (Refused k)) same h
  refused (Err stop.LoadFailed) h n e = absurd cc
  refused (Err stop.TooLong) h n e = absurd cc
  refused (Err stop.Memory) h n e = absurd cc

  pub load_failed : (r : Result BoundCall BindStop) → Binds held before after kernels name read r
      → IsErrOf r stop.LoadFailed → Rose before after
  load_failed (Ok b) h e = absurd cc
  load_failed (Err (stop.Item m)) h e = absurd cc
  load_failed (Err stop.LoadFailed) h e = h
  load_failed (Err stop.TooLong) h e = absurd cc
  load_failed (Err stop.Memory) h e = absurd cc

  pub too_long : (r : Result BoundCall BindStop) → Binds held before after kernels name read r
      → IsErrOf r stop.TooLong → MeetsLongBy held kernels name read
  too_long (Ok b) h e = absurd cc
  too_long (Err (stop.Item m)) h e = absurd cc
  too_long (Err stop.LoadFailed) h e = absurd cc
  too_long (Err stop.TooLong) h e = h
  too_long (Err stop.Memory) h e = absurd cc

module _ (kernels : List KernelHead) (name : List ℕ) {E : Type 0} where
  pub good_fits : (r : Result BoundCall E) → IfOk r (IsGood kernels name) → IfOk r (IsFitting kernels name)
  good_fits (Ok b) h = h.fits
  good_fits (Err e) h = tt

  pub good_arrays : (r : Result BoundCall E) → IfOk r (IsGood kernels name) → IfOk r (λ b. All IsArray b.call.buffers)
  good_arrays (Ok b) h = h.arrays
  good_arrays (Err e) h = tt

  pub good_saves : (r : Result BoundCall E) → IfOk r (IsGood kernels name)
      → IfOk r (λ b. All (IsSave b.call.buffers) b.saves)
  good_saves (Ok b) h = h.saves
  good_saves (Err e) h = tt
