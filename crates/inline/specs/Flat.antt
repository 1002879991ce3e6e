-- The flat form: bodies of called instances in place of the calls, each copy with names of its own. (Which moves stand
-- for a call, and which calls are left out, is this project's own rule.)
use Rattle.std.specs.Prelude.{ℕ, zero, suc, ◌+◌, ◌&&◌, Bool, true, false, List, [], ◌∷◌, ◌++◌, map, length, take}
use Rattle.std.specs.Prelude.{slice_get, Option, Some, None}
use Rattle.std.specs.List.{flat_map, range_with_len}
use Rattle.eager_rules.specs.Types.{Ty}
use Rattle.eager_rules.specs.declared.program.Core.{Core}
use Rattle.eager_rules.specs.declared.program.Core.TheOpen as c
use Rattle.eager_rules.specs.declared.program.Core.TheVariants as core
use Rattle.eager_rules.specs.declared.program.Core.TheFolds.{fold-Core}
use Rattle.eager_rules.specs.declared.program.Instance.{Instance}
use Rattle.eager_rules.specs.declared.program.Oper.{Oper}
use Rattle.eager_rules.specs.declared.program.Program.{Program}
use Rattle.inline.specs.Idle.{is_none}
use Rattle.inline.specs.Own.{own_of}
use Rattle.inline.specs.Places.{copied, given_back, home, moves, numbered, place_for, placed, renamed, renamed_pairs}
use Rattle.inline.specs.Places.{targets}
use Rattle.inline.specs.declared.moves.Out.{Out}
use Rattle.inline.specs.declared.moves.Out.TheVariants.{Returns, Moves}
use Rattle.inline.specs.declared.places.Place.{Place}

-- What statements become behind so many names: statements without calls, and the types of the new names, in order.
pub record Lowered : Type 0 where
  pub body : List Core
  pub fresh : List Ty

abbrev pub Lowering : Type 0
Lowering = ℕ → Lowered

-- one after another, the names of each behind those of the one before
abbrev pub in_turn : List Lowering → Lowering
in_turn [] k = record { body = []; fresh = [] }
in_turn (first ∷ rest) k = record {
  body = (first k).body ++ (in_turn rest (k + length (first k).fresh)).body;
  fresh = (first k).fresh ++ (in_turn rest (k + length (first k).fresh)).fresh;
}

-- statements without new names
abbrev pub only : List Core → Lowering
only body k = record { body = body; fresh = [] }

abbrev pub flat_if : Oper → List Lowering → List Lowering → Lowering
flat_if cond part other k = record {
  body = core.If cond (in_turn part k).body (in_turn other (k + length (in_turn part k).fresh)).body ∷ [];
  fresh = (in_turn part k).fresh ++ (in_turn other (k + length (in_turn part k).fresh)).fresh;
}

abbrev pub flat_for : (List Core → Core) → List Lowering → Lowering
flat_for loop body k = record { body = loop (in_turn body k).body ∷ []; fresh = (in_turn body k).fresh }

-- What stands for a call of the instance with a number, by the names of its values and its arguments.
abbrev pub Inline : Type 0
Inline = ℕ → List ℕ → List Oper → Lowering

-- a call for no value of an instance that changes nothing and can't fault is left out
abbrev pub unless_left : Bool → Lowering → Lowering
unless_left true form = only []
unless_left false form = form

abbrev pub call_form : (ℕ → Bool) → Inline → Place → List ℕ → ℕ → List Oper → Lowering
call_form calm flat p to instance args =
    unless_left (is_none to && calm instance) (flat instance (map (placed p) to) (map (renamed p) args))

-- A statement of an instance whose names stand at a place, with what those of its blocks become.
abbrev pub flat_step : (ℕ → Bool) → Inline → Out → Place → c.Core-F Lowering → Lowering
flat_step calm flat out p (c.Call to instance args) = call_form calm flat p to instance args
flat_step calm flat out p (c.If cond part other) = flat_if (renamed p cond) part other
flat_step calm flat out p (c.For var lo hi by at omp body) =
    flat_for (core.For (placed p var) (renamed p lo) (renamed p hi) (renamed p by) at (renamed_pairs p omp)) body
flat_step calm flat out p (c.Return values) = only (given_back out (map (renamed p) values))
flat_step calm flat out p y = only (copied p y)

abbrev pub flat_block : (ℕ → Bool) → Inline → Out → Place → List Core → Lowering
flat_block calm flat out p body = in_turn (map (fold-Core Lowering (flat_step calm flat out p)) body)

-- The body of a called instance: moves of the arguments to its parameters, then its statements, with a move of each
-- value to its name in place of a Return. Its names are new ones, behind those that there are.
abbrev pub body_of : (ℕ → Bool) → Inline → Instance → List ℕ → ℕ → Lowering
body_of calm flat f to first =
    flat_block calm flat (Moves (targets f.rets to)) (place_for (own_of f) to first) f.body

abbrev pub behind : List Core → List Ty → Lowered → Lowered
behind before names form = record { body = before ++ form.body; fresh = names ++ form.fresh }

abbrev pub in_place : (ℕ → Bool) → Inline → Instance → List ℕ → List Oper → Lowering
in_place calm flat f to args k =
    behind (moves (numbered k (take (length f.params) f.names)) args) f.names
    (body_of calm flat f to k (k + length f.names))

abbrev pub in_place_of : (ℕ → Bool) → Inline → Option Instance → List ℕ → List Oper → Lowering
in_place_of calm flat None to args = only []
in_place_of calm flat (Some f) to args = in_place calm flat f to args

-- Calls within calls, to a depth.
abbrev pub flat_at : List Instance → (ℕ → Bool) → ℕ → Inline
flat_at instances calm zero = λ instance to args. only []
flat_at instances calm (suc depth) = λ instance.
    in_place_of calm (flat_at instances calm depth) (slice_get instances instance)

abbrev pub flat_body : List Instance → (ℕ → Bool) → Instance → Lowered
flat_body instances calm f =
    flat_block calm (flat_at instances calm (length instances)) Returns home f.body (length f.names)

abbrev pub kernel_of : Instance → Lowered → Instance
kernel_of f form = record {
  name = f.name;
  weight = f.weight;
  params = f.params;
  rets = f.rets;
  names = f.names ++ form.fresh;
  body = form.body;
}

abbrev pub kernel_at : List Instance → (ℕ → Bool) → Option Instance → List Instance
kernel_at instances calm None = []
kernel_at instances calm (Some f) = kernel_of f (flat_body instances calm f) ∷ []

abbrev pub flat_kernels : Program → (ℕ → Bool) → List Instance
flat_kernels program calm =
    flat_map (λ number. kernel_at program.instances calm (slice_get program.instances number)) program.kernels

-- The flat form of a program: one instance for each kernel, in order.
abbrev pub flat_program : Program → (ℕ → Bool) → Program
flat_program program calm = record {
  instances = flat_kernels program calm;
  kernels = range_with_len 0 (length (flat_kernels program calm));
}
