-- What a call that fits leaves in its buffers.
use Rattle.std.proofs.Common.{arith, ◌≡◌, ◌∙◌, ◌+◌, ap, sym, subst, refl, ℕ, zero, suc, ℤ}
use Rattle.std.proofs.Common.{List, [], ◌∷◌, map, length, replicate, slice_get, Option, Some, None, take}
use Rattle.std.proofs.lemmas.List.{length-map}
use Rattle.std.proofs.lemmas.Option.{slice_get-map, get_or_from_slice_get, slice_get_within}
use Rattle.std.proofs.lemmas.List.Elements.{All-head, All-tail}
use Rattle.std.specs.Prelude.{option_map, IfOk, Result, Ok, Err}
use Rattle.std.specs.List.{All, range_with_len}
use Rattle.krn_base.specs.declared.kind.ParamType.{ParamType}
use Rattle.krn_base.specs.declared.kind.ParamType.TheVariants.{Scalar, Flat, Strided}
use Rattle.krn_base.specs.declared.kind.Kind.{Kind}
use Rattle.view_places.specs.declared.shape.Array.{Array}
use Rattle.array_ops.specs.Arrays.{words_of}
use Rattle.array_ops.specs.Elements.{Bound, Unbound}
use Rattle.eager_rules.proofs.Each.{each_get, each_length, each_take, none_some, some_same}
use Rattle.eager_rules.proofs.Typed.{Named, DoneOf}
use Rattle.eager_rules.proofs.Typed.{gives_nothing}
use Rattle.eager_rules.proofs.TypedWorks.{WorkOf, same_all}
use Rattle.eager_rules.proofs.TypedRuns.{CallsOf, all_bound, block_typed, core_typed}
use Rattle.eager_rules.specs.Blocks.{End, GoesOn, Returned, Faulted, Stuck}
use Rattle.eager_rules.specs.Eager.{Calls, block, called, calls_at, done_of, entered}
use Rattle.eager_rules.specs.Fits.{IsFilled, Takes, AreTaken}
use Rattle.eager_rules.specs.Kept.{FitsInstance, IsKernel, KeepsBuffers}
use Rattle.eager_rules.specs.Outcome.{buffers_of, ended, instance_outcome, outcome_at, outcome_by, outcome_of}
use Rattle.eager_rules.specs.Sound.{Head, head_of, IsWellTyped, IsTyped}
use Rattle.eager_rules.specs.State.{State, bound_to}
use Rattle.eager_rules.specs.TypedStates.{BeginsTyped, Each, EndOf, Given, HoldAll, Holds, KeepsTypes, LiesIn, OfName}
use Rattle.eager_rules.specs.TypedStates.{OfType, Row, StateOf}
use Rattle.eager_rules.specs.Types.{Ty, type_of_param}
use Rattle.eager_rules.specs.declared.call.Arg.{Arg}
use Rattle.eager_rules.specs.declared.call.Arg.TheVariants as arg
use Rattle.eager_rules.specs.declared.call.Call.{Call}
use Rattle.eager_rules.specs.declared.outcome.Outcome.{Outcome}
use Rattle.eager_rules.specs.declared.program.Instance.{Instance}
use Rattle.eager_rules.specs.declared.program.Program.{Program}

-- The state in which a call begins.
unbound : (rows : List Row) (types : List Ty) → Each (OfName rows) types (replicate (length types) Unbound)
unbound rows [] = tt
unbound rows (t ∷ types) = (tt, unbound rows types)

from_take : (types : List Ty) (n j : ℕ) (t : Ty) → slice_get (take n types) j ≡ Some t → slice_get types j ≡ Some t
from_take [] zero j t e = none_some t e
from_take [] (suc n) j t e = none_some t e
from_take (u ∷ types) zero j t e = none_some t e
from_take (u ∷ types) (suc n) zero t e = e
from_take (u ∷ types) (suc n) (suc j) t e = from_take types n j t e

numbered : (names : List Ty) (a : ℕ) (types : List Ty) →
    ((j : ℕ) (t : Ty) → slice_get types j ≡ Some t → slice_get names (a + j) ≡ Some t) →
    Named names (range_with_len a (length types)) types
numbered names a [] h = tt
numbered names a (t ∷ types) h =
    let here : a + 0 ≡ a = omega arith in (
      subst (λ (k : ℕ). slice_get names k ≡ Some t) here (h 0 t refl),
      numbered names (a + 1) types (λ j u e.
          let next : a + suc j ≡ (a + 1) + j = omega arith in
          subst (λ (k : ℕ). slice_get names k ≡ Some u) next (h (suc j) u e)),
    )

module _ (heads : List Head) (f : Instance) (typed : IsWellTyped heads f) where
  abbrev params : List Ty
  params = map (λ p. type_of_param p.1) f.params

  parameters_named : Named f.names (range_with_len 0 (length f.params)) params
  parameters_named =
      let same : take (length f.params) f.names ≡ params = same_all (take (length f.params) f.names) params typed.params
      in
      let count : length params ≡ length f.params = length-map f.params (λ p. type_of_param p.1) in
      subst (λ (n : ℕ). Named f.names (range_with_len 0 n) params) count
      (numbered f.names 0 params (λ j t e.
      let at : j ≡ 0 + j = omega arith in
      subst (λ (k : ℕ). slice_get f.names k ≡ Some t) at
      (from_take f.names (length f.params) j t (ap (λ (ts : List Ty). slice_get ts j) same ∙ e))))

  pub entered_typed : (rows : List Row) (args : List Bound) (buffers : List (List ℤ)) → HoldAll rows buffers →
      Given rows params args → StateOf rows f.names (entered f args buffers)
  entered_typed rows args buffers held given =
      all_bound rows f.names (range_with_len 0 (length f.params)) params args
      (record { buffers = buffers; names = replicate (length f.names) Unbound })
      (record { buffers = held; names = unbound rows f.names }) parameters_named given

-- Calls, to every depth.
done_typed : (rows : List Row) (names rets : List Ty) (q : State × End) → EndOf rows names rets q →
    DoneOf rows rets (done_of q)
done_typed rows names rets (s, GoesOn) (more, e, h) = (more, e, h.buffers, tt)
done_typed rows names rets (s, Returned values) h = h
done_typed rows names rets (s, Faulted fault at) h = h
done_typed rows names rets (s, Stuck) h = h

pub at_number : (P : Instance → Type 0) (instances : List Instance) (i : ℕ) (f : Instance) → All P instances →
    slice_get instances i ≡ Some f → P f
at_number P instances i f all e =
    subst P (get_or_from_slice_get instances i f f e) (all i f (slice_get_within instances i f e))

module _ (instances : List Instance) (typed : All (IsWellTyped (map head_of instances)) instances) where
  abbrev heads_of : List Head
  heads_of = map head_of instances

  one_called : (calls : Calls) → CallsOf heads_of calls → (o : Option Instance) (i : ℕ) → slice_get instances i ≡ o →
      (head : Head) → option_map head_of o ≡ Some head → WorkOf head.0 head.1 (called calls o)
  one_called calls k None i e head h = none_some head h
  one_called calls k (Some f) i e head h =
      let good : IsWellTyped heads_of f = at_number (IsWellTyped heads_of) instances i f typed e in
      subst (λ (x : Head). WorkOf x.0 x.1 (called calls (Some f))) (some_same (head_of f) head h)
      (λ rows args buffers held given.
      done_typed rows f.names f.rets (block calls f.body (entered f args buffers))
      (block_typed heads_of f.rets f.names calls k f.body good.body rows (entered f args buffers)
      (entered_typed heads_of f good rows args buffers held given)))

  pub calls_typed : (depth : ℕ) → CallsOf heads_of (calls_at instances depth)
  calls_typed zero i head e rows args buffers held given = gives_nothing rows head.1 buffers held
  calls_typed (suc depth) i head e rows args buffers held given =
      one_called (calls_at instances depth) (calls_typed depth) (slice_get instances i) i refl head
      (sym (slice_get-map head_of instances i) ∙ e) rows args buffers held given

-- The call of a kernel.
abbrev row_of : Array → Row
row_of a = (a.kind, length a.words)

begun : (arrays : List Array) → All IsFilled arrays → HoldAll (map row_of arrays) (map (λ a. a.words) arrays)
begun [] h = tt
begun (a ∷ arrays) h = ((refl, (All-head IsFilled a arrays h).words), begun arrays (All-tail IsFilled a arrays h))

viewed_row : (arrays : List Array) (buffer : ℕ) (a : Array) (kind : Kind) → slice_get arrays buffer ≡ Some a →
    a.kind ≡ kind → LiesIn (map row_of arrays) kind buffer
viewed_row arrays buffer a kind e k = (
  length a.words,
  slice_get-map row_of arrays buffer ∙ ap (option_map row_of) e ∙
      ap (λ (x : Kind). let row : Row = (x, length a.words) in Some row) k,
)

taken : (arrays : List Array) (type : ParamType) (x : Arg) → Takes arrays type x →
    OfType (map row_of arrays) (type_of_param type) (bound_to x)
taken arrays (Scalar kind) (arg.Word z) h = (refl, h)
taken arrays (Scalar kind) (arg.Array v) h = absurd h
taken arrays (Flat kind rank) (arg.Word z) h = absurd h
taken arrays (Flat kind rank) (arg.Array v) h =
    viewed_row arrays v.buffer h.0.buffer kind h.0.is_there h.0.kind_is
taken arrays (Strided kind rank) (arg.Word z) h = absurd h
taken arrays (Strided kind rank) (arg.Array v) h = viewed_row arrays v.buffer h.buffer kind h.is_there h.kind_is

all_taken : {A : Type 0} (arrays : List Array) (ps : List (A × ParamType)) (args : List Arg) →
    AreTaken arrays (map (λ p. p.1) ps) args →
    Given (map row_of arrays) (map (λ p. type_of_param p.1) ps) (map bound_to args)
all_taken arrays [] [] h = tt
all_taken arrays [] (x ∷ args) h = tt
all_taken arrays (p ∷ ps) [] h = tt
all_taken arrays (p ∷ ps) (x ∷ args) h = (taken arrays p.1 x h.0, all_taken arrays ps args h.1)

-- what the first buffers hold at the end
last_held : (rows : List Row) (names rets : List Ty) (count : ℕ) (q : State × End) → length rows ≡ count →
    EndOf rows names rets q → HoldAll rows (ended rets count q).buffers
last_held rows names rets count (s, GoesOn) e (more, x, h) =
    subst (λ (n : ℕ). HoldAll rows (take n s.buffers)) e (each_take Holds rows more s.buffers x h.buffers)
last_held rows names rets count (s, Returned values) e (more, x, h, g) =
    subst (λ (n : ℕ). HoldAll rows (take n s.buffers)) e (each_take Holds rows more s.buffers x h)
last_held rows names rets count (s, Faulted fault at) e (more, x, h) =
    subst (λ (n : ℕ). HoldAll rows (take n s.buffers)) e (each_take Holds rows more s.buffers x h)
last_held rows names rets count (s, Stuck) e (more, x, h) =
    subst (λ (n : ℕ). HoldAll rows (take n s.buffers)) e (each_take Holds rows more s.buffers x h)

kept_by_rows : (call : Call) (o : Outcome) → All IsFilled call.buffers → HoldAll (map row_of call.buffers) o.buffers →
    KeepsBuffers call o
kept_by_rows call o filled held = record {
  count = each_length Holds (map row_of call.buffers) o.buffers held ∙ length-map call.buffers row_of;
  filled = λ number a e.
      let now : Holds (row_of a) (words_of o.buffers number) =
      each_get Holds (map row_of call.buffers) o.buffers number (row_of a) [] held
      (slice_get-map row_of call.buffers number ∙ ap (option_map row_of) e) in
      let was : IsFilled a =
      subst IsFilled (get_or_from_slice_get call.buffers number a a e)
      (filled number a (slice_get_within call.buffers number a e)) in
      record { size = now.0 ∙ was.size; words = now.1 };
}

instance_kept : (instances : List Instance) → All (IsWellTyped (map head_of instances)) instances →
    (f : Instance) → IsWellTyped (map head_of instances) f → (call : Call) → FitsInstance f call → (depth : ℕ) →
    KeepsBuffers call (instance_outcome instances depth f call)
instance_kept instances typed f good call fit depth =
    kept_by_rows call (instance_outcome instances depth f call) fit.buffers
    (last_held (map row_of call.buffers) f.names f.rets (length call.buffers)
    (block (calls_at instances depth) f.body (entered f (map bound_to call.args) (buffers_of call)))
    (length-map call.buffers row_of)
    (block_typed (map head_of instances) f.rets f.names (calls_at instances depth) (calls_typed instances typed depth)
    f.body good.body (map row_of call.buffers) (entered f (map bound_to call.args) (buffers_of call))
    (entered_typed (map head_of instances) f good (map row_of call.buffers) (map bound_to call.args) (buffers_of call)
    (begun call.buffers fit.buffers) (all_taken call.buffers f.params call.args fit.args))))

pub keeps_types : (program : Program) → IsTyped program → KeepsTypes program
keeps_types program typed number f is depth x fit =
    core_typed (map head_of program.instances) f.rets f.names (calls_at program.instances depth)
    (calls_typed program.instances typed.instances depth) x fit

pub begins_typed : (program : Program) → IsTyped program → BeginsTyped program
begins_typed program typed number f is call fit =
    let good : IsWellTyped (map head_of program.instances) f =
    at_number (IsWellTyped (map head_of program.instances)) program.instances number f typed.instances is in (
      map row_of call.buffers,
      entered_typed (map head_of program.instances) f good (map row_of call.buffers) (map bound_to call.args)
          (buffers_of call) (begun call.buffers fit.buffers) (all_taken call.buffers f.params call.args fit.args),
    )

pub buffers_kept : (program : Program) (kernel : ℕ) (call : Call) (f : Instance) → IsKernel program kernel f →
    IsTyped program → FitsInstance f call → KeepsBuffers call (outcome_of program kernel call)
buffers_kept program kernel call f is typed fit =
    let good : IsWellTyped (map head_of program.instances) f =
    at_number (IsWellTyped (map head_of program.instances)) program.instances is.number f typed.instances is.there in
    let same : instance_outcome program.instances (length program.instances) f call ≡ outcome_of program kernel call =
    ap (outcome_by program.instances call) (sym is.there) ∙
    ap (λ (o : Option ℕ). outcome_at program o call) (sym is.numbered) in
    subst (KeepsBuffers call) same
    (instance_kept program.instances typed.instances f good call fit (length program.instances))

-- the same of an outcome that is what evaluating gives
pub kept_if_ok : {E : Type 0} (program : Program) (kernel : ℕ) (call : Call) (r : Result Outcome E) →
    IfOk r (λ o. o ≡ outcome_of program kernel call) → (f : Instance) → IsKernel program kernel f → IsTyped program →
    FitsInstance f call → IfOk r (KeepsBuffers call)
kept_if_ok program kernel call (Ok o) h f is typed fit =
    subst (KeepsBuffers call) (sym h) (buffers_kept program kernel call f is typed fit)
kept_if_ok program kernel call (Err e) h f is typed fit = tt
