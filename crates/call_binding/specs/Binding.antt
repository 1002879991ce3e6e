-- The binding of a call's items to a kernel, with its ordered tests, and the call that it makes.
use Rattle.std.specs.Prelude.{◌≡◌, ℕ, ◌==◌, Bool, true, false, not, ◌&&◌, ◌||◌, if◌then◌else◌, List, [], ◌∷◌, map}
use Rattle.std.specs.Prelude.{length, slice_index_or, Option, Some, None, option_map, Result, Ok, Err, ℤ, pos}
use Rattle.std.specs.Prelude.{bytes_eq}
use Rattle.std.specs.List.{list_any, position, find, filter_map, range_with_len}
use Rattle.std.specs.Option.{unwrap_or, is_some}
use Rattle.krn_base.specs.declared.kind.Kind.{Kind}
use Rattle.krn_base.specs.declared.kind.Kind.TheVariants.{Int64, Bool as BoolKind}
use Rattle.krn_base.specs.declared.kind.ParamType.{ParamType}
use Rattle.krn_base.specs.declared.kind.ParamType.TheVariants as param
use Rattle.view_places.specs.declared.shape.Array.{Array}
use Rattle.array_ops.specs.Elements.{Bound, WordOf, ArrayOf}
use Rattle.eager_rules.specs.State.{bound_to}
use Rattle.eager_rules.specs.declared.call.Arg.{Arg}
use Rattle.eager_rules.specs.declared.call.Arg.TheVariants as arg
use Rattle.host_io.specs.Files.{Held}
use Rattle.call_binding.specs.Files.{Filled, Whole, NoArray, Wants, filled, paths_of, AreRead, IsTooLong}
use Rattle.call_binding.specs.Reading.{read_from}
use Rattle.call_binding.specs.Tests.{early, is_named, first_answer}
use Rattle.call_binding.specs.Views.{Viewed, buffers, place_of, viewed, faulty}
use Rattle.call_binding.specs.declared.head.BoundCall.{BoundCall}
use Rattle.call_binding.specs.declared.head.KernelHead.{KernelHead}
use Rattle.call_binding.specs.declared.head.Save.{Save}
use Rattle.call_binding.specs.declared.items.Item.{Item}
use Rattle.call_binding.specs.declared.items.Item.TheVariants.{Buffer, Loaded, Saved, Scalar, Argument}

-- ---- what items pass

-- what an item passes to a parameter: the kind, what it stands for, and how many words its buffer has, 0 for a word
pub record Passed : Type 0 where
  pub parameter : List ℕ
  pub kind : Kind
  pub value : Bound
  pub word_count : ℕ

abbrev pub passed_view : List ℕ → Viewed → Passed
passed_view parameter v = record {
  parameter = parameter;
  kind = v.array.kind;
  value = ArrayOf (record { buffer = v.buffer; extents = v.extents; places = v.places });
  word_count = length v.array.words;
}

abbrev pub passed_by : List (List ℕ × Array) → Item → Option Passed
passed_by held (Buffer name array) = None
passed_by held (Loaded name path) = None
passed_by held (Saved name path) = None
passed_by held (Scalar parameter kind word) =
    Some (record { parameter = parameter; kind = kind; value = WordOf word; word_count = 0 })
passed_by held (Argument parameter buffer subs) = option_map (passed_view parameter) (viewed held buffer subs)

-- what the items pass in word order
abbrev pub passed : List Item → List Passed
passed items = filter_map (passed_by (buffers items)) items

-- what is passed to a parameter
abbrev pub passed_to : List Passed → List ℕ → Option Passed
passed_to given parameter = find (λ p. bytes_eq p.parameter parameter) given

-- ---- test 9

abbrev pub same_kind : Kind → Kind → Bool
same_kind Int64 Int64 = true
same_kind Int64 BoolKind = false
same_kind BoolKind Int64 = false
same_kind BoolKind BoolKind = true

-- consecutive rising places
abbrev pub is_consecutive : List ℕ → Bool
is_consecutive [] = true
is_consecutive (k ∷ places) = bytes_eq (k ∷ places) (range_with_len k (length (k ∷ places)))

-- what stands for a word; for an array of this rank; for one of consecutive places
abbrev pub is_scalar : Bound → Bool
is_scalar (WordOf word) = true
is_scalar _ = false

abbrev pub has_rank : ℕ → Bound → Bool
has_rank rank (ArrayOf a) = length a.extents == rank
has_rank rank _ = false

abbrev pub is_flat : Bound → Bool
is_flat (ArrayOf a) = is_consecutive a.places
is_flat _ = false

-- a parameter of this type takes what is passed to it
abbrev pub takes : ParamType → Passed → Bool
takes (param.Scalar kind) p = same_kind kind p.kind && is_scalar p.value
takes (param.Flat kind rank) p = same_kind kind p.kind && (has_rank rank p.value && is_flat p.value)
takes (param.Strided kind rank) p = same_kind kind p.kind && has_rank rank p.value

abbrev pub is_taken : ParamType → Option Passed → Bool
is_taken type None = false
is_taken type (Some p) = takes type p

abbrev pub is_unfit : List Passed → List ℕ × ParamType → Bool
is_unfit given param = not (is_taken param.1 (passed_to given param.0))

-- Test 9. No kernel of the name fits: each of its parameters takes what is passed to it.
abbrev pub fits : List ℕ → List Passed → KernelHead → Bool
fits name given kernel = is_named name kernel && not (list_any (is_unfit given) kernel.params)

-- the first kernel of the name that fits
abbrev pub fitting : List KernelHead → List ℕ → List Item → Option ℕ
fitting kernels name items = position (fits name (passed items)) kernels

abbrev pub unfitting : Option ℕ → Option ℕ
unfitting None = Some 0
unfitting (Some k) = None

-- The tests 8 and 9 in their order.
abbrev pub late : List KernelHead → List ℕ → List Item → Option ℕ
late kernels name items = first_answer (faulty items ∷ unfitting (fitting kernels name items) ∷ [])

-- ---- the call

-- a bound call: the number of the kernel in the list, the buffers' names and what they hold in word order, what the
-- kernel's
-- parameters stand for, how many words each view says its buffer has, and which buffers are saved under which paths
-- in word
-- order
pub record BoundMeaning : Type 0 where
  pub kernel : ℕ
  pub names : List (List ℕ)
  pub arrays : List Array
  pub args : List Bound
  pub lengths : List ℕ
  pub saves : List Save

-- what a parameter stands for; the word 0 where nothing is passed to it
abbrev pub value_of : Option Passed → Bound
value_of None = WordOf (pos 0)
value_of (Some p) = p.value

abbrev pub length_of : Option Passed → ℕ
length_of None = 0
length_of (Some p) = p.word_count

abbrev pub params_at : List KernelHead → ℕ → List (List ℕ × ParamType)
params_at kernels k = slice_index_or (map (λ kernel. kernel.params) kernels) k []

abbrev pub saved_as : List ℕ → ℕ → Save
saved_as path k = record { buffer = k; path = path }

abbrev pub save_by : List (List ℕ × Array) → Item → Option Save
save_by held (Buffer name array) = None
save_by held (Loaded name path) = None
save_by held (Saved name path) = option_map (saved_as path) (place_of held name)
save_by held (Scalar parameter kind word) = None
save_by held (Argument parameter buffer subs) = None

abbrev pub saves : List Item → List Save
saves items = filter_map (save_by (buffers items)) items

-- the call of the kernel with this number
abbrev pub bound_at : List KernelHead → List Item → ℕ → BoundMeaning
bound_at kernels items k = record {
  kernel = k;
  names = map (λ buffer. buffer.0) (buffers items);
  arrays = map (λ buffer. buffer.1) (buffers items);
  args = map (λ param. value_of (passed_to (passed items) param.0)) (params_at kernels k);
  lengths = map (λ param. length_of (passed_to (passed items) param.0)) (params_at kernels k);
  saves = saves items;
}

-- What binding comes to with what the first array files are read as: a call, the number of the refused item (from 1,
-- and 0
-- where the kernel itself is at fault), or the path of the file that is to be read next.
pub data Binding : Type 0 where
  Call : BoundMeaning → Binding
  Refused : ℕ → Binding
  Asks : List ℕ → Binding

abbrev pub unless : Option ℕ → Binding → Binding
unless None binding = binding
unless (Some n) binding = Refused n

abbrev pub bind_filled : List KernelHead → List ℕ → Filled → Binding
bind_filled kernels name (NoArray n) = Refused n
bind_filled kernels name (Wants path) = Asks path
bind_filled kernels name (Whole items) =
    unless (late kernels name items) (Call (bound_at kernels items (unwrap_or (fitting kernels name items) 0)))

abbrev pub bind_items : List KernelHead → List ℕ → List (Option Array) → Result (List Item) ℕ → Binding
bind_items kernels name reads (Err n) = Refused n
bind_items kernels name reads (Ok items) =
    unless (early kernels name items) (bind_filled kernels name (filled 1 items reads))

-- Test 1 comes before the tests 2 to 6, then test 7 with the files, then the tests 8 and 9.
abbrev pub bind : List KernelHead → List ℕ → List (List ℕ) → List (Option Array) → Binding
bind kernels name texts reads = bind_items kernels name reads (read_from 1 texts)

-- Items that are read come to this with what their first array files are read as.
pub record ComesBy (held : List ℕ
    → Held) (kernels : List KernelHead) (name : List ℕ) (read : Result (List Item) ℕ) (binding : Binding) : Type 0 where
  pub reads : List (Option Array)
  pub are_read : AreRead held (paths_of read) reads
  pub is : bind_items kernels name reads read ≡ binding

-- a request: kernels, the name of one, and the words behind it
pub record Asked : Type 0 where
  pub kernels : List KernelHead
  pub name : List ℕ
  pub texts : List (List ℕ)

abbrev pub asked : List KernelHead → List ℕ → List (List ℕ) → Asked
asked kernels name texts = record { kernels = kernels; name = name; texts = texts }

-- what a request comes to: `bind` of it with what its first array files are read as
abbrev pub ComesTo : (List ℕ → Held) → Asked → Binding → Type 0
ComesTo held a binding = ComesBy held a.kernels a.name (read_from 1 a.texts) binding

-- the paths of a request's array files in word order, where no word is misspelled
abbrev pub paths : Asked → List (List ℕ)
paths a = paths_of (read_from 1 a.texts)

-- nothing more is read: but for a file that is to be read and is too long
abbrev pub Ends : (List ℕ → Held) → Binding → Type 0
Ends held (Call bound) = Unit {0}
Ends held (Refused n) = Unit {0}
Ends held (Asks path) = IsTooLong (held path)

-- A request's answer.
pub record IsAnswer (held : List ℕ → Held) (a : Asked) (binding : Binding) : Type 0 where
  pub comes : ComesTo held a binding
  pub ends : Ends held binding

-- A request has one answer at most.
abbrev pub HasOneAnswer : (List ℕ → Held) → Asked → Type 0
HasOneAnswer held a = (first second : Binding) → IsAnswer held a first → IsAnswer held a second → first ≡ second

-- ---- bound calls of the program

-- how many words the buffer of an argument has; a word has none
abbrev pub words_of : Arg → ℕ
words_of (arg.Word z) = 0
words_of (arg.Array v) = v.length

-- what a bound call stands for
abbrev pub meaning : BoundCall → BoundMeaning
meaning bound = record {
  kernel = bound.kernel;
  names = bound.names;
  arrays = bound.call.buffers;
  args = map bound_to bound.call.args;
  lengths = map words_of bound.call.args;
  saves = bound.saves;
}

abbrev pub answer : Result BoundCall ℕ → Binding
answer (Ok bound) = Call (meaning bound)
answer (Err n) = Refused n
