-- What a request comes to, by the files that it loads: the source and what it stands for, the items, the outcome, the
-- bytes.
use Rattle.std.specs.Prelude.{◌≡◌, ℕ, ℤ, ◌⊎◌, Bool, List, [], map, slice_get}
use Rattle.std.specs.Prelude.{Option, is_some, Some, None, Result, Ok, Err}
use Rattle.std.specs.List.{zip}
use Rattle.krn_base.specs.declared.refusal.Refusal.{Refusal}
use Rattle.view_places.specs.declared.shape.Array.{Array}
use Rattle.array_ops.specs.Elements.{Bound}
use Rattle.eager_rules.specs.declared.outcome.Counts.{Counts}
use Rattle.eager_rules.specs.declared.outcome.Outcome.{Outcome}
use Rattle.eager_rules.specs.declared.program.Instance.{Instance}
use Rattle.eager_rules.specs.declared.program.Program.{Program}
use Rattle.call_binding.specs.Binding.{BoundMeaning, Binding, bind}
use Rattle.call_binding.specs.Binding as binding
use Rattle.call_binding.specs.Files.{AreRead, AreTold, IsTold}
use Rattle.call_binding.specs.declared.head.KernelHead.{KernelHead}
use Rattle.call_binding.specs.declared.head.Save as bound_save
use Rattle.call_report.specs.Report.{report_of}
use Rattle.call_report.specs.declared.head.BufferHead.{BufferHead}
use Rattle.call_words.specs.declared.request.Command.{Command}
use Rattle.call_words.specs.declared.request.Command.TheVariants as command
use Rattle.host_io.specs.Files.{Held}
use Rattle.np_file.specs.Npy.{npy_text}
use Rattle.lazy_expr.specs.Promise.{plain_program}
use Rattle.pythran_main.specs.Kernel.{counts_on, outcome_on}
use Rattle.pythran_main.specs.Loads.{Content, Whole, Longer, Gives, Loaded}
use Rattle.pythran_main.specs.Reading.{IsReading}
use Rattle.call_words.specs.Request.{Asked}
use Rattle.pythran_main.specs.Saves.{Save}
use Rattle.pythran_main.specs.declared.flattening.Flattened.{Flattened}

-- what a command writes on the output, whether that has a fault line, and what it stores
pub record Product : Type 0 where
  pub output : List ℕ
  pub has_fault : Bool
  pub saves : List Save

-- an answer: the refusal of the source, the number of a refused item, a file above its limit, or a product
pub data Answer : Type 0 where
  Refused : Refusal → Answer
  RefusedItem : ℕ → Answer
  TooLong : Answer
  Makes : Product → Answer

-- ---- a source, and the product of a call

-- a finished call: its outcome, and the counts where there are any
pub record Run : Type 0 where
  pub outcome : Outcome
  pub counts : Option Counts

-- what a source stands for: the heads of its kernels, and what a call of one of them gives
pub record Source : Type 0 where
  pub heads : List KernelHead
  pub run : BoundMeaning → Run

-- the names, kinds and shapes of a call's buffers
abbrev pub buffer_head : List ℕ × Array → BufferHead
buffer_head (name, array) = record { name = name; kind = array.kind; shape = array.shape }

abbrev pub buffer_heads : List (List ℕ) → List Array → List BufferHead
buffer_heads names arrays = map buffer_head (zip names arrays)

-- the arrays that buffers hold in the end: each in the kind and the shape that it was given
abbrev pub with_words : Array × List ℤ → Array
with_words (array, words) = record { kind = array.kind; shape = array.shape; words = words }

abbrev pub final_arrays : List Array → List (List ℤ) → List Array
final_arrays arrays words = map with_words (zip arrays words)

-- the array file of a buffer
abbrev pub file_of : Option Array → List ℕ
file_of None = []
file_of (Some array) = npy_text array

-- what is stored of these arrays for a saved buffer
abbrev pub saved_of : List Array → bound_save.Save → Save
saved_of arrays save = record { path = save.path; bytes = file_of (slice_get arrays save.buffer) }

-- the report of a call, and the files of its saved buffers, also after a fault
abbrev pub product_of : BoundMeaning → Run → Product
product_of b run = record {
  output = report_of (buffer_heads b.names b.arrays) run.outcome run.counts;
  has_fault = is_some run.outcome.fault;
  saves = map (saved_of (final_arrays b.arrays run.outcome.buffers)) b.saves;
}

-- ---- the sources of a command

-- what binding needs of the kernel whose instance has this number
abbrev pub head_by : Option Instance → KernelHead
head_by (Some f) = record { name = f.name; params = f.params }
head_by None = record { name = []; params = [] }

abbrev pub head_of : List Instance → ℕ → KernelHead
head_of instances number = head_by (slice_get instances number)

abbrev pub heads_of : Program → List KernelHead
heads_of program = map (head_of program.instances) program.kernels

-- what a command counts of a call: `run` what the loop program of the flat form counts, and `eager` nothing
abbrev pub counts_by : Command → Program → ℕ → List Array → List Bound → Option Counts
counts_by (command.Run workers) flat kernel arrays args = Some (counts_on (plain_program flat) kernel arrays args)
counts_by command.Eager flat kernel arrays args = None

-- the outcome of eager evaluation of the program with its own calls, with the command's counts
abbrev pub run_of : Command → Flattened → BoundMeaning → Run
run_of command found b = record {
  outcome = outcome_on found.program b.kernel b.arrays b.args;
  counts = counts_by command found.flat b.kernel b.arrays b.args;
}

abbrev pub source_of : Command → Flattened → Source
source_of command found = record { heads = heads_of found.program; run = run_of command found }

abbrev pub source_in : Command → Result Flattened Refusal → Result Source Refusal
source_in command (Ok found) = Ok (source_of command found)
source_in command (Err r) = Err r

-- the bytes of a request's source stand for this to it
abbrev pub IsSource : Asked → List ℕ → Result Source Refusal → Type 0
IsSource asked file found =
    (read : Result Flattened Refusal) × IsReading file read × (found ≡ source_in asked.command read)

-- ---- the steps of an answer, each by what is loaded for it

-- a source has at most so many bytes
abbrev pub source_limit : ℕ
source_limit = 1048576

-- what is bound for a request of a source
abbrev pub to_bind : Asked → Source → binding.Asked
to_bind asked source = binding.asked source.heads asked.kernel asked.items

-- the array files that the words of a request name, in word order
abbrev pub array_files : Asked → List (List ℕ)
array_files asked = binding.paths (binding.asked [] asked.kernel asked.items)

-- the answer of a binding; a file that is to be read and isn't is one that is too long
abbrev pub answer_of : Source → Binding → Answer
answer_of source (binding.Call b) = Makes (product_of b (source.run b))
answer_of source (binding.Refused n) = RefusedItem n
answer_of source (binding.Asks path) = TooLong

abbrev pub IsCalled : (List ℕ → Held) → Source → Binding → Answer → Type 0
IsCalled held source bound a = binding.Ends held bound × (a ≡ answer_of source bound)

abbrev pub IsFollowed : Asked → (List ℕ → Held) → Result Source Refusal → List (Option Array) → Answer → Type 0
IsFollowed asked held (Err r) arrays a = (arrays ≡ []) × (a ≡ Refused r)
IsFollowed asked held (Ok source) arrays a =
    IsCalled held source (bind source.heads asked.kernel asked.items arrays) a

abbrev pub IsRead : Asked → (List ℕ → Held) → Content → List (Option Array) → Answer → Type 0
IsRead asked held Longer arrays a = (arrays ≡ []) × (a ≡ TooLong)
IsRead asked held (Whole file) arrays a = (found : Result Source Refusal) × IsSource asked file found
    × IsFollowed asked held found arrays a

-- With what the names hold, this may be loaded for a request, and leads to this answer.
pub record Answers (asked : Asked) (held : List ℕ → Held) (loaded : Loaded) (a : Answer) : Type 0 where
  pub source : Gives (held asked.source) source_limit loaded.source
  pub arrays : AreRead held (array_files asked) loaded.arrays
  pub answer : IsRead asked held loaded.source loaded.arrays a

-- a source isn't refused
abbrev pub Stands : Asked → Content → Type 0
Stands asked Longer = ⊥
Stands asked (Whole file) = (source : Source) × IsSource asked file (Ok source)

-- It is told what the files of a request hold: its source, and its array files where the source stands.
pub record AreFilesTold (asked : Asked) (held : List ℕ → Held) (gave : Content) : Type 0 where
  pub source : IsTold (held asked.source)
  pub arrays : Stands asked gave → AreTold held (array_files asked)

-- the same is loaded, or the files are told
abbrev pub Agree : Asked → (List ℕ → Held) → Loaded → Loaded → Type 0
Agree asked held loaded others = (others ≡ loaded) ⊎ AreFilesTold asked held others.source

-- With what the names hold, a request comes to this answer, and to no other where the same is loaded or the files are
-- told.
pub record Reaches (asked : Asked) (held : List ℕ → Held) (a : Answer) : Type 0 where
  pub loaded : Loaded
  pub answers : Answers asked held loaded a
  pub alone : (others : Loaded) (other : Answer) → Agree asked held loaded others → Answers asked held others other
      → other ≡ a
