-- What the private functions between the words and the status promise each other.
use Rattle.std.specs.Prelude.{◌≡◌, ℕ, ℤ, ◌⊎◌, Bool, List, map, length, Option, Result, Ok, Err, string_bytes}
use Rattle.std.specs.List.{All}
use Rattle.call_binding.specs.Binding.{bind, HasOneAnswer}
use Rattle.call_binding.specs.Files.{AreRead, AreTold}
use Rattle.call_binding.specs.declared.head.BindStop.{BindStop}
use Rattle.call_binding.specs.declared.head.BindStop.TheVariants as stop
use Rattle.eager_rules.specs.Fits.{IsFilled}
use Rattle.eager_rules.specs.Kept.{IsKernel, FitsInstance}
use Rattle.eager_rules.specs.declared.call.Call.{Call}
use Rattle.eager_rules.specs.declared.program.Instance.{Instance}
use Rattle.eager_rules.specs.declared.program.Program.{Program}
use Rattle.host_io.specs.Counts.{Rose}
use Rattle.host_io.specs.Files.{Held}
use Rattle.view_places.specs.declared.shape.Array.{Array}
use Rattle.pythran_main.specs.Answer.{Answer, Product, Source, source_limit, to_bind, array_files}
use Rattle.pythran_main.specs.Answer.{IsCalled, IsRead, Stands, final_arrays}
use Rattle.pythran_main.specs.Answer as answer
use Rattle.pythran_main.specs.Ending.{IsAnswered, Causes, status_of, text_of}
use Rattle.pythran_main.specs.Loads.{Content, IsLonger}
use Rattle.call_words.specs.Request.{Asked}
use Rattle.pythran_main.specs.Saves.{Save}
use Rattle.pythran_main.specs.World.{Written, Filed, Gained, Broke, AreKept, AreStored, BrokeOff}
use Rattle.pythran_main.specs.declared.answer.Report.{Report}
use Rattle.pythran_main.specs.declared.saved_file.SavedFile.{SavedFile}
use Rattle.pythran_main.specs.declared.trouble.Trouble.{Trouble}
use Rattle.pythran_main.specs.declared.trouble.Trouble.TheVariants.{NoRequest, Refused, RefusedItem, LoadFailed}
use Rattle.pythran_main.specs.declared.trouble.Trouble.TheVariants.{WriteFailed, StoreFailed, Memory, TooLong}

-- what a report stands for
abbrev pub save_of : SavedFile → Save
save_of s = record { path = string_bytes s.path; bytes = s.bytes }

abbrev pub product : Report → Product
product r = record { output = r.text; has_fault = r.has_fault; saves = map save_of r.saves }

-- the trouble where items make no call
abbrev pub stopped : BindStop → Trouble
stopped (stop.Item n) = RefusedItem n
stopped stop.LoadFailed = LoadFailed
stopped stop.TooLong = TooLong
stopped stop.Memory = Memory

-- Buffers have as many words in the end as they had, each of its kind.
pub record KeepsBuffers (arrays : List Array) (words : List (List ℤ)) : Type 0 where
  pub count : length words ≡ length arrays
  pub filled : All IsFilled (final_arrays arrays words)

-- A call is one of a kernel of the program, which it fits.
pub record IsCall (program : Program) (kernel : ℕ) (call : Call) : Type 0 where
  pub instance : Instance
  pub is : IsKernel program kernel instance
  pub fits : FitsInstance instance call

-- the answer that was prepared, a failed load, by the counts of faults before and after, or want of memory
abbrev pub Prepared : ℕ → ℕ → (Answer → Type 0) → Result Report Trouble → Type 0
Prepared before after P (Ok r) = P (answer.Makes (product r))
Prepared before after P (Err NoRequest) = ⊥
Prepared before after P (Err (Refused r)) = P (answer.Refused r)
Prepared before after P (Err (RefusedItem n)) = P (answer.RefusedItem n)
Prepared before after P (Err LoadFailed) = Rose before after
Prepared before after P (Err WriteFailed) = ⊥
Prepared before after P (Err StoreFailed) = ⊥
Prepared before after P (Err Memory) = Unit {0}
Prepared before after P (Err TooLong) = P answer.TooLong

-- A call of a source comes to this answer, and to no other where its array files are told.
pub record CallsTo (asked : Asked) (source : Source) (held : List ℕ → Held) (a : Answer) : Type 0 where
  pub arrays : List (Option Array)
  pub are_read : AreRead held (array_files asked) arrays
  pub called : IsCalled held source (bind source.heads asked.kernel asked.items arrays) a
  pub one : AreTold held (array_files asked) → HasOneAnswer held (to_bind asked source)

-- What a source's load gave leads to this answer, and to no other with the same arrays, or where the files are told.
pub record LeadsTo (asked : Asked) (gave : Content) (held : List ℕ → Held) (a : Answer) : Type 0 where
  pub arrays : List (Option Array)
  pub are_read : AreRead held (array_files asked) arrays
  pub answer : IsRead asked held gave arrays a
  pub alone : (others : List (Option Array)) (other : Answer)
      → (others ≡ arrays) ⊎ (Stands asked gave → AreTold held (array_files asked))
      → AreRead held (array_files asked) others → IsRead asked held gave others other → other ≡ a

-- why a request's source was not loaded
abbrev pub IsUnloaded : Filed → List ℕ → Trouble → Type 0
IsUnloaded files path LoadFailed = Rose files.faults_before files.faults_after
IsUnloaded files path TooLong = IsLonger (files.before path) source_limit
IsUnloaded files path Memory = Unit {0}
IsUnloaded files path _ = ⊥

-- the answer that the files give, or a failed load, or want of memory
abbrev pub Prepares : (P : (List ℕ → Held) → Answer → Type 0) → Filed → Result Report Trouble → Type 0
Prepares P files r = Prepared files.faults_before files.faults_after (P files.before) r

-- the whole output and all files, or a first part of that
abbrev pub Delivers : Product → Filed → Written → Result Bool Trouble → Type 0
Delivers p files out (Ok fault) = (fault ≡ p.has_fault) × Gained out p.output × AreStored files p.saves
Delivers p files out (Err WriteFailed) = Broke out p.output × AreKept files
Delivers p files out (Err StoreFailed) = Gained out p.output × BrokeOff files p.saves
Delivers p files out (Err _) = ⊥

-- All is written and stored, and the product has a fault or none.
pub record IsServed (words : List (List ℕ)) (files : Filed) (out : Written) (fault : Bool) : Type 0 where
  pub product : Product
  pub answered : IsAnswered words files.before (answer.Makes product)
  pub fault_is : fault ≡ product.has_fault
  pub output : Gained out product.output
  pub stored : AreStored files product.saves

-- all is written and stored, or a trouble has its cause
abbrev pub Works : List (List ℕ) → Filed → Written → Result Bool Trouble → Type 0
Works words files out (Ok fault) = IsServed words files out fault
Works words files out (Err t) = Causes words files out t

-- the text of a trouble is on the error output, with its status, or it broke off
abbrev pub Tells : Trouble → Written → ℕ → Type 0
Tells t err status = ((status ≡ status_of t) × Gained err (text_of t)) ⊎ ((status ≡ 5) × Broke err (text_of t))

-- the troubles whose text is made with memory
abbrev pub IsWorded : Trouble → Type 0
IsWorded (Refused r) = Unit {0}
IsWorded (RefusedItem n) = Unit {0}
IsWorded _ = ⊥

-- a trouble is told, or want of memory for its text is
abbrev pub TellsOf : Trouble → Written → ℕ → Type 0
TellsOf t err status = Tells t err status ⊎ (IsWorded t × Tells Memory err status)
