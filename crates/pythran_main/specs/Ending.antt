-- How a command ends: its exit status, and what it leaves outside.
use Rattle.std.specs.Prelude.{◌≡◌, ℕ, ◌⊎◌, Bool, if◌then◌else◌, List, ◌++◌, codes, Some, None}
use Rattle.std.specs.Fmt.{decimal}
use Rattle.host_io.specs.Counts.{Rose}
use Rattle.host_io.specs.Files.{Held}
use Rattle.krn_base.specs.Rule.{rule_name}
use Rattle.krn_base.specs.declared.refusal.Refusal.{Refusal}
use Rattle.pythran_main.specs.Answer.{Answer, Product, Reaches}
use Rattle.pythran_main.specs.Answer as answer
use Rattle.call_words.specs.Request.{Asked, request}
use Rattle.pythran_main.specs.World.{Written, Filed, World, IsUntouched, Gained, Broke, AreKept, AreStored, BrokeOff}
use Rattle.pythran_main.specs.declared.trouble.Trouble.{Trouble}
use Rattle.pythran_main.specs.declared.trouble.Trouble.TheVariants.{NoRequest, Refused, RefusedItem, LoadFailed}
use Rattle.pythran_main.specs.declared.trouble.Trouble.TheVariants.{WriteFailed, StoreFailed, Memory, TooLong}

-- 0 without a fault line, 1 with one
abbrev pub status_at : Bool → ℕ
status_at fault = if fault then 1 else 0

-- the status that a trouble gives
abbrev pub status_of : Trouble → ℕ
status_of NoRequest = 2
status_of (Refused r) = 3
status_of (RefusedItem n) = 4
status_of LoadFailed = 5
status_of WriteFailed = 5
status_of StoreFailed = 5
status_of Memory = 6
status_of TooLong = 7

-- rule, line and column
abbrev pub refusal_text : Refusal → List ℕ
refusal_text r =
    rule_name r.rule ++ (codes " " ++ (decimal r.loc.line ++ (codes ":" ++ (decimal r.loc.col ++ codes "\n"))))

-- the text that a trouble puts on the error output, which ends with a line feed
abbrev pub text_of : Trouble → List ℕ
text_of NoRequest = codes "error words\n"
text_of (Refused r) = codes "refused " ++ refusal_text r
text_of (RefusedItem n) = codes "error item " ++ (decimal n ++ codes "\n")
text_of LoadFailed = codes "error load\n"
text_of WriteFailed = codes "error write\n"
text_of StoreFailed = codes "error store\n"
text_of Memory = codes "error memory\n"
text_of TooLong = codes "error long\n"

-- The words are a request that comes to this answer.
pub record IsAnswered (words : List (List ℕ)) (held : List ℕ → Held) (a : Answer) : Type 0 where
  pub asked : Asked
  pub asks : request words ≡ Some asked
  pub reaches : Reaches asked held a

-- Nothing was written on the output, and no file has changed.
pub record IsStill (files : Filed) (out : Written) : Type 0 where
  pub output : IsUntouched out
  pub kept : AreKept files

-- An answer ended the command before anything was written.
pub record IsStopped (words : List (List ℕ)) (files : Filed) (out : Written) (a : Answer) : Type 0 where
  pub answered : IsAnswered words files.before a
  pub still : IsStill files out

-- The words are no request.
pub record IsNoRequest (words : List (List ℕ)) (files : Filed) (out : Written) : Type 0 where
  pub none : request words ≡ None
  pub still : IsStill files out

-- The words are a request, and the files' count of faults rose.
pub record IsNotLoaded (words : List (List ℕ)) (files : Filed) (out : Written) : Type 0 where
  pub asked : Asked
  pub asks : request words ≡ Some asked
  pub rose : Rose files.faults_before files.faults_after
  pub still : IsStill files out

-- The output's count of faults rose; a first part of the request's output is there, and nothing is stored.
pub record IsNotWritten (words : List (List ℕ)) (files : Filed) (out : Written) : Type 0 where
  pub product : Product
  pub answered : IsAnswered words files.before (answer.Makes product)
  pub broke : Broke out product.output
  pub kept : AreKept files

-- The files' count of faults rose; the whole output is there, and the files before the failed one are stored.
pub record IsNotStored (words : List (List ℕ)) (files : Filed) (out : Written) : Type 0 where
  pub product : Product
  pub answered : IsAnswered words files.before (answer.Makes product)
  pub output : Gained out product.output
  pub broke_off : BrokeOff files product.saves

-- the cause of a trouble, and what is written and stored where it comes
abbrev pub Causes : List (List ℕ) → Filed → Written → Trouble → Type 0
Causes words files out NoRequest = IsNoRequest words files out
Causes words files out (Refused r) = IsStopped words files out (answer.Refused r)
Causes words files out (RefusedItem n) = IsStopped words files out (answer.RefusedItem n)
Causes words files out LoadFailed = IsNotLoaded words files out
Causes words files out WriteFailed = IsNotWritten words files out
Causes words files out StoreFailed = IsNotStored words files out
Causes words files out Memory = IsStill files out
Causes words files out TooLong = IsStopped words files out answer.TooLong

-- A trouble has its cause, and its text is on the error output.
pub record IsTold (words : List (List ℕ)) (w : World) (t : Trouble) : Type 0 where
  pub cause : Causes words w.files w.out t
  pub told : Gained w.err (text_of t)

-- A trouble has its cause, and its text broke off on the error output.
pub record IsUnheard (words : List (List ℕ)) (w : World) : Type 0 where
  pub trouble : Trouble
  pub cause : Causes words w.files w.out trouble
  pub broke : Broke w.err (text_of trouble)

-- The request's output was written and its files were stored, with the status of its fault; nothing is on the error
-- output.
pub record IsDone (words : List (List ℕ)) (w : World) (status : ℕ) : Type 0 where
  pub product : Product
  pub answered : IsAnswered words w.files.before (answer.Makes product)
  pub status_is : status ≡ status_at product.has_fault
  pub output : Gained w.out product.output
  pub stored : AreStored w.files product.saves
  pub quiet : IsUntouched w.err

-- A trouble was told, with its status.
pub record IsEnded (words : List (List ℕ)) (w : World) (status : ℕ) : Type 0 where
  pub trouble : Trouble
  pub told : IsTold words w trouble
  pub status_is : status ≡ status_of trouble

-- every way in which a command ends
abbrev pub Ends : List (List ℕ) → World → ℕ → Type 0
Ends words w status = IsDone words w status ⊎ (IsEnded words w status ⊎ ((status ≡ 5) × IsUnheard words w))
