-- What the command promises beside the cause of each status.
use Rattle.std.specs.Prelude.{◌≡◌, ℕ, ◌⊎◌, List, Some, None}
use Rattle.host_io.specs.Counts.{Rose}
use Rattle.pythran_main.specs.Answer.{Answer, Refused, RefusedItem, TooLong, Makes, Answers, AreFilesTold}
use Rattle.pythran_main.specs.Ending.{IsTold, IsUnheard, status_at, text_of}
use Rattle.pythran_main.specs.Loads.{Loaded}
use Rattle.call_words.specs.Request.{Asked, request}
use Rattle.pythran_main.specs.World.{World, Gained, AreStored, NoneRose}
use Rattle.pythran_main.specs.declared.trouble.Trouble.TheVariants as trouble

-- why a command ends with 5: a load, a write, a store, or an error text that broke off
abbrev pub IsFailed : List (List ℕ) → World → Type 0
IsFailed words w =
    IsTold words w trouble.LoadFailed
    ⊎ (IsTold words w trouble.WriteFailed ⊎ (IsTold words w trouble.StoreFailed ⊎ IsUnheard words w))

-- words that are no request end with 2, unless the error text broke off, or memory was wanting
abbrev pub IsDeclined : List (List ℕ) → World → ℕ → Type 0
IsDeclined words w status =
    request words ≡ None
    → (status ≡ 2) ⊎ (((status ≡ 5) × Rose w.err.faults_before w.err.faults_after) ⊎ (status ≡ 6))

-- what a command does with an answer
abbrev pub Serves : Answer → World → ℕ → Type 0
Serves (Refused r) w status = (status ≡ 3) × Gained w.err (text_of (trouble.Refused r))
Serves (RefusedItem n) w status = (status ≡ 4) × Gained w.err (text_of (trouble.RefusedItem n))
Serves TooLong w status = (status ≡ 7) × Gained w.err (text_of trouble.TooLong)
Serves (Makes p) w status = (status ≡ status_at p.has_fault) × Gained w.out p.output × AreStored w.files p.saves

-- Where it is told what the files hold, and no count of faults rose, the command serves the answer that its words and
-- the files come to, or memory was wanting.
abbrev pub IsComplete : List (List ℕ) → World → ℕ → Type 0
IsComplete words w status =
    (asked : Asked) (loaded : Loaded) (a : Answer) → request words ≡ Some asked
    → AreFilesTold asked w.files.before loaded.source → Answers asked w.files.before loaded a → NoneRose w
    → Serves a w status ⊎ (status ≡ 6)
