-- What a command finds outside and leaves there: the files, the output and the error output.
use Rattle.std.specs.Prelude.{◌≡◌, ◌≢◌, ℕ, List, ◌∷◌, ◌++◌, take, Option}
use Rattle.host_io.specs.Counts.{Rose}
use Rattle.host_io.specs.Files.{Held}
use Rattle.host_io.specs.Sink.{appended}
use Rattle.host_io.specs.declared.files.Files as files_trait
use Rattle.host_io.specs.declared.sink.Sink as sink_trait
use Rattle.pythran_main.specs.Saves.{Save, with_saves}

-- what a sink had and has: the bytes written before and after, where that is told, and its counts of faults
pub record Written : Type 0 where
  pub before : Option (List ℕ)
  pub after : Option (List ℕ)
  pub faults_before : ℕ
  pub faults_after : ℕ

abbrev pub sink_of : {S : Type 0} → sink_trait.Ghosts S → S → S → Written
sink_of sink old new = record {
  before = sink.written old;
  after = sink.written new;
  faults_before = sink.faults old;
  faults_after = sink.faults new;
}

-- what the files had and have: what each name held and holds, and their counts of faults
pub record Filed : Type 0 where
  pub before : List ℕ → Held
  pub after : List ℕ → Held
  pub faults_before : ℕ
  pub faults_after : ℕ

abbrev pub files_of : {F : Type 0} → files_trait.Ghosts F → F → F → Filed
files_of files old new = record {
  before = files.held old;
  after = files.held new;
  faults_before = files.faults old;
  faults_after = files.faults new;
}

-- all three
pub record World : Type 0 where
  pub files : Filed
  pub out : Written
  pub err : Written

abbrev pub world : {F O E : Type 0} → files_trait.Ghosts F → F → F → sink_trait.Ghosts O → O → O → sink_trait.Ghosts E
    → E → E → World
world files files_old files_new out out_old out_new err err_old err_new = record {
  files = files_of files files_old files_new;
  out = sink_of out out_old out_new;
  err = sink_of err err_old err_new;
}

-- nothing was written
abbrev pub IsUntouched : Written → Type 0
IsUntouched w = w.after ≡ w.before

-- these bytes were written
abbrev pub Gained : Written → List ℕ → Type 0
Gained w text = w.after ≡ appended w.before text

-- the count of faults rose, and a first part of these bytes was written
pub record Broke (w : Written) (text : List ℕ) : Type 0 where
  pub rose : Rose w.faults_before w.faults_after
  pub count : ℕ
  pub part : w.after ≡ appended w.before (take count text)

-- no file has changed
abbrev pub AreKept : Filed → Type 0
AreKept files = (name : List ℕ) → files.after name ≡ files.before name

-- exactly these files were stored
abbrev pub AreStored : Filed → List Save → Type 0
AreStored files saves = (name : List ℕ) → files.after name ≡ with_saves files.before saves name

-- the count of faults rose, the files before one of these were stored, and the name of that one holds anything
pub record BrokeOff (files : Filed) (saves : List Save) : Type 0 where
  pub rose : Rose files.faults_before files.faults_after
  pub done : List Save
  pub failed : Save
  pub rest : List Save
  pub parts : saves ≡ done ++ failed ∷ rest
  pub others : (name : List ℕ) → name ≢ failed.path → files.after name ≡ with_saves files.before done name

-- no count of faults rose
pub record NoneRose (w : World) : Type 0 where
  pub files : Rose w.files.faults_before w.files.faults_after → ⊥
  pub output : Rose w.out.faults_before w.out.faults_after → ⊥
  pub error_output : Rose w.err.faults_before w.err.faults_after → ⊥
