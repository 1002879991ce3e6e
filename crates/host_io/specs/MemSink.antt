-- A sink in memory, as its user sees it (this project).
use Rattle.std.specs.Prelude.{ℕ, ◌-◌, List, length}

-- the bytes that were written, how many there may be, the numbers of the calls that are to fail, the number of the
-- next call, and how many faults there were
pub record Page : Type 0 where
  pub bytes : List ℕ
  pub room : ℕ
  pub fails : List ℕ
  pub calls : ℕ
  pub faults : ℕ

-- how many bytes more can be written
abbrev pub left_on : Page → ℕ
left_on page = page.room - length page.bytes
