-- Counts as a table of numbers that are held at a limit, in the code.
use Rattle.std.specs.Prelude.{ℕ, zero, suc, ◌+◌, min, List, [], ◌∷◌, map, length, replicate, slice_index_or}
use Rattle.eager_rules.specs.declared.program.Instance.{Instance}
use Rattle.inline.specs.Counts.{Count, depth, weight}
use Rattle.inline.specs.declared.counts.Measure.{Measure}
use Rattle.inline.specs.declared.counts.Measure.TheVariants.{Weight, Depth}

abbrev pub count_in : Measure → Count
count_in Weight = weight
count_in Depth = depth

-- one past each limit
abbrev pub limit_in : Measure → ℕ
limit_in Weight = 20001
limit_in Depth = 129

-- what a table has for a number
abbrev pub in_table : List ℕ → ℕ → ℕ
in_table table number = slice_index_or table number 0

-- one level of calls more
abbrev pub held : Measure → List ℕ → Instance → ℕ
held measure table f = min (limit_in measure) (count_in measure (in_table table) f)

abbrev pub round : Measure → List Instance → List ℕ → List ℕ
round measure instances table = map (held measure table) instances

abbrev pub rounds : Measure → List Instance → ℕ → List ℕ
rounds measure instances zero = replicate (length instances) 0
rounds measure instances (suc depth) = round measure instances (rounds measure instances depth)

-- sums that are held at one past what all kernels together may weigh
abbrev pub held_sums : ℕ → List ℕ → List ℕ
held_sums before [] = []
held_sums before (n ∷ ns) = min 20001 (before + n) ∷ held_sums (min 20001 (before + n)) ns
