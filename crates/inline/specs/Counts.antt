-- How heavy and how deep an instance is with the bodies of the instances that it calls in place of the calls. Neither
-- asks for a copy. (What is counted is this project's own rule.)
use Rattle.std.specs.Prelude.{ℕ, zero, suc, ◌+◌, max, List, [], ◌∷◌, map, length, slice_get, Option, Some, None}
use Rattle.eager_rules.specs.declared.program.Core.{Core}
use Rattle.eager_rules.specs.declared.program.Core.TheOpen as c
use Rattle.eager_rules.specs.declared.program.Core.TheFolds.{fold-Core}
use Rattle.eager_rules.specs.declared.program.Instance.{Instance}
use Rattle.eager_rules.specs.declared.program.Program.{Program}

-- What an instance counts, by what each instance that it calls counts.
abbrev pub Count : Type 0
Count = (ℕ → ℕ) → Instance → ℕ

abbrev pub count_by : Count → (ℕ → ℕ) → Option Instance → ℕ
count_by count below None = 0
count_by count below (Some f) = count below f

-- What the instance with a number counts, where calls go to a depth. No chain of calls of a sound program passes more
-- instances than there are, so that many levels are enough.
abbrev pub count_at : Count → List Instance → ℕ → ℕ → ℕ
count_at count instances zero = λ number. 0
count_at count instances (suc depth) = λ number.
    count_by count (count_at count instances depth) (slice_get instances number)

abbrev pub count_of : Count → Program → ℕ → ℕ
count_of count program = count_at count program.instances (length program.instances)

abbrev pub total : List ℕ → ℕ
total [] = 0
total (n ∷ ns) = n + total ns

abbrev pub greatest : List ℕ → ℕ
greatest [] = 0
greatest (n ∷ ns) = max n (greatest ns)

-- The weight: an instance's own tokens, and for each of its calls the weight of the called instance.
abbrev pub called_step : (ℕ → ℕ) → c.Core-F ℕ → ℕ
called_step below (c.Call to instance args) = below instance
called_step below (c.If cond part other) = total part + total other
called_step below (c.For var lo hi by at omp body) = total body
called_step below _ = 0

abbrev pub called_weight : (ℕ → ℕ) → List Core → ℕ
called_weight below body = total (map (fold-Core ℕ (called_step below)) body)

abbrev pub weight : Count
weight below f = f.weight + called_weight below f.body

-- The depth: how many `if` and `for` stand within one another at most, where a called body stands in place of its
-- call. (The right side of an `and` or `or` is a part of an `If`, and an `elif` is one in the second part of another.)
abbrev pub depth_step : (ℕ → ℕ) → c.Core-F ℕ → ℕ
depth_step below (c.Call to instance args) = below instance
depth_step below (c.If cond part other) = suc (max (greatest part) (greatest other))
depth_step below (c.For var lo hi by at omp body) = suc (greatest body)
depth_step below _ = 0

abbrev pub block_depth : (ℕ → ℕ) → List Core → ℕ
block_depth below body = greatest (map (fold-Core ℕ (depth_step below)) body)

abbrev pub depth : Count
depth below f = block_depth below f.body
