-- A block by what stands one level further in.
use Rattle.std.proofs.Common.{◌≡◌, ℕ, zero, suc, ◌-◌, refl, arith}
use Rattle.py_parse.specs.Blocks.{block, tail, stmt, block_with, tail_with}
use Rattle.py_parse.specs.BlockLevels.{stmt_inside, elif_inside, IsInside, IsInmost}

inside-suc : (n inner : ℕ) → inner ≡ n → IsInside (suc n) inner
inside-suc n inner e = rw e (record { stmts = refl; elifs = refl; below = omega arith })

pub inside : (depth : ℕ) → (depth ≡ 0 → ⊥) → IsInside depth (depth - 1)
inside zero h = absurd (h refl)
inside (suc n) h = inside-suc n (suc n - 1) (omega arith)

pub inmost : (depth : ℕ) → depth ≡ 0 → IsInmost depth
inmost depth e = rw e (record { stmts = refl; elifs = refl })

pub block_is : (depth : ℕ) → block depth ≡ block_with depth (stmt_inside depth)
unfolding block stmt
block_is zero = refl
block_is (suc depth) = refl

pub tail_is : (depth : ℕ) → tail depth ≡ tail_with (elif_inside depth) (block depth)
unfolding block tail stmt
tail_is zero = refl
tail_is (suc depth) = refl
