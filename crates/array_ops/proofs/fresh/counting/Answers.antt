use Rattle.std.proofs.Common.{rules, arith, ◌≡◌, ℕ, ℤ, pos, List, [], ◌∷◌, ◌++◌, ◌+◌, map, ◌∙◌, ap, sym}
use Rattle.std.proofs.lemmas.List.FromFn.{map-range_with_len_more}
use Rattle.std.specs.List.{range_with_len}
use Rattle.array_ops.proofs.fresh.counting.Goals as goal

-- the numbers below k, and k behind them
one_more : (words before : List ℤ) (k : ℕ) → words ≡ before ++ pos k ∷ [] → before ≡ map pos (range_with_len 0 k) →
    words ≡ map pos (range_with_len 0 (k + 1))
one_more words before k pushed so_far =
    pushed ∙ ap (λ (xs : List ℤ). xs ++ pos k ∷ []) so_far ∙ sym (map-range_with_len_more pos 0 k k (omega arith))

pub loop-k-preserved : goal.loop-k-preserved
loop-k-preserved c =
    let pushed : c.push.new.self ≡ c.loop-k.words ++ pos c.loop-k.k ∷ [] = search rules in
    one_more c.push.new.self c.loop-k.words c.loop-k.k pushed c.loop-k.invariant
