use Rattle.std.proofs.Common.{◌≡◌, ◌≤◌, length, map, max}
use Rattle.py_lex.specs.Words.{longest}
use Rattle.py_lex.proofs.words.longest.Given as goal

abbrev pub invariant-loop-words : goal.invariant-loop-words
invariant-loop-words l =
    (max l.best (longest (map (λ w. w.now) l.words) l.z) ≡ longest (map (λ w. w.now) l.initial.words) l.z)
    × (l.best ≤ length l.z)

abbrev pub decreases-loop-words : goal.decreases-loop-words
decreases-loop-words l = length l.words
