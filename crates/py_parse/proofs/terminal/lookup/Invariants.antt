use Rattle.std.proofs.Common.{◌≡◌, length, map}
use Rattle.py_parse.specs.Lexemes.{lookup}
use Rattle.py_parse.proofs.terminal.lookup.Given as goal

abbrev pub invariant-loop-entries : goal.invariant-loop-entries
invariant-loop-entries l = lookup (map (λ e. (e.0.now, e.1)) l.entries) l.text ≡ lookup
    (map (λ e. (e.0.now, e.1)) l.initial.entries) l.text

abbrev pub decreases-loop-entries : goal.decreases-loop-entries
decreases-loop-entries l = length l.entries
