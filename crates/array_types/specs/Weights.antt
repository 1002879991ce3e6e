-- How deep statements are, with the expressions in them: what bounds a walk through them.
use Rattle.std.specs.Prelude.{ℕ, zero, suc, ◌+◌, max, List, [], ◌∷◌, map}
use denote.Param.Weighed.{most}
use Rattle.module_terms.specs.declared.term.Line.{Line}
use Rattle.module_terms.specs.declared.term.Line.TheOpen as l
use Rattle.module_terms.specs.declared.term.Line.TheFolds.{fold-Line}
use Rattle.module_terms.specs.declared.term.Part.{size-Part}
use Rattle.module_terms.specs.declared.term.Routine.{Routine}
use Rattle.module_terms.specs.declared.term.Term.{Term, size-Term}

abbrev pub greatest : List ℕ → ℕ
greatest [] = 0
greatest (n ∷ ns) = max n (greatest ns)

abbrev pub line_step : l.Line-F ℕ → ℕ
line_step (l.Return at args) = most size-Term args
line_step (l.Alone name args) = most size-Term args
line_step (l.Assign name eq x) = size-Term x
line_step (l.Store x bracket parts eq y) = max (size-Term x) (max (most size-Part parts) (size-Term y))
line_step (l.AugmentName name op at y) = size-Term y
line_step (l.AugmentPick x bracket parts op at y) = max (size-Term x) (max (most size-Part parts) (size-Term y))
line_step (l.If at cond part other) = 1 + max (size-Term cond) (max (greatest part) (greatest other))
line_step (l.For head body) = 1 + max (most size-Term head.args) (greatest body)

abbrev pub line_weight : Line → ℕ
line_weight = fold-Line ℕ line_step

abbrev pub block_weight : List Line → ℕ
block_weight body = greatest (map line_weight body)

abbrev pub routine_weight : Routine → ℕ
routine_weight r = block_weight r.body

abbrev pub deepest : List Routine → ℕ
deepest routines = most routine_weight routines
