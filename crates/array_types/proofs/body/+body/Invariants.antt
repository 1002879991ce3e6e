use Rattle.std.proofs.Common.{◌≡◌, ◌+◌, ◌*◌, drop, map, [], ℕ, List, max}
use denote.Param.Weighed.{most}
use Rattle.module_terms.specs.declared.term.Term.{size-Term}
use Rattle.array_types.specs.Forms.{values_from, subs_from, chained, followed, link_of, term, part, step, in_order}
use Rattle.array_types.specs.Forms.{line}
use Rattle.array_types.specs.Modules.{calls_at}
use Rattle.array_types.specs.Weights.{line_weight, block_weight, deepest}
use Rattle.module_terms.specs.declared.term.Routine.{Routine}
use Rattle.array_types.proofs.body.+body.Given as goal

-- what is left, from here, comes to what all of it comes to
abbrev pub invariant-terms-loop-x : goal.invariant-terms-loop-x
invariant-terms-loop-x l =
    values_from l.found (map (term (calls_at l.routines l.names l.depth)) (drop l.x-index l.args)) l.state ≡
    values_from l.fn.before (map (term (calls_at l.routines l.names l.depth)) l.args) l.fn.state

abbrev pub invariant-followed-loop-step : goal.invariant-followed-loop-step
invariant-followed-loop-step l =
    followed (map (step (calls_at l.routines l.names l.depth)) (drop l.step-index l.steps)) l.a l.state ≡
    followed (map (step (calls_at l.routines l.names l.depth)) l.steps) l.fn.first l.fn.state

abbrev pub invariant-subscripts-loop-x : goal.invariant-subscripts-loop-x
invariant-subscripts-loop-x l =
    subs_from l.found (map (part (calls_at l.routines l.names l.depth)) (drop l.x-index l.parts)) l.state ≡
    subs_from [] (map (part (calls_at l.routines l.names l.depth)) l.parts) l.fn.state

abbrev pub invariant-links-loop-link : goal.invariant-links-loop-link
invariant-links-loop-link l =
    chained l.both (map (link_of (calls_at l.routines l.names l.depth)) (drop l.link-index l.rest)) l.a l.state ≡
    chained l.both (map (link_of (calls_at l.routines l.names l.depth)) l.rest) l.fn.first l.fn.state

abbrev pub invariant-block-loop-x : goal.invariant-block-loop-x
invariant-block-loop-x l =
    in_order (map (line (calls_at l.routines l.names l.depth)) (drop l.x-index l.body)) l.state ≡
    in_order (map (line (calls_at l.routines l.names l.depth)) l.body) l.fn.state

-- A call goes one level down. A statement weighs more than its expressions and its blocks.
abbrev per_call : List Routine → ℕ
per_call routines = 8 * deepest routines + 20

abbrev level : ℕ → List Routine → ℕ
level depth routines = depth * per_call routines

abbrev pub decreases-call : goal.decreases-call
decreases-call l = level l.depth l.routines.now + 1

abbrev pub decreases-new : goal.decreases-new
decreases-new l = level l.depth l.routines.now + 8 * block_weight l.routine.now.body + 10

abbrev pub decreases-term : goal.decreases-term
decreases-term l = level l.depth l.routines.now + 4 * goal.size-term l + 2

abbrev pub decreases-terms : goal.decreases-terms
decreases-terms l = level l.depth l.routines.now + 4 * goal.size-terms l + 3

abbrev pub decreases-followed : goal.decreases-followed
decreases-followed l = level l.depth l.routines.now + 4 * goal.size-followed l + 3

abbrev pub decreases-follow : goal.decreases-follow
decreases-follow l = level l.depth l.routines.now + 4 * goal.size-follow l + 2

abbrev pub decreases-links : goal.decreases-links
decreases-links l = level l.depth l.routines.now + 4 * goal.size-links l + 4

abbrev pub decreases-joined : goal.decreases-joined
decreases-joined l = level l.depth l.routines.now + 4 * goal.size-joined l + 3

abbrev pub decreases-subscripts : goal.decreases-subscripts
decreases-subscripts l = level l.depth l.routines.now + 4 * goal.size-subscripts l + 3

abbrev pub decreases-subscript : goal.decreases-subscript
decreases-subscript l = level l.depth l.routines.now + 4 * goal.size-subscript l + 2

abbrev pub decreases-bound : goal.decreases-bound
decreases-bound l = level l.depth l.routines.now + 4 * goal.size-bound l + 3

abbrev pub decreases-line : goal.decreases-line
decreases-line l = level l.depth l.routines.now + 8 * line_weight l.x.now + 6

abbrev pub decreases-over_range : goal.decreases-over_range
decreases-over_range l = level l.depth l.routines.now + 8 * max (most size-Term l.head.now.args)
    (block_weight l.body.now) + 9

abbrev pub decreases-inner : goal.decreases-inner
decreases-inner l = level l.depth l.routines.now + 8 * block_weight l.body.now + 8

abbrev pub decreases-block : goal.decreases-block
decreases-block l = level l.depth l.routines.now + 8 * block_weight l.body.now + 7

abbrev pub decreases-enter : goal.decreases-enter
decreases-enter l = level l.depth l.routines.now + 8 * block_weight l.routine.now.body + 9
