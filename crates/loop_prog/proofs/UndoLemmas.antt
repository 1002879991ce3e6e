-- Logs: one longer, and what two lists of tests have in common.
use Rattle.std.proofs.Common.{◌≡◌, ◌∙◌, ap, ap₂, sym, refl, ℕ, zero, suc, Bool, true, false, not, if◌then◌else◌, ◌&&◌}
use Rattle.std.proofs.Common.{List, [], ◌∷◌, ◌++◌, ◌+◌, ◌<◌, length, slice_index_or, slice_set, take}
use Rattle.std.proofs.lemmas.List.{set-get_or, set-set, take_more}
use Rattle.loop_prog.specs.Paths.{both_paths, both_slots, kept_by, meet}
use Rattle.loop_prog.specs.Undo.{Undoes, before, behind, both_marks, undone}
use Rattle.loop_prog.specs.declared.joins.Part.{Part}
use Rattle.loop_prog.specs.declared.marks.Mark.{Mark}
use Rattle.loop_prog.specs.declared.paths.Paths.{Paths}

abbrev pub paths_of : Bool → List Bool → Paths
paths_of reached slots = record { reached = reached; slots = slots }

pub undone-push : (log : List Mark) (mark : Mark) (slots : List Bool) →
    undone (log ++ mark ∷ []) slots ≡ undone log (slice_set slots mark.slot mark.assigned)
undone-push [] mark slots = refl
undone-push (first ∷ log) mark slots =
    ap (λ (s : List Bool). slice_set s first.slot first.assigned) (undone-push log mark slots)

-- a changed test, with what stood there in the log
pub undone-change : (log : List Mark) (mark : Mark) (slots : List Bool) (assigned : Bool) →
    mark.assigned ≡ slice_index_or slots mark.slot false →
    undone (log ++ mark ∷ []) (slice_set slots mark.slot assigned) ≡ undone log slots
undone-change log mark slots assigned was =
    undone-push log mark (slice_set slots mark.slot assigned) ∙ ap (undone log)
    (set-set slots mark.slot assigned mark.assigned ∙ (ap (slice_set slots mark.slot) was ∙
    set-get_or slots mark.slot false))

none_there : (t : Bool) → false ≡ (t && false)
none_there true = refl
none_there false = refl

swapped : (s t : Bool) → (s && t) ≡ (t && s)
swapped true true = refl
swapped true false = refl
swapped false true = refl
swapped false false = refl

both_set : (slots others : List Bool) (n : ℕ) (t : Bool) → both_slots (slice_set slots n t) others ≡
    slice_set (both_slots slots others) n (t && slice_index_or others n false)
both_set [] others n t = refl
both_set (x ∷ slots) [] zero t = refl
both_set (x ∷ slots) [] (suc n) t = refl
both_set (x ∷ slots) (y ∷ others) zero t = refl
both_set (x ∷ slots) (y ∷ others) (suc n) t = ap (λ (s : List Bool). (x && y) ∷ s) (both_set slots others n t)

both_swapped : (slots others : List Bool) → both_slots slots others ≡ both_slots others slots
both_swapped [] [] = refl
both_swapped [] (y ∷ others) = refl
both_swapped (x ∷ slots) [] = refl
both_swapped (x ∷ slots) (y ∷ others) =
    ap (λ (s : List Bool). (x && y) ∷ s) (both_swapped slots others) ∙
    ap (λ (t : Bool). t ∷ both_slots others slots) (swapped x y)

both_same : (slots : List Bool) → both_slots slots slots ≡ slots
both_same [] = refl
both_same (true ∷ slots) = ap (λ (s : List Bool). true ∷ s) (both_same slots)
both_same (false ∷ slots) = ap (λ (s : List Bool). false ∷ s) (both_same slots)

-- what changed tests have in common with others
both_undone : (log : List Mark) (slots others : List Bool) →
    both_slots (undone log slots) others ≡ undone (both_marks others log) (both_slots slots others)
both_undone [] slots others = refl
both_undone (mark ∷ log) slots others =
    both_set (undone log slots) others mark.slot mark.assigned ∙
    ap (λ (s : List Bool). slice_set s mark.slot (mark.assigned && slice_index_or others mark.slot false))
    (both_undone log slots others)

-- what changed tests have in common with those before the changes
pub kept_undone : (log : List Mark) (slots : List Bool) →
    both_slots slots (undone log slots) ≡ undone (both_marks slots log) slots
kept_undone log slots =
    both_swapped slots (undone log slots) ∙ (both_undone log slots slots ∙
    ap (undone (both_marks slots log)) (both_same slots))

-- what two ends have in common whose changes began at one place
pub met_undone : (log more : List Mark) (slots others : List Bool) → undone more slots ≡ others →
    both_slots (undone log slots) others ≡ undone (both_marks others log) (undone (both_marks slots more) slots)
met_undone log more slots others is =
    both_undone log slots others ∙ ap (undone (both_marks others log))
    (ap (both_slots slots) (sym is) ∙ kept_undone more slots)

-- a log without its latest change
pub undone-less : (log : List Mark) (k : ℕ) (mark : Mark) (slots : List Bool) → k < length log →
    undone (take (k + 1) log) slots ≡
    undone (take k log) (slice_set slots (slice_index_or log k mark).slot (slice_index_or log k mark).assigned)
undone-less log k mark slots lt =
    ap (λ (l : List Mark). undone l slots) (take_more log k mark lt) ∙
    undone-push (take k log) (slice_index_or log k mark) slots

-- back where a log began that was empty
pub back_at : (start paths later : Paths) (log whole none : List Mark) → start ≡ before paths.reached whole later →
    whole ≡ log → none ≡ [] → Undoes log later none paths → start ≡ paths
back_at start paths later log whole none back is empty same =
    back ∙ (ap (λ (l : List Mark). before paths.reached l later) is ∙
    ap (λ (s : List Bool). paths_of paths.reached s)
    (same ∙ ap (λ (l : List Mark). undone l paths.slots) empty))

-- the head of a loop, from where a turn came back to it
pub turn_kept : (turn : Part) (start paths : Paths) → behind turn start.slots ≡ paths → turn.reached ≡ true →
    paths_of start.reached (undone (both_marks start.slots turn.changes) start.slots) ≡ kept_by start paths
turn_kept turn start paths is reached =
    let there : true ≡ paths.reached = sym reached ∙ ap (λ (p : Paths). p.reached) is in
    let slots : undone turn.changes start.slots ≡ paths.slots = ap (λ (p : Paths). p.slots) is in
    ap (paths_of start.reached) (sym (kept_undone turn.changes start.slots) ∙ ap (both_slots start.slots) slots) ∙
    ap (λ (t : Bool). if not t then start else both_paths start paths) there

both_reached : (paths others : Paths) → true ≡ paths.reached → true ≡ others.reached →
    both_paths paths others ≡ meet paths others
both_reached paths others here there =
    ap₂ (λ (a b : Bool). if not b then paths else (if not a then others else both_paths paths others)) here there

-- the meeting of two parts, from where both began
pub parts_meet : (first second : Part) (own : List Mark) (start paths : Paths) →
    start ≡ before first.reached own paths → behind second start.slots ≡ paths →
    second.reached ≡ true → first.reached ≡ true →
    paths_of start.reached (undone (both_marks paths.slots first.changes)
    (undone (both_marks start.slots second.changes) start.slots)) ≡
    meet (behind first (undone own paths.slots)) paths
parts_meet first second own start paths back is there here =
    let slots : undone second.changes start.slots ≡ paths.slots = ap (λ (p : Paths). p.slots) is in
    let from : start.slots ≡ undone own paths.slots = ap (λ (p : Paths). p.slots) back in
    ap₂ paths_of (ap (λ (p : Paths). p.reached) back)
    (sym (met_undone first.changes second.changes start.slots paths.slots slots) ∙
    ap (λ (s : List Bool). both_slots (undone first.changes s) paths.slots) from) ∙
    both_reached (behind first (undone own paths.slots)) paths (sym here)
    (sym there ∙ ap (λ (p : Paths). p.reached) is)
