-- A program that the check takes and that has no parallel loop is one that the executor runs.
use Rattle.std.proofs.Common.{◌≡◌, ◌∙◌, ap, sym, refl, ℕ, ◌+◌, Bool, true, false, ◌&&◌, List, [], ◌∷◌, ◌++◌, map}
use Rattle.std.proofs.Common.{Option, Some, None}
use Rattle.std.specs.List.{list_all}
use Rattle.std.proofs.lemmas.List.Folds.{list_all-append}
use Rattle.eager_rules.specs.Small.{all_true}
use Rattle.loop_prog.specs.Check.{Findings, block_findings, body_findings, broken_or, deeper, findings}
use Rattle.loop_prog.specs.Check.{findings_step, first_broken, first_flaw, flaw_or, kernel_findings, kernel_keeps}
use Rattle.loop_prog.specs.Check.{kernels_findings, before_rest, paths_in, with_findings, with_own}
use Rattle.loop_prog.specs.Conditions.{small_word, some_views, steps_fit}
use Rattle.loop_prog.specs.Paths.{at_start, flow}
use Rattle.loop_prog.specs.Templates.{leaves}
use Rattle.loop_prog.specs.declared.invalid.InvalidRule.{InvalidRule}
use Rattle.loop_prog.specs.declared.kept.Kept.{Kept}
use Rattle.loop_prog.specs.declared.kept.Site.{Site}
use Rattle.loop_prog.specs.declared.paths.Paths.{Paths}
use Rattle.loop_prog.specs.declared.program.Kernel.{Kernel}
use Rattle.loop_prog.specs.declared.program.Statement.{Statement}
use Rattle.loop_prog.specs.declared.program.Statement.TheOpen as l
use Rattle.loop_prog.specs.declared.program.Statement.TheFolds.{map-Statement, fold-roll-Statement, para-roll-Statement}
use Rattle.loop_prog.specs.declared.program.Statement.TheViews.{roll-Statement}
use Rattle.loop_exec.proofs.ListLemmas.{and_left, and_right}
use Rattle.loop_exec.proofs.Trees.{Good as Proved, by_layers, fused}
use Rattle.loop_exec.specs.Starts.{all_runnable, is_runnable, kernels_runnable, runnable_step}
use Rattle.omp_loops.specs.Serial.{all_serial, is_serial, kernels_serial, serial_step}

both_true : (a b : Bool) → a ≡ true → b ≡ true → a && b ≡ true
both_true true b h k = k
both_true false b h k = h

-- ---- no entry without a flaw has a bad template
behind : (b : Bool) (r : InvalidRule) (rest : Option InvalidRule) → broken_or b r rest ≡ None → rest ≡ None
behind true r rest h = h
behind false r rest h = absurd cc

kept : (b : Bool) (r : InvalidRule) (rest : Option InvalidRule) → broken_or b r rest ≡ None → b ≡ true
kept true r rest h = refl
kept false r rest h = absurd cc

template_kept : (k : Kept) → first_broken k ≡ None → k.template ≡ true
template_kept k h =
    kept k.template _ _ (behind k.assigned _ _ (behind k.rank _ _ (behind k.kind _ _ (behind k.register _ _ h))))

abbrev templates : List Kept → Bool
templates ks = list_all (λ k. k.template) ks

by_flaw : (n : ℕ) (o : Option InvalidRule) (rest : Option (ℕ × InvalidRule)) → flaw_or n o rest ≡ None →
    (o ≡ None) × (rest ≡ None)
by_flaw n None rest h = (refl, h)
by_flaw n (Some r) rest h = absurd cc

no_flaw : (n : ℕ) (ks : List Kept) → first_flaw n ks ≡ None → templates ks ≡ true
no_flaw n [] h = refl
no_flaw n (k ∷ ks) h =
    let parts : (first_broken k ≡ None) × (first_flaw (n + 1) ks ≡ None) =
    by_flaw n (first_broken k) (first_flaw (n + 1) ks) h in
    both_true k.template (templates ks) (template_kept k parts.0) (no_flaw (n + 1) ks parts.1)

-- ---- statements
abbrev Done : Statement → Type 0
Done x = (kernel : Kernel) (site : Site) (paths : Paths) → templates (findings kernel x site paths) ≡ true →
    is_serial x ≡ true → is_runnable x ≡ true

abbrev G : Type 0
G = Proved Done

abbrev found : Kernel → G → Statement × Findings
found kernel g = (g.0, findings kernel g.0)

each : (kernel : Kernel) (site : Site) (paths : Paths) (gs : List G) →
    templates (block_findings (map (found kernel) gs) site paths) ≡ true →
    all_true (map (λ (g : G). is_serial g.0) gs) ≡ true → all_true (map (λ (g : G). is_runnable g.0) gs) ≡ true
each kernel site paths [] h s = refl
each kernel site paths (g ∷ gs) h s =
    let here : Site = before_rest site (map (found kernel) gs) in
    let first : List Kept = findings kernel g.0 here paths in
    let rest : List Kept = block_findings (map (found kernel) gs) site (flow g.0 paths) in
    let parts : templates first && templates rest ≡ true = sym (list_all-append (λ k. k.template) first rest) ∙ h in
    both_true (is_runnable g.0) (all_true (map (λ (x : G). is_runnable x.0) gs))
    (g.1 kernel here paths (and_left (templates first) (templates rest) parts)
    (and_left (is_serial g.0) (all_true (map (λ (x : G). is_serial x.0) gs)) s))
    (each kernel site (flow g.0 paths) gs (and_right (templates first) (templates rest) parts)
    (and_right (is_serial g.0) (all_true (map (λ (x : G). is_serial x.0) gs)) s))

step : (kernel : Kernel) (site : Site) (paths : Paths) (y : l.Statement-F G) →
    templates (findings_step kernel (map-Statement G (Statement × Findings) (found kernel) y) site paths) ≡ true →
    serial_step (map-Statement G Bool (λ g. is_serial g.0) y) ≡ true →
    runnable_step (map-Statement G Bool (λ g. is_runnable g.0) y) ≡ true
step kernel site paths (l.Set to op args at) h s = and_left (small_word op) true h
step kernel site paths (l.Nest to template at) h s = and_left (steps_fit template.steps) true h
step kernel site paths (l.Fold to join template at) h s =
    and_right (some_views (leaves template.steps)) (steps_fit template.steps)
    (and_left (some_views (leaves template.steps) && steps_fit template.steps) true h)
step kernel site paths (l.If cond part other) h s =
    let inside : Site = deeper site site.ends in
    let first : List Kept = block_findings (map (found kernel) part) inside paths in
    let second : List Kept = block_findings (map (found kernel) other) inside paths in
    let parts : templates first && templates second ≡ true =
    sym (list_all-append (λ k. k.template) first second) ∙ h in
    both_true (all_true (map (λ (g : G). is_runnable g.0) part)) (all_true (map (λ (g : G). is_runnable g.0) other))
    (each kernel inside paths part (and_left (templates first) (templates second) parts)
    (and_left (all_true (map (λ (g : G). is_serial g.0) part)) (all_true (map (λ (g : G). is_serial g.0) other)) s))
    (each kernel inside paths other (and_right (templates first) (templates second) parts)
    (and_right (all_true (map (λ (g : G). is_serial g.0) part)) (all_true (map (λ (g : G). is_serial g.0) other)) s))
step kernel site paths (l.For var lo hi by at body) h s =
    each kernel (deeper site false) (paths_in var (map (found kernel) body) paths) body h s
step kernel site paths (l.ParFor var lo hi by at guard reductions privates body) h s = absurd cc
step kernel site paths _ h s = refl

layer : (y : l.Statement-F G) → Done (roll-Statement (map-Statement G Statement (λ g. g.0) y))
layer y kernel site paths h s =
    let x : l.Statement-F Statement = map-Statement G Statement (λ g. g.0) y in
    let same_found : findings_step kernel (map-Statement G (Statement × Findings) (found kernel) y) ≡
    findings kernel (roll-Statement x) =
    ap (findings_step kernel) (fused Done (Statement × Findings) (with_findings kernel) y) ∙
    sym (para-roll-Statement Findings (findings_step kernel) x) in
    let same_serial : serial_step (map-Statement G Bool (λ g. is_serial g.0) y) ≡ is_serial (roll-Statement x) =
    ap serial_step (fused Done Bool is_serial y) ∙ sym (fold-roll-Statement Bool serial_step x) in
    let same_runnable : runnable_step (map-Statement G Bool (λ g. is_runnable g.0) y) ≡
    is_runnable (roll-Statement x) =
    ap runnable_step (fused Done Bool is_runnable y) ∙ sym (fold-roll-Statement Bool runnable_step x) in
    sym same_runnable ∙ step kernel site paths y
    (ap (λ (f : Findings). templates (f site paths)) same_found ∙ h) (same_serial ∙ s)

statement_runs : (x : Statement) → Done x
statement_runs = by_layers Done layer

body_runs : (kernel : Kernel) (site : Site) (paths : Paths) (body : List Statement) →
    templates (block_findings (map (with_findings kernel) body) site paths) ≡ true → all_serial body ≡ true →
    all_runnable body ≡ true
body_runs kernel site paths [] h s = refl
body_runs kernel site paths (x ∷ body) h s =
    let here : Site = before_rest site (map (with_findings kernel) body) in
    let first : List Kept = findings kernel x here paths in
    let rest : List Kept = block_findings (map (with_findings kernel) body) site (flow x paths) in
    let parts : templates first && templates rest ≡ true = sym (list_all-append (λ k. k.template) first rest) ∙ h in
    both_true (is_runnable x) (all_runnable body)
    (statement_runs x kernel here paths (and_left (templates first) (templates rest) parts)
    (and_left (is_serial x) (all_serial body) s))
    (body_runs kernel site (flow x paths) body (and_right (templates first) (templates rest) parts)
    (and_right (is_serial x) (all_serial body) s))

-- ---- kernels
own_is : (earlier : List Kernel) (kernel : Kernel) (ks : List Kept) →
    templates (with_own (kernel_keeps earlier kernel) ks) ≡ templates ks
own_is earlier kernel [] = refl
own_is earlier kernel (k ∷ ks) = refl

kernels_run : (earlier kernels : List Kernel) → templates (kernels_findings earlier kernels) ≡ true →
    kernels_serial kernels ≡ true → kernels_runnable kernels ≡ true
kernels_run earlier [] h s = refl
kernels_run earlier (kernel ∷ kernels) h s =
    let first : List Kept = kernel_findings earlier kernel in
    let rest : List Kept = kernels_findings (earlier ++ kernel ∷ []) kernels in
    let parts : templates first && templates rest ≡ true = sym (list_all-append (λ k. k.template) first rest) ∙ h in
    both_true (all_runnable kernel.body) (kernels_runnable kernels)
    (body_runs kernel (record { depth = 0; ends = true }) (at_start kernel) kernel.body
    (sym (own_is earlier kernel (body_findings kernel)) ∙ and_left (templates first) (templates rest) parts)
    (and_left (all_serial kernel.body) (kernels_serial kernels) s))
    (kernels_run (earlier ++ kernel ∷ []) kernels (and_right (templates first) (templates rest) parts)
    (and_right (all_serial kernel.body) (kernels_serial kernels) s))

pub checked_runs : (kernels : List Kernel) → first_flaw 0 (kernels_findings [] kernels) ≡ None →
    kernels_serial kernels ≡ true → kernels_runnable kernels ≡ true
checked_runs kernels h s = kernels_run [] kernels (no_flaw 0 (kernels_findings [] kernels) h) s
