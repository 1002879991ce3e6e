-- A program that the check takes is printable where its names are names.
use Rattle.std.proofs.Common.{arith, ◌≡◌, ◌∙◌, ap, sym, refl, subst, ℕ, suc, ◌+◌, ◌<◌, ◌≤◌, Bool, true, false, ◌&&◌}
use Rattle.std.proofs.Common.{List, [], ◌∷◌, ◌++◌, map, length, drop, nat_lt, nat_le, Option, Some, None}
use Rattle.std.specs.List.{list_all, zip}
use Rattle.std.specs.Prelude.{◌==◌, slice_index_or}
use Rattle.std.proofs.Math.Seq.{drop-cons}
use Rattle.std.proofs.lemmas.Bool.Decides.{nat_tests}
use Rattle.std.proofs.lemmas.List.Folds.{list_all-append}
use Rattle.krn_base.specs.declared.kind.Kind.{Kind}
use Rattle.krn_base.specs.declared.kind.Kind.TheVariants.{Int64}
use Rattle.krn_base.specs.declared.kind.ParamType.{ParamType}
use Rattle.krn_base.specs.declared.kind.ParamType.TheVariants.{Scalar, Flat, Strided}
use Rattle.eager_rules.specs.Types.{same_kind, same_type}
use Rattle.eager_rules.specs.declared.program.Oper.{Oper}
use Rattle.eager_rules.specs.declared.program.WordOp.{WordOp}
use Rattle.eager_rules.specs.declared.program.WordOp.TheVariants as word_op
use Rattle.loop_prog.specs.Check.{Findings, block_findings, body_findings, broken_or, deeper, findings, param_kind}
use Rattle.loop_prog.specs.Check.{findings_step, first_broken, first_flaw, flaw_or, kernel_findings, kernel_keeps}
use Rattle.loop_prog.specs.Check.{kernels_findings, before_rest, inner_findings, kept_at, paths_in}
use Rattle.loop_prog.specs.Check.{both_keep, with_findings, with_own}
use Rattle.loop_prog.specs.Check.{is_rank, param_is_ranked, param_rank}
use Rattle.loop_prog.specs.Conditions.{is_kind, is_there, oper_kind, set_kind, some_views, steps_fit, view_type}
use Rattle.loop_prog.specs.Conditions.{word_kind}
use Rattle.loop_prog.specs.declared.program.Reg.TheVariants as reg
use Rattle.loop_prog.specs.Conditions.{depth_after, is_one}
use Rattle.loop_prog.specs.Paths.{at_start, flow}
use Rattle.loop_prog.specs.Serial.{param_regs, types_of_params}
use Rattle.loop_prog.specs.Templates.{leaves}
use Rattle.loop_prog.specs.declared.invalid.InvalidRule.{InvalidRule}
use Rattle.loop_prog.specs.declared.kept.Kept.{Kept}
use Rattle.loop_prog.specs.declared.kept.Site.{Site}
use Rattle.loop_prog.specs.declared.paths.Paths.{Paths}
use Rattle.loop_prog.specs.declared.program.Kernel.{Kernel}
use Rattle.loop_prog.specs.declared.program.Statement.{Statement}
use Rattle.loop_prog.specs.declared.program.Statement.TheOpen as l
use Rattle.loop_prog.specs.declared.program.Statement.TheFolds.{map-Statement, fold-roll-Statement, para-roll-Statement}
use Rattle.loop_prog.specs.declared.program.Statement.TheViews.{roll-Statement}
use Rattle.loop_prog.specs.declared.program.TemplateStep.{TemplateStep}
use Rattle.cpp_print.proofs.Counts.{counted}
use Rattle.cpp_print.proofs.Layers.{Good, by_layers, fused}
use Rattle.cpp_print.specs.Printable.{AtDepth, all_printable, block_printable, is_printable_at}
use Rattle.cpp_print.specs.Printable.{kernel_printable, names_fit, printable_step, registers_fit}
use Rattle.cpp_print.specs.Printable.{views_fit, words_fit}
use Rattle.cpp_print.specs.Trees.{is_tree, tree_of}
use Rattle.cpp_print.specs.Words.{operands_of}

both_true : (a b : Bool) → a ≡ true → b ≡ true → a && b ≡ true
both_true true b h k = k
both_true false b h k = h

and_left : (a b : Bool) → a && b ≡ true → a ≡ true
and_left true b h = refl
and_left false b h = h

and_right : (a b : Bool) → a && b ≡ true → b ≡ true
and_right true b h = h
and_right false b h = absurd cc

-- ---- an entry without a flaw keeps each rule
behind : (b : Bool) (r : InvalidRule) (rest : Option InvalidRule) → broken_or b r rest ≡ None → rest ≡ None
behind true r rest h = h
behind false r rest h = absurd cc

kept : (b : Bool) (r : InvalidRule) (rest : Option InvalidRule) → broken_or b r rest ≡ None → b ≡ true
kept true r rest h = refl
kept false r rest h = absurd cc

abbrev fine : Kept → Bool
fine k = k.register && (k.kind && (k.rank && (k.template && k.nesting)))

is_fine : (k : Kept) → first_broken k ≡ None → fine k ≡ true
is_fine k h =
    let kinds = behind k.register _ _ h in
    let ranks = behind k.kind _ _ kinds in
    let templates = behind k.assigned _ _ (behind k.rank _ _ ranks) in
    let nestings = behind k.template _ _ templates in
    both_true k.register _ (kept k.register _ _ h) (both_true k.kind _ (kept k.kind _ _ kinds)
    (both_true k.rank _ (kept k.rank _ _ ranks) (both_true k.template k.nesting
    (kept k.template _ _ templates) (kept k.nesting _ _ nestings))))

abbrev all_fine : List Kept → Bool
all_fine ks = list_all fine ks

by_flaw : (n : ℕ) (o : Option InvalidRule) (rest : Option (ℕ × InvalidRule)) → flaw_or n o rest ≡ None →
    (o ≡ None) × (rest ≡ None)
by_flaw n None rest h = (refl, h)
by_flaw n (Some r) rest h = absurd cc

no_flaw : (n : ℕ) (ks : List Kept) → first_flaw n ks ≡ None → all_fine ks ≡ true
no_flaw n [] h = refl
no_flaw n (k ∷ ks) h =
    let parts : (first_broken k ≡ None) × (first_flaw (n + 1) ks ≡ None) =
    by_flaw n (first_broken k) (first_flaw (n + 1) ks) h in
    both_true (fine k) (all_fine ks) (is_fine k parts.0) (no_flaw (n + 1) ks parts.1)

kind_of : (k : Kept) → fine k ≡ true → k.kind ≡ true
kind_of k h = and_left k.kind _ (and_right k.register _ h)

template_of : (k : Kept) → fine k ≡ true → k.template ≡ true
template_of k h = and_left k.template k.nesting (and_right k.rank _ (and_right k.kind _ (and_right k.register _ h)))

nesting_of : (k : Kept) → fine k ≡ true → k.nesting ≡ true
nesting_of k h = and_right k.template k.nesting (and_right k.rank _ (and_right k.kind _ (and_right k.register _ h)))

-- ---- statements
operands : (kernel : Kernel) (op : WordOp) (args : List Oper) (kind : Kind) →
    is_kind (set_kind op (map (oper_kind kernel) args)) kind ≡ true → (length args == operands_of op) ≡ true
operands kernel (word_op.Bin op) [] kind h = absurd cc
operands kernel (word_op.Bin op) (a ∷ []) kind h = absurd cc
operands kernel (word_op.Bin op) (a ∷ b ∷ []) kind h = refl
operands kernel (word_op.Bin op) (a ∷ b ∷ c ∷ args) kind h = absurd cc
operands kernel (word_op.Un op) [] kind h = absurd cc
operands kernel (word_op.Un op) (a ∷ []) kind h = refl
operands kernel (word_op.Un op) (a ∷ b ∷ args) kind h = absurd cc
operands kernel word_op.Move [] kind h = absurd cc
operands kernel word_op.Move (a ∷ []) kind h = refl
operands kernel word_op.Move (a ∷ b ∷ args) kind h = absurd cc

is_one_tree : (steps : List TemplateStep) → steps_fit steps ≡ true → is_tree (tree_of steps) ≡ true
is_one_tree steps h = sym (counted steps []) ∙ and_left (is_one (depth_after steps 0)) _ h

depth_fits : (d : ℕ) → d ≤ 128 → nat_le d 128 ≡ true
depth_fits d le = grind (arith, nat_tests, le)

deeper_fits : (d : ℕ) → nat_lt d 128 ≡ true → d + 1 ≤ 128
deeper_fits d lt = grind (arith, nat_tests, lt)

same_depth : {A : Type 0} (site : Site) (xs : List A) → (before_rest site xs).depth ≡ site.depth
same_depth site [] = refl
same_depth site (x ∷ xs) = refl

abbrev Done : Statement → Type 0
Done x = (kernel : Kernel) (site : Site) (paths : Paths) → all_fine (findings kernel x site paths) ≡ true →
    site.depth ≤ 128 → is_printable_at x site.depth ≡ true

abbrev G : Type 0
G = Good Done

abbrev found : Kernel → G → Statement × Findings
found kernel g = (g.0, findings kernel g.0)

each : (kernel : Kernel) (site : Site) (paths : Paths) (gs : List G) →
    all_fine (block_findings (map (found kernel) gs) site paths) ≡ true → site.depth ≤ 128 →
    all_printable (map (λ (g : G). is_printable_at g.0) gs) site.depth ≡ true
each kernel site paths [] h le = refl
each kernel site paths (g ∷ gs) h le =
    let here : Site = before_rest site (map (found kernel) gs) in
    let same : here.depth ≡ site.depth = same_depth site (map (found kernel) gs) in
    let first : List Kept = findings kernel g.0 here paths in
    let rest : List Kept = block_findings (map (found kernel) gs) site (flow g.0 paths) in
    let parts : all_fine first && all_fine rest ≡ true = sym (list_all-append fine first rest) ∙ h in
    both_true (is_printable_at g.0 site.depth) _
    (ap (is_printable_at g.0) (sym same) ∙ g.1 kernel here paths (and_left (all_fine first) (all_fine rest) parts)
    (subst (λ (d : ℕ). d ≤ 128) (sym same) le))
    (each kernel site (flow g.0 paths) gs (and_right (all_fine first) (all_fine rest) parts) le)

-- a statement without blocks
alone : (d : ℕ) (b : Bool) → d ≤ 128 → b ≡ true → nat_le d 128 && b ≡ true
alone d b le h = both_true (nat_le d 128) b (depth_fits d le) h

abbrev inside : Kernel → l.Statement-F G → l.Statement-F (Statement × Findings)
inside kernel y = map-Statement G (Statement × Findings) (found kernel) y

abbrev entry : Kernel → Site → Paths → l.Statement-F G → Kept
entry kernel site paths y = kept_at kernel site paths (inside kernel y)

own_fine : (kernel : Kernel) (site : Site) (paths : Paths) (y : l.Statement-F G) →
    all_fine (findings_step kernel (inside kernel y) site paths) ≡ true → fine (entry kernel site paths y) ≡ true
own_fine kernel site paths y h =
    and_left (fine (entry kernel site paths y)) (all_fine (inner_findings (inside kernel y) site paths)) h

inner_fine : (kernel : Kernel) (site : Site) (paths : Paths) (y : l.Statement-F G) →
    all_fine (findings_step kernel (inside kernel y) site paths) ≡ true →
    all_fine (inner_findings (inside kernel y) site paths) ≡ true
inner_fine kernel site paths y h =
    and_right (fine (entry kernel site paths y)) (all_fine (inner_findings (inside kernel y) site paths)) h

step : (kernel : Kernel) (site : Site) (paths : Paths) (y : l.Statement-F G) →
    fine (entry kernel site paths y) ≡ true → all_fine (inner_findings (inside kernel y) site paths) ≡ true →
    site.depth ≤ 128 → printable_step (map-Statement G AtDepth (λ g. is_printable_at g.0) y) site.depth ≡ true
step kernel site paths (l.Set to op args at) h inner le =
    alone site.depth _ le (both_true (length args == operands_of op) true (operands kernel op args (word_kind kernel to)
    (kind_of (entry kernel site paths (l.Set to op args at)) h)) refl)
step kernel site paths (l.Nest to template at) h inner le =
    alone site.depth _ le (both_true (is_tree (tree_of template.steps)) true (is_one_tree template.steps
    (template_of (entry kernel site paths (l.Nest to template at)) h)) refl)
step kernel site paths (l.Fold to join template at) h inner le =
    alone site.depth _ le (both_true (is_tree (tree_of template.steps)) true (is_one_tree template.steps
    (and_right (some_views (leaves template.steps)) (steps_fit template.steps)
    (template_of (entry kernel site paths (l.Fold to join template at)) h))) refl)
step kernel site paths (l.If cond part other) h inner le =
    let within : Site = deeper site site.ends in
    let lower : site.depth + 1 ≤ 128 =
    deeper_fits site.depth (nesting_of (entry kernel site paths (l.If cond part other)) h) in
    let first : List Kept = block_findings (map (found kernel) part) within paths in
    let second : List Kept = block_findings (map (found kernel) other) within paths in
    let parts : all_fine first && all_fine second ≡ true = sym (list_all-append fine first second) ∙ inner in
    alone site.depth _ le (both_true _ _
    (each kernel within paths part (and_left (all_fine first) (all_fine second) parts) lower)
    (each kernel within paths other (and_right (all_fine first) (all_fine second) parts) lower))
step kernel site paths (l.For var lo hi by at body) h inner le =
    alone site.depth _ le (each kernel (deeper site false) (paths_in var (map (found kernel) body) paths) body inner
    (deeper_fits site.depth (nesting_of (entry kernel site paths (l.For var lo hi by at body)) h)))
step kernel site paths (l.ParFor var lo hi by at guard reductions privates body) h inner le =
    alone site.depth _ le (each kernel (deeper site false) (paths_in var (map (found kernel) body) paths) body inner
    (deeper_fits site.depth
    (nesting_of (entry kernel site paths (l.ParFor var lo hi by at guard reductions privates body)) h)))
step kernel site paths _ h inner le = alone site.depth true le refl

layer : (y : l.Statement-F G) → Done (roll-Statement (map-Statement G Statement (λ g. g.0) y))
layer y kernel site paths h le =
    let x : l.Statement-F Statement = map-Statement G Statement (λ g. g.0) y in
    let same_found : findings_step kernel (map-Statement G (Statement × Findings) (found kernel) y) ≡
    findings kernel (roll-Statement x) =
    ap (findings_step kernel) (fused Done (Statement × Findings) (with_findings kernel) y) ∙
    sym (para-roll-Statement Findings (findings_step kernel) x) in
    let same_printable : printable_step (map-Statement G AtDepth (λ g. is_printable_at g.0) y) ≡
    is_printable_at (roll-Statement x) =
    ap printable_step (fused Done AtDepth is_printable_at y) ∙ sym (fold-roll-Statement AtDepth printable_step x) in
    ap (λ (p : AtDepth). p site.depth) (sym same_printable) ∙ step kernel site paths y
    (own_fine kernel site paths y (ap (λ (f : Findings). all_fine (f site paths)) same_found ∙ h))
    (inner_fine kernel site paths y (ap (λ (f : Findings). all_fine (f site paths)) same_found ∙ h)) le

statement_prints : (x : Statement) → Done x
statement_prints = by_layers Done layer

body_prints : (kernel : Kernel) (site : Site) (paths : Paths) (body : List Statement) →
    all_fine (block_findings (map (with_findings kernel) body) site paths) ≡ true → site.depth ≤ 128 →
    block_printable body site.depth ≡ true
body_prints kernel site paths [] h le = refl
body_prints kernel site paths (x ∷ body) h le =
    let here : Site = before_rest site (map (with_findings kernel) body) in
    let same : here.depth ≡ site.depth = same_depth site (map (with_findings kernel) body) in
    let first : List Kept = findings kernel x here paths in
    let rest : List Kept = block_findings (map (with_findings kernel) body) site (flow x paths) in
    let parts : all_fine first && all_fine rest ≡ true = sym (list_all-append fine first rest) ∙ h in
    both_true (is_printable_at x site.depth) (block_printable body site.depth)
    (ap (is_printable_at x) (sym same) ∙ statement_prints x kernel here paths
    (and_left (all_fine first) (all_fine rest) parts) (subst (λ (d : ℕ). d ≤ 128) (sym same) le))
    (body_prints kernel site (flow x paths) body (and_right (all_fine first) (all_fine rest) parts) le)

-- ---- the registers of parameters
-- a list from a place on that is there begins with what stands at the place
at_place : {A : Type 0} (xs : List A) (n : ℕ) (d : A) → nat_lt n (length xs) ≡ true →
    drop n xs ≡ slice_index_or xs n d ∷ drop (n + 1) xs
at_place xs n d lt =
    let below : n < length xs = grind (arith, nat_tests, lt) in
    let up : n + 1 ≡ suc n = omega arith in
    rw up (drop-cons xs n d below)

registers_follow : (kernel : Kernel) (types : List ParamType) (w v : ℕ) →
    list_all (is_there kernel) (param_regs w v types) ≡ true →
    list_all (param_kind kernel) (zip (param_regs w v types) types) ≡ true →
    list_all (param_rank kernel) (zip (param_regs w v types) types) ≡ true →
    (views_fit types (drop v kernel.views) ≡ true) × (words_fit types (drop w kernel.regs) ≡ true)
registers_follow kernel [] w v there kinds ranks = (refl, refl)
registers_follow kernel (Scalar kind ∷ types) w v there kinds ranks =
    let here : nat_lt w (length kernel.regs) ≡ true = and_left (is_there kernel (reg.Word w)) _ there in
    let same : same_kind (word_kind kernel w) kind ≡ true =
    and_left (param_kind kernel (reg.Word w, Scalar kind)) _ kinds in
    let rest = registers_follow kernel types (w + 1) v (and_right (is_there kernel (reg.Word w)) _ there)
    (and_right (param_kind kernel (reg.Word w, Scalar kind)) _ kinds)
    (and_right (param_rank kernel (reg.Word w, Scalar kind)) _ ranks) in (
      rest.0,
      rw (at_place kernel.regs w Int64 here)
          (both_true (same_kind (word_kind kernel w) kind) (words_fit types (drop (w + 1) kernel.regs)) same rest.1),
    )
registers_follow kernel (Flat kind n ∷ types) w v there kinds ranks =
    let here : nat_lt v (length kernel.views) ≡ true = and_left (is_there kernel (reg.View v)) _ there in
    let same : same_type (view_type kernel v) (kind, n) ≡ true = both_true
    (same_kind (view_type kernel v).0 kind) ((view_type kernel v).1 == n)
    (and_left (param_kind kernel (reg.View v, Flat kind n)) _ kinds)
    (and_left (param_rank kernel (reg.View v, Flat kind n)) _ ranks) in
    let rest = registers_follow kernel types w (v + 1) (and_right (is_there kernel (reg.View v)) _ there)
    (and_right (param_kind kernel (reg.View v, Flat kind n)) _ kinds)
    (and_right (param_rank kernel (reg.View v, Flat kind n)) _ ranks) in (
      rw (at_place kernel.views v (Int64, 0) here)
          (both_true (same_type (view_type kernel v) (kind, n)) (views_fit types (drop (v + 1) kernel.views)) same
          rest.0),
      rest.1,
    )
registers_follow kernel (Strided kind n ∷ types) w v there kinds ranks =
    let here : nat_lt v (length kernel.views) ≡ true = and_left (is_there kernel (reg.View v)) _ there in
    let same : same_type (view_type kernel v) (kind, n) ≡ true = both_true
    (same_kind (view_type kernel v).0 kind) ((view_type kernel v).1 == n)
    (and_left (param_kind kernel (reg.View v, Strided kind n)) _ kinds)
    (and_left (param_rank kernel (reg.View v, Strided kind n)) _ ranks) in
    let rest = registers_follow kernel types w (v + 1) (and_right (is_there kernel (reg.View v)) _ there)
    (and_right (param_kind kernel (reg.View v, Strided kind n)) _ kinds)
    (and_right (param_rank kernel (reg.View v, Strided kind n)) _ ranks) in (
      rw (at_place kernel.views v (Int64, 0) here)
          (both_true (same_type (view_type kernel v) (kind, n)) (views_fit types (drop (v + 1) kernel.views)) same
          rest.0),
      rest.1,
    )

-- ---- kernels
halves : (a b rest first second : Bool) → (rest ≡ true → (first ≡ true) × (second ≡ true)) → (a && b) && rest ≡ true →
    (a && first ≡ true) × (b && second ≡ true)
halves a b rest first second parts h =
    let here : a && b ≡ true = and_left (a && b) rest h in
    let there : (first ≡ true) × (second ≡ true) = parts (and_right (a && b) rest h) in
    (both_true a first (and_left a b here) there.0, both_true b second (and_right a b here) there.1)

both_fine : (own k : Kept) → fine (both_keep own k) ≡ true → (fine own ≡ true) × (fine k ≡ true)
both_fine own k =
    halves own.register k.register _ _ _ (halves own.kind k.kind _ _ _ (halves own.rank k.rank _ _ _
    (halves own.template k.template _ _ _
    (λ h. (and_left own.nesting k.nesting h, and_right own.nesting k.nesting h)))))

-- a kernel's own entry is fine, and so are those of its body
own_is : (own : Kept) (ks : List Kept) → all_fine (with_own own ks) ≡ true → (fine own ≡ true) × (all_fine ks ≡ true)
own_is own [] h = (and_left (fine own) true h, refl)
own_is own (k ∷ ks) h =
    let both : (fine own ≡ true) × (fine k ≡ true) =
    both_fine own k (and_left (fine (both_keep own k)) (all_fine ks) h) in
    (both.0, both_true (fine k) (all_fine ks) both.1 (and_right (fine (both_keep own k)) (all_fine ks) h))

kernel_prints : (earlier : List Kernel) (kernel : Kernel) → all_fine (kernel_findings earlier kernel) ≡ true →
    names_fit kernel ≡ true → kernel_printable kernel ≡ true
kernel_prints earlier kernel h names =
    let own : Kept = kernel_keeps earlier kernel in
    let types : List ParamType = types_of_params kernel in
    let parts : (fine own ≡ true) × (all_fine (body_findings kernel) ≡ true) = own_is own (body_findings kernel) h in
    let there : list_all (is_there kernel) (param_regs 0 0 types) ≡ true =
    and_left _ _ (and_left own.register _ parts.0) in
    let ranked : own.rank ≡ true =
    and_left own.rank _ (and_right own.kind _ (and_right own.register _ parts.0)) in
    let ranks : list_all (param_rank kernel) (zip (param_regs 0 0 types) types) ≡ true =
    and_right (list_all (λ t. nat_le t.1 4) kernel.rets) _
    (and_right (list_all (λ t. is_rank t.1) kernel.views) _ (and_right (list_all param_is_ranked types) _ ranked)) in
    let regs = registers_follow kernel types 0 0 there (kind_of own parts.0) ranks in
    both_true (names_fit kernel) _ names (both_true (registers_fit kernel) _
    (both_true (views_fit types kernel.views) (words_fit types kernel.regs) regs.0 regs.1)
    (body_prints kernel (record { depth = 0; ends = true }) (at_start kernel) kernel.body parts.1 (omega arith)))

kernels_print : (earlier kernels : List Kernel) → all_fine (kernels_findings earlier kernels) ≡ true →
    list_all names_fit kernels ≡ true → list_all kernel_printable kernels ≡ true
kernels_print earlier [] h names = refl
kernels_print earlier (kernel ∷ kernels) h names =
    let first : List Kept = kernel_findings earlier kernel in
    let rest : List Kept = kernels_findings (earlier ++ kernel ∷ []) kernels in
    let parts : all_fine first && all_fine rest ≡ true = sym (list_all-append fine first rest) ∙ h in
    both_true (kernel_printable kernel) (list_all kernel_printable kernels)
    (kernel_prints earlier kernel (and_left (all_fine first) (all_fine rest) parts)
    (and_left (names_fit kernel) (list_all names_fit kernels) names))
    (kernels_print (earlier ++ kernel ∷ []) kernels (and_right (all_fine first) (all_fine rest) parts)
    (and_right (names_fit kernel) (list_all names_fit kernels) names))

pub checked_prints : (kernels : List Kernel) → first_flaw 0 (kernels_findings [] kernels) ≡ None →
    list_all names_fit kernels ≡ true → list_all kernel_printable kernels ≡ true
checked_prints kernels h names = kernels_print [] kernels (no_flaw 0 (kernels_findings [] kernels) h) names
