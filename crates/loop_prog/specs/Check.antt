-- When a loop program is taken: each statement passes each rule, and so does each kernel. The statements are numbered
-- over the whole program in the order of their lines; the first that breaks a rule decides, by its first rule.
use Rattle.std.specs.Prelude.{ℕ, ◌+◌, ◌==◌, ◌&&◌, ◌||◌, not, Bool, true, false, nat_lt, nat_le}
use Rattle.std.specs.Prelude.{List, [], ◌∷◌, ◌++◌, map, Option, Some, None}
use Rattle.std.specs.List.{list_all, list_any, zip}
use Rattle.std.specs.Str.{bytes_eq}
use Rattle.krn_base.specs.declared.kind.ParamType.{ParamType}
use Rattle.krn_base.specs.declared.kind.ParamType.TheVariants.{Scalar, Flat, Strided}
use Rattle.eager_rules.specs.Types.{same_kind}
use Rattle.loop_prog.specs.Conditions.{is_there, kinds_fit, ranks_fit, registers_fit, templates_fit, view_type}
use Rattle.loop_prog.specs.Conditions.{word_kind, view_rank}
use Rattle.loop_prog.specs.Paths.{all_assigned, at_start, block_flow, body_start, flow}
use Rattle.loop_prog.specs.declared.kept.Kept.{Kept}
use Rattle.loop_prog.specs.declared.kept.Site.{Site}
use Rattle.loop_prog.specs.declared.paths.Paths.{Paths}
use Rattle.loop_prog.specs.Serial.{param_regs, types_of_params}
use Rattle.loop_prog.specs.Statements.{reads_of}
use Rattle.loop_prog.specs.declared.invalid.InvalidRule.{InvalidRule}
use Rattle.loop_prog.specs.declared.invalid.InvalidRule.TheVariants as rule
use Rattle.loop_prog.specs.declared.program.Kernel.{Kernel}
use Rattle.loop_prog.specs.declared.program.LoopProgram.{LoopProgram}
use Rattle.loop_prog.specs.declared.program.Reg.{Reg}
use Rattle.loop_prog.specs.declared.program.Reg.TheVariants as reg
use Rattle.loop_prog.specs.declared.program.Statement.{Statement}
use Rattle.loop_prog.specs.declared.program.Statement.TheOpen as l
use Rattle.loop_prog.specs.declared.program.Statement.TheFolds.{para-Statement}

abbrev pub both_keep : Kept → Kept → Kept
both_keep a b = record {
  register = a.register && b.register;
  kind = a.kind && b.kind;
  rank = a.rank && b.rank;
  assigned = a.assigned && b.assigned;
  template = a.template && b.template;
  nesting = a.nesting && b.nesting;
  returns = a.returns && b.returns;
}

-- the first rule that isn't kept
abbrev pub broken_or : Bool → InvalidRule → Option InvalidRule → Option InvalidRule
broken_or true r rest = rest
broken_or false r rest = Some r

abbrev pub first_broken : Kept → Option InvalidRule
first_broken k =
    broken_or k.register rule.Register (broken_or k.kind rule.Kind (broken_or k.rank rule.Rank
    (broken_or k.assigned rule.Unassigned (broken_or k.template rule.Template (broken_or k.nesting rule.Nesting
    (broken_or k.returns rule.Return None))))))

-- Where a statement stands: in how many others, and whether it ends a block in tail position. A kernel's body is in
-- tail position, and so are both parts of an `If` that ends a block in tail position.
abbrev pub deeper : Site → Bool → Site
deeper site ends = record { depth = site.depth + 1; ends = ends }

-- no statement with blocks stands in more than 127 others
abbrev pub nesting_fits : {A : Type 0} → Site → l.Statement-F A → Bool
nesting_fits site (l.If cond part other) = nat_lt site.depth 128
nesting_fits site (l.For var lo hi by at body) = nat_lt site.depth 128
nesting_fits site (l.ParFor var lo hi by at guard reductions privates body) = nat_lt site.depth 128
nesting_fits site _ = true

abbrev pub has_some : {A : Type 0} → List A → Bool
has_some [] = false
has_some (x ∷ xs) = true

-- A block in tail position ends in a Return or in an If, whose parts aren't empty; a Return stands nowhere else.
abbrev pub returns_fit : {A : Type 0} → Site → l.Statement-F A → Bool
returns_fit site (l.Return values) = site.ends
returns_fit site (l.If cond part other) = not site.ends || (has_some part && has_some other)
returns_fit site _ = not site.ends

-- the rules that a statement keeps by itself, where these paths come to it
abbrev pub kept_at : {A : Type 0} → Kernel → Site → Paths → l.Statement-F A → Kept
kept_at kernel site paths y = record {
  register = registers_fit kernel y;
  kind = kinds_fit kernel y;
  rank = ranks_fit kernel y;
  assigned = all_assigned paths (reads_of y);
  template = templates_fit y;
  nesting = nesting_fits site y;
  returns = returns_fit site y;
}

-- the rules that statements keep, one entry for each in the order of lines
abbrev pub Findings : Type 0
Findings = Site → Paths → List Kept

-- a statement before others of its block doesn't end it
abbrev pub before_rest : {A : Type 0} → Site → List A → Site
before_rest site [] = site
before_rest site (next ∷ rest) = record { depth = site.depth; ends = false }

-- a block, where `site` is that of its last statement
abbrev pub block_findings : List (Statement × Findings) → Findings
block_findings [] site paths = []
block_findings (first ∷ rest) site paths =
    first.1 (before_rest site rest) paths ++ block_findings rest site (flow first.0 paths)

-- the paths to the body of a loop
abbrev pub paths_in : ℕ → List (Statement × Findings) → Paths → Paths
paths_in var body paths = body_start var (block_flow (map (λ p. p.0) body)) paths

-- what is found in the blocks of a statement
abbrev pub inner_findings : l.Statement-F (Statement × Findings) → Findings
inner_findings (l.If cond part other) site paths =
    block_findings part (deeper site site.ends) paths ++ block_findings other (deeper site site.ends) paths
inner_findings (l.For var lo hi by at body) site paths =
    block_findings body (deeper site false) (paths_in var body paths)
inner_findings (l.ParFor var lo hi by at guard reductions privates body) site paths =
    block_findings body (deeper site false) (paths_in var body paths)
inner_findings _ site paths = []

abbrev pub findings_step : Kernel → l.Statement-F (Statement × Findings) → Findings
findings_step kernel y site paths = kept_at kernel site paths y ∷ inner_findings y site paths

abbrev pub findings : Kernel → Statement → Findings
findings kernel = para-Statement Findings (findings_step kernel)

abbrev pub with_findings : Kernel → Statement → Statement × Findings
with_findings kernel statement = (statement, findings kernel statement)

abbrev pub body_findings : Kernel → List Kept
body_findings kernel =
    block_findings (map (with_findings kernel) kernel.body) (record { depth = 0; ends = true })
    (at_start kernel)

-- ---- a kernel by itself
abbrev pub is_scalar_param : ParamType → Bool
is_scalar_param (Scalar kind) = true
is_scalar_param _ = false

abbrev pub param_kind : Kernel → Reg × ParamType → Bool
param_kind kernel (reg.Word r, Scalar kind) = same_kind (word_kind kernel r) kind
param_kind kernel (reg.View v, Flat kind n) = same_kind (view_type kernel v).0 kind
param_kind kernel (reg.View v, Strided kind n) = same_kind (view_type kernel v).0 kind
param_kind kernel _ = true

abbrev pub param_rank : Kernel → Reg × ParamType → Bool
param_rank kernel (reg.View v, Flat kind n) = view_rank kernel v == n
param_rank kernel (reg.View v, Strided kind n) = view_rank kernel v == n
param_rank kernel _ = true

-- an array has 1 to 4 dimensions
abbrev pub is_rank : ℕ → Bool
is_rank n = nat_lt 0 n && nat_le n 4

abbrev pub param_is_ranked : ParamType → Bool
param_is_ranked (Scalar kind) = true
param_is_ranked (Flat kind n) = is_rank n
param_is_ranked (Strided kind n) = is_rank n

abbrev pub params_with_regs : Kernel → List (Reg × ParamType)
params_with_regs kernel = zip (param_regs 0 0 (types_of_params kernel)) (types_of_params kernel)

-- Two kernels of one name and the same parameter types.
abbrev pub same_param : ParamType → ParamType → Bool
same_param (Scalar a) (Scalar b) = same_kind a b
same_param (Flat a m) (Flat b n) = same_kind a b && (m == n)
same_param (Strided a m) (Strided b n) = same_kind a b && (m == n)
same_param _ _ = false

abbrev pub same_params : List ParamType → List ParamType → Bool
same_params [] [] = true
same_params (a ∷ types) (b ∷ others) = same_param a b && same_params types others
same_params _ _ = false

abbrev pub same_head : Kernel → Kernel → Bool
same_head a b = bytes_eq a.name b.name && same_params (types_of_params a) (types_of_params b)

-- the rules that a kernel keeps by itself, behind earlier kernels
abbrev pub kernel_keeps : List Kernel → Kernel → Kept
kernel_keeps earlier kernel = record {
  register = list_all (is_there kernel) (param_regs 0 0 (types_of_params kernel))
      && not (list_any (same_head kernel) earlier);
  kind = list_all (param_kind kernel) (params_with_regs kernel);
  rank = list_all param_is_ranked (types_of_params kernel) && (list_all (λ t. is_rank t.1) kernel.views
      && (list_all (λ t. nat_le t.1 4) kernel.rets && list_all (param_rank kernel) (params_with_regs kernel)));
  assigned = true;
  template = true;
  nesting = true;
  returns = has_some kernel.body;
}

-- a kernel's own entry is one with its first statement's, or stands alone where the body is empty
abbrev pub with_own : Kept → List Kept → List Kept
with_own own [] = own ∷ []
with_own own (first ∷ rest) = both_keep own first ∷ rest

abbrev pub kernel_findings : List Kernel → Kernel → List Kept
kernel_findings earlier kernel = with_own (kernel_keeps earlier kernel) (body_findings kernel)

abbrev pub kernels_findings : List Kernel → List Kernel → List Kept
kernels_findings earlier [] = []
kernels_findings earlier (kernel ∷ rest) =
    kernel_findings earlier kernel ++ kernels_findings (earlier ++ kernel ∷ []) rest

-- the first entry from the number n on that breaks a rule, and its first rule
abbrev pub flaw_or : ℕ → Option InvalidRule → Option (ℕ × InvalidRule) → Option (ℕ × InvalidRule)
flaw_or n None rest = rest
flaw_or n (Some r) rest = Some (n, r)

abbrev pub first_flaw : ℕ → List Kept → Option (ℕ × InvalidRule)
first_flaw n [] = None
first_flaw n (k ∷ rest) = flaw_or n (first_broken k) (first_flaw (n + 1) rest)

-- The number of the first statement that breaks a rule, and its first rule; nothing where the program is taken.
abbrev pub flaw_of : LoopProgram → Option (ℕ × InvalidRule)
flaw_of program = first_flaw 0 (kernels_findings [] program.kernels)
