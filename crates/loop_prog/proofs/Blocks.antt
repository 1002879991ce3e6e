-- What is found of a statement and of a block, one level unfolded.
use Rattle.std.proofs.Common.{◌≡◌, ◌∙◌, ap, ap₂, subst, refl, Bool, false, not, ◌&&◌, ◌||◌, List, [], ◌∷◌, ◌++◌, map}
use Rattle.loop_prog.specs.Check.{Findings, before_rest, findings, findings_step, has_some, kept_at}
use Rattle.loop_prog.specs.Check.{deeper, nesting_fits, with_findings}
use Rattle.loop_prog.specs.Conditions.{kinds_fit, ranks_fit, registers_fit, templates_fit}
use Rattle.loop_prog.specs.Statements.{reads_of}
use Rattle.eager_rules.specs.declared.program.Oper.{Oper}
use Rattle.loop_prog.specs.Judging.{block_by, inner_by}
use Rattle.loop_prog.specs.Paths.{all_assigned, block_flow, body_start, flow}
use Rattle.loop_prog.specs.declared.kept.Kept.{Kept}
use Rattle.loop_prog.specs.declared.kept.Site.{Site}
use Rattle.loop_prog.specs.declared.paths.Paths.{Paths}
use Rattle.loop_prog.specs.declared.program.Kernel.{Kernel}
use Rattle.loop_prog.specs.declared.program.Statement.{Statement, out-Statement}
use Rattle.loop_prog.specs.declared.program.Statement.TheOpen as l
use Rattle.loop_prog.specs.declared.program.Statement.TheFolds.{map-Statement, para-roll-Statement}
use Rattle.loop_prog.specs.declared.program.Statement.TheViews.{roll-Statement, roll-out-Statement}

same_site : {A B : Type 0} (f : A → B) (site : Site) (rest : List A) →
    before_rest site (map f rest) ≡ before_rest site rest
same_site f site [] = refl
same_site f site (next ∷ rest) = refl

pub block_more : (kernel : Kernel) (s : Statement) (more : List Statement) (site : Site) (paths : Paths) →
    block_by kernel (s ∷ more) site paths ≡
    findings kernel s (before_rest site more) paths ++ block_by kernel more site (flow s paths)
block_more kernel s more site paths =
    ap (λ (at : Site). findings kernel s at paths ++ block_by kernel more site (flow s paths))
    (same_site (with_findings kernel) site more)

firsts : (kernel : Kernel) (body : List Statement) → map (λ p. p.0) (map (with_findings kernel) body) ≡ body
firsts kernel [] = refl
firsts kernel (s ∷ body) = ap (λ (rest : List Statement). s ∷ rest) (firsts kernel body)

some_mapped : (kernel : Kernel) (body : List Statement) → has_some (map (with_findings kernel) body) ≡ has_some body
some_mapped kernel [] = refl
some_mapped kernel (s ∷ body) = refl

abbrev kept_if : Kernel → Site → Paths → Oper → List Statement → List Statement → Bool → Bool → Kept
kept_if kernel site paths cond part other a b = record {
  register = registers_fit kernel (l.If cond part other);
  kind = kinds_fit kernel (l.If cond part other);
  rank = ranks_fit kernel (l.If cond part other);
  assigned = all_assigned paths (reads_of (l.If cond part other));
  template = templates_fit (l.If cond part other);
  nesting = nesting_fits site (l.If cond part other);
  returns = not site.ends || (a && b);
}

opened : (kernel : Kernel) (y : l.Statement-F Statement) (site : Site) (paths : Paths) →
    findings_step kernel (map-Statement Statement (Statement × Findings) (with_findings kernel) y) site paths ≡
    kept_at kernel site paths y ∷ inner_by kernel y site paths
opened kernel (l.Set to op args at) site paths = refl
opened kernel (l.Extent to of axis) site paths = refl
opened kernel (l.Get to of index at) site paths = refl
opened kernel (l.Put of index value at) site paths = refl
opened kernel (l.ViewOf to of subs at) site paths = refl
opened kernel (l.Flip to of) site paths = refl
opened kernel (l.Same to of) site paths = refl
opened kernel (l.Fresh to dims fill at) site paths = refl
opened kernel (l.Like to views at) site paths = refl
opened kernel (l.Check test views at) site paths = refl
opened kernel (l.Nest to template at) site paths = refl
opened kernel (l.Fold to join template at) site paths = refl
opened kernel (l.If cond part other) site paths =
    ap₂ (λ (a b : Bool). kept_if kernel site paths cond part other a b ∷
    inner_by kernel (l.If cond part other) site paths)
    (some_mapped kernel part) (some_mapped kernel other)
opened kernel (l.For var lo hi by at body) site paths =
    ap (λ (statements : List Statement). kept_at kernel site paths (l.For var lo hi by at body) ∷
    block_by kernel body (deeper site false) (body_start var (block_flow statements) paths)) (firsts kernel body)
opened kernel (l.ParFor var lo hi by at guard reductions privates body) site paths =
    ap (λ (statements : List Statement).
    kept_at kernel site paths (l.ParFor var lo hi by at guard reductions privates body) ∷
    block_by kernel body (deeper site false) (body_start var (block_flow statements) paths)) (firsts kernel body)
opened kernel (l.Release v) site paths = refl
opened kernel (l.Return values) site paths = refl

found_rolled : (kernel : Kernel) (y : l.Statement-F Statement) (site : Site) (paths : Paths) →
    findings kernel (roll-Statement y) site paths ≡ kept_at kernel site paths y ∷ inner_by kernel y site paths
found_rolled kernel y site paths =
    ap (λ (f : Findings). f site paths) (para-roll-Statement Findings (findings_step kernel) y) ∙
    opened kernel y site paths

pub findings_are : (kernel : Kernel) (s : Statement) (site : Site) (paths : Paths) →
    findings kernel s site paths ≡
    kept_at kernel site paths (out-Statement s) ∷ inner_by kernel (out-Statement s) site paths
findings_are kernel s site paths =
    subst (λ (x : Statement). findings kernel x site paths ≡
    kept_at kernel site paths (out-Statement s) ∷ inner_by kernel (out-Statement s) site paths)
    (roll-out-Statement s) (found_rolled kernel (out-Statement s) site paths)
