-- A walk over kernels, one further; and a kernel's own entry with its first statement's.
use Rattle.std.proofs.Common.{◌≡◌, ◌∙◌, ap, sym, subst, ℕ, ◌+◌, ◌&&◌, List, [], ◌∷◌, ◌++◌, length, take, drop}
use Rattle.std.proofs.Common.{Bool, true, false, Option, Some, None, Result, Ok, Err}
use Rattle.std.proofs.Common.{arith, nat_eq}
use Rattle.loop_prog.proofs.BlockWalks.{placed_as}
use Rattle.loop_prog.proofs.Blocks.{block_more, findings_are}
use Rattle.loop_prog.proofs.Flaws.{left_more, left_stops}
use Rattle.loop_prog.specs.Check.{before_rest, body_findings, findings, kept_at, kernel_keeps}
use Rattle.loop_prog.specs.Judging.{block_by, inner_by, placed}
use Rattle.loop_prog.specs.Paths.{at_start, flow}
use Rattle.loop_prog.specs.declared.kept.Site.{Site}
use Rattle.loop_prog.specs.declared.paths.Paths.{Paths}
use Rattle.loop_prog.specs.declared.program.Statement.{Statement, out-Statement}
use Rattle.loop_prog.specs.Check.{both_keep, broken_or, first_broken, first_flaw, flaw_or, kernel_findings}
use Rattle.loop_prog.specs.Check.{kernels_findings}
use Rattle.loop_prog.specs.Check.{with_own}
use Rattle.loop_prog.specs.Judging.{IsFlaw, Judged, Left}
use Rattle.loop_prog.specs.declared.invalid.CheckStop.{CheckStop}
use Rattle.loop_prog.specs.declared.invalid.CheckStop.TheVariants as stop
use Rattle.loop_prog.specs.declared.invalid.InvalidRule.{InvalidRule}
use Rattle.loop_prog.specs.declared.invalid.InvalidRule.TheVariants as rule
use Rattle.loop_prog.specs.declared.kept.Kept.{Kept}
use Rattle.loop_prog.specs.declared.program.Kernel.{Kernel}

no_rule : (r : InvalidRule) → Some r ≡ None → ⊥
no_rule r h = let e : Some r ≡ None = h in absurd cc

step : (a b : Bool) (r : InvalidRule) (x y : Option InvalidRule) → (x ≡ None → y ≡ None) →
    broken_or (a && b) r x ≡ None → broken_or b r y ≡ None
step true true r x y next h = next h
step true false r x y next h = h
step false b r x y next h = absurd (no_rule r h)

-- where two keep each rule together, the second does
pub second_keeps : (a b : Kept) → first_broken (both_keep a b) ≡ None → first_broken b ≡ None
second_keeps a b =
    step a.register b.register rule.Register _ _
    (step a.kind b.kind rule.Kind _ _
    (step a.rank b.rank rule.Rank _ _
    (step a.assigned b.assigned rule.Unassigned _ _
    (step a.template b.template rule.Template _ _
    (step a.nesting b.nesting rule.Nesting _ _
    (step a.returns b.returns rule.Return None None (λ e. e)))))))

pub own_stops : (own kept : Kept) (rest : List Kept) (n : ℕ) (r : InvalidRule) →
    first_broken (both_keep own kept) ≡ Some r → first_flaw n (with_own own (kept ∷ rest)) ≡ Some (n, r)
own_stops own kept rest n r h = ap (λ (o : Option InvalidRule). flaw_or n o (first_flaw (n + 1) rest)) h

same_flaw : (own kept : Kept) (rest : List Kept) (n : ℕ) → first_broken (both_keep own kept) ≡ None →
    first_flaw n (with_own own (kept ∷ rest)) ≡ first_flaw n (kept ∷ rest)
same_flaw own kept rest n h =
    ap (λ (o : Option InvalidRule). flaw_or n o (first_flaw (n + 1) rest)) (h ∙ sym (second_keeps own kept h))

pub own_goes : (r : Result (Unit {0}) CheckStop) (own kept : Kept) (rest : List Kept) (n m : ℕ) →
    first_broken (both_keep own kept) ≡ None → Judged r n m (kept ∷ rest) → Judged r n m (with_own own (kept ∷ rest))
own_goes (Ok u) own kept rest n m h (at, none) = (at, same_flaw own kept rest n h ∙ none)
own_goes (Err (stop.Invalid at broken)) own kept rest n m h flaw = same_flaw own kept rest n h ∙ flaw
own_goes (Err stop.Memory) own kept rest n m h flaw = flaw

pub flaw_by : (e : CheckStop) (m : ℕ) (all : List Kept) → Judged (Err e) 0 m all → IsFlaw (Err e) (first_flaw 0 all)
flaw_by (stop.Invalid at broken) m all h = h
flaw_by stop.Memory m all h = h

-- the kernel with the number k
module _ (kernels : List Kernel) (kernel : Kernel) (k n : ℕ) (all : List Kept)
    (is : drop k kernels ≡ kernel ∷ drop (k + 1) kernels)
    (before : take k kernels ++ kernel ∷ [] ≡ take (k + 1) kernels)
    (left : Left n (kernels_findings (take k kernels) (drop k kernels)) 0 all) where
  opened : Left n (kernel_findings (take k kernels) kernel ++ kernels_findings (take (k + 1) kernels)
      (drop (k + 1) kernels)) 0 all
  opened =
      subst (λ (ks : List Kernel). Left n (kernel_findings (take k kernels) kernel ++ kernels_findings ks
      (drop (k + 1) kernels)) 0 all) before
      (subst (λ (ks : List Kernel). Left n (kernels_findings (take k kernels) ks) 0 all) is left)

  pub kernel_stops : (e : CheckStop) (m last : ℕ) → Judged (Err e) n m (kernel_findings (take k kernels) kernel) →
      Judged (Err e) 0 last all
  kernel_stops e m last h =
      left_stops e n m last (kernel_findings (take k kernels) kernel)
      (kernels_findings (take (k + 1) kernels) (drop (k + 1) kernels)) 0 all h opened

  pub kernel_goes : (m : ℕ) → m ≡ n + length (kernel_findings (take k kernels) kernel) →
      first_flaw n (kernel_findings (take k kernels) kernel) ≡ None →
      Left m (kernels_findings (take (k + 1) kernels) (drop (k + 1) kernels)) 0 all
  kernel_goes m at none =
      left_more n m (kernel_findings (take k kernels) kernel)
      (kernels_findings (take (k + 1) kernels) (drop (k + 1) kernels)) 0 all at none opened

abbrev whole : Site
whole = record { depth = 0; ends = true }

-- a kernel whose body begins with a statement, by what is kept there
module _ (earlier : List Kernel) (kernel : Kernel) (own kept : Kept) (first : Statement) (rest body : List Statement)
    (here : Site) (start : Paths) (n : ℕ) (own_is : own ≡ kernel_keeps earlier kernel) (body_is : body ≡ kernel.body)
    (is : body ≡ first ∷ rest) (place : here ≡ placed whole (nat_eq 1 (length body)))
    (start_is : start ≡ at_start kernel) (kept_is : kept ≡ kept_at kernel here start (out-Statement first)) where
  abbrev more : List Kept
  more = inner_by kernel (out-Statement first) here start ++ block_by kernel rest whole (flow first start)

  before : before_rest whole rest ≡ here
  before =
      let e : length body ≡ length (first ∷ rest) = ap length is in
      let size : 1 + length rest ≡ length body = omega (arith, e) in
      sym (place ∙ placed_as whole rest 1 (length body) size)

  begins : block_by kernel body whole start ≡ kept ∷ more
  begins =
      ap (λ (ss : List Statement). block_by kernel ss whole start) is ∙
      (block_more kernel first rest whole start ∙
      (ap (λ (p : Site). findings kernel first p start ++ block_by kernel rest whole (flow first start)) before ∙
      (ap (λ (ks : List Kept). ks ++ block_by kernel rest whole (flow first start))
      (findings_are kernel first here start) ∙ ap (λ (k : Kept). k ∷ more) (sym kept_is))))

  same_body : body_findings kernel ≡ block_by kernel body whole start
  same_body =
      ap (λ (ss : List Statement). block_by kernel ss whole (at_start kernel)) (sym body_is) ∙
      ap (λ (p : Paths). block_by kernel body whole p) (sym start_is)

  found : kernel_findings earlier kernel ≡ with_own own (kept ∷ more)
  found =
      ap (λ (k : Kept). with_own k (body_findings kernel)) (sym own_is) ∙ ap (with_own own) (same_body ∙ begins)

  pub head_stops : (r : InvalidRule) → first_broken (both_keep own kept) ≡ Some r →
      first_flaw n (kernel_findings earlier kernel) ≡ Some (n, r)
  head_stops r h = ap (first_flaw n) found ∙ own_stops own kept more n r h

  pub head_goes : (r : Result (Unit {0}) CheckStop) (m : ℕ) → first_broken (both_keep own kept) ≡ None →
      Judged r n m (block_by kernel body whole start) → Judged r n m (kernel_findings earlier kernel)
  head_goes r m h judged =
      subst (λ (ks : List Kept). Judged r n m ks) (sym found)
      (own_goes r own kept more n m h (subst (λ (ks : List Kept). Judged r n m ks) begins judged))
