-- A walk over a block, one statement further.
use Rattle.std.proofs.Common.{arith, ◌<◌, ◌≡◌, ◌∙◌, ap, sym, subst, ℕ, ◌+◌, List, [], ◌∷◌, ◌++◌, length, drop}
use Rattle.std.proofs.Common.{true, false, nat_eq, None, Result, Err}
use Rattle.std.proofs.lemmas.Bool.Decides.{nat_tests}
use Rattle.loop_prog.proofs.Blocks.{block_more, findings_are}
use Rattle.loop_prog.proofs.Flaws.{judged_stops, judged_then, left_more, left_stops}
use Rattle.loop_prog.specs.Check.{before_rest, findings, first_flaw, kept_at}
use Rattle.loop_prog.specs.Judging.{Judged, Left, block_by, inner_by, placed}
use Rattle.loop_prog.specs.Paths.{flow}
use Rattle.loop_prog.specs.declared.invalid.CheckStop.{CheckStop}
use Rattle.loop_prog.specs.declared.kept.Kept.{Kept}
use Rattle.loop_prog.specs.declared.kept.Site.{Site}
use Rattle.loop_prog.specs.declared.paths.Paths.{Paths}
use Rattle.loop_prog.specs.declared.program.Kernel.{Kernel}
use Rattle.loop_prog.specs.declared.program.Statement.{Statement, out-Statement}

equal_here : (m k : ℕ) → m + 0 ≡ k → nat_eq m k ≡ true
equal_here m k e = let same : m ≡ k = omega (arith, e) in grind (arith, nat_tests, same)

other_here : (m n k : ℕ) → (m + 1) + n ≡ k → nat_eq m k ≡ false
other_here m n k e = let below : m < k = omega (arith, e) in grind (arith, nat_tests, below)

pub placed_as : (site : Site) (rest : List Statement) (m k : ℕ) → m + length rest ≡ k →
    placed site (nat_eq m k) ≡ before_rest site rest
placed_as site [] m k e = ap (placed site) (equal_here m k e)
placed_as site (next ∷ rest) m k e =
    let f : (m + 1) + length rest ≡ k = omega (arith, e) in ap (placed site) (other_here m (length rest) k f)

pub left_done : (n k : ℕ) (all : List Kept) → Left n [] k all → (n ≡ k + length all) × (first_flaw k all ≡ None)
left_done n k all (same, count) = let number : n ≡ k + length all = omega (arith, count) in (number, sym same)

-- the statement with the number i, where `here` is its place
module _ (kernel : Kernel) (body : List Statement) (s : Statement) (i : ℕ) (site here : Site) (paths : Paths) (n k : ℕ)
    (all : List Kept) (is : drop i body ≡ s ∷ drop (i + 1) body)
    (place : here ≡ placed site (nat_eq (i + 1) (length body)))
    (within : (i + 1) + length (drop (i + 1) body) ≡ length body)
    (left : Left n (block_by kernel (drop i body) site paths) k all) where
  at : before_rest site (drop (i + 1) body) ≡ here
  at = sym (place ∙ placed_as site (drop (i + 1) body) (i + 1) (length body) within)

  opened : Left n (findings kernel s here paths ++ block_by kernel (drop (i + 1) body) site (flow s paths)) k all
  opened =
      subst (λ (ks : List Kept). Left n ks k all)
      (ap (λ (ss : List Statement). block_by kernel ss site paths) is ∙
      (block_more kernel s (drop (i + 1) body) site paths ∙
      ap (λ (p : Site). findings kernel s p paths ++ block_by kernel (drop (i + 1) body) site (flow s paths)) at)) left

  pub block_stops : (e : CheckStop) (m last : ℕ) → Judged (Err e) n m (findings kernel s here paths) →
      Judged (Err e) k last all
  block_stops e m last h =
      left_stops e n m last (findings kernel s here paths)
      (block_by kernel (drop (i + 1) body) site (flow s paths)) k all h opened

  pub block_goes : (m : ℕ) → m ≡ n + length (findings kernel s here paths) →
      first_flaw n (findings kernel s here paths) ≡ None →
      Left m (block_by kernel (drop (i + 1) body) site (flow s paths)) k all
  block_goes m at none =
      left_more n m (findings kernel s here paths) (block_by kernel (drop (i + 1) body) site (flow s paths)) k all
      at none opened

-- a statement: its own entry, then those of its blocks
module _ (kernel : Kernel) (s : Statement) (site : Site) (paths : Paths) (kept : Kept)
    (own : kept ≡ kept_at kernel site paths (out-Statement s)) where
  same : kept ∷ inner_by kernel (out-Statement s) site paths ≡ findings kernel s site paths
  same =
      ap (λ (k : Kept). k ∷ inner_by kernel (out-Statement s) site paths) own ∙
      sym (findings_are kernel s site paths)

  pub entry_stops : (e : CheckStop) (n m : ℕ) → Judged (Err e) n m (kept ∷ []) →
      Judged (Err e) n m (findings kernel s site paths)
  entry_stops e n m h =
      subst (λ (ks : List Kept). Judged (Err e) n m ks) same
      (judged_stops e n m m (kept ∷ []) (inner_by kernel (out-Statement s) site paths) h)

  pub entry_goes : (r : Result (Unit {0}) CheckStop) (n m last : ℕ) → m ≡ n + 1 → first_flaw n (kept ∷ []) ≡ None →
      Judged r m last (inner_by kernel (out-Statement s) site paths) → Judged r n last (findings kernel s site paths)
  entry_goes r n m last number none h =
      subst (λ (ks : List Kept). Judged r n last ks) same
      (judged_then r n m last (kept ∷ []) (inner_by kernel (out-Statement s) site paths) number none h)
