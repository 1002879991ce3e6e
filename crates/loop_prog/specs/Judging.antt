-- What the code's own values stand for, and what a walk over statements comes to.
use Rattle.std.specs.Prelude.{◌≡◌, ℕ, ◌+◌, Bool, true, false, List, [], ◌++◌, map, length, reverse}
use Rattle.std.specs.Prelude.{Option, Some, None, Result, Ok, Err}
use Rattle.krn_base.specs.declared.kind.Kind.{Kind}
use Rattle.loop_prog.specs.Check.{Findings, block_findings, deeper, first_flaw, with_findings}
use Rattle.loop_prog.specs.Conditions.{Stack, Kinds, Wrong, Short}
use Rattle.loop_prog.specs.declared.invalid.CheckStop.{CheckStop}
use Rattle.loop_prog.specs.declared.invalid.CheckStop.TheVariants as stop
use Rattle.loop_prog.specs.declared.invalid.InvalidRule.{InvalidRule}
use Rattle.loop_prog.specs.declared.kept.Kept.{Kept}
use Rattle.loop_prog.specs.declared.kept.Site.{Site}
use Rattle.loop_prog.specs.Paths.{block_flow, body_start}
use Rattle.loop_prog.specs.declared.program.Kernel.{Kernel}
use Rattle.loop_prog.specs.declared.program.Statement.{Statement}
use Rattle.loop_prog.specs.declared.program.Statement.TheOpen as l
use Rattle.loop_prog.specs.declared.template_kinds.Pushed.{Pushed}
use Rattle.loop_prog.specs.declared.template_kinds.Pushed.TheVariants as pushed
use Rattle.loop_prog.specs.declared.template_kinds.Stack.{Stack as KindStack}

-- a stack with its latest kind last
abbrev pub stack_by : Pushed → List Kind → Stack
stack_by pushed.Value kinds = Kinds kinds
stack_by pushed.Wrong kinds = Wrong
stack_by pushed.Short kinds = Short

abbrev pub stack_of : KindStack → Stack
stack_of s = stack_by s.state (reverse s.kinds.items)

-- a walk from the statement with the number n that comes to the number m, or to the first that breaks a rule
abbrev pub Judged : Result (Unit {0}) CheckStop → ℕ → ℕ → List Kept → Type 0
Judged (Ok u) n m kept = (m ≡ n + length kept) × (first_flaw n kept ≡ None)
Judged (Err (stop.Invalid at rule)) n m kept = first_flaw n kept ≡ Some (at, rule)
Judged (Err stop.Memory) n m kept = Unit {0}

-- what a check answers, by the first flaw of the program
abbrev pub IsFlaw : Result (Unit {0}) CheckStop → Option (ℕ × InvalidRule) → Type 0
IsFlaw (Ok u) flaw = flaw ≡ None
IsFlaw (Err (stop.Invalid at rule)) flaw = flaw ≡ Some (at, rule)
IsFlaw (Err stop.Memory) flaw = Unit {0}

-- a walk that has come to the number n with these entries left does what one from the number m does with those
abbrev pub Left : ℕ → List Kept → ℕ → List Kept → Type 0
Left n left m all = (first_flaw n left ≡ first_flaw m all) × (n + length left ≡ m + length all)

-- where a statement stands that is the last of its block or isn't
abbrev pub placed : Site → Bool → Site
placed site true = site
placed site false = record { depth = site.depth; ends = false }

-- what is found in the blocks of a statement
abbrev pub block_by : Kernel → List Statement → Findings
block_by kernel body = block_findings (map (with_findings kernel) body)

abbrev pub inner_by : Kernel → l.Statement-F Statement → Findings
inner_by kernel (l.If cond part other) site paths =
    block_by kernel part (deeper site site.ends) paths ++ block_by kernel other (deeper site site.ends) paths
inner_by kernel (l.For var lo hi by at body) site paths =
    block_by kernel body (deeper site false) (body_start var (block_flow body) paths)
inner_by kernel (l.ParFor var lo hi by at guard reductions privates body) site paths =
    block_by kernel body (deeper site false) (body_start var (block_flow body) paths)
inner_by kernel _ site paths = []
