-- Eager evaluation: one whole-array operation after another. A statement takes a state to a state and an end. It is
-- what it reads, what it binds and its work; only `If`, `For` and `Return` are more than that.
use Rattle.std.specs.Prelude.{ℕ, zero, suc, ◌&&◌, Bool, true, false, nat_lt, ℤ, List, [], ◌∷◌, map, length, replicate}
use Rattle.std.specs.Prelude.{slice_get}
use Rattle.std.specs.Prelude.{Option, Some, None}
use Rattle.std.specs.List.{list_all, range_with_len}
use Rattle.array_ops.specs.Elements.{Bound, Unbound, WordOf}
use Rattle.eager_rules.specs.Blocks.{Meaning, End, GoesOn, Returned, Faulted, Stuck, in_order, loop_over, choice}
use Rattle.eager_rules.specs.State.{State, operand, is_bound, bind, with_buffers}
use Rattle.eager_rules.specs.Statements.{reads_of, binds_of}
use Rattle.eager_rules.specs.Works.{Done, Made, Failed, Blocked, Work, word_of, move_work, word_work, extent_work}
use Rattle.eager_rules.specs.Works.{get_work, put_work}
use Rattle.eager_rules.specs.Works.{pick_work, flip_work, fresh_work, map_work, reduce_work, store_work, range_values}
use Rattle.eager_rules.specs.declared.program.Core.{Core}
use Rattle.eager_rules.specs.declared.program.Core.TheOpen as c
use Rattle.eager_rules.specs.declared.program.Core.TheFolds.{fold-Core}
use Rattle.eager_rules.specs.declared.program.Instance.{Instance}
use Rattle.eager_rules.specs.declared.program.Oper.{Oper}

-- one value to one name after another, as far as there are both
abbrev pub bind_all : List ℕ → List Bound → State → State
bind_all to [] s = s
bind_all [] (value ∷ values) s = s
bind_all (name ∷ to) (value ∷ values) s = bind_all to values (bind name value s)

-- what is read is bound, and what is to be bound is a name of the instance
abbrev pub ready : State → List Oper → List ℕ → Bool
ready s reads to = list_all (λ x. is_bound (operand s x)) reads && list_all (λ name. nat_lt name (length s.names)) to

abbrev pub where_ready : Bool → State × End → State → State × End
where_ready true q s = q
where_ready false q s = (s, Stuck)

-- the state after work: its buffers, and its values bound to names
abbrev pub finish : List ℕ → Done → Meaning State
finish to (Made buffers values) s = (bind_all to values (with_buffers buffers s), GoesOn)
finish to (Failed buffers fault at) s = (with_buffers buffers s, Faulted fault at)
finish to (Blocked buffers) s = (with_buffers buffers s, Stuck)

abbrev pub step : List Oper → List ℕ → Work → Meaning State
step reads to work s = where_ready (ready s reads to) (finish to (work (map (operand s) reads) s.buffers) s) s

-- what a call of each instance does
abbrev pub Calls : Type 0
Calls = ℕ → Work

-- the work of a statement that has no block and returns nothing
abbrev pub work_of : Calls → {A : Type 0} → c.Core-F A → Work
work_of calls (c.Word to op args at) = word_work op at
work_of calls (c.Extent to of axis) = extent_work axis
work_of calls (c.Get to of index at) = get_work at
work_of calls (c.Put of index value at) = put_work at
work_of calls (c.Pick to of subs at) = pick_work subs at
work_of calls (c.Flip to of) = flip_work
work_of calls (c.Alias to of) = move_work
work_of calls (c.Fresh to dims fill at) = fresh_work fill at
work_of calls (c.Map to op args at) = map_work op at
work_of calls (c.Reduce to op of at) = reduce_work op at
work_of calls (c.Store of value at) = store_work at
work_of calls (c.Call to instance args) = calls instance
work_of calls (c.If cond part other) = λ values buffers. Blocked buffers
work_of calls (c.For var lo hi by at omp body) = λ values buffers. Blocked buffers
work_of calls (c.Return values) = λ operands buffers. Blocked buffers

-- an operand as a word
abbrev pub word_at_operand : State → Oper → ℤ
word_at_operand s x = word_of (operand s x)

-- a loop's variable, bound to a number
abbrev pub set_variable : ℕ → ℤ → State → State
set_variable var z = bind var (WordOf z)

-- one statement, with their meanings in place of the statements of its blocks
abbrev pub statement : Calls → c.Core-F (Meaning State) → Meaning State
statement calls (c.If cond part other) s =
    where_ready (ready s (cond ∷ []) []) (choice (word_at_operand s cond) (in_order part) (in_order other) s) s
statement calls (c.For var lo hi by at omp body) s =
    where_ready (ready s (lo ∷ hi ∷ by ∷ []) (var ∷ []))
    (loop_over (set_variable var) (in_order body) at
    (range_values (word_at_operand s lo) (word_at_operand s hi) (word_at_operand s by)) s) s
statement calls (c.Return values) s = where_ready (ready s values []) (s, Returned (map (operand s) values)) s
statement calls y s = step (reads_of y) (binds_of y) (work_of calls y) s

abbrev pub meaning : Calls → Core → Meaning State
meaning calls = fold-Core (Meaning State) (statement calls)

abbrev pub block : Calls → List Core → Meaning State
block calls body = in_order (map (meaning calls) body)

-- the state in which a call of an instance begins: its parameters are bound to the arguments
abbrev pub entered : Instance → List Bound → List (List ℤ) → State
entered f args buffers =
    bind_all (range_with_len 0 (length f.params)) args
    (record { buffers = buffers; names = replicate (length f.names) Unbound })

-- what a call comes to, by the end of the called body
abbrev pub done_of : State × End → Done
done_of (s, GoesOn) = Made s.buffers []
done_of (s, Returned values) = Made s.buffers values
done_of (s, Faulted fault at) = Failed s.buffers fault at
done_of (s, Stuck) = Blocked s.buffers

abbrev pub called : Calls → Option Instance → Work
called calls None args buffers = Blocked buffers
called calls (Some f) args buffers = done_of (block calls f.body (entered f args buffers))

-- Calls within calls, to a depth. In a sound program each chain of calls ends, and every depth past the longest gives
-- the same.
abbrev pub calls_at : List Instance → ℕ → Calls
calls_at instances zero = λ instance args buffers. Blocked buffers
calls_at instances (suc depth) = λ instance. called (calls_at instances depth) (slice_get instances instance)
