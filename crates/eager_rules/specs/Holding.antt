-- How the evaluator gives buffers back. It counts for each buffer the values that refer to it: names of running
-- instances, arguments and returned values on their way, and one for each buffer of the call. Where a count falls to 0,
-- the buffer's words are replaced by none; its number stays. `eager` says that the outcome is that of `Eager`, which
-- knows nothing of this.
use Rattle.std.specs.Prelude.{ℕ, zero, suc, ◌+◌, ◌-◌, ◌==◌, max, if◌then◌else◌, Bool, true, false, ℤ, List, [], ◌∷◌}
use Rattle.std.specs.Prelude.{◌++◌, map, length, replicate, slice_get, slice_index_or, slice_set, Option, Some, None}
use Rattle.std.specs.List.{range_with_len}
use Rattle.array_ops.specs.Elements.{Bound, Unbound, WordOf, ArrayOf}
use Rattle.eager_rules.specs.Blocks.{Meaning, End, GoesOn, Returned, Faulted, Stuck, in_order, loop_over, choice}
use Rattle.eager_rules.specs.Eager.{ready, word_at_operand, work_of}
use Rattle.eager_rules.specs.State.{State, operand}
use Rattle.eager_rules.specs.Statements.{reads_of, binds_of}
use Rattle.eager_rules.specs.Works.{Done, Made, Failed, Blocked, Work, range_values}
use Rattle.eager_rules.specs.declared.program.Core.{Core}
use Rattle.eager_rules.specs.declared.program.Core.TheOpen as c
use Rattle.eager_rules.specs.declared.program.Core.TheFolds.{fold-Core}
use Rattle.eager_rules.specs.declared.program.Instance.{Instance}
use Rattle.eager_rules.specs.declared.program.Oper.{Oper}
use Rattle.eager_rules.specs.declared.state.Heap.{Heap}

abbrev pub heap_of : List (List ℤ) → List ℕ → Heap
heap_of buffers counts = record { buffers = buffers; counts = counts }

-- the state of an instance that runs: the buffers with their counts, and what its names stand for
pub record Held : Type 0 where
  pub heap : Heap
  pub names : List Bound

-- the same without counts
abbrev pub plain : Held → State
plain h = record { buffers = h.heap.buffers; names = h.names }

abbrev pub with_heap : Heap → Held → Held
with_heap heap h = record { heap = heap; names = h.names }

abbrev pub count_of : List ℕ → ℕ → ℕ
count_of counts buffer = slice_index_or counts buffer 0

-- counts up to that of a buffer
abbrev pub counts_to : ℕ → List ℕ → List ℕ
counts_to buffer counts = counts ++ replicate ((buffer + 1) - length counts) 0

-- one value more refers to a buffer
abbrev pub one_more : ℕ → List ℕ → List ℕ
one_more buffer counts = slice_set (counts_to buffer counts) buffer (count_of (counts_to buffer counts) buffer + 1)

abbrev pub hold : Bound → List ℕ → List ℕ
hold Unbound counts = counts
hold (WordOf z) counts = counts
hold (ArrayOf a) counts = one_more a.buffer counts

abbrev pub hold_all : List Bound → List ℕ → List ℕ
hold_all [] counts = counts
hold_all (value ∷ values) counts = hold_all values (hold value counts)

-- a buffer to which nothing refers any more
abbrev pub emptied : ℕ → Heap → Heap
emptied buffer heap = heap_of (slice_set heap.buffers buffer []) (slice_set heap.counts buffer 0)

-- one value less refers to a buffer, to which this many did
abbrev pub one_less : ℕ → ℕ → Heap → Heap
one_less buffer count heap =
    if count == 0
    then heap
    else (if count == 1 then emptied buffer heap else heap_of heap.buffers (slice_set heap.counts buffer (count - 1)))

abbrev pub release : Bound → Heap → Heap
release Unbound heap = heap
release (WordOf z) heap = heap
release (ArrayOf a) heap = one_less a.buffer (count_of heap.counts a.buffer) heap

abbrev pub release_all : List Bound → Heap → Heap
release_all [] heap = heap
release_all (value ∷ values) heap = release_all values (release value heap)

-- A name takes over a value that is held, and gives back what it stood for. A number that is no name's gives the value
-- back.
abbrev pub bind_held : ℕ → Bound → Held → Held
bind_held name value h = record {
  heap = release (slice_index_or h.names name value) h.heap;
  names = slice_set h.names name value;
}

-- one held value to one name after another, as far as there are both; values that are left are given back
abbrev pub bind_all_held : List ℕ → List Bound → Held → Held
bind_all_held to [] h = h
bind_all_held [] (value ∷ values) h = bind_all_held [] values (with_heap (release value h.heap) h)
bind_all_held (name ∷ to) (value ∷ values) h = bind_all_held to values (bind_held name value h)

-- work on buffers with counts; the values that it gives are held
abbrev pub HeldWork : Type 0
HeldWork = List Bound → Heap → Done × List ℕ

abbrev pub held_done : Done → List ℕ → Done × List ℕ
held_done (Made buffers values) counts = (Made buffers values, hold_all values counts)
held_done (Failed buffers fault at) counts = (Failed buffers fault at, counts)
held_done (Blocked buffers) counts = (Blocked buffers, counts)

abbrev pub lifted : Work → HeldWork
lifted work values heap = held_done (work values heap.buffers) heap.counts

abbrev pub where_held : Bool → Held × End → Held → Held × End
where_held true q h = q
where_held false q h = (h, Stuck)

abbrev pub finish_held : List ℕ → Done × List ℕ → Meaning Held
finish_held to (Made buffers values, counts) h =
    (bind_all_held to values (with_heap (heap_of buffers counts) h), GoesOn)
finish_held to (Failed buffers fault at, counts) h = (with_heap (heap_of buffers counts) h, Faulted fault at)
finish_held to (Blocked buffers, counts) h = (with_heap (heap_of buffers counts) h, Stuck)

abbrev pub step_held : List Oper → List ℕ → HeldWork → Meaning Held
step_held reads to work h =
    where_held (ready (plain h) reads to) (finish_held to (work (map (operand (plain h)) reads) h.heap) h) h

abbrev pub HeldCalls : Type 0
HeldCalls = ℕ → HeldWork

abbrev pub set_held : ℕ → ℤ → Held → Held
set_held var z = bind_held var (WordOf z)

-- returned values are held
abbrev pub return_held : List Bound → Meaning Held
return_held values h = (with_heap (heap_of h.heap.buffers (hold_all values h.heap.counts)) h, Returned values)

abbrev pub statement_held : HeldCalls → c.Core-F (Meaning Held) → Meaning Held
statement_held calls (c.If cond part other) h =
    where_held (ready (plain h) (cond ∷ []) [])
    (choice (word_at_operand (plain h) cond) (in_order part) (in_order other) h) h
statement_held calls (c.For var lo hi by at omp body) h =
    where_held (ready (plain h) (lo ∷ hi ∷ by ∷ []) (var ∷ []))
    (loop_over (set_held var) (in_order body) at
    (range_values (word_at_operand (plain h) lo) (word_at_operand (plain h) hi) (word_at_operand (plain h) by)) h) h
statement_held calls (c.Return values) h =
    where_held (ready (plain h) values []) (return_held (map (operand (plain h)) values) h) h
statement_held calls (c.Call to instance args) h = step_held args to (calls instance) h
statement_held calls y h =
    step_held (reads_of y) (binds_of y) (lifted (work_of (λ instance values buffers. Blocked buffers) y)) h

abbrev pub meaning_held : HeldCalls → Core → Meaning Held
meaning_held calls = fold-Core (Meaning Held) (statement_held calls)

abbrev pub block_held : HeldCalls → List Core → Meaning Held
block_held calls body = in_order (map (meaning_held calls) body)

-- the state in which a call of an instance begins; its parameters take over the arguments
abbrev pub entered_held : Instance → List Bound → Heap → Held
entered_held f args heap =
    bind_all_held (range_with_len 0 (length f.params)) args
    (record {
      heap = heap_of heap.buffers (hold_all args heap.counts);
      names = replicate (length f.names) Unbound;
    })

abbrev pub done_held : Heap → End → Done × List ℕ
done_held heap GoesOn = (Made heap.buffers [], heap.counts)
done_held heap (Returned values) = (Made heap.buffers values, heap.counts)
done_held heap (Faulted fault at) = (Failed heap.buffers fault at, heap.counts)
done_held heap Stuck = (Blocked heap.buffers, heap.counts)

-- what a call comes to, by the end of the called body, whose names give back what they stand for
abbrev pub left_held : Held × End → Done × List ℕ
left_held (h, end) = done_held (release_all h.names h.heap) end

abbrev pub called_held : HeldCalls → Option Instance → HeldWork
called_held calls None args heap = (Blocked heap.buffers, heap.counts)
called_held calls (Some f) args heap = left_held (block_held calls f.body (entered_held f args heap))

abbrev pub calls_held : List Instance → ℕ → HeldCalls
calls_held instances zero = λ instance args heap. (Blocked heap.buffers, heap.counts)
calls_held instances (suc depth) = λ instance. called_held (calls_held instances depth) (slice_get instances instance)

-- What evaluating an instance on a call comes to, where each of the call's buffers is held. So is the first buffer of
-- a call that has none: a value that is no array stands for one in that buffer.
abbrev pub run_held : List Instance → ℕ → Instance → List Bound → List (List ℤ) → Held × End
run_held instances depth f args buffers =
    block_held (calls_held instances depth) f.body
    (entered_held f args (heap_of buffers (replicate (max (length buffers) 1) 1)))
