use Rattle.eager_rules.specs.declared.outcome.Value.{Value}
use Rattle.std.proofs.Common.{arith, [], ◌∷◌, ◌++◌, ◌≡◌, ◌∙◌, ℕ, ap, map, min, length}
use Rattle.std.proofs.lemmas.List.{length-map}
use Rattle.std.specs.List.{range_with_len}
use Rattle.krn_base.specs.declared.kind.Kind.TheVariants.{Int64}
use Rattle.array_ops.specs.Elements.{Unbound}
use Rattle.array_ops.specs.Operands.{meaning_of}
use Rattle.eager_rules.specs.Outcome.{by_number, value_of}
use Rattle.eager_rules.specs.Running.{meanings}
use Rattle.loop_exec.proofs.Zips.{from_zip, one_more}
use Rattle.loop_exec.proofs.evaluation.values.Goals as goal

pub loop-i-preserved : goal.loop-i-preserved
loop-i-preserved c =
    one_more (value_of c.args.buffers.now) (Int64, 0) Unbound c.args.rets.now (meanings c.args.operands.now)
    c.loop-i.found
    c.push.new.self c.loop-i.i (c.in_ok-push.ensures.pushed ∙
    ap (λ (v : Value). c.loop-i.found ++ v ∷ []) c.in_ok-item.ensures) c.loop-i.invariant

pub returns : goal.returns
returns c =
    let all : c.loop-i.i ≡ min (length c.args.rets.now) (length (meanings c.args.operands.now)) =
    (let size : length (meanings c.args.operands.now) ≡ length c.args.operands.now =
    length-map c.args.operands.now meaning_of in
    let least = c.min-count.ensures in
    let past = c.loop-i-test.false in
    let within = c.loop-i.auto.i-end in
    omega (arith, size, least, past, within)) in
    c.loop-i.invariant ∙ ap (λ (n : ℕ). map (by_number (value_of c.args.buffers.now) (Int64, 0) Unbound c.args.rets.now
    (meanings c.args.operands.now)) (range_with_len 0 n)) all ∙
    from_zip (value_of c.args.buffers.now) (Int64, 0) Unbound c.args.rets.now (meanings c.args.operands.now)
