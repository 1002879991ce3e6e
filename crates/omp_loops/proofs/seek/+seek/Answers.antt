use Rattle.std.proofs.Common.{rules, ◌≡◌, ◌<◌, ◌∙◌, ap, sym, subst, ℕ, ◌+◌, List, ◌∷◌, drop, length, slice_index_or}
use Rattle.std.proofs.Common.{Option, None, Ok}
use Rattle.std.proofs.lemmas.List.{drop_more}
use Rattle.krn_base.specs.declared.place.Loc.{Loc}
use Rattle.loop_prog.specs.Statements.{blocks_of, statements}
use Rattle.loop_prog.specs.declared.program.Statement.{Statement, out-Statement}
use Rattle.omp_loops.specs.Loops.{first_loop, place_of}
use Rattle.omp_loops.specs.Seeking.{Sought}
use Rattle.omp_loops.specs.Serial.{all_serial}
use Rattle.omp_loops.proofs.Seeks.{first_part, further, inside, second_part, serial_further}
use Rattle.omp_loops.proofs.seek.+seek.Goals as goal

pub seek_in-returns-in-Some-2 : goal.seek_in-returns-in-Some-2
seek_in-returns-in-Some-2 t c =
    let i : ℕ = c.loop-statement.statement-index in
    let body : List Statement = c.args.body.now in
    let s : Statement = c.statement-item.result in
    let lt : i < length body = search rules in
    let found : slice_index_or body i s ≡ s = search rules in
    let is : drop i body ≡ s ∷ drop (i + 1) body =
    drop_more body i s lt ∙ ap (λ (x : Statement). x ∷ drop (i + 1) body) found in
    let none : place_of (out-Statement s) ≡ None = sym c.place_of.ensures ∙ c.in_default.is in
    let below : List Statement = blocks_of (out-Statement s) in
    let loop = subst (λ (o : Option Loc). Sought (Ok o) c.count.new.number c.seek_below.new.number
    (statements below) (all_serial below)) c.in-Some-2.is c.in_ok-at.ensures in
    inside body (drop (i + 1) body) s (drop i body) c.args.number.now c.loop-statement.number is
    c.loop-statement.invariant.0 (c.seek_below.new.number, c.in-Some-2.at) none
    (ap (λ (n : ℕ). first_loop n (statements below)) (sym c.in_ok-count.ensures) ∙ loop)

pub seek_in-loop-statement-preserved : goal.seek_in-loop-statement-preserved
seek_in-loop-statement-preserved t c =
    let i : ℕ = c.loop-statement.statement-index in
    let body : List Statement = c.args.body.now in
    let s : Statement = c.statement-item.result in
    let lt : i < length body = search rules in
    let found : slice_index_or body i s ≡ s = search rules in
    let is : drop i body ≡ s ∷ drop (i + 1) body =
    drop_more body i s lt ∙ ap (λ (x : Statement). x ∷ drop (i + 1) body) found in
    let none : place_of (out-Statement s) ≡ None = sym c.place_of.ensures ∙ c.in_default.is in
    let below : List Statement = blocks_of (out-Statement s) in
    let clear = subst (λ (o : Option Loc). Sought (Ok o) c.count.new.number c.seek_below.new.number
    (statements below) (all_serial below)) c.in_default-2.is c.in_ok-at.ensures in (
      further body (drop (i + 1) body) s (drop i body) c.args.number.now c.loop-statement.number is
          c.loop-statement.invariant.0 c.seek_below.new.number none
          (ap (λ (n : ℕ). first_loop n (statements below)) (sym c.in_ok-count.ensures) ∙ clear.0)
          (clear.1.0 ∙ ap (λ (n : ℕ). n + length (statements below)) c.in_ok-count.ensures),
      serial_further body (drop (i + 1) body) (drop i body) s is c.loop-statement.invariant.1 none clear.1.1,
    )

pub seek_parts-returns-in-Some : goal.seek_parts-returns-in-Some
seek_parts-returns-in-Some t c =
    let loop = subst (λ (o : Option Loc). Sought (Ok o) c.args.number.now c.seek_in.new.number
    (statements c.args.yes.now) (all_serial c.args.yes.now)) c.in-Some.is c.in_ok-at.ensures in
    first_part c.args.yes.now c.args.no.now c.args.number.now (c.seek_in.new.number, c.in-Some.at) loop

pub seek_parts-returns : goal.seek_parts-returns
seek_parts-returns t c =
    let clear = subst (λ (o : Option Loc). Sought (Ok o) c.args.number.now c.seek_in.new.number
    (statements c.args.yes.now) (all_serial c.args.yes.now)) c.in_default.is c.in_ok-at.ensures in
    second_part c.seek_in-2.result c.args.yes.now c.args.no.now c.args.number.now c.seek_in.new.number
    c.seek_in-2.new.number clear.0 clear.1.0 clear.1.1 c.seek_in-2.ensures
