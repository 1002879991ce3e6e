use Rattle.std.proofs.Common.{rules, ◌≢◌, length, arith}
use Rattle.std.proofs.lemmas.Grind.{common_steps}
use Rattle.py_parse.proofs.Trailers.{trailed_primary}
use Rattle.py_parse.proofs.operand.trailed.Goals as goal

pub returns-in_ok-append-in-Primary : goal.returns-in_ok-append-in-Primary
returns-in_ok-append-in-Primary c =
    let some : length c.args.more ≢ 0 = grind (arith, common_steps) in
    let e = trailed_primary c.in-Primary.head c.in-Primary.earlier c.args.more some in
    first_of (cc, search rules, grind (arith, common_steps))
