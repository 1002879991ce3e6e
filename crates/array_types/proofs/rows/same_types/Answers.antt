use Rattle.std.proofs.Common.{sym}
use Rattle.array_types.proofs.Lists.{unequal}
use Rattle.array_types.proofs.rows.same_types.Goals as goal

pub returns-then-ts-us : goal.returns-then-ts-us
returns-then-ts-us c = sym (unequal c.args.ts.now c.args.us.now c.if-ts-us.true)
