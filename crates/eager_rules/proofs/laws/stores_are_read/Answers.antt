use Rattle.std.proofs.Common.{arith, ◌<◌, ◌≤◌, length}
use Rattle.std.specs.Prelude.{slice_index}
use Rattle.array_ops.specs.Arrays.{words_of}
use Rattle.view_places.specs.View.{places}
use Rattle.eager_rules.proofs.Stores.{keeps_others, reads_stored}
use Rattle.eager_rules.proofs.laws.stores_are_read.Goals as goal

pub returns-clause-stored : goal.returns-clause-stored
returns-clause-stored c =
    reads_stored (places c.args.target.now) c.args.words.now c.args.buffers.now c.args.target.now.buffer
    c.requires.there
    (λ i inside.
    let low : slice_index (places c.args.target.now) i < c.args.target.now.length =
    c.places_are_distinct.ensures.within i inside in
    let long : c.args.target.now.length ≤ length (words_of c.args.buffers.now c.args.target.now.buffer) =
    c.requires.whole in
    omega (arith, low, long))
    c.places_are_distinct.ensures.distinct c.requires.count

pub returns-clause-others : goal.returns-clause-others
returns-clause-others c =
    keeps_others (places c.args.target.now) c.args.words.now c.args.buffers.now c.args.target.now.buffer
    c.requires.there
