use Rattle.py_parse.proofs.NoteLaws.{turned}
use Rattle.py_parse.proofs.notes.notes.Goals as goal

pub loop-left-preserved : goal.loop-left-preserved
loop-left-preserved c =
    turned c.args.source.now _ c.loop-left.found.items c.push.new.self.items c.loop-left.rest.now
    c.behind-rest.result.now c.loop-left.left.now _ c.in_ok-note_of.field-0 c.first_or-next.result
    c.in-len1-up.len_at_least c.loop-left.invariant.whole c.loop-left.invariant.rising c.behind-rest.ensures
    c.first_or-next.ensures c.in_ok-note_of.ensures c.in_ok-push.ensures.items
