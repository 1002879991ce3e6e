-- What is found under each name once the shelf of one name was filled.
use Rattle.std.proofs.Common.{ℕ, length, Option, sym, ap, ◌∙◌, get_or}
use Rattle.std.proofs.Math.Seq.{map-set_same}
use Rattle.host_io.specs.Shelves.{can_hold, shelf_file, shelf_files}
use Rattle.host_io.proofs.ShelfLemmas.{room_at, room_nowhere, held_at, held_other, rooms_set, filled_content}
use Rattle.host_io.proofs.ShelfLemmas.{kept_file, stored_told}
use Rattle.host_io.proofs.shelves.store_bytes.Goals as goal

pub returns-in-Some-clause-fits : goal.returns-in-Some-clause-fits
returns-in-Some-clause-fits c =
    let shelf = c.index-shelves-place.result in
    let room = room_at c.args.shelves.now c.args.name.now c.in-Some.place shelf c.in-Some.ensures in
    c.fill.ensures.fits ∙ ap (λ (r : Option ℕ). can_hold r (length c.args.bytes.now)) (sym room)

pub returns-in-Some-clause-stored : goal.returns-in-Some-clause-stored
returns-in-Some-clause-stored c = λ done.
    let old = get_or c.args.shelves.now c.in-Some.place c.index-shelves-place.result in
    held_at c.args.shelves.now c.args.name.now c.in-Some.place c.fill.new.self c.index-shelves-place.result
    c.in-Some.ensures c.fill.ensures.name
    ∙ filled_content c.fill.result c.fill.new.self old c.args.bytes.now done c.fill.ensures.bytes c.fill.ensures.there

pub returns-in-Some-clause-replaced : goal.returns-in-Some-clause-replaced
returns-in-Some-clause-replaced c = λ done.
    returns-in-Some-clause-stored c done
    ∙ sym (stored_told (shelf_files c.args.shelves.now) c.args.name.now c.args.bytes.now)

pub returns-in-Some-clause-others : goal.returns-in-Some-clause-others
returns-in-Some-clause-others c = λ other apart.
    held_other c.args.shelves.now c.args.name.now other c.in-Some.place c.fill.new.self c.index-shelves-place.result
    c.in-Some.ensures c.fill.ensures.name apart

pub returns-in-Some-clause-unchanged : goal.returns-in-Some-clause-unchanged
returns-in-Some-clause-unchanged c = λ unmet.
    let old = get_or c.args.shelves.now c.in-Some.place c.index-shelves-place.result in
    map-set_same shelf_file c.args.shelves.now c.in-Some.place c.fill.new.self c.index-shelves-place.result
    (kept_file c.fill.result c.fill.new.self old c.args.bytes.now unmet c.fill.ensures.bytes c.fill.ensures.there
    c.fill.ensures.name c.fill.ensures.limit)

pub returns-in-Some-clause-rooms : goal.returns-in-Some-clause-rooms
returns-in-Some-clause-rooms c =
    rooms_set c.args.shelves.now c.in-Some.place c.fill.new.self c.index-shelves-place.result c.fill.ensures.name
    c.fill.ensures.limit

pub returns-in-None-clause-fits : goal.returns-in-None-clause-fits
returns-in-None-clause-fits c =
    let nowhere = room_nowhere c.args.shelves.now c.args.name.now c.in-None.ensures in
    sym (ap (λ (r : Option ℕ). can_hold r (length c.args.bytes.now)) nowhere)
