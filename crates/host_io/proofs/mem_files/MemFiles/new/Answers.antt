-- The shelves keep the slots' files, of which the lemmas speak.
use Rattle.std.proofs.Common.{◌≡◌, List, sym, subst}
use Rattle.host_io.specs.Files.{Missing}
use Rattle.host_io.specs.Shelves.{File, held_in, content, slot_file}
use Rattle.host_io.proofs.SlotLemmas.{held_in-slot, held_in-other}
use Rattle.host_io.proofs.mem_files.MemFiles.new.Goals as goal

pub returns-clause-slots : goal.returns-clause-slots
returns-clause-slots c =
    λ k slot here. subst (λ (files : List File). held_in files slot.name ≡ content (slot_file slot))
    (sym c.in_ok-shelve_all.ensures)
    (held_in-slot c.args.slots.items k slot c.requires here)

pub returns-clause-others : goal.returns-clause-others
returns-clause-others c =
    λ name none. subst (λ (files : List File). held_in files name ≡ Missing) (sym c.in_ok-shelve_all.ensures)
    (held_in-other c.args.slots.items name none)
