-- Zero is stored as the owner.
use Rattle.std.proofs.Common.{sym, ap, subst, ◌∙◌, None}
use Rattle.ps_language.specs.Owners.{with_owner}
use Rattle.ps_mem.specs.Heap.{Heap, birth_at}
use Rattle.ps_mem.specs.Keeps.{Keeps}
use Rattle.ps_mem.specs.Shows.{IsSound, Shows}
use Rattle.ps_mem.proofs.HeapLemmas.{birth_at-stored}
use Rattle.ps_step_frames.proofs.Locking.{lock_reaches, zero_standing, freed_sound, freed_keeps, freed_shows}
use Rattle.ps_step_frames.proofs.monitors.free_lock.Goals as goal

pub store-requires-clause-known : goal.store-requires-clause-known
store-requires-clause-known g c =
    zero_standing _ c.args.lock c.requires.known c.integer.result c.integer.ensures.value
    c.integer.ensures.word

pub store-requires-clause-place : goal.store-requires-clause-place
store-requires-clause-place g c = lock_reaches _ c.args.lock c.requires.known

pub returns-clause-sound : goal.returns-clause-sound
returns-clause-sound g c =
    subst IsSound (sym c.store.ensures.heap)
    (freed_sound _ c.args.lock c.requires.known c.integer.result c.integer.ensures.value
    c.integer.ensures.word c.requires.sound)

pub returns-clause-keeps : goal.returns-clause-keeps
returns-clause-keeps g c =
    subst (Keeps (g.M.Memory.heap c.args.memory.now)) (sym c.store.ensures.heap)
    (freed_keeps _ c.args.lock c.requires.known c.integer.result c.integer.ensures.value
    c.integer.ensures.word c.requires.sound)

pub returns-clause-births : goal.returns-clause-births
returns-clause-births g c = ap birth_at c.store.ensures.heap ∙ birth_at-stored _ _ _ _

pub returns-clause-shows : goal.returns-clause-shows
returns-clause-shows g c = λ names s shows.
    let h = g.M.Memory.heap c.args.memory.now in
    subst (λ (k : Heap). Shows k names (with_owner s (birth_at h c.args.lock) None))
    (sym c.store.ensures.heap)
    (freed_shows h c.args.lock c.requires.known c.integer.result c.integer.ensures.value
    c.integer.ensures.word c.requires.sound names s shows)
