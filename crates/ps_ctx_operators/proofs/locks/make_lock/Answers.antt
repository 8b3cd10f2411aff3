-- Zero is filled in: it is free.
use Rattle.std.proofs.Common.{◌<◌, [], ◌∷◌, length, sym, subst}
use Rattle.ps_language.specs.declared.kinds.Kind.TheVariants.{Lock}
use Rattle.ps_mem.specs.Heap.{Heap, fields_at}
use Rattle.ps_mem.specs.References.{NamesStanding}
use Rattle.ps_ctx_operators.proofs.Fresh.{one_reaches, zero_standing, lock_stands, lock_extends, lock_birth}
use Rattle.ps_ctx_operators.proofs.Fresh.{lock_sound, lock_shows}
use Rattle.ps_ctx_operators.proofs.locks.make_lock.Goals as goal

pub fill-requires-clause-known : goal.fill-requires-clause-known
fill-requires-clause-known g c =
    subst (λ (k : Heap). NamesStanding k c.alloc-address.result (c.integer.result ∷ []))
    (sym c.alloc-address.ensures.heap)
    (zero_standing (g.M.Memory.heap c.args.memory.now) c.alloc-address.result
    c.alloc-address.ensures.free c.integer.result c.integer.ensures.value c.integer.ensures.word)

pub fill-requires-clause-place : goal.fill-requires-clause-place
fill-requires-clause-place g c =
    subst (λ (k : Heap). 0 < length (fields_at k c.alloc-address.result))
    (sym c.alloc-address.ensures.heap)
    (one_reaches (g.M.Memory.heap c.args.memory.now) c.alloc-address.result
    c.alloc-address.ensures.free Lock)

pub returns-clause-known : goal.returns-clause-known
returns-clause-known g c =
    rw (c.fill.ensures.heap, c.alloc-address.ensures.heap)
    (lock_stands (g.M.Memory.heap c.args.memory.now) c.alloc-address.result
    c.alloc-address.ensures.free c.integer.result c.integer.ensures.value c.integer.ensures.word)

pub returns-clause-sound : goal.returns-clause-sound
returns-clause-sound g c =
    rw (c.fill.ensures.heap, c.alloc-address.ensures.heap)
    (lock_sound (g.M.Memory.heap c.args.memory.now) c.alloc-address.result
    c.alloc-address.ensures.free c.integer.result c.integer.ensures.value c.integer.ensures.word
    c.requires.sound)

pub returns-clause-extends : goal.returns-clause-extends
returns-clause-extends g c =
    rw (c.fill.ensures.heap, c.alloc-address.ensures.heap)
    (lock_extends (g.M.Memory.heap c.args.memory.now) c.alloc-address.result
    c.alloc-address.ensures.free c.integer.result c.integer.ensures.value c.integer.ensures.word)

pub returns-clause-birth : goal.returns-clause-birth
returns-clause-birth g c =
    rw (c.fill.ensures.heap, c.alloc-address.ensures.heap)
    (lock_birth (g.M.Memory.heap c.args.memory.now) c.alloc-address.result
    c.alloc-address.ensures.free c.integer.result c.integer.ensures.value c.integer.ensures.word)

pub returns-clause-shows : goal.returns-clause-shows
returns-clause-shows g c = λ names s shows.
    rw (c.fill.ensures.heap, c.alloc-address.ensures.heap)
    (lock_shows (g.M.Memory.heap c.args.memory.now) c.alloc-address.result
    c.alloc-address.ensures.free c.integer.result c.integer.ensures.value c.integer.ensures.word
    c.requires.sound names s shows)
