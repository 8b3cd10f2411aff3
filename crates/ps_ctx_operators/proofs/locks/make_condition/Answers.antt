-- It stands as it was made.
use Rattle.std.proofs.Common.{◌++◌, [], ◌∷◌, sym, ap, subst, ◌∙◌}
use Rattle.ps_language.specs.declared.kinds.Kind.TheVariants.{Condition}
use Rattle.ps_language.specs.Value.{condition_object}
use Rattle.ps_mem.specs.Heap.{Heap, birth_at}
use Rattle.ps_mem.specs.Keeps.{Extends}
use Rattle.ps_mem.specs.References.{StandsAs}
use Rattle.ps_mem.specs.Shows.{IsSound, Shows}
use Rattle.ps_ctx_operators.proofs.Fresh.{one_birth, condition_stands, condition_extends, condition_sound}
use Rattle.ps_ctx_operators.proofs.Fresh.{condition_shows}
use Rattle.ps_ctx_operators.proofs.locks.make_condition.Goals as goal

pub returns-clause-known : goal.returns-clause-known
returns-clause-known g c =
    subst (λ (k : Heap). StandsAs k Condition c.alloc.result 1) (sym c.alloc.ensures.heap)
    (condition_stands (g.M.Memory.heap c.args.memory.now) c.alloc.result c.alloc.ensures.free)

pub returns-clause-sound : goal.returns-clause-sound
returns-clause-sound g c =
    subst IsSound (sym c.alloc.ensures.heap)
    (condition_sound (g.M.Memory.heap c.args.memory.now) c.alloc.result c.alloc.ensures.free
    c.requires.sound)

pub returns-clause-extends : goal.returns-clause-extends
returns-clause-extends g c =
    subst (Extends (g.M.Memory.heap c.args.memory.now)) (sym c.alloc.ensures.heap)
    (condition_extends (g.M.Memory.heap c.args.memory.now) c.alloc.result c.alloc.ensures.free)

pub returns-clause-birth : goal.returns-clause-birth
returns-clause-birth g c =
    ap (λ (k : Heap). birth_at k c.alloc.result) c.alloc.ensures.heap
    ∙ one_birth (g.M.Memory.heap c.args.memory.now) c.alloc.result c.alloc.ensures.free Condition

pub returns-clause-shows : goal.returns-clause-shows
returns-clause-shows g c = λ names s shows.
    subst (λ (k : Heap). Shows k names (s ++ condition_object ∷ [])) (sym c.alloc.ensures.heap)
    (condition_shows (g.M.Memory.heap c.args.memory.now) c.alloc.result c.alloc.ensures.free
    c.requires.sound names s shows)
