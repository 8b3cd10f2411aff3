-- The same object with another attribute.
use Rattle.std.proofs.Common.{false, refl}
use Rattle.ps_language.specs.Value.{Value}
use Rattle.ps_mem.specs.Heap.{birth_at}
use Rattle.ps_mem.specs.Shows.{IsValue}
use Rattle.ps_ops_operands.proofs.Held.{first_held}
use Rattle.ps_ops_types.proofs.Attributed.{attributed_value, attributed_held, attributed_within, replaced_observes}
use Rattle.ps_ops_types.proofs.Attributed.{replaced_ready}
use Rattle.ps_ops_types.proofs.attributes.cvlit.Goals as goal

pub returns-clause-row : goal.returns-clause-row
returns-clause-row c = λ h ready. rw (c.replace.ensures)
    (replaced_observes h _ _ _ c.in-Some.ensures (λ (x : Value). record x { executable = false })
    (attributed_value _ _ false c.with_executable.ensures.value)
    (λ names store. attributed_within _ _ false c.with_executable.ensures.value (birth_at h) names store))

pub returns-clause-ready : goal.returns-clause-ready
returns-clause-ready c = λ h ready.
    let held = first_held (IsValue h) _ ready.values _ c.in-Some.ensures in
    rw (c.replace.ensures)
    (replaced_ready h _ _ _ c.in-Some.ensures ready
    (attributed_held _ _ false c.with_executable.ensures.value h held
    (c.with_executable.ensures.word held.word (rw (held.visible) refl))))
