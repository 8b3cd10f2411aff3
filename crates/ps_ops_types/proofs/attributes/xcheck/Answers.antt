-- A boolean.
use Rattle.std.proofs.Common.{ap, sym, ◌∙◌}
use Rattle.ps_language.specs.Value.{Value}
use Rattle.ps_language.specs.Readers.{boolean}
use Rattle.ps_mem.specs.Heap.{birth_at}
use Rattle.ps_ops_operands.proofs.Ready.{plain_value, plain_within}
use Rattle.ps_ops_types.proofs.Attributed.{attribute_of, replaced_observes, replaced_ready}
use Rattle.ps_ops_types.proofs.attributes.xcheck.Goals as goal

pub returns-clause-row : goal.returns-clause-row
returns-clause-row c = λ h ready. rw (c.replace.ensures)
    (replaced_observes h _ _ _ c.in-Some.ensures (λ (x : Value). boolean x.executable)
    (λ births names. c.boolean.ensures.value births names
    ∙ ap boolean (c.is_executable.ensures ∙ sym (attribute_of births names c.in-Some.word)))
    (λ names store within. plain_within (birth_at h) names store _ c.boolean.ensures.plain))

pub returns-clause-ready : goal.returns-clause-ready
returns-clause-ready c =
    λ h ready. rw (c.replace.ensures) (replaced_ready h _ _ _ c.in-Some.ensures ready
    (plain_value h _ c.boolean.ensures.plain))
