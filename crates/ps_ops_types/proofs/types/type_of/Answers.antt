-- The name of the type.
use Rattle.std.proofs.Common.{◌+◌, true, ap, ◌∙◌}
use Rattle.ps_word.specs.declared.values.Value.{Value}
use Rattle.ps_word.specs.declared.values.Content.TheVariants.{Name}
use Rattle.ps_ops_types.specs.Types.{type_place}
use Rattle.ps_ops_types.proofs.First.{name_held}
use Rattle.ps_ops_types.proofs.Typed.{type_observes}
use Rattle.ps_ops_types.proofs.Attributed.{replaced_ready}
use Rattle.ps_ops_types.proofs.types.type_of.Goals as goal

pub returns-clause-row : goal.returns-clause-row
returns-clause-row c = λ h ready.
    let is = c.pack.ensures.value ∙ ap {B = Value}
    (λ n. record { content = Name (16 + n); executable = true })
    (c.type_place.ensures.place ∙ ap type_place c.content.ensures) in
    rw (c.replace.ensures) (type_observes _ _ is h _ c.in-Some.ensures)

pub returns-clause-ready : goal.returns-clause-ready
returns-clause-ready c = λ h ready. rw (c.replace.ensures)
    (replaced_ready h _ _ _ c.in-Some.ensures ready
    (name_held c.pack.result _ true c.pack.ensures.value h c.pack.ensures.word))
