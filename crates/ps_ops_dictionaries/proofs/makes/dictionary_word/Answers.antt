-- By its content.
use Rattle.std.proofs.Common.{ap}
use Rattle.ps_word.specs.declared.values.Value.{Value as Packed}
use Rattle.ps_word.specs.declared.values.Content.TheVariants.{Dictionary}
use Rattle.ps_word.specs.Format.{is_body}
use Rattle.ps_mem.specs.References.{IsKnown}
use Rattle.ps_mem.specs.Shows.{IsWithin}
use Rattle.ps_ops_operands.proofs.Makers.{value_of-is}
use Rattle.ps_ops_dictionaries.proofs.makes.dictionary_word.Goals as goal

pub returns-clause-value : goal.returns-clause-value
returns-clause-value c = λ births names.
    value_of-is births names c.literal.result (Dictionary c.args.address) _ c.literal.ensures.value

pub returns-clause-held : goal.returns-clause-held
unfolding IsKnown
returns-clause-held c = λ h stands.
    let content = ap (λ (packed : Packed). packed.content) c.literal.ensures.value in
    record {
      word = c.literal.ensures.word;
      known = rw content stands;
      visible = ap is_body content;
    }

pub returns-clause-within : goal.returns-clause-within
unfolding IsWithin
returns-clause-within c = λ births names store.
    rw (ap (λ (packed : Packed). packed.content) c.literal.ensures.value) tt
