use Rattle.std.proofs.Common.{◌≡◌, drop}
use Rattle.std.specs.Prelude.{fold}
use Rattle.ps_language.specs.Dictionaries.{meet}
use Rattle.ps_language.specs.StepTokens.{names_in}
use Rattle.ps_step_tokens.specs.Procedures.{IsMore, tokens_in}
use Rattle.ps_names.specs.Names.{AreNames}
use Rattle.ps_step_tokens.specs.Short.{AreShort}
use Rattle.ps_step_tokens.proofs.forming.+forming.Given as goal

-- the names of those up to the index are met
abbrev pub invariant-form_names-loop-element : goal.invariant-form_names-loop-element
invariant-form_names-loop-element l = record {
  short : AreShort (tokens_in l.text (drop l.element-index l.elements));
  more : IsMore l.fn.names l.names;
  are : AreNames l.fn.names → AreNames l.names;
  formed : fold meet l.fn.names (names_in (tokens_in l.text l.elements))
      ≡ fold meet l.names (names_in (tokens_in l.text (drop l.element-index l.elements)));
}
