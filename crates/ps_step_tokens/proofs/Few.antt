-- What a token asks for is few records where what each operator asks for is.
use Rattle.std.proofs.Common.{ℕ}
use Rattle.ps_language.specs.Readers.{executable_name}
use Rattle.ps_language.specs.StepTokens.{look_in, token_done}
use Rattle.ps_language.specs.StepValues.{Turn, tries, known}
use Rattle.ps_language.specs.Token.{executable_name_token, immediate_name_token, procedure_token}
use Rattle.ps_ops_state.specs.Acts.{IsFew, AreFew}
use Rattle.ps_step_execute.specs.Values.{Asks}
use Rattle.ps_step_execute.proofs.Few.{none_few, done_few}
use Rattle.ps_step_tokens.specs.Procedures.{list_asks, procedure_words}
use Rattle.ps_step_tokens.specs.Tokens.{met, replaced_asks, doing_asks}

list_few : (words : ℕ) (turn : Turn) → IsFew (list_asks words turn)
list_few words (tries command kept scene output) = none_few
list_few words turn = none_few

module _ (asks : Asks) (few : AreFew asks) where
  replaced_few : AreFew (replaced_asks asks)
  replaced_few (known value) around scene = done_few asks few value around scene
  replaced_few found around scene = none_few

  pub doing_few : AreFew (doing_asks asks)
  doing_few (executable_name_token text) around scene =
      done_few asks few (executable_name text) around (met text scene)
  doing_few (immediate_name_token text) around scene =
      replaced_few (look_in (met text scene) text) around (met text scene)
  doing_few (procedure_token elements) around scene =
      list_few (procedure_words elements) (token_done around (procedure_token elements) scene)
  doing_few token around scene = none_few
