-- Doing a token of a text, over what is lent (PLRM2, 3.2, 3.5).
use Rattle.std.specs.Prelude.{ℕ, List}
use Rattle.ps_language.specs.Dictionaries.{meet}
use Rattle.ps_language.specs.Effect.{Around, Scene}
use Rattle.ps_language.specs.Readers.{executable_name}
use Rattle.ps_language.specs.StepTokens.{look_in, token_done}
use Rattle.ps_language.specs.StepValues.{Turn, LookedUp, known}
use Rattle.ps_language.specs.Token.{Token, Tokens, executable_name_token, immediate_name_token}
use Rattle.ps_language.specs.Token.{procedure_token}
use Rattle.ps_language.specs.Value.{Store}
use Rattle.ps_ops_state.specs.Acts.{Asked}
use Rattle.ps_ops_state.specs.Lent.{Lent, scene_of, around_of}
use Rattle.ps_step_outcome.specs.Turns.{none_asked}
use Rattle.ps_step_execute.specs.Values.{Asks, done_asks}
use Rattle.ps_step_tokens.specs.Procedures.{list_asks, procedure_words}

-- a token is done
abbrev pub token_turn : Token → Lent → Store → Turn
token_turn token l s = token_done (around_of l) token (scene_of l s)

-- once a name is met
abbrev pub met : List ℕ → Scene → Scene
met text scene = record scene { names = meet scene.names text }

-- ---- what is asked for beside, in a scene and what surrounds it

-- by a procedure
abbrev pub making_asks : Tokens → Around → Scene → Asked
making_asks elements around scene =
    list_asks (procedure_words elements) (token_done around (procedure_token elements) scene)

module _ (asks : Asks) where
  -- where the value of a name is done
  abbrev pub replaced_asks : LookedUp → Around → Scene → Asked
  replaced_asks (known value) around scene = done_asks asks value around scene
  replaced_asks found around scene = none_asked

  -- by a token
  abbrev pub doing_asks : Token → Around → Scene → Asked
  doing_asks (executable_name_token text) around scene =
      done_asks asks (executable_name text) around (met text scene)
  doing_asks (immediate_name_token text) around scene =
      replaced_asks (look_in (met text scene) text) around (met text scene)
  doing_asks (procedure_token elements) around scene = making_asks elements around scene
  doing_asks token around scene = none_asked

  -- of what is lent
  abbrev pub token_asks : Token → Lent → Store → Asked
  token_asks token l s = doing_asks token (around_of l) (scene_of l s)

abbrev pub procedure_asks : Tokens → Lent → Store → Asked
procedure_asks elements l s = making_asks elements (around_of l) (scene_of l s)
