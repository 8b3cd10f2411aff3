-- An executable name is one; its word is within each store that is shown.
use Rattle.std.proofs.Common.{ap, ◌∙◌}
use Rattle.ps_word.specs.declared.values.Value.{Value as Packed}
use Rattle.ps_step_tokens.specs.Names.{is_executed}
use Rattle.ps_step_outcome.specs.Turns.{nothing_more}
use Rattle.ps_step_execute.specs.Values.{pushed_turn, executed_turn, executed_asks}
use Rattle.ps_step_execute.proofs.Executing.{named}
use Rattle.ps_step_tokens.proofs.Doing.{lent_turns}
use Rattle.ps_step_tokens.proofs.names.do_met.Goals as goal

pub execute_name-requires-clause-name : goal.execute_name-requires-clause-name
execute_name-requires-clause-name g c = λ births names.
    named c.args.word births names c.requires.name.0
    (ap (λ (packed : Packed). packed.executable) c.requires.name.1
    ∙ ap is_executed c.in-Executable.is)
    (ap (λ (packed : Packed). packed.content) c.requires.name.1)

pub returns-in-Literal : goal.returns-in-Literal
returns-in-Literal g c =
    rw c.in-Literal.is
    (lent_turns _ c.args.word c.requires.word nothing_more (pushed_turn c.args.word c.args.word)
    c.args.attempt _ _ c.push_value.ensures)

pub returns-in-Executable : goal.returns-in-Executable
returns-in-Executable g c =
    rw c.in-Executable.is
    (lent_turns _ c.args.word c.requires.word (executed_asks g.O.Operate.asks c.args.word)
    (executed_turn c.args.word c.args.word) c.args.attempt _ _ c.execute_name.ensures)
