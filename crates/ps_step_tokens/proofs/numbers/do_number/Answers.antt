-- A number is pushed.
use Rattle.std.proofs.Common.{◌≡◌, ℕ, List, refl, rules, w32}
use mir.Val.{SFits}
use Rattle.std.proofs.lemmas.Int.{to_z-of_z}
use Rattle.ps_language.specs.Readers.{integer}
use Rattle.ps_language.specs.Token.{number_token}
use Rattle.ps_mem.specs.Heap.{birth_at}
use Rattle.ps_mem.specs.Meaning.{value_of}
use Rattle.ps_ops_operands.proofs.Ready.{plain_value}
use Rattle.ps_ops_state.specs.Lent.{Lent, lent_of}
use Rattle.ps_step_outcome.specs.Turns.{nothing_more}
use Rattle.ps_step_execute.specs.Values.{pushed_turn}
use Rattle.ps_step_tokens.specs.Tokens.{token_turn}
use Rattle.ps_step_outcome.proofs.Composing.{turns_as}
use Rattle.ps_step_tokens.proofs.Doing.{lent_turns, number_pushed}
use Rattle.ps_step_tokens.proofs.Plain.{plain_lent}
use Rattle.ps_step_tokens.proofs.numbers.do_number.Goals as goal

pub push_value-requires-clause-word : goal.push_value-requires-clause-word
push_value-requires-clause-word g c = plain_value _ _ c.integer-word.ensures.plain

pub push_value-requires-clause-command : goal.push_value-requires-clause-command
push_value-requires-clause-command g c = plain_value _ _ c.integer-word.ensures.plain

pub returns : goal.returns
returns g c =
    let l : Lent = (lent_of g.M.Memory.heap g.M.Memory.grants c.args.context.now c.args.runtime.now) in
    let fits : SFits w32 c.args.number = search rules in
    let value : (births : ℕ → ℕ) (names : List (List ℕ))
    → value_of births names c.integer-word.result ≡ integer c.args.number =
    simp to_z-of_z at c.integer-word.ensures.value in
    turns_as nothing_more nothing_more
    (pushed_turn c.integer-word.result c.integer-word.result)
    (token_turn (number_token c.args.number)) c.args.attempt _ l _
    (λ s shown. number_pushed l c.integer-word.result c.args.number
    (value (birth_at l.heap) l.names) s)
    (λ s shown. refl)
    (lent_turns l c.integer-word.result (plain_lent l c.integer-word.result
    c.integer-word.ensures.plain) nothing_more
    (pushed_turn c.integer-word.result c.integer-word.result) c.args.attempt _ _
    c.push_value.ensures)
