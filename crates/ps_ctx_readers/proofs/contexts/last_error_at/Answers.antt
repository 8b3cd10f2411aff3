use Rattle.std.proofs.Common.{Option, sym, ◌∙◌}
use Rattle.std.specs.Prelude.{option_and_then}
use Rattle.ps_language.specs.Access.{dictionary_at}
use Rattle.ps_language.specs.Dictionaries.{find}
use Rattle.ps_language.specs.StepErrors.{errorname_key, command_key}
use Rattle.ps_language.specs.Value.{Store, Value}
use Rattle.ps_language.specs.World.{Context}
use Rattle.ps_ctx_table.specs.Desks.{Desk, IsGoodMember}
use Rattle.ps_ctx_table.proofs.Turning.{member_at}
use Rattle.ps_ctx.specs.Calls.{over_of}
use Rattle.ps_ctx_readers.proofs.There.{of_there, of_none}
use Rattle.ps_ctx_readers.proofs.contexts.last_error_at.Goals as goal

-- what stands under a key of the $error of one that may not be there
abbrev entry_in : Value → Store → Option Context → Option Value
entry_in key store there =
    option_and_then (λ one. find (dictionary_at store one.error_dictionary).pairs key) there

pub returns-in_default-clause-name : goal.returns-in_default-clause-name
returns-in_default-clause-name g c = λ w is.
    of_none _ w is c.args.identifier (entry_in errorname_key w.store) c.in_default.ensures.item

pub returns-in_default-clause-command : goal.returns-in_default-clause-command
returns-in_default-clause-command g c = λ w is.
    of_none _ w is c.args.identifier (entry_in command_key w.store) c.in_default.ensures.item

pub last_error-requires-clause-known : goal.last_error-requires-clause-known
last_error-requires-clause-known g c =
    let d : Desk = over_of g.M.Memory.heap g.M.Memory.grants c.args.runtime.now
    c.args.contexts.now in
    (member_at (IsGoodMember d) d.members c.args.identifier c.in-Some.member.now
    c.requires.steady.members (sym c.in-Some.ensures.item)).good.error_stands.stands

pub returns-clause-name : goal.returns-clause-name
returns-clause-name g c = λ w is.
    c.last_error.ensures.name _ w.store c.requires.steady.first c.requires.steady.names.different
    is.shows
    ∙ of_there _ w is c.args.identifier (entry_in errorname_key w.store) c.in-Some.member.now
    c.in-Some.ensures.item

pub returns-clause-command : goal.returns-clause-command
returns-clause-command g c = λ w is.
    c.last_error.ensures.command _ w.store c.requires.steady.first
    c.requires.steady.names.different is.shows
    ∙ of_there _ w is c.args.identifier (entry_in command_key w.store) c.in-Some.member.now
    c.in-Some.ensures.item

pub returns-clause-within : goal.returns-clause-within
returns-clause-within g c = λ w is.
    c.last_error.ensures.within_name c.args.runtime.now.shared.names w.store is.shows
