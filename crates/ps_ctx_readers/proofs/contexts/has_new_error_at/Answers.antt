use Rattle.std.proofs.Common.{Bool, false, Option, sym, ◌∙◌}
use Rattle.std.specs.Option.{option_map_or}
use Rattle.ps_language.specs.Access.{dictionary_at}
use Rattle.ps_language.specs.StepErrors.{has_new_error}
use Rattle.ps_language.specs.Value.{Store}
use Rattle.ps_language.specs.World.{Context}
use Rattle.ps_ctx_table.specs.Desks.{Desk, IsGoodMember}
use Rattle.ps_ctx_table.proofs.Turning.{member_at}
use Rattle.ps_ctx.specs.Calls.{over_of}
use Rattle.ps_ctx_readers.proofs.There.{of_there, of_none}
use Rattle.ps_ctx_readers.proofs.contexts.has_new_error_at.Goals as goal

-- whether the error is new of one that may not be there
abbrev new_in : Store → Option Context → Bool
new_in store there =
    option_map_or (λ one. has_new_error (dictionary_at store one.error_dictionary)) there false

pub returns-in_default-clause-new : goal.returns-in_default-clause-new
returns-in_default-clause-new g c = λ w is.
    of_none _ w is c.args.identifier (new_in w.store) c.in_default.ensures.item

pub has_new_error-requires-clause-known : goal.has_new_error-requires-clause-known
has_new_error-requires-clause-known g c =
    let d : Desk = over_of g.M.Memory.heap g.M.Memory.grants c.args.runtime.now
    c.args.contexts.now in
    (member_at (IsGoodMember d) d.members c.args.identifier c.in-Some.member.now
    c.requires.steady.members (sym c.in-Some.ensures.item)).good.error_stands.stands

pub returns-clause-new : goal.returns-clause-new
returns-clause-new g c = λ w is.
    c.has_new_error.ensures.value _ w.store c.requires.steady.first c.requires.steady.names.different
    is.shows
    ∙ of_there _ w is c.args.identifier (new_in w.store) c.in-Some.member.now
    c.in-Some.ensures.item
