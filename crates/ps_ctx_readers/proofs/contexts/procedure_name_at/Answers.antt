use Rattle.std.proofs.Common.{ℕ, Option, None, sym, ◌∙◌}
use Rattle.std.specs.Option.{option_map_or}
use Rattle.ps_language.specs.Value.{Store, Value}
use Rattle.ps_language.specs.World.{Context}
use Rattle.ps_ctx_table.specs.Desks.{Desk, IsGoodMember}
use Rattle.ps_ctx_table.proofs.Turning.{member_at}
use Rattle.ps_ctx.specs.Calls.{over_of}
use Rattle.ps_ctx_readers.specs.Names.{name_through}
use Rattle.ps_ctx_readers.proofs.There.{of_there, of_none}
use Rattle.ps_ctx_readers.proofs.contexts.procedure_name_at.Goals as goal

-- the name that one has who may not be there
abbrev name_of : (birth : ℕ) → Store → Option Context → Option Value
name_of birth store there =
    option_map_or (λ one. name_through store birth one.dictionaries) there None

pub returns-in_default-clause-name : goal.returns-in_default-clause-name
returns-in_default-clause-name g c = λ w is.
    of_none _ w is c.args.identifier (name_of c.args.birth w.store) c.in_default.ensures.item

pub procedure_name-requires-clause-held : goal.procedure_name-requires-clause-held
procedure_name-requires-clause-held g c =
    let d : Desk = over_of g.M.Memory.heap g.M.Memory.grants c.args.runtime.now
    c.args.contexts.now in
    (member_at (IsGoodMember d) d.members c.args.identifier c.in-Some.member.now
    c.requires.steady.members (sym c.in-Some.ensures.item)).good.dictionaries

pub returns-clause-name : goal.returns-clause-name
returns-clause-name g c = λ w is.
    c.procedure_name.ensures.name _ w.store is.shows
    ∙ of_there _ w is c.args.identifier (name_of c.args.birth w.store) c.in-Some.member.now
    c.in-Some.ensures.item
