use Rattle.std.proofs.Common.{Option}
use Rattle.std.specs.Prelude.{option_map}
use Rattle.ps_language.specs.World.{Context, Status}
use Rattle.ps_ctx_readers.proofs.There.{of_there, of_none}
use Rattle.ps_ctx_readers.proofs.contexts.course_at.Goals as goal

-- how far one is that may not be there
abbrev status_in : Option Context → Option Status
status_in there = option_map (λ one. one.status) there

pub returns-in_default : goal.returns-in_default
returns-in_default g c = λ w is.
    of_none _ w is c.args.identifier status_in c.in_default.ensures.item

pub returns : goal.returns
returns g c = λ w is.
    of_there _ w is c.args.identifier status_in c.in-Some.member.now c.in-Some.ensures.item
