-- What the context of the world has there.
use Rattle.std.proofs.Common.{Some, sym, ap, subst, ◌∙◌}
use Rattle.ps_ctx_table.specs.Desks.{Desk, IsGoodMember, lent_to}
use Rattle.ps_ctx_table.proofs.Turning.{member_at}
use Rattle.ps_ctx.specs.Calls.{over_of}
use Rattle.ps_ops_state.specs.Lent.{IsShown}
use Rattle.ps_ctx_readers.specs.Values.{HasLowest, told, told_in}
use Rattle.ps_ctx_readers.proofs.There.{of_there, of_none, there}
use Rattle.ps_ctx_readers.proofs.contexts.word_at.Goals as goal

pub returns-in_default-clause-value : goal.returns-in_default-clause-value
returns-in_default-clause-value g c = λ w is lowest.
    of_none _ w is c.args.identifier (told_in c.args.place w.store) c.in_default.ensures.item

pub word_in-requires-clause-operands : goal.word_in-requires-clause-operands
word_in-requires-clause-operands g c =
    let d : Desk = over_of g.M.Memory.heap g.M.Memory.grants c.args.runtime.now
    c.args.contexts.now in
    (member_at (IsGoodMember d) d.members c.args.identifier c.in-Some.member.now
    c.requires.steady.members (sym c.in-Some.ensures.item)).good.operands

pub word_in-requires-clause-dictionaries : goal.word_in-requires-clause-dictionaries
word_in-requires-clause-dictionaries g c =
    let d : Desk = over_of g.M.Memory.heap g.M.Memory.grants c.args.runtime.now
    c.args.contexts.now in
    (member_at (IsGoodMember d) d.members c.args.identifier c.in-Some.member.now
    c.requires.steady.members (sym c.in-Some.ensures.item)).good.dictionaries

pub word_in-requires-clause-known : goal.word_in-requires-clause-known
word_in-requires-clause-known g c =
    let d : Desk = over_of g.M.Memory.heap g.M.Memory.grants c.args.runtime.now
    c.args.contexts.now in
    (member_at (IsGoodMember d) d.members c.args.identifier c.in-Some.member.now
    c.requires.steady.members (sym c.in-Some.ensures.item)).good.error_stands.stands

pub returns-in-Some-word_in-clause-within : goal.returns-in-Some-word_in-clause-within
returns-in-Some-word_in-clause-within g c = λ w is.
    let d : Desk = over_of g.M.Memory.heap g.M.Memory.grants c.args.runtime.now
    c.args.contexts.now in
    c.in-Some-word_in.ensures.within w.store is.shows
    (member_at (λ one. IsShown (lent_to d one.context) w.store) d.members c.args.identifier
    c.in-Some.member.now is.members (sym c.in-Some.ensures.item)).operands

pub returns-in-Some-word_in-clause-value : goal.returns-in-Some-word_in-clause-value
returns-in-Some-word_in-clause-value g c = λ w is lowest.
    let d : Desk = over_of g.M.Memory.heap g.M.Memory.grants c.args.runtime.now
    c.args.contexts.now in
    let here = there d w is c.args.identifier (Some c.in-Some.member.now) c.in-Some.ensures.item in
    ap told (c.in-Some-word_in.ensures.value w.store c.requires.steady.names
    c.requires.steady.first is.shows (subst HasLowest (sym here) lowest))
    ∙ of_there d w is c.args.identifier (told_in c.args.place w.store) c.in-Some.member.now
    c.in-Some.ensures.item

pub returns-in-None-clause-value : goal.returns-in-None-clause-value
returns-in-None-clause-value g c = λ w is lowest.
    let d : Desk = over_of g.M.Memory.heap g.M.Memory.grants c.args.runtime.now
    c.args.contexts.now in
    let here = there d w is c.args.identifier (Some c.in-Some.member.now) c.in-Some.ensures.item in
    ap told (c.in-None.ensures.value w.store c.requires.steady.names c.requires.steady.first
    is.shows (subst HasLowest (sym here) lowest))
    ∙ of_there d w is c.args.identifier (told_in c.args.place w.store) c.in-Some.member.now
    c.in-Some.ensures.item
