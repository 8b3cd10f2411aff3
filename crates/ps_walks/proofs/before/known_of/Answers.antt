use Rattle.std.proofs.Common.{length, sym}
use Rattle.ps_ctx_table.specs.Desks.{Desk, IsGoodMember}
use Rattle.ps_ctx_table.proofs.Turning.{member_at}
use Rattle.ps_walks.specs.Walks.{desk_in}
use Rattle.ps_walks.proofs.Knowing.{top_framed}
use Rattle.ps_walks.proofs.before.known_of.Goals as goal

pub returns-clause-held : goal.returns-clause-held
returns-clause-held g c =
    let d : Desk = desk_in g.M.Memory.heap g.M.Memory.grants c.args.runtime.now c.args.world.now in
    let good = (member_at (IsGoodMember d) d.members c.args.context c.in-Some.member.now
    c.requires.stands.steady.steady.members (sym c.in-Some.ensures.item)).good in
    let framed = top_framed d.heap (length d.program) _ good.frames in
    record {
      frame = rw c.peek.ensures framed;
      error = good.error_stands.stands;
    }
