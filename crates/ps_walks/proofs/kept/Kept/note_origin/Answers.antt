use Rattle.std.proofs.Common.{sym}
use Rattle.ps_ctx_table.specs.Desks.{Desk, IsGoodMember}
use Rattle.ps_ctx_table.proofs.Turning.{member_at}
use Rattle.ps_walks.specs.Walks.{desk_in}
use Rattle.ps_walks.proofs.Noting.{top_stands}
use Rattle.ps_walks.proofs.kept.Kept.note_origin.Goals as goal

pub birth_of-last-requires : goal.birth_of-last-requires
birth_of-last-requires g c =
    let d : Desk = desk_in g.M.Memory.heap g.M.Memory.grants c.args.runtime.now c.args.world.now in
    let good = (member_at (IsGoodMember d) d.members c.args.before.context c.in-Some.member.now
    c.requires.stands.steady.steady.members (sym c.in-Some.ensures.item)).good in
    record {
      stands = top_stands d.heap _ _ c.in-Some-as_part.part good.operands c.in-Some-peek.ensures
          c.in-Some-as_part.ensures;
    }
