use Rattle.std.proofs.Common.{sym, ◌∙◌, subst}
use Rattle.ps_language.specs.Schedules.{moves_of}
use Rattle.ps_ctx_table.specs.Desks.{Desk, IsWorld}
use Rattle.ps_walks.specs.Walks.{desk_in, walked_all}
use Rattle.ps_walks.proofs.Following.{walked_end, walked_entry}
use Rattle.ps_walks.proofs.walks.Walk.follow_all.Goals as goal

pub loop-entry-preserved : goal.loop-entry-preserved
loop-entry-preserved g c = record {
  stands = c.in_ok-follow.ensures.stands;
  at = λ w is.
      let before = c.loop-entry.invariant.at w is in
      let entry = c.in-Some.entry in (
        walked_all before.0 (moves_of entry entry.steps),
        c.in_ok-follow.ensures.walked before.0 before.1,
        before.2 ∙ walked_entry before.0 entry c.loop-entry.left c.next.new.self c.in-Some.ensures,
      );
}

pub returns-clause-walked : goal.returns-clause-walked
returns-clause-walked g c = λ w is.
    let world = c.loop-entry.self.world in
    let d : Desk = desk_in g.M.Memory.heap g.M.Memory.grants c.loop-entry.self.runtime world in
    let before = c.loop-entry.invariant.at w is in
    subst (IsWorld d)
    (sym (before.2 ∙ walked_end before.0 c.loop-entry.left c.in_default.ensures.0)) before.1
