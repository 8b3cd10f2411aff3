use Rattle.std.proofs.Common.{sym, ap, ◌∙◌, ◌-◌, arith, subst, take}
use Rattle.ps_language.specs.Schedules.{moves, moves_of}
use Rattle.ps_language.specs.World.{World}
use Rattle.ps_ctx_table.specs.Desks.{Desk, IsWorld}
use Rattle.ps_walks.specs.Walks.{desk_in, walked_all}
use Rattle.ps_walks.proofs.Following.{entry_front, entry_whole, front_end}
use Rattle.ps_walks.proofs.walks.Walk.follow_front.Goals as goal

pub loop-entry-preserved : goal.loop-entry-preserved
loop-entry-preserved g c = record {
  stands = c.in_ok-follow-2.ensures.stands;
  at = λ w is.
      let before = c.loop-entry.invariant.at w is in
      let entry = c.in-Some.entry in
      let more = c.loop-entry.more in
      let behind : World = walked_all before.0 (moves_of entry entry.steps) in (
        behind,
        c.in_ok-follow-2.ensures.walked before.0 before.1,
        before.2
            ∙ entry_whole before.0 entry c.loop-entry.left c.next.new.self more
            c.in-Some.ensures (omega (arith, c.if-more-from.false, c.from.ensures))
            ∙ ap (λ n. walked_all behind (take (more - n) (moves c.next.new.self)))
            (sym c.from-more.ensures),
      );
}

pub returns-then-more-from-clause-walked : goal.returns-then-more-from-clause-walked
returns-then-more-from-clause-walked g c = λ w is.
    let new = c.follow.new.self in
    let d : Desk = desk_in g.M.Memory.heap g.M.Memory.grants new.runtime new.world in
    let before = c.loop-entry.invariant.at w is in
    subst (IsWorld d)
    (ap (walked_all before.0) c.front_of.ensures
    ∙ entry_front before.0 c.in-Some.entry c.loop-entry.left c.next.new.self c.loop-entry.more
    c.in-Some.ensures (omega (arith, c.if-more-from.true, c.from.ensures))
    ∙ sym before.2) (c.in_ok-follow.ensures.walked before.0 before.1)

pub returns-clause-walked : goal.returns-clause-walked
returns-clause-walked g c = λ w is.
    let world = c.loop-entry.self.world in
    let d : Desk = desk_in g.M.Memory.heap g.M.Memory.grants c.loop-entry.self.runtime world in
    let before = c.loop-entry.invariant.at w is in
    subst (IsWorld d)
    (sym (before.2 ∙ front_end before.0 c.loop-entry.left c.loop-entry.more c.in_default.ensures.0))
    before.1
