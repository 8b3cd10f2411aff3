-- The turn is made, or is not.
use Rattle.ps_ctx.proofs.Turned.{lends_desk, turned_is_steady, turned_finishes, unmade_steps}
use Rattle.ps_ctx.proofs.worlds.World.own.Goals as goal

pub finish-requires-clause-steady : goal.finish-requires-clause-steady
finish-requires-clause-steady g c =
    turned_is_steady g.S.Interpret.asks c.args.unwinding _ _ c.args.identifier c.args.attempt
    c.args.shown c.requires.steady c.requires.course c.turn_of.result
    (lends_desk c.args.identifier _ _ _ _ _ _ _ c.turn_of.ensures)
    c.in-Ok.turned c.in-Ok.is

pub returns-in-Ok : goal.returns-in-Ok
returns-in-Ok g c =
    turned_finishes g.S.Interpret.asks c.args.unwinding _ _ c.args.identifier c.args.attempt
    c.args.shown c.requires.steady c.requires.course c.turn_of.result
    (lends_desk c.args.identifier _ _ _ _ _ _ _ c.turn_of.ensures)
    c.in-Ok.turned c.in-Ok.is c.finish.result _ c.finish.ensures

pub returns-in-Err : goal.returns-in-Err
returns-in-Err g c =
    rw c.requires.calling
    (unmade_steps g.S.Interpret.asks c.args.unwinding _ _ c.args.identifier c.args.attempt
    c.args.shown c.requires.steady c.requires.course c.turn_of.result
    (lends_desk c.args.identifier _ _ _ _ _ _ _ c.turn_of.ensures)
    g.met.S.Interpret.few c.in-Err.reason c.in-Err.is)
