-- The value is treated over the frames that are left, which are put back where it is not made.
use Rattle.std.proofs.Common.{Ok, Err}
use Rattle.ps_ops_state.specs.Lent.{Lent, IsGood, lent_of}
use Rattle.ps_step_outcome.specs.declared.turned.Turned.TheVariants.{Goes}
use Rattle.ps_step_outcome.proofs.Composing.{restacked_good}
use Rattle.ps_step_execute.proofs.Alone.{treated_done}
use Rattle.ps_step_frames.specs.Steps.{above, rest_frames, with_frames}
use Rattle.ps_step_frames.proofs.Taking.{rest_good, element_made, element_unmade}
use Rattle.std.proofs.Common.{refl}
use Rattle.ps_step_frames.proofs.elements.element_turn.Goals as goal

pub treat_apart-requires-clause-good : goal.treat_apart-requires-clause-good
treat_apart-requires-clause-good g c =
    let l : Lent = lent_of g.M.Memory.heap g.M.Memory.grants c.args.context.now c.args.runtime.now in
    rw (
      c.exec_quickly.ensures.operands c.if-exec_quickly.false,
      c.exec_quickly.ensures.frames c.if-exec_quickly.false,
      c.push_rest.ensures.frames,
    )
    (restacked_good (above c.args.rest l) l.operands (rest_frames c.args.rest l.frames)
    (rest_good (above c.args.rest l) c.args.rest l.frames refl c.requires.good) c.requires.good)

pub exec_quickly-requires : goal.exec_quickly-requires
exec_quickly-requires g c = record { word = c.requires.element.value_held.word }

pub returns-then-exec_quickly : goal.returns-then-exec_quickly
returns-then-exec_quickly g c =
    let l : Lent = lent_of g.M.Memory.heap g.M.Memory.grants c.args.context.now c.args.runtime.now in
    let left : Lent = with_frames (rest_frames c.args.rest l.frames) l in
    let good : IsGood left = restacked_good (above c.args.rest l) l.operands
    (rest_frames c.args.rest l.frames)
    (rest_good (above c.args.rest l) c.args.rest l.frames refl c.requires.good) c.requires.good in
    let is = c.requires.element in
    element_made (above c.args.rest l) c.args.rest l.frames refl c.args.element.word
    (λ s shown. is.reads l.names s shown.shows)
    c.requires.good (λ s shown. is.within l.names s shown.shows)
    g.O.Operate.asks c.args.attempt Goes _
    (treated_done g.O.Operate.asks l.heap l.dictionaries c.args.element.word c.args.element.value
    is.treats left c.args.attempt (Ok Goes) _ good
    (rw c.push_rest.ensures.frames at c.exec_quickly.ensures.treats c.if-exec_quickly.true
    g.O.Operate.asks c.args.element.word l c.args.attempt good))

pub returns-in-Ok : goal.returns-in-Ok
returns-in-Ok g c =
    let l : Lent = lent_of g.M.Memory.heap g.M.Memory.grants c.args.context.now c.args.runtime.now in
    let left : Lent = with_frames (rest_frames c.args.rest l.frames) l in
    let good : IsGood left = restacked_good (above c.args.rest l) l.operands
    (rest_frames c.args.rest l.frames)
    (rest_good (above c.args.rest l) c.args.rest l.frames refl c.requires.good) c.requires.good in
    let is = c.requires.element in
    element_made (above c.args.rest l) c.args.rest l.frames refl c.args.element.word
    (λ s shown. is.reads l.names s shown.shows)
    c.requires.good (λ s shown. is.within l.names s shown.shows)
    g.O.Operate.asks c.args.attempt c.in-Ok.turned _
    (treated_done g.O.Operate.asks l.heap l.dictionaries c.args.element.word c.args.element.value
    is.treats left c.args.attempt (Ok c.in-Ok.turned) _ good
    (rw (
      c.exec_quickly.ensures.operands c.if-exec_quickly.false,
      c.exec_quickly.ensures.frames c.if-exec_quickly.false,
      c.push_rest.ensures.frames,
      c.in-Ok.is,
    ) at c.treat_apart.ensures))

pub returns-in-Err : goal.returns-in-Err
returns-in-Err g c =
    let l : Lent = lent_of g.M.Memory.heap g.M.Memory.grants c.args.context.now c.args.runtime.now in
    let left : Lent = with_frames (rest_frames c.args.rest l.frames) l in
    let good : IsGood left = restacked_good (above c.args.rest l) l.operands
    (rest_frames c.args.rest l.frames)
    (rest_good (above c.args.rest l) c.args.rest l.frames refl c.requires.good) c.requires.good in
    let is = c.requires.element in
    let turns = rw (
      c.exec_quickly.ensures.operands c.if-exec_quickly.false,
      c.exec_quickly.ensures.frames c.if-exec_quickly.false,
      c.push_rest.ensures.frames,
      c.in-Err.is,
    ) at c.treat_apart.ensures in
    rw (c.put_back.ensures l.frames turns.framed)
    (element_unmade (above c.args.rest l) c.args.rest l.frames refl c.args.element.word
    (λ s shown. is.reads l.names s shown.shows) c.requires.good
    (λ s shown. is.within l.names s shown.shows) g.O.Operate.asks c.args.attempt c.in-Err.reason _
    (treated_done g.O.Operate.asks l.heap l.dictionaries c.args.element.word c.args.element.value
    is.treats left c.args.attempt (Err c.in-Err.reason) _ good turns))
