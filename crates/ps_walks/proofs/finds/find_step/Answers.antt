-- What is found behind a front of the schedule.
use Rattle.std.proofs.Common.{◌∙◌, ap, drop, subst}
use Rattle.std.proofs.lemmas.Result.{IfOk-weaker}
use Rattle.ps_language.specs.Schedules.{moves}
use Rattle.ps_language.specs.Worlds.{starting_world}
use Rattle.ps_states.specs.Sought.{sought_of}
use Rattle.ps_walks.specs.Finds.{IsFound}
use Rattle.ps_walks.specs.Walks.{world_behind}
use Rattle.ps_walks.proofs.finds.find_step.Goals as goal

pub returns : goal.returns
returns g c =
    let past = c.args.past in
    let start = starting_world c.args.run.program.now in
    let walked = c.in_ok-follow_front.ensures.walked start c.in_ok-walk.ensures.at in
    let behind = rw c.of.ensures at walked in
    let left = c.pass.ensures ∙ ap (drop past) (c.of-singles.ensures ∙ ap moves c.of-2.ensures) in
    IfOk-weaker c.seek.result _ _
    (λ found is. subst (λ steps. IsFound c.args.run.file.now (sought_of c.args.sought) past
    (world_behind c.args.run.program.now c.args.schedule.now past) steps found) left
    (is (world_behind c.args.run.program.now c.args.schedule.now past) behind))
    c.seek.ensures
