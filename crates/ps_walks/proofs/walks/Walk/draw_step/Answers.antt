-- What is drawn of one step more.
use Rattle.std.proofs.Common.{◌≡◌, ◌∙◌, ◌+◌, ◌++◌, ◌∷◌, [], length, subst, sym, ap, arith}
use Rattle.ps_language.specs.Schedules.{Move}
use Rattle.ps_language.specs.World.{World}
use Rattle.ps_run_schedules.specs.Turns.{move_of}
use Rattle.ps_states.specs.declared.presences.Tie.TheVariants.{Joins, Notifies}
use Rattle.ps_states.specs.Moments.{ArePresences, arrows_in, end_of, moment_of, outset_of, starts_in}
use Rattle.ps_states.proofs.Each.{made_all}
use Rattle.ps_walks.specs.Timelines.{end_in, labels_by, labels_of, moment_in, moments_of}
use Rattle.ps_walks.specs.Timelines.{related_at, related_of, starts_at, starts_of}
use Rattle.ps_walks.specs.Walks.{walked, walked_all}
use Rattle.ps_walks.proofs.Drawing.{blank, each_more, ever_more, lanes_grown, lanes_same, moments_count, untold}
use Rattle.ps_walks.proofs.Following.{walked_more}
use Rattle.ps_walks.proofs.Walking.{world_same}
use Rattle.ps_walks.proofs.walks.Walk.draw_step.Goals as goal

pub returns-clause-drawn : goal.returns-clause-drawn
returns-clause-drawn g c = λ start done count is drawn.
    let at : World = walked_all start done in
    let single = c.args.single in
    let step = c.args.step in
    let move : Move = move_of single.context single.refused single.shown in
    let w : World = walked at move in
    let made = c.try_step.new.self in
    let old = c.args.drawing.now in
    let behind = c.in_ok-is_made.ensures.walked at is in
    let later = world_same g.M.Memory.heap g.M.Memory.grants made.world made.runtime
    c.end_of-end.new.runtime c.end_of-end.ensures.heap c.end_of-end.ensures.grants
    c.end_of-end.ensures.shared w behind in
    let outset = c.outset_of-outset.ensures at is in
    let end : c.end_of-end.result ≡ end_in at move =
    c.end_of-end.ensures.end w behind
    ∙ ap (λ o. end_of c.in_ok-is_made.is_made o w) outset
    ∙ ap (λ b. end_of b (outset_of at single.context) w) (sym (c.in_ok-is_made.ensures.ready at is)) in
    let mover = ap (λ o. o.context) outset in
    let each = c.in_ok-grow_lanes.ensures.each in
    let grown = rw c.draw_arrows.ensures.lanes at each in
    let f = moments_of start done in
    let a = labels_of start done in
    let size = ap (λ v. length v.items) c.draw_arrows.ensures.lanes in
    let lanes = lanes_grown f a (length done) old.lanes.items c.grow_lanes.new.lanes.items
    (λ place late. blank place start done (omega (arith, late, drawn.count)))
    (λ place late. untold place start done (omega (arith, late, drawn.count))) grown drawn.lanes in
    let noted = c.in_ok-note_lanes.ensures.noted w f a later
    (λ context. moments_count start done step context count) lanes in
    let all = made_all (g.M.Memory.heap made.runtime.memory) made.runtime.shared.names
    made.world.contexts.table w behind.contexts in
    record {
      count = omega (
        arith,
        c.in_ok-note_lanes.ensures.count,
        c.in_ok-grow_lanes.ensures.count,
        size,
        drawn.count,
        c.made.ensures.made,
        all,
        ever_more start done move,
      );
      lanes = lanes_same _ (moments_of start (done ++ move ∷ [])) _
          (labels_of start (done ++ move ∷ [])) c.note_lanes.new.lanes.items
          (λ context. ap (λ e. f context ++ moment_of e w context ∷ []) end
          ∙ sym (each_more (λ past now m. moment_in now m context ∷ []) start done move step count))
          (λ context. ap (λ e. a context ++ labels_by (moment_of e w context) step w context) end
          ∙ sym (each_more (λ past now m. labels_by (moment_in now m context) past (walked now m) context)
          start done move step count)) noted;
      seen = subst (ArePresences c.draw_arrows.new.drawing.seen.items) (sym (walked_more start done move))
          (c.in_ok-draw_arrows.ensures.seen w later);
      forks = c.in_ok-draw_arrows.ensures.forks w later
          ∙ ap (λ l. l ++ starts_in (step + 1) c.outset_of-outset.result w) drawn.forks
          ∙ ap (λ o. starts_of start done ++ starts_in (step + 1) o w) outset
          ∙ sym (each_more starts_at start done move step count);
      joins = c.in_ok-draw_arrows.ensures.joins at w drawn.seen later
          ∙ ap (λ l. l ++ arrows_in Joins (step + 1) c.outset_of-outset.result.context at w) drawn.joins
          ∙ ap (λ n. related_of Joins start done ++ arrows_in Joins (step + 1) n at w) mover
          ∙ sym (each_more (related_at Joins) start done move step count);
      notifies = c.in_ok-draw_arrows.ensures.notifies at w drawn.seen later
          ∙ ap (λ l. l ++ arrows_in Notifies (step + 1) c.outset_of-outset.result.context at w)
          drawn.notifies
          ∙ ap (λ n. related_of Notifies start done ++ arrows_in Notifies (step + 1) n at w) mover
          ∙ sym (each_more (related_at Notifies) start done move step count);
    }
