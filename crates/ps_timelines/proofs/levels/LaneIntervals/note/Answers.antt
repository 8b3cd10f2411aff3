-- A moment more in each series.
use Rattle.std.proofs.Common.{◌∙◌, ◌++◌, ◌∷◌, [], map}
use Rattle.std.proofs.lemmas.Result.{on_ok_weaker}
use Rattle.ps_timelines.specs.declared.series.Series.TheVariants.{Ready, Lock, Condition, Join, Steps, Owner, Print, Error}
use Rattle.ps_timelines.specs.Moments.{is_marked}
use Rattle.ps_timelines.proofs.Stretching.{moment_more, moments_count, of_series, shown}
use Rattle.ps_timelines.proofs.levels.LaneIntervals.note.Goals as goal

pub returns : goal.returns
returns c = λ moments count so.
    let moment = c.args.moment in
    let was = of_series c.args.self.now moments so in
    let ready_more = moment_more Ready moments moment c.is_marked.result c.mark.new.marked.items
    c.is_marked.ensures (c.in_ok-mark.ensures (map (is_marked Ready) moments)
    (moments_count Ready moments ∙ count) (was Ready)) in
    let lock_more = moment_more Lock moments moment c.is_marked-2.result c.mark-2.new.marked.items
    c.is_marked-2.ensures (c.in_ok-mark-2.ensures (map (is_marked Lock) moments)
    (moments_count Lock moments ∙ count) (was Lock)) in
    let condition_more = moment_more Condition moments moment c.is_marked-3.result c.mark-3.new.marked.items
    c.is_marked-3.ensures (c.in_ok-mark-3.ensures (map (is_marked Condition) moments)
    (moments_count Condition moments ∙ count) (was Condition)) in
    let join_more = moment_more Join moments moment c.is_marked-4.result c.mark-4.new.marked.items
    c.is_marked-4.ensures (c.in_ok-mark-4.ensures (map (is_marked Join) moments)
    (moments_count Join moments ∙ count) (was Join)) in
    let steps_more = moment_more Steps moments moment c.is_marked-5.result c.mark-5.new.marked.items
    c.is_marked-5.ensures (c.in_ok-mark-5.ensures (map (is_marked Steps) moments)
    (moments_count Steps moments ∙ count) (was Steps)) in
    let owner_more = moment_more Owner moments moment c.is_marked-6.result c.mark-6.new.marked.items
    c.is_marked-6.ensures (c.in_ok-mark-6.ensures (map (is_marked Owner) moments)
    (moments_count Owner moments ∙ count) (was Owner)) in
    let print_more = moment_more Print moments moment c.is_marked-7.result c.mark-7.new.marked.items
    c.is_marked-7.ensures (c.in_ok-mark-7.ensures (map (is_marked Print) moments)
    (moments_count Print moments ∙ count) (was Print)) in
    on_ok_weaker c.mark-8.result
    (λ error. shown _ (moments ++ moment ∷ []) ready_more lock_more condition_more join_more steps_more
    owner_more print_more
    (moment_more Error moments moment c.is_marked-8.result c.mark-8.new.marked.items
    c.is_marked-8.ensures error))
    (c.mark-8.ensures (map (is_marked Error) moments) (moments_count Error moments ∙ count) (was Error))
