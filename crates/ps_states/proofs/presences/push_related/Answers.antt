use Rattle.std.proofs.Common.{◌≡◌, ◌∙◌, ◌+◌, ◌++◌, ap, sym, length, arith}
use Rattle.std.specs.List.{flat_map, range_with_len}
use Rattle.std.proofs.lemmas.List.{append-nil}
use Rattle.std.proofs.lemmas.Option.{get_or_from_slice_get}
use Rattle.ps_states.specs.Moments.{arrow_to, arrows_in}
use Rattle.ps_states.proofs.Pointing.{arrow_is, arrows_more}
use Rattle.ps_states.proofs.presences.push_related.Goals as goal

pub loop-place-init : goal.loop-place-init
loop-place-init g c = λ now after are is. sym (append-nil c.args.arrows.now.items)

pub loop-place-preserved : goal.loop-place-preserved
loop-place-preserved g c = λ now after are is.
    let related = c.args.related in
    let place = c.loop-place.place in
    let old = c.args.arrows.now.items in
    let one = arrow_is related.tie related.step related.context (place + 1) now after
    c.is_wanted-is_pushed.result _ c.presence_at-after.result c.arrow_of.result
    c.is_wanted-is_pushed.ensures
    (get_or_from_slice_get c.args.seen.now place _ _ (are.each place c.loop-place-test.true))
    (c.presence_at-after.ensures after is) c.arrow_of.ensures in
    arrows_more (arrow_to related.tie related.step related.context now after) place old
    c.loop-place.arrows.items c.push_where.new.arrows.items (c.loop-place.invariant now after are is)
    (c.in_ok-push_where.ensures ∙ ap (λ l. c.loop-place.arrows.items ++ l) one)

pub returns : goal.returns
unfolding arrows_in
returns g c = λ now after are is.
    let related = c.args.related in
    let all : c.loop-place.place ≡ length now.contexts =
    omega (arith, c.loop-place-test.false, are.count) in
    c.loop-place.invariant now after are is
    ∙ ap (λ n. c.args.arrows.now.items ++ flat_map
    (arrow_to related.tie related.step related.context now after) (range_with_len 1 n)) all
