-- The first full stop of a text: none stands before it.
use Rattle.std.proofs.Common.{rules, arith, sym, ◌≡◌, ◌∙◌, ◌≤◌, true, length, slice_index_or}
use Rattle.std.proofs.lemmas.List.Sums.{position_or_len_is}
use Rattle.ps_run_options.specs.Views.{is_stop}
use Rattle.ps_run_options.proofs.views.full_stop.Goals as goal

pub returns-then-text-place-eq46-clause-first : goal.returns-then-text-place-eq46-clause-first
returns-then-text-place-eq46-clause-first c =
    let text = c.args.text.now in
    let within : c.loop-place.place ≤ length text = search rules in
    let at : is_stop (slice_index_or text c.loop-place.place 0) ≡ true = search rules in
    sym (position_or_len_is is_stop text c.loop-place.place 0 within c.loop-place.invariant (λ _. at))

pub returns-clause-first : goal.returns-clause-first
returns-clause-first c =
    let text = c.args.text.now in
    let all : c.loop-place.place ≡ length text = search rules in
    let within : c.loop-place.place ≤ length text = omega (arith, all) in
    sym all ∙ sym (position_or_len_is is_stop text c.loop-place.place 0 within c.loop-place.invariant
    (λ below. absurd (omega (arith, below, all))))
