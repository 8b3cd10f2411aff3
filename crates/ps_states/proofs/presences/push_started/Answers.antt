use Rattle.std.proofs.Common.{◌≡◌, ◌∙◌, ◌++◌, ◌∷◌, [], List, ℕ, ap, length, arith}
use Rattle.std.specs.Prelude.{nat_lt, if◌then◌else◌}
use Rattle.std.proofs.lemmas.Result.{on_ok_weaker}
use Rattle.ps_timelines.specs.declared.arrows.Arrow.{Arrow}
use Rattle.ps_states.specs.Moments.{arrow_of, starts_in}
use Rattle.ps_states.proofs.presences.push_started.Goals as goal

pub returns : goal.returns
unfolding starts_in
returns c = λ after all.
    let outset = c.args.outset in
    let made : c.made-made.result ≡ length after.contexts = omega (arith, c.made-made.ensures.made, all) in
    let arrows : ℕ → Arrow → List Arrow = λ n arrow. if nat_lt outset.contexts n then arrow ∷ [] else [] in
    on_ok_weaker c.push_where.result (λ so. so ∙ ap (λ l. c.args.arrows.now.items ++ l)
    (ap (arrows c.made-made.result) (c.arrow_of.ensures ∙ ap (arrow_of c.args.step outset.context) made)
    ∙ ap (λ n. arrows n (arrow_of c.args.step outset.context (length after.contexts))) made))
    c.push_where.ensures
