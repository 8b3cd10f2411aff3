-- The tokens are gone along.
use Rattle.std.proofs.Common.{◌∙◌, sym, ap, ◌∷◌, Some}
use Rattle.std.specs.Prelude.{slice_get}
use Rattle.ps_places.specs.Tokens.{token_begin}
use Rattle.ps_places.specs.Objects.{token_places}
use Rattle.ps_places.proofs.Seeking.{places_passed, places_stopped, get_more, none_of}
use Rattle.ps_places.proofs.objects.nth_token.Goals as goal

pub returns-then-left-eq0 : goal.returns-then-left-eq0
returns-then-left-eq0 c =
    let text = c.args.text.now in
    ap Some c.token_begin.ensures
    ∙ sym (ap (slice_get (token_begin text c.loop-token.place ∷ token_places text c.in-Some.token.end)) c.if-left-eq0.true)
    ∙ sym (ap (λ places. slice_get places c.loop-token.left)
    (places_passed text c.loop-token.place c.in-Some.token c.in-Some.ensures.answer))
    ∙ c.loop-token.invariant

pub loop-token-preserved : goal.loop-token-preserved
loop-token-preserved c =
    let text = c.args.text.now in
    sym (get_more (token_begin text c.loop-token.place) (token_places text c.in-Some.token.end) c.loop-token.left
    c.if-left-eq0.false)
    ∙ sym (ap (λ places. slice_get places c.loop-token.left)
    (places_passed text c.loop-token.place c.in-Some.token c.in-Some.ensures.answer))
    ∙ c.loop-token.invariant

pub returns : goal.returns
returns c =
    let text = c.args.text.now in
    let h = c.in_default in
    sym (ap (λ places. slice_get places c.loop-token.left)
    (places_stopped text c.loop-token.place (none_of c.passed_at.result c.in_default.not-Some ∙ c.passed_at.ensures.answer)))
    ∙ c.loop-token.invariant
