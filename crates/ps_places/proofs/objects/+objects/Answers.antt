-- What a token makes, by its class, and what the tokens make that stand one behind another.
use Rattle.std.proofs.Common.{◌≡◌, ◌∙◌, sym, ap, subst, refl, ◌+◌, ◌-◌, ◌∷◌, [], ◌++◌, List, length, arith, append-nil}
use Rattle.std.proofs.Common.{append_assoc}
use Rattle.std.specs.List.{flat_map}
use Rattle.ps_scan.specs.declared.passes.TokenClass.TheVariants.{Number, Name, Text, Procedure}
use Rattle.ps_places.specs.Objects.{IsSought, token_places, objects_at, objects_within}
use Rattle.ps_places.proofs.Seeking.{no_objects, objects_none, objects_class, behind_none, places_passed}
use Rattle.ps_places.proofs.Seeking.{places_stopped, within_more, within_found, none_of, front_more, within_all}
use Rattle.ps_places.proofs.objects.+objects.Goals as goal

pub seek_at-returns-then-room-eq0 : goal.seek_at-returns-then-room-eq0
seek_at-returns-then-room-eq0 t c =
    behind_none _ c.args.number (no_objects c.args.text.now c.args.begin c.args.room c.if-room-eq0.true)

pub seek_at-returns-in-None : goal.seek_at-returns-in-None
seek_at-returns-in-None t c =
    behind_none _ c.args.number
    (objects_none c.args.text.now c.args.begin c.args.room c.if-room-eq0.false c.in-None.ensures.answer)

pub seek_at-returns-in-Number : goal.seek_at-returns-in-Number
seek_at-returns-in-Number t c =
    behind_none _ c.args.number
    (objects_class c.args.text.now c.args.begin c.args.room c.in-Some.token (Number c.in-Number.field-0)
    c.if-room-eq0.false c.in-Some.ensures.answer c.in-Number.is)

pub seek_at-returns-in-Name : goal.seek_at-returns-in-Name
seek_at-returns-in-Name t c =
    behind_none _ c.args.number
    (objects_class c.args.text.now c.args.begin c.args.room c.in-Some.token Name c.if-room-eq0.false
    c.in-Some.ensures.answer c.in-Name.is)

pub seek_at-returns-in-Text : goal.seek_at-returns-in-Text
seek_at-returns-in-Text t c =
    subst (λ objects. IsSought objects c.args.number c.or_own.result)
    (sym (objects_class c.args.text.now c.args.begin c.args.room c.in-Some.token Text c.if-room-eq0.false
    c.in-Some.ensures.answer c.in-Text.is))
    (c.or_own.ensures [] c.args.number (omega arith))

pub seek_at-returns-in-Procedure : goal.seek_at-returns-in-Procedure
seek_at-returns-in-Procedure t c =
    subst (λ objects. IsSought objects c.args.number c.or_own-in-Procedure.result)
    (sym (objects_class c.args.text.now c.args.begin c.args.room c.in-Some.token Procedure c.if-room-eq0.false
    c.in-Some.ensures.answer c.in-Procedure.is))
    (c.or_own-in-Procedure.ensures (objects_within (c.args.room - 1) c.args.text.now (c.args.begin + 1)) c.args.number
    c.seek_within.ensures)

pub seek_within-returns-in-Begins : goal.seek_within-returns-in-Begins
seek_within-returns-in-Begins t c =
    let text = c.args.text.now in
    let front = c.loop-token.invariant.0 in
    within_found (objects_at c.args.room text) (token_places text c.args.at) front
    (token_places text c.in-Some.token.end) c.token_begin.result c.args.number c.loop-token.left c.in-Begins.begin
    (c.loop-token.invariant.1 ∙ ap (λ places. front ++ places)
    (places_passed text c.loop-token.place c.in-Some.token c.in-Some.ensures.answer
    ∙ ap (λ here. here ∷ token_places text c.in-Some.token.end) (sym c.token_begin.ensures)))
    c.loop-token.invariant.2 c.in-Begins.ensures

pub seek_within-loop-token-preserved : goal.seek_within-loop-token-preserved
seek_within-loop-token-preserved t c =
    let text = c.args.text.now in
    let front = c.loop-token.invariant.0 in
    let here = c.token_begin.result in (
      front ++ here ∷ [],
      c.loop-token.invariant.1 ∙ ap (λ places. front ++ places)
          (places_passed text c.loop-token.place c.in-Some.token c.in-Some.ensures.answer
          ∙ ap (λ b. b ∷ token_places text c.in-Some.token.end) (sym c.token_begin.ensures))
          ∙ front_more front here (token_places text c.in-Some.token.end),
      within_more (objects_at c.args.room text) front here c.args.number c.loop-token.left c.in-Behind.further
          c.loop-token.invariant.2 c.in-Behind.ensures,
    )

pub seek_within-returns : goal.seek_within-returns
seek_within-returns t c =
    let text = c.args.text.now in
    within_all (objects_at c.args.room text) (token_places text c.args.at) c.loop-token.invariant.0
    (token_places text c.loop-token.place) c.args.number c.loop-token.left c.loop-token.invariant.1
    (places_stopped text c.loop-token.place (none_of c.passed_at.result c.in_default.not-Some ∙ c.passed_at.ensures.answer))
    c.loop-token.invariant.2
