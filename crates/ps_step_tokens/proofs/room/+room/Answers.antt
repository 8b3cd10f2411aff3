use Rattle.std.proofs.Common.{◌∙◌, ap, List, ℕ, arith}
use Rattle.ps_step_tokens.specs.Procedures.{element_words, element_births}
use Rattle.ps_step_tokens.proofs.Elements.{tokens-next, tokens-end}
use Rattle.ps_step_tokens.proofs.RoomLemmas.{if_none, if_some, none_so, procedure-shown}
use Rattle.ps_step_tokens.proofs.room.+room.Goals as goal

pub element_room-returns-in-Procedure-clause-words : goal.element_room-returns-in-Procedure-clause-words
element_room-returns-in-Procedure-clause-words t c =
    if_some c.room_of.result (λ room h text. h text
    ∙ (procedure-shown c.args.element.now c.in-Procedure.inner c.deref.result.now c.in-Procedure.is
    c.deref.ensures.value text).0) c.room_of.ensures.words

pub element_room-returns-in-Procedure-clause-births : goal.element_room-returns-in-Procedure-clause-births
element_room-returns-in-Procedure-clause-births t c =
    if_some c.room_of.result (λ room h text. h text
    ∙ (procedure-shown c.args.element.now c.in-Procedure.inner c.deref.result.now c.in-Procedure.is
    c.deref.ensures.value text).1) c.room_of.ensures.births

pub element_room-returns-in-Procedure-clause-past : goal.element_room-returns-in-Procedure-clause-past
element_room-returns-in-Procedure-clause-past t c =
    none_so c.room_of.result
    (λ h text. omega (
      arith,
      h text,
      (procedure-shown c.args.element.now c.in-Procedure.inner c.deref.result.now c.in-Procedure.is
          c.deref.ensures.value text).0,
    )) c.room_of.ensures.past

pub room_of-returns-in_err-inner-clause-past : goal.room_of-returns-in_err-inner-clause-past
room_of-returns-in_err-inner-clause-past t c =
    let next = λ (text : List ℕ). ap element_words
    (tokens-next text c.args.elements.now c.loop-element.element-index c.element-item.result
    c.loop-element-test.true c.element-item.is) in
    if_none c.from_residual.result
    (λ text. omega (arith, next text, c.loop-element.invariant.words text, c.in_err-inner.ensures.past text))

pub room_of-returns-in_err-words-clause-past : goal.room_of-returns-in_err-words-clause-past
room_of-returns-in_err-words-clause-past t c =
    let next = λ (text : List ℕ). ap element_words
    (tokens-next text c.args.elements.now c.loop-element.element-index c.element-item.result
    c.loop-element-test.true c.element-item.is) in
    if_none c.from_residual-in_err-words.result
    (λ text. omega (arith, next text, c.loop-element.invariant.words text, c.in_err-words.ensures))

pub room_of-returns-in_err-words-2-clause-past : goal.room_of-returns-in_err-words-2-clause-past
room_of-returns-in_err-words-2-clause-past t c =
    let next = λ (text : List ℕ). ap element_words
    (tokens-next text c.args.elements.now c.loop-element.element-index c.element-item.result
    c.loop-element-test.true c.element-item.is) in
    if_none c.from_residual-in_err-words-2.result
    (λ text. omega (
      arith,
      next text,
      c.loop-element.invariant.words text,
      c.in_ok-inner.ensures.words text,
      c.in_ok-words.ensures,
      c.in_err-words-2.ensures,
    ))

pub room_of-loop-element-preserved : goal.room_of-loop-element-preserved
room_of-loop-element-preserved t c =
    let next = λ (text : List ℕ). tokens-next text c.args.elements.now c.loop-element.element-index
    c.element-item.result c.loop-element-test.true c.element-item.is in
    let v = c.loop-element.invariant in
    record {
      words =
          λ text. omega (
            arith,
            ap element_words (next text),
            v.words text,
            c.in_ok-inner.ensures.words text,
            c.in_ok-words.ensures,
            c.in_ok-words-2.ensures,
          );
      births = λ text. omega (arith, ap element_births (next text), v.births text, c.in_ok-inner.ensures.births text);
      fewer = omega (arith, v.fewer, c.in_ok-inner.ensures.fewer, c.in_ok-words.ensures, c.in_ok-words-2.ensures);
    }

pub room_of-returns-clause-words : goal.room_of-returns-clause-words
room_of-returns-clause-words t c =
    λ text. omega (
      arith,
      c.loop-element.invariant.words text,
      ap element_words (tokens-end text c.args.elements.now c.loop-element.element-index (omega arith)),
    )

pub room_of-returns-clause-births : goal.room_of-returns-clause-births
room_of-returns-clause-births t c =
    λ text. omega (
      arith,
      c.loop-element.invariant.births text,
      ap element_births (tokens-end text c.args.elements.now c.loop-element.element-index (omega arith)),
    )
