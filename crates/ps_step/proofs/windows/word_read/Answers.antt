-- A number or a name that ends before the bytes do that were read.
use Rattle.std.proofs.Common.{arith}
use Rattle.ps_step_tokens.proofs.ShortLaw.{scanned_is_short}
use Rattle.ps_step.proofs.Rereading.{scanned_again}
use Rattle.ps_step.proofs.windows.word_read.Goals as goal

pub returns-in-Some-clause-scanned : goal.returns-in-Some-clause-scanned
returns-in-Some-clause-scanned c = λ all within read.
    let part = c.args.part in
    let answer = rw (c.as_slice-list.ensures.value, c.in-Some.is) at c.next_word.ensures.answer in
    rw (c.moved_token.ensures.kind, c.moved_token.ensures.end)
    (scanned_again all part.offset part.length c.args.at c.args.window.now.start _ c.requires.within within
    c.args.window.now.bytes.items read (rw c.as_slice-list.ensures.value at c.in_ok-front.ensures.place).0 c.requires.fits _ _ answer
    (rw c.as_slice-list.ensures.value at c.if-next_word-list.true))

pub returns-in-Some-clause-token : goal.returns-in-Some-clause-token
returns-in-Some-clause-token c =
    let list = c.args.window.now.bytes.items in
    let answer = rw (c.as_slice-list.ensures.value, c.in-Some.is) at c.next_word.ensures.answer in
    let place = (rw c.as_slice-list.ensures.value at c.in_ok-front.ensures.place).0 in
    let before = rw c.as_slice-list.ensures.value at c.if-next_word-list.true in
    let end = c.moved_token.ensures.end in
    let within = c.requires.within in
    let fits = c.requires.fits in (
      omega (arith, end, before, place, within, fits),
      rw c.moved_token.ensures.kind (scanned_is_short list _ _ _ answer),
    )
