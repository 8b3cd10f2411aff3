-- A number or a name, or another token.
use Rattle.std.proofs.Common.{Some, Ok, Err, refl, ap, ◌∙◌}
use Rattle.ps_ops_state.specs.Lent.{Lent, lent_of}
use Rattle.ps_step.specs.Texts.{bytes_scanned}
use Rattle.ps_step.specs.Reading.{read_to}
use Rattle.ps_step.proofs.Reading.{read_taken, is_read}
use Rattle.ps_step.proofs.texts.read_token.Goals as goal

pub word_ahead-requires-clause-good : goal.word_ahead-requires-clause-good
word_ahead-requires-clause-good g c = (
  read_to c.args.cursor.now.source c.args.cursor.now.at
      (lent_of g.M.Memory.heap g.M.Memory.grants c.args.context.now c.args.runtime.now),
  c.requires.good,
)

pub treat_token-requires-clause-read : goal.treat_token-requires-clause-read
treat_token-requires-clause-read g c =
    let l : Lent = lent_of g.M.Memory.heap g.M.Memory.grants c.args.context.now c.args.runtime.now in
    let text = bytes_scanned c.args.cursor.now.source l.program c.args.window.now.bytes.items in
    let is = c.in-Err-Some.is ∙ ap Err c.in-Err-Some.field-0-is in
    let t = rw is at c.word_ahead.ensures.reads in
    rw (c.word_ahead.ensures.heap, c.word_ahead.ensures.grants, t.reads.0)
    (is_read g.O.Operate.asks c.args.cursor.now.source c.args.cursor.now.at l c.requires.good text
    (Ok (Some t.token)) (λ s shown. t.scanned l.names s shown.shows shown.frames.0) t.held
    c.word_ahead.new.operands (c.in-Err-Some.element, c.in-Err-Some.end) t.reads)

pub returns-in-Ok-clause-takes : goal.returns-in-Ok-clause-takes
returns-in-Ok-clause-takes g c =
    let l : Lent = lent_of g.M.Memory.heap g.M.Memory.grants c.args.context.now c.args.runtime.now in
    let text = bytes_scanned c.args.cursor.now.source l.program c.args.window.now.bytes.items in
    let t = rw c.in-Ok.is at c.word_ahead.ensures.reads in
    rw (c.word_ahead.ensures.heap, c.word_ahead.ensures.grants) (
      refl,
      read_taken g.O.Operate.asks c.args.cursor.now.source c.args.cursor.now.at l c.requires.good text
          (Ok (Some t.token)) (λ s shown. t.scanned l.names s shown.shows shown.frames.0) t.held
          c.args.attempt c.word_ahead.new.operands c.in-Ok.end t.reads,
    )
