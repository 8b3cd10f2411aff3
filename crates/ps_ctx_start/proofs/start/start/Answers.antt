use Rattle.ps_ctx_start.proofs.Starting.{starts}
use Rattle.ps_ctx_start.proofs.start.start.Goals as goal

pub returns-clause-starts : goal.returns-clause-starts
returns-clause-starts g c =
    let empty = c.in-Ok-first_shared.ensures.scratch in
    starts c.args.program.now _ c.make_dictionaries-made.result
    c.make_dictionaries-made.ensures.first c.first_context.ensures.operands
    c.first_context.ensures.dictionaries c.first_context.ensures.frames
    c.first_context.ensures.error c.in-Ok-first_shared.ensures.program
    c.in-Ok-first_shared.ensures.names c.in-Ok-first_shared.ensures.printed (record {
      text = empty.text;
      sought = empty.sought;
      words = c.make_dictionaries-made.ensures.scratch;
    })
