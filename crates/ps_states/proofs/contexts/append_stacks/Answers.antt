use Rattle.std.proofs.lemmas.Result.{on_ok_weaker}
use Rattle.ps_views.proofs.Appended.{three}
use Rattle.ps_states.proofs.contexts.append_stacks.Goals as goal

pub append_frames-requires-clause-held : goal.append_frames-requires-clause-held
append_frames-requires-clause-held g c = rw (c.append_dictionaries.ensures.heap, c.append_operands.ensures.heap)
    (c.requires.held.size, c.requires.held.frames)

pub returns-clause-lines : goal.returns-clause-lines
returns-clause-lines g c = λ s shown.
    let second = c.in_ok-append_dictionaries.ensures.lines in
    let dictionaries = rw (c.append_operands.ensures.heap, c.append_operands.ensures.shared) at second in
    let third = c.append_frames.ensures.lines in
    let frames = rw (
      c.append_dictionaries.ensures.heap,
      c.append_operands.ensures.heap,
      c.append_dictionaries.ensures.shared,
      c.append_operands.ensures.shared,
    ) at third in
    on_ok_weaker c.append_frames.result
    (three c.args.to.now.items c.append_operands.new.to.items c.append_dictionaries.new.to.items
    c.append_frames.new.to.items _ _ _
    (c.in_ok-append_operands.ensures.lines s shown.shows shown.operands) (dictionaries s shown.shows))
    (frames s shown.shows shown.frames)
