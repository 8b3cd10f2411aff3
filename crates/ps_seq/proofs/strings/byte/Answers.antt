use Rattle.std.proofs.Common.{◌+◌, ◌/◌, ◌%◌, arith, refl, ap, sym, ◌∙◌, Some, get_or}
use Rattle.ps_seq.proofs.TextLemmas.{text_reaches, text_at, loaded_byte}
use Rattle.ps_mem.specs.References.{words_for}
use Rattle.ps_seq.proofs.strings.byte.Goals as goal

pub load-word-requires : goal.load-word-requires
load-word-requires g c =
    let h = g.M.Memory.heap c.args.memory.now in
    let p = c.args.part in
    let reach = text_reaches h p.address (words_for (p.offset + p.length)) c.requires.known in
    let below = c.requires.index in
    record { place = omega (arith, reach, below) }

pub returns-clause-value : goal.returns-clause-value
returns-clause-value g c = λ names s shows within.
    let h = g.M.Memory.heap c.args.memory.now in
    let p = c.args.part in
    let below = c.requires.index in
    let at = p.offset + c.args.index in
    let text = text_at h p.address (words_for (p.offset + p.length)) c.requires.known names s shows
    in
    loaded_byte h p.address s text (at / 8) c.load-word.result c.load-word.ensures.answer at refl
    (omega (arith, within, below)) ∙ ap (λ bs. Some (get_or bs (at % 8) 0))
    (sym c.to_le_bytes.ensures)
