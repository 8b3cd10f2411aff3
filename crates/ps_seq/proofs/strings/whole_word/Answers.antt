use Rattle.std.proofs.Common.{ap, ◌∙◌, arith}
use Rattle.ps_mem.specs.Strings.{number_of_bytes}
use Rattle.std.proofs.lemmas.List.{take_all}
use Rattle.ps_seq.proofs.SpliceLemmas.{from_le_bytes-number}
use Rattle.ps_seq.proofs.strings.whole_word.Goals as goal

pub returns : goal.returns
returns c =
    let now = c.args.bytes.now in
    c.from_le_bytes.ensures
    ∙ (from_le_bytes-number c.copy_from_slice.new.self c.copy_from_slice.ensures.len
    ∙ ap number_of_bytes (c.copy_from_slice.ensures.after
    ∙ take_all 8 now (omega (arith, c.requires))))
