use Rattle.std.proofs.Common.{◌≡◌, ◌+◌, ◌-◌, length, ap, sym, ◌∙◌, arith}
use Rattle.std.specs.Int.{w64, to_le_bytes, from_le_bytes}
use borrow.Rule.Slice.PartMut.{put_mid}
use Rattle.ps_language.specs.Access.{splice}
use Rattle.ps_mem.proofs.Lists.{length-splice}
use Rattle.ps_mem.specs.Strings.{number_of_bytes}
use Rattle.ps_seq.proofs.MadeLemmas.{splice_all}
use Rattle.ps_seq.proofs.SpliceLemmas.{put_mid-splice, from_le_bytes-number}
use Rattle.ps_seq.proofs.strings.with_bytes.Goals as goal

pub returns : goal.returns
returns c =
    let first = c.args.first in
    let now = c.args.bytes.now in
    let count : (first + length now) - first ≡ length now = omega arith in
    let changed : put_mid first ((first + length now) - first) c.to_le_bytes-all.result
    c.copy_from_slice.new.self ≡ splice (to_le_bytes w64 c.args.word.0) first now =
    put_mid-splice first ((first + length now) - first) c.to_le_bytes-all.result
    c.copy_from_slice.new.self now c.copy_from_slice.ensures.after count
    ∙ ap (λ xs. splice xs first now) c.to_le_bytes-all.ensures in
    c.from_le_bytes.ensures
    ∙ (ap (from_le_bytes w64) changed
    ∙ from_le_bytes-number (splice (to_le_bytes w64 c.args.word.0) first now) (length-splice
    (to_le_bytes w64 c.args.word.0) first now c.requires))

pub returns-then-bytes : goal.returns-then-bytes
returns-then-bytes c =
    let eight = c.if-bytes.true in
    let fits = c.requires in
    let front : c.args.first ≡ 0 = omega (arith, eight, fits) in
    let now = c.args.bytes.now in
    c.whole_word.ensures
    ∙ sym (ap number_of_bytes (ap (λ r. splice (to_le_bytes w64 c.args.word.0) r now) front
    ∙ splice_all (to_le_bytes w64 c.args.word.0) now (sym eight)))
