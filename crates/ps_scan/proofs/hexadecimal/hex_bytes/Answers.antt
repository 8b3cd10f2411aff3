-- Each digit is a high half or a low one.
use Rattle.std.proofs.Common.{rules, ◌≡◌, ◌∙◌, sym, ap, ◌+◌, ◌++◌, take, drop, filter, true, arith}
use Rattle.std.proofs.lemmas.Bool.{lt-ltb}
use Rattle.ps_language.specs.Bytes.{is_hex}
use Rattle.ps_language.proofs.Places.{byte_at}
use Rattle.ps_scan.proofs.Pairs.{pairs_behind}
use Rattle.ps_scan.proofs.HexForms.{high_half, last_half, no_last}
use Rattle.ps_scan.proofs.hexadecimal.hex_bytes.Goals as goal
use Rattle.ps_scan.proofs.hexadecimal.hex_bytes.Goals.{in-Some-high+in_ok-put_byte, in_default}

pub loop-here-preserved-in-None : goal.loop-here-preserved-in-None
loop-here-preserved-in-None c =
    let xs = c.args.inner.now in
    let here = c.loop-here.here in
    let so_far = take c.loop-here.count c.loop-here.string.items in
    let digit : is_hex (byte_at xs here) ≡ true =
    lt-ltb _ 16 (omega (arith, c.hex_value-digit.ensures, c.if-digit-lt16.true)) in
    record {
      within = search rules;
      room = search rules;
      small = search rules;
      whole = high_half so_far xs here c.hex_value-digit.result c.loop-here-test.true
          (omega (arith, c.hex_value-digit.ensures, c.if-digit-lt16.true)) digit
          ∙ ap (λ h. so_far ++ pairs_behind h (filter is_hex (drop here xs))) (sym c.in-None.is)
          ∙ c.loop-here.invariant.whole;
    }

pub returns : goal.returns
returns c =
    let xs = c.args.inner.now in
    let here = c.loop-here.here in
    let so_far = take c.loop-here.count c.loop-here.string.items in
    c.truncate.ensures.items ∙ elim c.match-high-2.branch [
      | in-Some-high+in_ok-put_byte w ↦
          let put = w.put_byte-in-Some-high.new.string.items in
          ap (λ n. take n c.match-high-2.string.items) w.count-is
          ∙ ap (λ v. take (c.loop-here.count + 1) v.items) w.string-is
          ∙ last_half so_far (take (c.loop-here.count + 1) put) xs here w.in-Some-high.value
          c.loop-here-test.false w.in_ok-put_byte.ensures.items
          ∙ ap (λ h. so_far ++ pairs_behind h (filter is_hex (drop here xs)))
          (sym w.in-Some-high.is)
          ∙ c.loop-here.invariant.whole
      | in_default w ↦ ap (λ n. take n c.match-high-2.string.items) w.count-is
          ∙ ap (λ v. take c.loop-here.count v.items) w.string-is
          ∙ no_last so_far xs here c.loop-here-test.false
          ∙ ap (λ h. so_far ++ pairs_behind h (filter is_hex (drop here xs))) (sym w.in_default.is)
          ∙ c.loop-here.invariant.whole
    ]
