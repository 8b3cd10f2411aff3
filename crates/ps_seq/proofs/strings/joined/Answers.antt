use Rattle.std.proofs.Common.{rules, arith, ◌≡◌, ◌+◌, ◌*◌, ◌/◌, ◌^◌, ◌<◌, ◌%◌, bit_or, ap, ◌∙◌, refl}
use Rattle.std.proofs.lemmas.Grind.{or_after_shift}
use Rattle.ps_seq.proofs.JoinLemmas.{joined_bytes}
use Rattle.ps_seq.proofs.strings.joined.Goals as goal

pub returns : goal.returns
returns c =
    let low = c.args.low.0 in
    let high = c.args.high.0 in
    let first = c.args.first in
    let small : low < 2 ^ 64 = search rules in
    let small' : high < 2 ^ 64 = search rules in
    let is : c.from.result ≡ high = search rules in
    let is' : c.from-2.result ≡ low = search rules in
    let both : bit_or (c.from.result * 2 ^ 64 % 2 ^ 128) c.from-2.result ≡ high * 2 ^ 64 + low =
    (λ i. bit_or (is i * 2 ^ 64 % 2 ^ 128) (is' i))
    ∙ or_after_shift high (2 ^ 64) (2 ^ 128) low refl small (omega (arith, small')) in
    joined_bytes low high first _ small c.requires (ap (λ n. n / 2 ^ (8 * first) % 2 ^ 64) both)
