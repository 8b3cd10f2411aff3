-- A run is judged by the digits behind its sign, and what follows them.
use Rattle.std.proofs.Common.{◌∙◌, ap, sym, take}
use Rattle.ps_language.specs.Scan.{word_by}
use Rattle.ps_scan.specs.Numbers.{number_in}
use Rattle.ps_scan.proofs.NumberForms.{tail_is, word_split}
use Rattle.ps_scan.proofs.numbers.number_behind.Goals as goal

pub returns : goal.returns
returns c = c.number_by.ensures
    ∙ ap (λ t. number_in (word_by c.args.run.now (take c.digits_end-end.result c.behind_sign-digits.result.now) t))
    (tail_is c.behind_sign-digits.result.now c.digits_end-end.result)
    ∙ sym (ap number_in (word_split c.args.run.now c.behind_sign-digits.result.now c.digits_end-end.result
    c.behind_sign-digits.ensures c.digits_end-end.ensures.rest c.digits_end-end.ensures.high))
