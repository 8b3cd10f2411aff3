-- What is left is as long as the text from there on.
use Rattle.std.proofs.Common.{◌≡◌, ◌∙◌, ap, sym, ◌≤◌, min, false, length, drop, arith}
use Rattle.std.proofs.lemmas.List.{drop_min, length-drop}
use Rattle.ps_language.specs.Scan.{behind_blank}
use Rattle.ps_places.specs.Tokens.{token_begin}
use Rattle.ps_places.proofs.tokens.token_begin.Goals as goal

pub returns : goal.returns
unfolding token_begin
returns c =
    let text = c.args.text.now in
    let here = c.blank_end.result in
    let left : drop here text ≡ behind_blank false (drop c.args.at text) =
    c.blank_end.ensures.rest ∙ ap (behind_blank false) (ap (λ n. drop n text) c.min.ensures ∙ drop_min c.args.at text) in
    let high : here ≤ length text = c.blank_end.ensures.high in
    omega (arith, sym (length-drop here text) ∙ ap length left)
