use Rattle.std.proofs.Common.{◌≡◌, ◌-◌, List, ℕ, length, take, drop, Some, None, sym, subst, arith, length-drop}
use Rattle.std.proofs.lemmas.List.{take_all}
use Rattle.memchr.specs.Find.{FindsNeedle}
use Rattle.ps_ops_sequences.proofs.Windows.{none_behind, some_behind}
use Rattle.ps_ops_sequences.proofs.string_searches.find_behind.Goals as goal

rest_is : (text : List ℕ) (from : ℕ) → take (length text - from) (drop from text) ≡ drop from text
rest_is text from = take_all (length text - from) (drop from text) (omega
    (arith, length-drop from text))

pub returns-in_err-place : goal.returns-in_err-place
returns-in_err-place c =
    let text = c.args.text.now in
    let from = c.args.from in
    let needle = c.args.sought.now in
    subst (λ r. FindsNeedle text needle from r) (sym c.from_residual.ensures)
    (none_behind text needle from c.requires (subst
    (λ (h : List ℕ). FindsNeedle h needle 0 None) (rest_is text from) c.in_err-place.ensures))

pub returns : goal.returns
returns c =
    let text = c.args.text.now in
    let from = c.args.from in
    let needle = c.args.sought.now in
    some_behind text needle from c.requires c.in_ok-place.place (subst
    (λ (h : List ℕ). FindsNeedle h needle 0 (Some c.in_ok-place.place)) (rest_is text from)
    c.in_ok-place.ensures)
