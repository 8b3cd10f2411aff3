-- Not met, and behind the last one.
use Rattle.std.proofs.Common.{◌≡◌, Bool, true, false, not, ◌&&◌, refl, sym, ap, ◌∙◌, bytes_eq}
use Rattle.std.specs.Prelude.{option_map}
use Rattle.std.specs.List.{list_any}
use Rattle.ps_scan.specs.Shown.{part_of}
use Rattle.ps_step_tokens.specs.Fitting.{is_before, is_behind}
use Rattle.ps_step_tokens.proofs.Naming.{is_met}
use Rattle.ps_step_tokens.proofs.fitting.is_new.Goals as goal

pub returns-then-is_some : goal.returns-then-is_some
returns-then-is_some c =
    let names = c.args.names.now in
    let text = part_of c.args.text.now c.args.name in
    let met : list_any (bytes_eq text) names ≡ true =
    is_met _ c.find.result names text (rw c.of-name.ensures at c.find.ensures.place)
    ∙ (sym c.is_some.ensures ∙ c.if-is_some.true) in
    ap (λ (met : Bool).
    not met && is_behind (option_map (part_of c.args.text.now) c.args.last) text)
    (sym met)

pub returns-in-Some : goal.returns-in-Some
returns-in-Some c =
    let names = c.args.names.now in
    let text = part_of c.args.text.now c.args.name in
    let met : list_any (bytes_eq text) names ≡ false =
    is_met _ c.find.result names text (rw c.of-name.ensures at c.find.ensures.place)
    ∙ (sym c.is_some.ensures ∙ c.if-is_some.false) in
    rw (met, c.in-Some.is)
    (c.is_before.ensures ∙ (λ i. is_before (c.of.ensures i) (c.of-name.ensures i)))

pub returns-in-None : goal.returns-in-None
returns-in-None c =
    let names = c.args.names.now in
    let text = part_of c.args.text.now c.args.name in
    let met : list_any (bytes_eq text) names ≡ false =
    is_met _ c.find.result names text (rw c.of-name.ensures at c.find.ensures.place)
    ∙ (sym c.is_some.ensures ∙ c.if-is_some.false) in
    rw (met, c.in-None.is) refl
