use Rattle.std.proofs.Common.{◌≡◌, ◌<◌, ◌∙◌, ◌++◌, length, sym, ap, arith, append_assoc}
use Rattle.std.specs.Prelude.{codes}
use Rattle.std.specs.List.{flat_map}
use Rattle.std.proofs.lemmas.Result.{on_ok_weaker}
use Rattle.ps_language.specs.Texts.{escaped}
use Rattle.ps_states.specs.Steps.{separated}
use Rattle.ps_states.proofs.Beside.{printed_told, uncut, when_ok}
use Rattle.ps_states.proofs.remarks.and_printed.Goals as goal

pub returns : goal.returns
returns c =
    let old = c.args.to.now.items in
    let printed = c.args.printed.now in
    let shown = flat_map escaped printed in
    let few : length c.append_escapes.new.output.items < 18446744073709551615 =
    omega (
      arith,
      c.append_escapes.new.output.ok.0,
      c.append_escapes.new.output.ok.1,
      c.append_escapes.new.output.small,
    ) in
    let whole = uncut 18446744073709551615 c.append_escapes.new.output.items
    (c.extend_from_slice.new.self.items ++ shown) c.in_ok-append_escapes.ensures.ok few in
    let begun : c.extend_from_slice.new.self.items ≡ separated old ++ codes "prints (" =
    c.in_ok-extend_from_slice.ensures.items
    ∙ ap (λ t. t ++ codes "prints (") c.in_ok-separate.ensures in
    let told = printed_told old printed (sym c.is_empty.ensures ∙ c.if-is_empty.false) in
    let line : (c.append_escapes.new.output.items ++ codes ")")
    ≡ separated old ++ (codes "prints (" ++ (shown ++ codes ")")) =
    ap (λ t. t ++ codes ")") (whole ∙ ap (λ t. t ++ shown) begun)
    ∙ append_assoc (separated old ++ codes "prints (") shown (codes ")")
    ∙ append_assoc (separated old) (codes "prints (") (shown ++ codes ")") in
    on_ok_weaker c.extend_from_slice-2.result (λ so. so ∙ line ∙ sym told)
    (when_ok c.extend_from_slice-2.result _ _ _ c.extend_from_slice-2.ensures.items)
