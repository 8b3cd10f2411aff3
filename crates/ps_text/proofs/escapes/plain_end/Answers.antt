-- A byte more that is shown as it is.
use Rattle.std.proofs.Common.{◌++◌, ◌∷◌, [], ◌∙◌, ap, sym, arith, get_or}
use Rattle.std.specs.Prelude.{slice_range}
use Rattle.std.specs.List.{flat_map}
use Rattle.std.proofs.lemmas.Grind.{flat_map-append}
use Rattle.ps_language.specs.Texts.{escaped}
use Rattle.ps_text.proofs.Rests.{slice_none, slice_next}
use Rattle.ps_text.proofs.escapes.plain_end.Goals as goal

pub loop-at-init : goal.loop-at-init
loop-at-init c = ap (flat_map escaped) (slice_none c.args.bytes.now c.args.first)
    ∙ sym (slice_none c.args.bytes.now c.args.first)

pub loop-at-preserved : goal.loop-at-preserved
loop-at-preserved c =
    let xs = c.args.bytes.now in
    let run = slice_range xs c.args.first c.loop-at.at in
    let b = get_or xs c.loop-at.at 0 in
    let more = slice_next xs c.args.first c.loop-at.at c.loop-at.auto.at (omega (arith, c.loop-at-test.true)) in
    let shown = c.is_plain.ensures c.if-not-is_plain.false in
    ap (flat_map escaped) more
    ∙ (flat_map-append escaped run (b ∷ [])
    ∙ ((λ k. c.loop-at.invariant k ++ (shown k ++ []))
    ∙ sym more))
