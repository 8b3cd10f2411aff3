use Rattle.std.proofs.Common.{◌<◌, ◌++◌, [], ◌∷◌, true, false, length, arith, ap, ◌∙◌, ◌+◌}
use Rattle.std.proofs.lemmas.Bool.Decides.{nat_tests}
use Rattle.std.specs.Prelude.{slice_index_or}
use Rattle.ps_language.specs.declared.operators.Operator.TheVariants.{Pop}
use Rattle.ps_language.specs.Operators.{every_operator, operator_count}
use Rattle.ps_word.specs.declared.values.Content.TheVariants.{Name, Operator}
use Rattle.ps_ctx_start.specs.Words.{word_of}
use Rattle.ps_ctx_start.proofs.Pushing.{pushed-long, pushed-next}
use Rattle.ps_ctx_start.proofs.words.push_operators.Goals as goal

pub push_pair-requires-clause-room : goal.push_pair-requires-clause-room
push_pair-requires-clause-room c =
    let i = c.loop-number.number in
    let below : i < operator_count = grind (arith, nat_tests, c.loop-number-test.true) in
    let same = ap length c.loop-number.invariant.0 in
    let long = pushed-long i (omega (arith, below)) in
    let kept = c.loop-number.invariant.1 in
    let room = c.requires.room in
    omega (arith, same, long, kept, room, below)

pub loop-number-preserved : goal.loop-number-preserved
loop-number-preserved c =
    let i = c.loop-number.number in
    let below : i < operator_count = grind (arith, nat_tests, c.loop-number-test.true) in (
      c.push_pair.ensures.words
          ∙ (ap (λ w. c.loop-number.words.items ++ word_of (Name (35 + i)) false ∷ w ∷ [])
          (c.word_of-operator.ensures ∙ ap (λ o. word_of (Operator o) true) c.operator_of.ensures)
          ∙ (ap (λ ws. ws ++ word_of (Name (35 + i)) false
          ∷ word_of (Operator (slice_index_or every_operator i Pop)) true ∷ [])
          c.loop-number.invariant.0 ∙ pushed-next i below)),
      c.push_pair.ensures.capacity ∙ c.loop-number.invariant.1,
    )
