-- Why a text was not read.
use Rattle.std.proofs.Common.{◌≡◌, ◌<◌, ◌++◌, ℕ, List, [], arith, length, append-nil, ap, subst, ◌∙◌}
use Rattle.std.specs.Prelude.{vec_capacity}
use Rattle.ps_language.specs.Texts.{plain_text}
use Rattle.ps_mem.specs.Heap.{birth_at}
use Rattle.ps_mem.specs.Meaning.{value_of}
use Rattle.ps_ops_values.proofs.texts.read_text.Goals as goal

-- the text behind nothing and before nothing
alone : (old text : List ℕ) → old ≡ [] → old ++ (text ++ []) ≡ text
alone old text none = ap (λ (before : List ℕ). before ++ (text ++ [])) none ∙ append-nil text

pub returns-then-plain_length-most-clause-reads : goal.returns-then-plain_length-most-clause-reads
returns-then-plain_length-most-clause-reads g c = λ s shows within.
    let size = c.plain_length.ensures (birth_at (g.M.Memory.heap c.args.memory.now)) s within in
    omega (arith, size, c.if-plain_length-most.true)

pub returns-in_default-clause-reads : goal.returns-in_default-clause-reads
returns-in_default-clause-reads g c = λ s shows within.
    let births = birth_at (g.M.Memory.heap c.args.memory.now) in
    let size = c.plain_length.ensures births s within in (
      omega (arith, size, c.if-plain_length-most.false),
      subst (λ (t : List ℕ). vec_capacity c.args.text.now < length t)
          (alone c.args.text.now.items
          (plain_text s (value_of births c.args.names.now c.args.word)) c.requires.empty)
          (c.in_default.ensures.full s shows within),
    )
