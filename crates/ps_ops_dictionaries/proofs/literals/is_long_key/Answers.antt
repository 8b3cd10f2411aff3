-- A string's key fits by its length, and every other.
use Rattle.std.proofs.Common.{[], ◌≡◌, ℕ, refl, arith, Bool, true, false, ◌∙◌}
use Rattle.std.specs.Prelude.{not, nat_le, nat_lt}
use Rattle.std.proofs.lemmas.Bool.Decides.{nat_tests}
use Rattle.ps_mem.specs.Heap.{birth_at}
use Rattle.ps_mem.specs.Meaning.{value_of}
use Rattle.ps_step_lookup.proofs.Keying.{plain_key, string_key}
use Rattle.ps_ops_dictionaries.proofs.literals.is_long_key.Goals as goal

past : (count : ℕ) → nat_le count 127 ≡ not (nat_lt 127 count)
past count = by (nat_lt 127 count) refl
  where
    by : (b : Bool) → nat_lt 127 count ≡ b → nat_le count 127 ≡ not b
    by true is = grind (arith, nat_tests, is)
    by false is = grind (arith, nat_tests, is)

pub returns-in-Some : goal.returns-in-Some
returns-in-Some c = λ h names.
    let key = string_key [] (value_of (birth_at h) names c.args.word) _
    (c.in-Some.ensures.part (birth_at h) names) in
    key.fits ∙ past c.in-Some.part.length

pub returns-in-None : goal.returns-in-None
returns-in-None c = λ h names.
    (plain_key [] (value_of (birth_at h) names c.args.word)
    (c.in-None.ensures.part (birth_at h) names)).fits
