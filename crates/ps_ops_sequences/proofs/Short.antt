-- Names are short.
use Rattle.std.proofs.Common.{ℕ, ◌≤◌, arith, List, length, subst, inl, inr}
use Rattle.std.proofs.lemmas.List.Elements.{All-get_or}
use Rattle.std.proofs.lemmas.Option.{slice_get_cases}
use Rattle.ps_mem.specs.Meaning.{text_of_name}
use Rattle.ps_names.specs.Names.{AreNames}

pub name_short : (names : List (List ℕ)) (number : ℕ) → AreNames names
    → length (text_of_name names number) ≤ 127
name_short names number are = elim (slice_get_cases names number).1 [
  | inl (text, at, found, is) ↦ rw found (subst (λ t. length t ≤ 127) is
      (All-get_or (λ t. length t ≤ 127) names number text at are.short))
  | inr (past, none) ↦ rw none (omega arith)
]
