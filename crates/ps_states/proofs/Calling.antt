-- Calls that are tried again, by their operands.
use Rattle.std.proofs.Common.{◌≡◌, ◌<◌, arith, true, false, ℕ, zero, suc, List, [], ◌∷◌, Some, None, refl, ap}
use Rattle.std.proofs.lemmas.Bool.Decides.{nat_tests}
use Rattle.std.specs.Prelude.{unwrap_or}
use Rattle.ps_language.specs.Owners.{as_lock, is_owner}
use Rattle.ps_language.specs.Readers.{as_integer}
use Rattle.ps_language.specs.Value.{Store}
use Rattle.ps_word.specs.declared.words.Word.{Word}
use Rattle.ps_mem.specs.Heap.{Heap, birth_at}
use Rattle.ps_mem.specs.Meaning.{value_of}
use Rattle.ps_ops_operands.specs.Changes.{values_in}
use Rattle.ps_stacks.specs.Tops.{first_of, first_two_of}
use Rattle.ps_ctx_operators.specs.Singles.{owner_by}
use Rattle.ps_states.specs.Statuses.{lock_below, lock_line, tried_line}

-- no context is 0
pub owner_plain : (n : ℕ) → n ≡ unwrap_or (owner_by n) 0
owner_plain zero = refl
owner_plain (suc n) = refl

-- who has a lock, and who hasn't
pub owner_other : (n identifier : ℕ) → (n ≡ identifier → ⊥) → is_owner identifier (owner_by n) ≡ false
owner_other zero identifier other = refl
owner_other (suc n) identifier other = grind (arith, nat_tests)

pub owner_same : (n identifier : ℕ) → n ≡ identifier → 0 < identifier
    → is_owner identifier (owner_by n) ≡ true
owner_same zero identifier same some = absurd (omega (arith, same, some))
owner_same (suc n) identifier same some = grind (arith, nat_tests)

module _ (h : Heap) (names : List (List ℕ)) where
  -- the lock is the second operand
  pub second_is : (words : List Word) (pair : Word × Word) → Some pair ≡ first_two_of words
      → as_lock (value_of (birth_at h) names pair.1) ≡ lock_below (values_in h names words)
  second_is [] pair is = cc
  second_is (x ∷ []) pair is = cc
  second_is (x ∷ y ∷ rest) pair is =
      let both : Word × Word = (x, y) in
      let same : pair ≡ both = cc in
      ap (λ (p : Word × Word). as_lock (value_of (birth_at h) names p.1)) same

  -- no integer is on top
  pub tried_is_lock : (store : Store) (words : List Word) (top : Word) → Some top ≡ first_of words
      → as_integer (value_of (birth_at h) names top) ≡ None
      → lock_line store (lock_below (values_in h names words))
      ≡ tried_line store (values_in h names words)
  tried_is_lock store [] top is none = cc
  tried_is_lock store (x ∷ rest) top is none = cc
