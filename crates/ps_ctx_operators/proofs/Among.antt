-- The locks and conditions that an operator told are operands, and stand: whatever the memory
-- stood when they were read.
use Rattle.std.proofs.Common.{◌≡◌, ℕ, List, [], ◌∷◌, Option, Some, None, sym, ap, subst, ◌∙◌}
use Rattle.std.specs.Prelude.{option_map, option_and_then, map, IfSome}
use Rattle.ps_language.specs.declared.kinds.Kind.{Kind}
use Rattle.ps_language.specs.declared.kinds.Kind.TheVariants.{Lock as LockKind, Condition as ConditionKind}
use Rattle.ps_word.specs.declared.words.Word.{Word}
use Rattle.ps_word.specs.Format.{content_in}
use Rattle.ps_word.specs.Readers as words
use Rattle.ps_mem.specs.Heap.{Heap}
use Rattle.ps_mem.specs.Meaning.{value_of}
use Rattle.ps_mem.specs.References.{StandsAs}
use Rattle.ps_mem.specs.Shows.{AreValues}
use Rattle.ps_ctx_operators.specs.Rows.{notified_condition, waited}
use Rattle.ps_ctx_operators.proofs.Reading.{as_lock-value, as_lock-stands, as_condition-value, as_condition-stands}

-- an object that was found stands
stands_by : (h : Heap) (kind : Kind) (found : Option ℕ) (address : ℕ)
    → option_map (λ (n : ℕ). n) found ≡ Some address
    → IfSome found (λ n. StandsAs h kind n 1) → StandsAs h kind address 1
stands_by h kind None address is held = absurd (cc)
stands_by h kind (Some n) address is held =
    let same : n ≡ address = cc in
    subst (λ n. StandsAs h kind n 1) same held

-- the condition that is notified
pub condition_among : (h : Heap) (held : List Word) (condition : ℕ) → AreValues h held
    → ((births : ℕ → ℕ) (names : List (List ℕ))
    → notified_condition (map (value_of births names) held) ≡ Some (births condition))
    → StandsAs h ConditionKind condition 1
condition_among h [] condition values is = let bad = is (λ n. n) [] in absurd (cc)
condition_among h (word ∷ held) condition values is =
    stands_by h ConditionKind (words.as_condition (content_in word.0)) condition
    (sym (as_condition-value (λ n. n) [] word) ∙ is (λ n. n) [])
    (as_condition-stands h word values.0)

-- both were found
both_by : (c l : Option ℕ) (lock condition : ℕ)
    → option_and_then {U = ℕ × ℕ} (λ c. option_map (λ (l : ℕ). (l, c)) l) c
    ≡ Some (lock, condition)
    → (l ≡ Some lock) × (c ≡ Some condition)
both_by None l lock condition is = absurd (cc)
both_by (Some c) None lock condition is = absurd (cc)
both_by (Some c) (Some l) lock condition is = (
  ap (option_map λ (both : ℕ × ℕ). both.0) is,
  ap (option_map λ (both : ℕ × ℕ). both.1) is,
)

-- the lock that is freed, and the condition that is waited for
pub waited_among : (h : Heap) (held : List Word) (lock condition : ℕ) → AreValues h held
    → ((births : ℕ → ℕ) (names : List (List ℕ)) → waited (map (value_of births names) held)
    ≡ Some (births lock, births condition))
    → StandsAs h LockKind lock 1 × StandsAs h ConditionKind condition 1
waited_among h [] lock condition values is = let bad = is (λ n. n) [] in absurd (cc)
waited_among h (c ∷ []) lock condition values is = let bad = is (λ n. n) [] in absurd (cc)
waited_among h (c ∷ l ∷ rest) lock condition values is =
    let both = both_by _ _ lock condition (is (λ n. n) []) in (
      stands_by h LockKind (words.as_lock (content_in l.0)) lock
          (sym (as_lock-value (λ n. n) [] l) ∙ both.0) (as_lock-stands h l values.1.0),
      stands_by h ConditionKind (words.as_condition (content_in c.0)) condition
          (sym (as_condition-value (λ n. n) [] c) ∙ both.1)
          (as_condition-stands h c values.0),
    )
