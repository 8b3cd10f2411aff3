-- What others see of a step, part by part.
use Rattle.std.proofs.Common.{◌≡◌, ℕ, zero, suc, ◌+◌, ◌-◌, ◌<◌, ◌≤◌, Bool, false, List, [], ◌∷◌, ◌++◌, Some, take, drop, length, get_or, refl, sym, ap, ◌∙◌, arith, append_assoc, inl, inr}
use Rattle.std.proofs.lemmas.List.{append-nil, length-drop, length-take}
use Rattle.std.proofs.lemmas.Bool.{cases_lt}
use Rattle.std.specs.Prelude.{◌==◌, not, min, map, reverse, Result, Ok, Err, OnOk, is_ok, codes, if◌then◌else◌}
use Rattle.std.specs.List.{flat_map, join_with_byte, list_any}
use Rattle.ps_language.specs.Texts.{escaped}
use Rattle.ps_language.specs.Value.{Store, Value}
use Rattle.ps_word.specs.declared.words.Word.{Word}
use Rattle.ps_ops_operands.proofs.Operands.{map-reverse}
use Rattle.ps_states.specs.Steps.{and_remark, operand_shown, lock_beside, printed_text, separated}
use Rattle.ps_states.proofs.Lines.{all_taken}

-- ---- locks

dropped : (locks : List ℕ) (k d : ℕ) → k < length locks
    → drop k locks ≡ get_or locks k d ∷ drop (k + 1) locks
dropped [] k d within = absurd (omega (arith, within))
dropped (lock ∷ locks) zero d within = refl
dropped (lock ∷ locks) (suc k) d within =
    let next : suc (k + 1) ≡ suc k + 1 = omega arith in
    dropped locks k d (omega (arith, within))
    ∙ ap (λ n. get_or locks k d ∷ drop n (lock ∷ locks)) next

-- the first of these isn't one of the others, or it is, and the others of these are looked at
pub beside_step : (locks others : List ℕ) (k d : ℕ) (is : Bool) → k < length locks
    → is ≡ list_any (λ other. other == get_or locks k d) others
    → lock_beside (drop k locks) others ≡ (if not is then Some (get_or locks k d)
    else lock_beside (drop (k + 1) locks) others)
beside_step locks others k d is within any =
    ap (λ l. lock_beside l others) (dropped locks k d within)
    ∙ ap (λ b. if not b then Some (get_or locks k d) else lock_beside (drop (k + 1) locks) others)
    (sym any)

-- ---- what was printed

-- of what isn't empty there is a remark
pub printed_told : (told printed : List ℕ) → (length printed == 0) ≡ false
    → and_remark told (printed_text printed)
    ≡ separated told ++ (codes "prints (" ++ (flat_map escaped printed ++ codes ")"))
printed_told told [] some = cc
printed_told told (byte ∷ printed) some = refl

-- a text that is cut behind more than it has isn't
pub uncut : (n : ℕ) (text whole : List ℕ) → text ≡ take n whole → length text < n → text ≡ whole
uncut n text whole is few =
    let count : length text ≡ min n (length whole) = ap length is ∙ length-take n whole in
    is ∙ all_taken whole n (omega (arith, count, few))

all_dropped : (bytes : List ℕ) (n : ℕ) → length bytes ≤ n → drop n bytes ≡ []
all_dropped [] zero few = refl
all_dropped [] (suc n) few = refl
all_dropped (byte ∷ bytes) zero few = absurd (omega (arith, few))
all_dropped (byte ∷ bytes) (suc n) few = all_dropped bytes n (omega (arith, few))

same_dropped : (bytes : List ℕ) (n : ℕ) → drop (min n (length bytes)) bytes ≡ drop n bytes
same_dropped bytes n = elim (cases_lt n (length bytes)) [
  | inl less ↦
      let same : min n (length bytes) ≡ n = omega (arith, less) in
      ap (λ m. drop m bytes) same
  | inr more ↦
      let same : min n (length bytes) ≡ length bytes = omega (arith, more) in
      let whole : length bytes ≤ length bytes = omega arith in
      ap (λ m. drop m bytes) same ∙ all_dropped bytes (length bytes) whole
      ∙ sym (all_dropped bytes n more)
]

-- all behind the first so many
pub rest_taken : (bytes : List ℕ) (n : ℕ)
    → take (length bytes - min n (length bytes)) (drop (min n (length bytes)) bytes) ≡ drop n bytes
rest_taken bytes n =
    let few : length (drop (min n (length bytes)) bytes) ≤ length bytes - min n (length bytes) =
    omega (arith, length-drop (min n (length bytes)) bytes) in
    all_taken (drop (min n (length bytes)) bytes) (length bytes - min n (length bytes)) few
    ∙ same_dropped bytes n

-- what is written where it could be
pub when_ok : {A E : Type 0} (made : Result A E) (text whole part : List ℕ)
    → text ≡ (if is_ok made then whole else part) → OnOk made (text ≡ whole)
when_ok (Ok value) text whole part is = is
when_ok (Err fault) text whole part is = tt

-- ---- operands

-- the first, and each other behind a space
pub joined : (first : List ℕ) (others : List (List ℕ))
    → join_with_byte 32 (first ∷ others) ≡ first ++ flat_map (λ next. 32 ∷ next) others
joined first [] = sym (append-nil first)
joined first (next ∷ others) = ap (λ rest. first ++ 32 ∷ rest) (joined next others)

flat_mapped : (g : Value → List ℕ) (values : List Value)
    → flat_map (λ next. 32 ∷ next) (map g values) ≡ flat_map (λ value. 32 ∷ g value) values
flat_mapped g [] = refl
flat_mapped g (value ∷ values) = ap (λ rest. 32 ∷ (g value ++ rest)) (flat_mapped g values)

mapped_first : (f : Word → Value) (n : ℕ) (words : List Word)
    → take n (map f words) ≡ map f (take n words)
mapped_first f zero words = refl
mapped_first f (suc n) [] = refl
mapped_first f (suc n) (word ∷ words) = ap (λ rest. f word ∷ rest) (mapped_first f n words)

same_first : (words : List Word) (n : ℕ) → take (min (length words) n) words ≡ take n words
same_first words n = elim (cases_lt (length words) n) [
  | inl less ↦
      let same : min (length words) n ≡ length words = omega (arith, less) in
      let whole : length words ≤ length words = omega arith in
      ap (λ m. take m words) same ∙ all_taken words (length words) whole
      ∙ sym (all_taken words n (omega (arith, less)))
  | inr more ↦
      let same : min (length words) n ≡ n = omega (arith, more) in
      ap (λ m. take m words) same
]

-- the topmost ones
pub topmost_told : (s : Store) (f : Word → Value) (words : List Word) (first : Word)
    (others : List Word) (m : ℕ) → m ≡ min (length words) 4
    → reverse (take m words) ≡ first ∷ others
    → join_with_byte 32 (map (operand_shown s) (reverse (take 4 (map f words))))
    ≡ operand_shown s (f first) ++ flat_map (λ value. 32 ∷ operand_shown s value) (map f others)
topmost_told s f words first others m count told =
    ap (λ values. join_with_byte 32 (map (operand_shown s) values))
    (ap reverse (mapped_first f 4 words) ∙ sym (map-reverse f (take 4 words))
    ∙ ap (λ ws. map f (reverse ws)) (sym (ap (λ k. take k words) count ∙ same_first words 4))
    ∙ ap (map f) told)
    ∙ joined (operand_shown s (f first)) (map (operand_shown s) (map f others))
    ∙ ap (λ rest. operand_shown s (f first) ++ rest) (flat_mapped (operand_shown s) (map f others))

-- one more, behind a space
pub behind_space : (before spaced new shown : List ℕ) → spaced ≡ before ++ 32 ∷ []
    → new ≡ spaced ++ shown → new ≡ before ++ 32 ∷ shown
behind_space before spaced new shown space more =
    more ∙ ap (λ t. t ++ shown) space ∙ append_assoc before (32 ∷ []) shown
