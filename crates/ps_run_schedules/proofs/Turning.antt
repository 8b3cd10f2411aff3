-- Many steps at once are so many single ones.
use Rattle.std.proofs.Common.{◌≡◌, ◌⊎◌, inl, inr, ℕ, ℤ, zero, suc, ◌+◌, ◌-◌, ◌<◌, ◌≤◌, true, false, Option, Some, None, List, [], ◌∷◌, ◌++◌, length, refl, sym, ◌∙◌, ap, arith, append_assoc, length-append}
use Rattle.std.specs.Prelude.{Bool, is_none, slice_get, if◌then◌else◌}
use Rattle.std.specs.Option.{option_map_or}
use Rattle.std.proofs.lemmas.Bool.Decides.{nat_tests}
use Rattle.ps_language.specs.declared.schedules.Entry.{Entry}
use Rattle.ps_language.specs.Schedules.{Move, plain_move, added, joins, steps_limit}
use Rattle.ps_language.proofs.ScheduleLaws.{added-last}
use Rattle.ps_run_schedules.specs.Turns.{added_times, plain_entry, joins_last, last_entry, free_steps}

none_shown : (shown : Option (ℤ × ℤ)) → is_none shown ≡ true → shown ≡ None
none_shown None h = refl
none_shown (Some pair) h = cc

-- as long as it isn't full, one more joins it
grows : (before : List Entry) (context steps more : ℕ) → steps < steps_limit → more ≡ steps + 1
    → added (before ++ plain_entry context steps ∷ []) (plain_move context) ≡ before
    ++ plain_entry context more ∷ []
grows before context steps more h is =
    let test : joins (plain_entry context steps) context ≡ true = grind (arith, nat_tests) in
    added-last before (plain_entry context steps) (plain_move context) ∙ rw (test, is) refl

-- many more join it
pub times_join : (before : List Entry) (context steps n : ℕ) → steps + n ≤ steps_limit
    → added_times n (before ++ plain_entry context steps ∷ []) (plain_move context) ≡ before
    ++ plain_entry context (steps + n) ∷ []
unfolding added_times
times_join before context steps zero h =
    ap (λ k. before ++ plain_entry context k ∷ []) (omega arith)
times_join before context steps (suc n) h =
    ap (λ (entries : List Entry). added entries (plain_move context))
    (times_join before context steps n (omega (arith, h)))
    ∙ grows before context (steps + n) (steps + suc n) (omega (arith, h)) (omega arith)

-- many more, of which the first is an entry of its own
pub times_apart : (old before : List Entry) (entry : Entry) (context n : ℕ) → old ≡ before ++ entry
    ∷ [] → joins entry context ≡ false → 1 ≤ n → n ≤ steps_limit
    → (before ++ entry ∷ []) ++ plain_entry context n ∷ [] ≡ added_times n old (plain_move context)
unfolding added_times
times_apart old before entry context zero is test some h = absurd (omega arith)
times_apart old before entry context (suc zero) is test some h =
    rw (is, added-last before entry (plain_move context), test, append_assoc) refl
times_apart old before entry context (suc (suc n)) is test some h =
    sym (ap (λ (entries : List Entry). added entries (plain_move context))
    (sym (times_apart old before entry context (suc n) is test (omega arith)
    (omega (arith, h))))
    ∙ grows (before ++ entry ∷ []) context (suc n) (suc (suc n)) (omega (arith, h)) (omega arith))

-- and where there was none
pub times_alone : (old : List Entry) (context n : ℕ) → old ≡ [] → 1 ≤ n → n ≤ steps_limit
    → plain_entry context n ∷ [] ≡ added_times n old (plain_move context)
unfolding added_times
times_alone old context zero is some h = absurd (omega arith)
times_alone old context (suc zero) is some h = rw is refl
times_alone old context (suc (suc n)) is some h =
    sym (ap (λ (entries : List Entry). added entries (plain_move context))
    (sym (times_alone old context (suc n) is (omega arith) (omega (arith, h))))
    ∙ grows [] context (suc n) (suc (suc n)) (omega (arith, h)) (omega arith))

-- so many and then so many
pub times_sum : (m n : ℕ) (schedule : List Entry) (move : Move)
    → added_times (m + n) schedule move ≡ added_times n (added_times m schedule move) move
unfolding added_times
times_sum m zero schedule move =
    let same : m + zero ≡ m = omega arith in
    ap (λ k. added_times k schedule move) same
times_sum m (suc n) schedule move =
    let same : m + suc n ≡ suc (m + n) = omega arith in
    ap (λ k. added_times k schedule move) same
    ∙ ap (λ (entries : List Entry). added entries move) (times_sum m n schedule move)

-- the last entry as it is where a step joins it
joining : (entry : Entry) (context : ℕ) → joins entry context ≡ true
    → entry ≡ plain_entry context entry.steps
joining entry context h =
    let same : entry.context ≡ context = grind (arith, nat_tests) in
    let ordinary : entry.refused ≡ false = grind (arith, nat_tests) in
    let bare : is_none entry.shown ≡ true = grind (arith, nat_tests) in
    rw (← same, ← ordinary, ← none_shown entry.shown bare) refl

-- an entry that has room for all of them
pub turn_joined : (old before : List Entry) (entry : Entry) (context n : ℕ) → old ≡ before ++ entry
    ∷ [] → joins entry context ≡ true → entry.steps + n ≤ steps_limit
    → before ++ plain_entry context (entry.steps + n) ∷ [] ≡ added_times n old (plain_move context)
turn_joined old before entry context n is test h =
    sym (ap (λ (entries : List Entry). added_times n entries (plain_move context))
    (is ∙ ap (λ (e : Entry). before ++ e ∷ []) (joining entry context test))
    ∙ times_join before context entry.steps n h)

-- an entry that has room for some of them
pub turn_crossing : (old before : List Entry) (entry : Entry) (context n : ℕ) → old ≡ before
    ++ entry ∷ [] → joins entry context ≡ true
    → steps_limit < entry.steps + n → n ≤ steps_limit
    → (before ++ plain_entry context steps_limit ∷ [])
    ++ plain_entry context (n - (steps_limit - entry.steps))
    ∷ [] ≡ added_times n old (plain_move context)
turn_crossing old before entry context n is test h most =
    let room : ℕ = steps_limit - entry.steps in
    let few : entry.steps < steps_limit = grind (arith, nat_tests) in
    let parts : n ≡ room + (n - room) = omega (arith, h, few) in
    let first : before ++ plain_entry context steps_limit
    ∷ [] ≡ added_times room old (plain_move context) =
    ap (λ k. before ++ plain_entry context k ∷ []) (omega (arith, few))
    ∙ turn_joined old before entry context room is test (omega (arith, few)) in
    times_apart (added_times room old (plain_move context)) before (plain_entry context steps_limit)
    context (n - room) (sym first) (grind (arith, nat_tests)) (omega (arith, h, few))
    (omega (arith, most))
    ∙ (sym (times_sum room (n - room) old (plain_move context))
    ∙ ap (λ k. added_times k old (plain_move context)) (sym parts))

-- a list is empty, or has a last element
pub last_of : (entries : List Entry) → (entries ≡ []) ⊎ ((before : List Entry) × (last : Entry)
    × (entries ≡ before ++ last ∷ []))
last_of [] = inl refl
last_of (entry ∷ entries) = elim (last_of entries) [
  | inl none ↦ inr ([], entry, ap (λ (rest : List Entry). entry ∷ rest) none)
  | inr (before, last, is) ↦
      inr (entry ∷ before, last, ap (λ (rest : List Entry). entry ∷ rest) is)
]

pub length_push : (before : List Entry) (entry : Entry)
    → length (before ++ entry ∷ []) ≡ length before + 1
length_push before entry = length-append before (entry ∷ [])

-- the last element
last_at : (before : List Entry) (entry : Entry)
    → slice_get (before ++ entry ∷ []) (length before) ≡ Some entry
last_at [] entry = refl
last_at (first ∷ before) entry = last_at before entry

pub joins_as : (old before : List Entry) (entry : Entry) (context : ℕ) → old ≡ before ++ entry ∷ []
    → joins_last old context ≡ joins entry context
joins_as old before entry context is =
    let size : length (before ++ entry ∷ []) ≡ length before + 1 = length_push before entry in
    let place : length (before ++ entry ∷ []) - 1 ≡ length before = omega (arith, size) in
    ap (λ (entries : List Entry). joins_last entries context) is
    ∙ ap (λ (last : Option Entry). option_map_or (λ it. joins it context) last false)
    (ap (slice_get (before ++ entry ∷ [])) place ∙ last_at before entry)

-- of an entry that no step joins, the first of many is an entry of its own
pub turn_apart : (old : List Entry) (context n : ℕ) → joins_last old context ≡ false → 1 ≤ n
    → n ≤ steps_limit → old ++ plain_entry context n ∷ [] ≡ added_times n old (plain_move context)
turn_apart old context n apart some most = elim (last_of old) [
  | inl none ↦ ap (λ (entries : List Entry). entries ++ plain_entry context n ∷ []) none
      ∙ times_alone old context n none some most
  | inr (before, last, is) ↦
      ap (λ (entries : List Entry). entries ++ plain_entry context n ∷ []) is
      ∙ times_apart old before last context n is (sym (joins_as old before last context is) ∙ apart)
      some most
]

-- an entry that they join
pub turn_fits : (old before : List Entry) (entry : Entry) (context n : ℕ) → old ≡ before ++ entry
    ∷ [] → joins_last old context ≡ true → entry.steps + n ≤ steps_limit
    → before ++ plain_entry context (entry.steps + n) ∷ [] ≡ added_times n old (plain_move context)
turn_fits old before entry context n is test h =
    turn_joined old before entry context n is (sym (joins_as old before entry context is) ∙ test) h

-- an entry of ordinary steps that isn't full
pub open_behind : (new before : List Entry) (context steps : ℕ)
    → new ≡ before ++ plain_entry context steps ∷ [] → steps < steps_limit
    → joins_last new context ≡ true
open_behind new before context steps is h =
    joins_as new before (plain_entry context steps) context is ∙ grind (arith, nat_tests)

-- ---- how many find room

last_as : (old before : List Entry) (entry : Entry) → old ≡ before ++ entry ∷ []
    → last_entry old ≡ Some entry
last_as old before entry is =
    let size : length (before ++ entry ∷ []) ≡ length before + 1 = length_push before entry in
    let place : length (before ++ entry ∷ []) - 1 ≡ length before = omega (arith, size) in
    ap last_entry is ∙ ap (slice_get (before ++ entry ∷ [])) place ∙ last_at before entry

free_within_last : (last : Option Entry) (context : ℕ)
    → option_map_or (λ it. if joins it context then steps_limit - it.steps else steps_limit) last
    steps_limit ≤ steps_limit
free_within_last None context = omega arith
free_within_last (Some entry) context = within (joins entry context)
  where
    within : (test : Bool) → (if test then steps_limit - entry.steps else steps_limit) ≤ steps_limit
    within true = omega arith
    within false = omega arith

-- never more than an entry has
pub free_within : (old : List Entry) (context : ℕ) → free_steps old context ≤ steps_limit
free_within old context = free_within_last (last_entry old) context

-- what the last entry has left, where they join it
pub free_left : (old before : List Entry) (entry : Entry) (context : ℕ) → old ≡ before ++ entry ∷ []
    → joins entry context ≡ true → free_steps old context ≡ steps_limit - entry.steps
free_left old before entry context is test =
    ap (λ (last : Option Entry).
    option_map_or (λ it. if joins it context then steps_limit - it.steps else steps_limit) last
    steps_limit) (last_as old before entry is) ∙ rw test refl

-- none
pub times_none : (n : ℕ) (old : List Entry) (move : Move) → n ≡ 0 → old ≡ added_times n old move
unfolding added_times
times_none n old move is = rw is refl
