-- The entries of a run's schedule are within their ranges.
use Rattle.std.proofs.Common.{◌≡◌, ◌^◌, ◌<◌, ◌≤◌, ℕ, zero, suc, ℤ, true, Option, Some, None, List, [], ◌∷◌, ◌++◌, length, arith, refl, sym, ap, ◌∙◌, append_assoc, length-append}
use Rattle.std.specs.Prelude.{replicate, nat_lt, not, ◌&&◌, pos, negsuc}
use Rattle.std.proofs.lemmas.Bool.{and_parts, ltb-true}
use Rattle.ps_language.specs.declared.schedules.Entry.{Entry}
use Rattle.ps_language.specs.Contexts.{context_at}
use Rattle.ps_language.specs.Locks.{is_ready}
use Rattle.ps_language.specs.Schedules.{Move, count_of, is_longest, joins, last_move, moves, moves_of, plain_move}
use Rattle.ps_language.specs.World.{World}
use Rattle.ps_language.specs.Worlds.{after_move, all_ready, IsProper, starting_world}
use Rattle.ps_run_schedules.specs.Texts.{AreEntries, IsShown, IsUpTo, IsWords}
use Rattle.ps_vault.specs.Reports.{all_fit, are_words, fits, is_number_of_words}
use Rattle.ps_run_schedules.proofs.Counting.{length_moves_of}

-- ---- each step

-- one that is ready is a context
ready_low : (w : World) (k : ℕ) → is_ready w k ≡ true → 1 ≤ k
unfolding is_ready context_at
ready_low w zero ready = absurd (cc)
ready_low w (suc k) ready = omega arith

shown_words : (words : ℤ) → is_number_of_words words ≡ true → IsWords words
shown_words (pos words) is =
    let both = and_parts (nat_lt 0 words) (nat_lt words (2 ^ 31)) is in
    let low = ltb-true 0 words both.0 in
    let high = ltb-true words (2 ^ 31) both.1 in
    record { low = omega (arith, low); high = omega (arith, high) }
shown_words (negsuc words) is = absurd (cc)

shown_within : (shown : Option (ℤ × ℤ)) → are_words shown ≡ true → IsShown shown
shown_within None is = tt
shown_within (Some pair) is =
    let both = and_parts (is_number_of_words pair.0) (is_number_of_words pair.1) is in
    (shown_words pair.0 both.0, shown_words pair.1 both.1)

-- ---- the steps behind others

-- the numbers of a step, and the steps behind it
record IsFirst (move : Move) (rest : List Move) : Type 0 where
  context : move.context < 2 ^ 32
  shown : are_words move.shown ≡ true
  behind : all_fit rest ≡ true

first_fits : (move : Move) (rest : List Move) → all_fit (move ∷ rest) ≡ true
    → IsFirst move rest
first_fits move rest all =
    let both = and_parts (fits move) (all_fit rest) all in
    let numbers = and_parts (nat_lt move.context (2 ^ 32)) (are_words move.shown) both.0 in
    record {
      context = ltb-true move.context (2 ^ 32) numbers.0;
      shown = numbers.1;
      behind = both.1;
    }

fit_behind : (first rest : List Move) → all_fit (first ++ rest) ≡ true
    → all_fit rest ≡ true
fit_behind [] rest all = all
fit_behind (move ∷ first) rest all =
    fit_behind first rest (first_fits move (first ++ rest) all).behind

-- each is of a context that is ready, from some world on
record AreReady (steps : List Move) : Type 0 where
  now : World
  all : all_ready now steps ≡ true

ready_behind : (first rest : List Move) (now : World) → all_ready now (first ++ rest) ≡ true
    → AreReady rest
ready_behind [] rest now all = record { now = now; all = all }
ready_behind (move ∷ first) rest now all =
    ready_behind first rest (after_move now move) (and_parts (is_ready now move.context)
    (all_ready (after_move now move) (first ++ rest)) all).1

-- the steps of an entry begin with one of its context
record Begins (entry : Entry) (steps : List Move) : Type 0 where
  first : Move
  rest : List Move
  is : steps ≡ first ∷ rest
  context : first.context ≡ entry.context

entry_begins : (entry : Entry) (steps : ℕ) (rest : List Move) → 0 < steps
    → Begins entry (moves_of entry steps ++ rest)
entry_begins entry zero rest some = absurd (omega (arith, some))
entry_begins entry (suc zero) rest some =
    record { first = last_move entry; rest = rest; is = refl; context = refl }
entry_begins entry (suc (suc before)) rest some = record {
  first = plain_move entry.context;
  rest = (replicate before (plain_move entry.context) ++ last_move entry ∷ []) ++ rest;
  is = refl;
  context = refl;
}

entry_context : (entry : Entry) (steps : List Move) (now : World) → Begins entry steps
    → all_ready now steps ≡ true → all_fit steps ≡ true → IsUpTo 4294967295 entry.context
entry_context entry steps now begins ready fit =
    let low = ready_low now begins.first.context (and_parts (is_ready now begins.first.context)
    (all_ready (after_move now begins.first) begins.rest)
    (sym (ap (all_ready now) begins.is) ∙ ready)).0 in
    let high = (first_fits begins.first begins.rest
    (sym (ap all_fit begins.is) ∙ fit)).context in
    let same = begins.context in
    record { low = omega (arith, low, same); high = omega (arith, high, same) }

-- and end with its last
entry_shown : (entry : Entry) (steps : ℕ) (rest : List Move) → 0 < steps
    → all_fit (moves_of entry steps ++ rest) ≡ true → are_words entry.shown ≡ true
entry_shown entry zero rest some all = absurd (omega (arith, some))
entry_shown entry (suc before) rest some all =
    let plain = replicate before (plain_move entry.context) in
    (first_fits (last_move entry) rest (fit_behind plain (last_move entry ∷ rest)
    (sym (ap all_fit (append_assoc plain (last_move entry ∷ []) rest)) ∙ all))).shown

-- ---- entries

-- a first longest entry has a step, and the others are longest
longest_first : (entry : Entry) (entries : List Entry) → is_longest (entry ∷ entries) ≡ true
    → (0 < entry.steps) × (is_longest entries ≡ true)
longest_first entry [] longest = (ltb-true 0 entry.steps longest, refl)
longest_first entry (next ∷ entries) longest =
    let first = and_parts (nat_lt 0 entry.steps)
    (not (joins entry next.context) && is_longest (next ∷ entries)) longest in
    let second = and_parts (not (joins entry next.context)) (is_longest (next ∷ entries)) first.1 in
    (ltb-true 0 entry.steps first.0, second.1)

entries_from : (schedule : List Entry) (now : World)
    → length (moves schedule) ≤ 4294967295 → is_longest schedule ≡ true
    → all_ready now (moves schedule) ≡ true → all_fit (moves schedule) ≡ true
    → AreEntries schedule
unfolding moves
entries_from [] now few longest ready fit = tt
entries_from (entry ∷ entries) now few longest ready fit =
    let both = longest_first entry entries longest in
    let own = moves_of entry entry.steps in
    let sum = length-append own (moves entries) in
    let count = length_moves_of entry entry.steps in
    let behind = ready_behind own (moves entries) now ready in (
      record {
        context = entry_context entry (own ++ moves entries) now
            (entry_begins entry entry.steps (moves entries) both.0) ready fit;
        steps = record {
          low = omega (arith, both.0);
          high = omega (arith, few, sum, count);
        };
        shown = shown_within entry.shown
            (entry_shown entry entry.steps (moves entries) both.0 fit);
      },
      entries_from entries behind.now (omega (arith, few, sum)) both.1 behind.all
          (fit_behind own (moves entries) fit),
    )

pub are_entries : (program : List ℕ) (schedule : List Entry)
    → count_of schedule ≤ 4294967295 → is_longest schedule ≡ true → IsProper program schedule
    → all_fit (moves schedule) ≡ true → AreEntries schedule
unfolding count_of IsProper
are_entries program schedule few longest proper fit =
    entries_from schedule (starting_world program) few longest proper fit
