-- What the definitions of runs say and what they don't, by examples.
use Rattle.std.proofs.Common.{◌≡◌, ◌≤◌, ◌+◌, ◌++◌, inl, inr, ℕ, true, false, None, Some, List, [], ◌∷◌, length, refl, sym, ap, arith}
use Rattle.std.specs.Prelude.{codes, pos, negsuc, zero, suc, ◌<◌}
use Rattle.std.proofs.lemmas.Bool.{true≢false}
use Rattle.ps_language.specs.Live.{asked_words}
use Rattle.ps_language.specs.Schedules.{Move, plain_move}
use Rattle.ps_language.specs.Effect.{turn_ends}
use Rattle.ps_language.specs.Step.{stepped}
use Rattle.ps_language.specs.World.{World}
use Rattle.ps_language.specs.Worlds.{after_moves, starting_world, world}
use Rattle.ps_language.proofs.Evaluation.{evaluation}
use Rattle.ps_language.proofs.Exists.{exists, finding}
use Rattle.ps_language.proofs.ProgramExamples.{turns}
use Rattle.ps_run_schedules.specs.Keeping.{Kept}
use Rattle.ps_vault.specs.declared.reports.Outcome.TheVariants.{StepsOut, Memory}
use Rattle.ps_vault.specs.Order.{IsNext, IsNoneAbove, AddsTurn, IsOver, EndsTurn}
use Rattle.ps_vault.specs.Reports.{EndsAs, IsShort, no_words_left, no_entry_left, are_words, fits}
use Rattle.ps_vault.specs.Screens.{HasShown}
use Rattle.ps_vault.specs.Warrants.{IsRefusal, no_room, no_births, no_cycles}

-- ---- room for a step

-- for one entry alone
one_entry : Kept
one_entry = record { items = []; capacity = 1; left = 5 }

short_of_words : IsShort one_entry 1
unfolding one_entry
short_of_words = no_words_left (omega arith)

-- for two, of which there may be one
two_entries : Kept
two_entries = record { items = []; capacity = 2; left = 1 }

not_short : IsShort two_entries 1 → ⊥
unfolding two_entries
not_short (no_words_left few) = omega (arith, few)
not_short (no_entry_left none) = none (inr (omega arith))

-- the last there may be takes a step of its own context, and none of another
last_entry : Kept
last_entry = record { items = turns 1 5 ∷ []; capacity = 3; left = 0 }

joined_room : IsShort last_entry 1 → ⊥
unfolding last_entry
joined_room (no_words_left few) = omega (arith, few)
joined_room (no_entry_left none) = none (inl refl)

no_other_room : IsShort last_entry 2
unfolding last_entry
no_other_room = no_entry_left (λ may. elim may [
  | inl joins ↦ true≢false (sym joins)
  | inr left ↦ omega (arith, left)
])

-- ---- numbers of a schedule

-- identifiers have 32 bits
greatest_context : fits (record { context = 4294967295; refused = false; shown = None }) ≡ true
greatest_context = refl

no_such_context : fits (record { context = 4294967296; refused = false; shown = None }) ≡ false
no_such_context = refl

-- words count from 1
no_words : are_words (Some (pos 0, pos 4096)) ≡ false
no_words = refl

below_none : are_words (Some (pos 1, negsuc 0)) ≡ false
below_none = refl

-- ---- outcomes

-- the steps are used up only where none is left
steps_left : EndsAs (starting_world (codes "1")) false ⊥ StepsOut → ⊥
steps_left ends = true≢false (sym ends.2)

-- and where a context is ready
all_wait : EndsAs (world (codes "/l lock def /c condition def l {l c wait} monitor")
    (turns 1 12 ∷ [])) true ⊥ StepsOut → ⊥
unfolding evaluation
all_wait ends = true≢false (sym ends.1)

-- memory is wanted only where a step is left
none_left : {Starved : Type 0} → EndsAs (starting_world (codes "1")) true Starved Memory → ⊥
none_left ends = true≢false ends.0

-- and something is starved
nothing_starved : EndsAs (starting_world (codes "1")) false ⊥ Memory → ⊥
nothing_starved ends = ends.2

-- ---- refusals

-- the world before an array of one element is made: 528 words live in it, and three are asked for
before_array : World
before_array = world (codes "1 array") (turns 1 1 ∷ [])

-- its step is not refused in the least space, however few steps were made before
no_refusal : IsRefusal 4096 before_array 1 1 → ⊥
unfolding evaluation finding before_array
no_refusal (no_room none) = omega (arith, none (exists before_array).0 (exists before_array).1)
no_refusal (no_births none) = omega (arith, none)
no_refusal (no_cycles many) = omega (arith, many)

-- it is where two are left
refusal : ((words : ℕ) → words ≡ 528 → 530 ≤ words + asked_words before_array 1)
unfolding evaluation before_array
refusal words is = omega (arith, is)

-- ---- what is shown

-- of two bytes, behind one that was there before, the first is seen
one_seen : HasShown (Some (codes "a"))
    (record { seen = Some (codes "ab"); watching = true; shown = 1; failed = false }) (codes "bc")
one_seen = record { within = omega arith; seen = refl }

-- it isn't seen twice
seen_twice : HasShown (Some (codes "a"))
    (record { seen = Some (codes "abb"); watching = true; shown = 1; failed = false })
    (codes "bc") → ⊥
seen_twice has = let size = ap {B = ℕ} (λ (bytes : List ℕ). length bytes) has.seen in omega (arith, size)

-- nor are there more than were printed
more_seen : HasShown (Some (codes "a"))
    (record { seen = Some (codes "abc"); watching = true; shown = 3; failed = false })
    (codes "bc") → ⊥
more_seen has = let within = has.within in omega (arith, within)

-- ---- whose turn is next

-- two contexts are ready
both : World
both = world (codes "mark {1} fork 2") (turns 1 3 ∷ [])

-- behind the turn of the first the second is next
second_next : IsNext both 1 2
unfolding evaluation both
second_next = inl (record {
  above = omega arith;
  ready = refl;
  least = λ k over under. absurd (omega (arith, over, under));
})

-- and not the first again
first_again : IsNext both 1 1 → ⊥
unfolding evaluation both
first_again (inl least) = let above = least.above in omega (arith, above)
first_again (inr passes) = true≢false (passes.0 2 (omega arith))

-- behind that of the second the next pass begins
none_above : IsNoneAbove both 2
unfolding evaluation both
none_above zero over = absurd (omega (arith, over))
none_above (suc zero) over = absurd (omega (arith, over))
none_above (suc (suc zero)) over = absurd (omega (arith, over))
none_above (suc (suc (suc k))) over = refl

first_next : IsNext both 2 1
unfolding evaluation both
first_next = inr (
  none_above,
  record {
    above = omega arith;
    ready = refl;
    least = λ k over under. absurd (omega (arith, over, under));
  },
)

-- with the first, and not with the second
second_again : IsNext both 2 2 → ⊥
unfolding evaluation both
second_again (inl least) = let above = least.above in omega (arith, above)
second_again (inr passes) = true≢false (passes.1.least 1 (omega arith) (omega arith))

-- ---- turns

-- a turn has one step at least
no_turn : (start : World) (steps : List Move) → AddsTurn 2 start 0 1 0 [] steps → ⊥
no_turn start steps turn = let some = turn.some in omega (arith, some)

-- and at most as many as a turn may have
too_long : (start : World) (steps : List Move) → AddsTurn 2 start 0 1 3 [] steps → ⊥
too_long start steps turn = let within = turn.within in omega (arith, within)

-- then it is over
whole_turn : (start : World) (steps : List Move) → IsOver 2 start 1 2 steps
whole_turn start steps = inl refl

-- a yield ends it sooner
yielded : EndsTurn (starting_world (codes "yield 1")) 1 (plain_move 1 ∷ [])
unfolding evaluation
yielded = record { before = []; last = plain_move 1; is = refl; shown = None; told = refl }

-- and nothing that goes on does
going_on : EndsTurn (starting_world (codes "1 2")) 1 (plain_move 1 ∷ []) → ⊥
unfolding evaluation
going_on ends = by ends.before ends.is ends.told
  where
    by : (before : List Move) → plain_move 1 ∷ [] ≡ before ++ ends.last ∷ []
        → (stepped (after_moves (starting_world (codes "1 2")) before) 1 false ends.shown).note
        ≡ turn_ends → ⊥
    by [] is told = cc
    by (one ∷ []) is told = let size = ap {B = ℕ} (λ (ms : List Move). length ms) is in
        omega (arith, size)
    by (one ∷ two ∷ more) is told = let size = ap {B = ℕ} (λ (ms : List Move). length ms) is in
        absurd (cc)
