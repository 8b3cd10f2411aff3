-- What the definitions of cuts say and what they don't, by examples.
use Rattle.std.proofs.Common.{◌≡◌, ℕ, None, Some, List, [], ◌∷◌, ap, refl}
use Rattle.std.proofs.lemmas.Bool.{true≢false}
use Rattle.std.specs.Prelude.{codes, false, true}
use Rattle.ps_language.specs.Effect.{shows_memory, turn_ends}
use Rattle.ps_language.specs.World.{World}
use Rattle.ps_language.specs.Worlds.{starting_world}
use Rattle.ps_language.proofs.Evaluation.{evaluation}
use Rattle.ps_vault.specs.Reports.{is_first_refused}
use Rattle.ps_cuts.specs.Cuts.{AllPlain, cuts, cuts_at, cuts_behind, due, first_ready, going, holder, is_turn_end, last_of, price, steps_by}

-- ---- the end of a turn

yields : is_turn_end turn_ends ≡ true
yields = refl

status_goes_on : is_turn_end shows_memory ≡ false
status_goes_on = refl

-- ---- who goes on

-- a context that makes another, and then yields
program : List ℕ
program = codes "mark {1 2} fork yield 3"

start : World
start = starting_world program

-- behind its fork the first goes on
first_goes_on : going start (steps_by (1 ∷ 1 ∷ 1 ∷ [])) ≡ Some 1
unfolding evaluation holder start program
first_goes_on = refl

-- behind its yield it is ready, and doesn't
first_yielded : going start (steps_by (1 ∷ 1 ∷ 1 ∷ 1 ∷ [])) ≡ None
unfolding evaluation holder start program
first_yielded = refl

-- nor does one that is at its end
first_over : going (starting_world (codes "1")) (steps_by (1 ∷ 1 ∷ [])) ≡ None
unfolding evaluation holder
first_over = refl

-- ---- who is due

-- before all steps the first
first_due : due start [] ≡ Some 1
unfolding evaluation holder last_of first_ready start program
first_due = refl

-- behind the turn of the first the second, and not the first again
second_due : due start (steps_by (1 ∷ 1 ∷ 1 ∷ 1 ∷ [])) ≡ Some 2
unfolding evaluation holder last_of first_ready start program
second_due = refl

-- behind one step of the second still the second
second_goes_on : due start (steps_by (1 ∷ 1 ∷ 1 ∷ 1 ∷ 2 ∷ [])) ≡ Some 2
unfolding evaluation holder last_of first_ready start program
second_goes_on = refl

-- behind all its steps the first: the next one is sought going round
first_again : due start (steps_by (1 ∷ 1 ∷ 1 ∷ 1 ∷ 2 ∷ 2 ∷ [])) ≡ Some 1
unfolding evaluation holder last_of first_ready start program
first_again = refl

-- ---- cuts

-- the turns of the rule have none
no_cut : cuts program (steps_by (1 ∷ 1 ∷ 1 ∷ 1 ∷ 2 ∷ 2 ∷ 1 ∷ [])) ≡ 0
unfolding evaluation cuts_behind holder last_of first_ready program
no_cut = refl

-- who leaves the second behind its first step cuts once, and none more behind it: its turn is over
one_cut : cuts program (steps_by (1 ∷ 1 ∷ 1 ∷ 1 ∷ 2 ∷ 1 ∷ [])) ≡ 1
unfolding evaluation cuts_behind holder last_of first_ready program
one_cut = refl

-- back again is a second cut
two_cuts : cuts program (steps_by (1 ∷ 1 ∷ 1 ∷ 2 ∷ 1 ∷ [])) ≡ 2
unfolding evaluation cuts_behind holder last_of first_ready program
two_cuts = refl

-- behind three steps the second steps in place of the first, and behind one more the first again
where_two : cuts_at start [] (steps_by (1 ∷ 1 ∷ 1 ∷ 2 ∷ 1 ∷ []))
    ≡ record { behind = 3; left = 1; other = 2 } ∷ record { behind = 4; left = 2; other = 1 } ∷ []
unfolding evaluation cuts_at holder last_of first_ready start program
where_two = refl

-- ---- prices

-- whose turn goes on steps for nothing, and another that is ready for 1
free_step : price program (1 ∷ 1 ∷ 1 ∷ []) 1 ≡ Some 0
unfolding evaluation holder last_of first_ready program
free_step = refl

other_step : price program (1 ∷ 1 ∷ 1 ∷ []) 2 ≡ Some 1
unfolding evaluation holder last_of first_ready program
other_step = refl

-- one that isn't there can't
no_step : price program (1 ∷ 1 ∷ 1 ∷ []) 3 ≡ None
unfolding evaluation holder last_of first_ready program
no_step = refl

-- ---- ordinary steps

plain : AllPlain (steps_by (1 ∷ 2 ∷ []))
plain = refl

refused : AllPlain (record { context = 1; refused = true; shown = None } ∷ []) → ⊥
refused is = true≢false (ap is_first_refused is)
