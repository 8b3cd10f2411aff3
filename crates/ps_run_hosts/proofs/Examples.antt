-- What the definitions of the library say and what they don't, by examples.
use Rattle.std.proofs.Common.{◌≡◌, ℕ, false, true, None, Some, [], ◌∷◌, refl}
use Rattle.std.specs.Prelude.{pos}
use Rattle.ps_language.specs.declared.schedules.Entry.{Entry}
use Rattle.ps_language.specs.Schedules.{count_of, moves}
use Rattle.ps_vault.specs.declared.reports.Outcome.TheVariants.{AllWaiting, StepsOut, Memory}
use Rattle.ps_run_hosts.specs.declared.hosting.Refusal.TheVariants.{BadEntry}
use Rattle.ps_run_workers.specs.Slices.{budget_behind}
use Rattle.ps_run_hosts.specs.Hosts.{bound_in, code_of, code_of_refusal, given_entry, handed, handed_entry, settings_in}

-- ---- what a host gives

-- the usual settings, of no number
usual_space : (settings_in []).space ≡ 65536
usual_space = refl

usual_quantum : (settings_in []).quantum ≡ 100
usual_quantum = refl

usual_steps : (settings_in []).steps ≡ 4294967295
usual_steps = refl

-- a host that knows the first two
known_quantum : (settings_in (4096 ∷ 7 ∷ [])).quantum ≡ 7
known_quantum = refl

others_usual : (settings_in (4096 ∷ 7 ∷ [])).steps ≡ 4294967295
others_usual = refl

-- any number but 0 asks for plain memory
any_plain : (settings_in (4096 ∷ 7 ∷ 9 ∷ 256 ∷ [])).plain ≡ 1
any_plain = refl

-- the keys come behind the bounds
keys_last : (settings_in (4096 ∷ 7 ∷ 9 ∷ 0 ∷ 1 ∷ 2 ∷ 3 ∷ 4 ∷ [])).keys.second ≡ 4
keys_last = refl

-- 0 asks for no bound, and 1 is one
no_bound : bound_in 0 7 ≡ 7
no_bound = refl

least_bound : bound_in 1 7 ≡ 1
least_bound = refl

-- an entry of three steps, of which the last shows the memory
shown : Entry
shown = record { context = 2; steps = 3; refused = false; shown = Some (pos 528, pos 4096) }

-- it is the same entry behind a host
kept_pair : given_entry (handed_entry shown) ≡ shown
unfolding shown
kept_pair = refl

-- an entry whose last step is refused
refused : Entry
refused = record { context = 2; steps = 3; refused = true; shown = None }

kept_refusal : given_entry (handed_entry refused) ≡ refused
unfolding refused
kept_refusal = refl

-- ---- what it is handed

-- of three, two find room, the first ones
small_room : handed {A = ℕ} (1 ∷ 2 ∷ 3 ∷ []) (8 ∷ 9 ∷ []) ≡ 1 ∷ 2 ∷ []
small_room = refl

-- and behind one the room stays as it was
large_room : handed {A = ℕ} (1 ∷ []) (8 ∷ 9 ∷ []) ≡ 1 ∷ 9 ∷ []
large_room = refl

-- ---- budgets

-- so many steps behind those of a schedule
behind_five : budget_behind (record { context = 1; steps = 5; refused = false; shown = None } ∷ [])
    7 ≡ 12
unfolding count_of moves
behind_five = refl

-- at most as many as a run may have
most_behind : budget_behind [] 4294967296 ≡ 4294967295
unfolding count_of moves
most_behind = refl

-- ---- codes: those of dpsrun, and others

stopped : code_of StepsOut ≡ 4
stopped = refl

wanting : code_of Memory ≡ 5
wanting = refl

all_wait : code_of AllWaiting ≡ 3
all_wait = refl

no_entry : code_of_refusal BadEntry ≡ 19
no_entry = refl
