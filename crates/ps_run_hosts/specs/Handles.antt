-- What a host does to a run that stands between its calls, or to none.
use Rattle.std.specs.Prelude.{◌≡◌, ◌≤◌, ℕ, List, [], ◌∷◌, Option, Some, None, Result, Ok, Err, drop, map, length}
use Rattle.ps_language.specs.Effect.{Around, Scene}
use Rattle.ps_language.specs.Schedules.{count_of}
use Rattle.ps_language.specs.World.{Status}
use Rattle.ps_ops_state.specs.Acts.{Asked}
use Rattle.ps_run_workers.specs.Slices.{budget_behind, HasBegun, IsSlice}
use Rattle.ps_vault.specs.declared.reports.Outcome.{Outcome}
use Rattle.ps_vault.specs.Reports.{IsWithin}
use Rattle.ps_vault.specs.Stories.{Story, world_at}
use Rattle.ps_run_hosts.specs.declared.hosting.Refusal.{Refusal}
use Rattle.ps_run_hosts.specs.declared.hosting.Refusal.TheVariants.{OutOfRange, NoRoom, OtherSchedule, BadEntry, Closed, Open}
use Rattle.ps_run_hosts.specs.declared.numbers.Settings.{Settings}
use Rattle.ps_run_hosts.specs.declared.numbers.HostEntry.{HostEntry}
use Rattle.ps_run_hosts.specs.Hosts.{code_of_refusal, code_told, config_in, handed, handed_entry, IsMadeOf}

-- ---- the start

-- the numbers are in their ranges, and ask for a space that is collected
abbrev pub MayStand : Settings → Type 0
MayStand settings = IsWithin (config_in settings) × (settings.plain ≡ 0)

-- what begins where a host asks for a run of a program that stands
abbrev pub HasStarted : (program : List ℕ) → Settings → Result Story Refusal → Type 0
HasStarted program settings (Err OutOfRange) = ¬ MayStand settings
HasStarted program settings (Err NoRoom) = MayStand settings
HasStarted program settings (Err OtherSchedule) = ⊥
HasStarted program settings (Err BadEntry) = ⊥
HasStarted program settings (Err Closed) = ⊥
HasStarted program settings (Err Open) = ⊥
HasStarted program settings (Ok story) =
    MayStand settings × HasBegun program (config_in settings) story

-- where none stands it stands then, and where it doesn't begin the code tells why
abbrev pub IsPlaced : Result Story Refusal → (new : Option Story) → (code : ℕ) → Type 0
IsPlaced (Ok story) new code = (new ≡ Some story) × (code ≡ 0)
IsPlaced (Err refusal) new code = (new ≡ None) × (code ≡ code_of_refusal refusal)

-- a run that stands already goes on standing
abbrev pub IsStartedIn : (program numbers : List ℕ) → (old new : Option Story) → (code : ℕ)
    → Type 0
IsStartedIn program numbers (Some old) new code = (new ≡ Some old) × (code ≡ code_of_refusal Open)
IsStartedIn program numbers None new code = (made : Result Story Refusal)
    × IsMadeOf numbers (HasStarted program) made × IsPlaced made new code

-- ---- a slice

-- what comes of a run where so many steps are asked for, by what is told of it. No step is asked for,
-- and it stays; or a slice was made, and it ended so, or after more turns than there can be steps. Asks:
-- what a step asks for that the language doesn't say
abbrev pub IsAdvanced : (asks : Status → Around → Scene → Asked) → (steps : ℕ) → (old new : Story)
    → Result Outcome Refusal → Type 0
IsAdvanced asks steps old new (Err OutOfRange) = (steps ≡ 0) × (new ≡ old)
IsAdvanced asks steps old new (Err NoRoom) =
    (1 ≤ steps) × IsSlice asks (budget_behind old.schedule steps) old new None
IsAdvanced asks steps old new (Err OtherSchedule) = ⊥
IsAdvanced asks steps old new (Err BadEntry) = ⊥
IsAdvanced asks steps old new (Err Closed) = ⊥
IsAdvanced asks steps old new (Err Open) = ⊥
IsAdvanced asks steps old new (Ok outcome) =
    (1 ≤ steps) × IsSlice asks (budget_behind old.schedule steps) old new (Some outcome)

-- the run that stands then, and the code
pub record IsToldOf (asks : Status → Around → Scene → Asked) (steps : ℕ) (old : Story)
    (after : Option Story) (code : ℕ) : Type 0 where
  pub new : Story
  pub told : Result Outcome Refusal
  pub stands : after ≡ Some new
  pub advanced : IsAdvanced asks steps old new told
  pub is : code ≡ code_told told

-- where none stands none does then, and the code tells it
abbrev pub IsAdvancedIn : (asks : Status → Around → Scene → Asked) → (steps : ℕ)
    → (old new : Option Story) → (code : ℕ) → Type 0
IsAdvancedIn asks steps None new code = (new ≡ None) × (code ≡ code_of_refusal Closed)
IsAdvancedIn asks steps (Some old) new code = IsToldOf asks steps old new code

-- ---- what a host is handed

-- of what was printed from a place on as much as there is room for, and how much there is in all
abbrev pub IsPrintedIn : Option Story → (from : ℕ) → (old new : List ℕ) → (count : ℕ) → Type 0
IsPrintedIn None from old new count = (new ≡ old) × (count ≡ 0)
IsPrintedIn (Some story) from old new count =
    (new ≡ handed (drop from (world_at story).printed) old)
    × (count ≡ length (world_at story).printed)

-- the same of the entries of the schedule
abbrev pub IsScheduledIn : Option Story → (from : ℕ) → (old new : List HostEntry) → (count : ℕ)
    → Type 0
IsScheduledIn None from old new count = (new ≡ old) × (count ≡ 0)
IsScheduledIn (Some story) from old new count =
    (new ≡ handed (map handed_entry (drop from story.schedule)) old)
    × (count ≡ length story.schedule)

-- how much there is, and what the collector did
pub record AreCountsOf (story : Story) (old new : List ℕ) : Type 0 where
  pub flips : ℕ
  pub taken : ℕ
  pub counts : new ≡ handed (length (world_at story).printed ∷ length story.schedule
      ∷ count_of story.schedule ∷ flips ∷ taken ∷ []) old

abbrev pub IsCountedIn : Option Story → (old new : List ℕ) → (code : ℕ) → Type 0
IsCountedIn None old new code = (new ≡ old) × (code ≡ code_of_refusal Closed)
IsCountedIn (Some story) old new code = AreCountsOf story old new × (code ≡ 0)
