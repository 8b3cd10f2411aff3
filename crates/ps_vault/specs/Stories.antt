-- What clauses see of a vault, and what it keeps.
use Rattle.std.specs.Prelude.{◌≡◌, ◌+◌, ◌-◌, ◌<◌, ◌≤◌, ℕ, Bool, true, false, Option, None, IfSome, List, length, map, replicate, slice_set}
use Rattle.std.specs.List.{range_with_len}
use Rattle.ps_language.specs.declared.schedules.Entry.{Entry}
use Rattle.ps_language.specs.Live.{Live, asked_births, asked_words}
use Rattle.ps_language.specs.Schedules.{is_longest}
use Rattle.ps_language.specs.World.{World}
use Rattle.ps_language.specs.Worlds.{world, IsProper}
use Rattle.ps_word.specs.Headers.{birth_limit}
use Rattle.ps_record.specs.Format.{slots}
use Rattle.ps_mem.specs.Heap.{Heap, Grants}
use Rattle.ps_gc_roots.specs.Moved.{IsLeft}
use Rattle.ps_ctx.specs.Held.{Held, IsAt, IsSteadyHeld}
use Rattle.ps_ctx.specs.Notes.{HasNoStatus}
use Rattle.ps_run_schedules.specs.Keeping.{Kept, MayAdd}
use Rattle.ps_vault.specs.Reports.{Bounds}
use Rattle.ps_vault.specs.Warrants.{AllWarranted}

-- The program, the bounds of its run, the steps that were made, how many entries find room, and the
-- context whose call waits, since it could not be made. Of the memory: the words of its space,
-- those
-- that are used, how often what stands was moved, whether a cycle of the collector is open, and by
-- slot whether its log is closed
pub record Story : Type 0 where
  pub program : List ℕ
  pub most : Bounds
  pub schedule : List Entry
  pub capacity : ℕ
  pub caller : Option ℕ
  pub space : ℕ
  pub used : ℕ
  pub flips : ℕ
  pub cycle_open : Bool
  pub closed : List Bool

-- by slot, whether its log is closed
abbrev pub logs_closed : (closed : ℕ → Bool) → List Bool
logs_closed closed = map closed (range_with_len 0 slots)

-- a cycle was opened, and no log is closed
abbrev pub with_cycle : Story → Story
with_cycle story = record story { cycle_open = true; closed = replicate slots false }

-- no cycle is open, the flips are those that this counts, and so many words are used
abbrev pub without_cycle : (counted : ℕ → ℕ) → (used : ℕ) → Story → Story
without_cycle counted used story = record story {
  used = used;
  flips = counted story.flips;
  cycle_open = false;
  closed = replicate slots false;
}

-- the log of a slot is closed
abbrev pub with_closed : (slot : ℕ) → Story → Story
with_closed slot story = record story { closed = slice_set story.closed slot true }

-- no other context's call waits
abbrev pub MayGo : Story → (context : ℕ) → Type 0
MayGo story context = IfSome story.caller (λ caller. caller ≡ context)

-- the schedule as it is kept
abbrev pub kept_of : Story → Kept
kept_of story = record {
  items = story.schedule;
  capacity = story.capacity;
  left = story.most.entries - length story.schedule;
}

-- the schedule has room for steps of a context: two entries more find room, and one of them may
-- be added where the next step joins none
pub record HasRoom (story : Story) (context : ℕ) : Type 0 where
  pub words : length story.schedule + 2 ≤ story.capacity
  pub entry : MayAdd (kept_of story) context

-- the world that they stand for
abbrev pub world_at : Story → World
world_at story = world story.program story.schedule

-- what its steps are shown, and that they are refused, is warranted
abbrev pub AreWarranted : Story → Type 0
AreWarranted story = AllWarranted story.space story.program story.schedule

-- ---- its memory

-- a memory with the numbers of a story, which has given out a birth number for each object of its
-- world
pub record IsMemoryOf (story : Story) (heap : Heap) (grants : Grants) : Type 0 where
  pub space : heap.space.size ≡ story.space
  pub used : heap.used ≡ story.used
  pub flips : heap.space.flips ≡ story.flips
  pub births : heap.next ≡ length (world_at story).store
  pub cycle_open : grants.cycle_open ≡ story.cycle_open
  pub closed : logs_closed grants.closed ≡ story.closed

-- the words or the births that a step of a context asks for aren't to be had
pub data LacksRoom (story : Story) (context : ℕ) : Type 0 where
  few_words : story.space < story.used + asked_words (world_at story) context
      → LacksRoom story context
  few_births : birth_limit < length (world_at story).store + asked_births (world_at story) context
      → LacksRoom story context

-- nothing is used but what lives; where a call waits, whose element is taken, no more than that
pub record UsesOnlyLive (story : Story) : Type 0 where
  pub exact : story.caller ≡ None → IsLeft (world_at story) → Live (world_at story) story.used
  pub most : IsLeft (world_at story) → (words : ℕ) → Live (world_at story) words
      → story.used ≤ words

-- all is at the world of program and schedule, and the schedule is proper; a call that waits is no
-- vmstatus that acts
pub record Keeps (h : Held) (schedule : List Entry) : Type 0 where
  pub steady : IsSteadyHeld h
  pub at : IsAt h (world h.desk.program schedule)
  pub proper : IsProper h.desk.program schedule
  pub longest : is_longest schedule ≡ true
  pub no_status : IfSome h.calling
      (λ calling. HasNoStatus (world h.desk.program schedule) calling.caller)
