-- What the words of a command line ask for.
use Rattle.std.specs.Prelude.{◌≡◌, unwrap_or, ℕ, Bool, List, Option, option_map, codes, if◌then◌else◌}
use Rattle.ps_mem.specs.Bounded.{bounded_space}
use Rattle.ps_mem.specs.Heap.{Space}
use Rattle.ps_mem.specs.Plain.{plain_space}
use Rattle.ps_run_options.specs.declared.options.Options.{Options}
use Rattle.ps_run_options.specs.CommandLine.{IsNumber, IsFlag, AreNumbers, exploration_in, named_in, size_in}
use Rattle.ps_run_options.specs.CommandLine.{view_asked}
use Rattle.ps_run_options.specs.declared.views.View.{View}
use Rattle.ps_run_options.specs.declared.options.Exploration.{Exploration}
use Rattle.ps_run_options.specs.declared.options.Exploration.TheVariants.{ByChance, EachOrder, EachWorld}
use Rattle.ps_run_options.specs.Sources.{file_of, text_of as program_text}
use Rattle.clap.specs.Words.{Text}
use Rattle.ps_ctx_start.specs.declared.start.TheConstants.{ANY_OUTPUT}
use Rattle.ps_vault.specs.declared.reports.Config.{Config}
use Rattle.ps_vault.specs.declared.reports.TheConstants.{ANY_ENTRIES}
use Rattle.ps_vault.specs.Reports.{Bounds, IsWithin}

-- what the words ask for of a run; plain: whether over memory that is never collected, whatever the
-- space; streamed: whether printed bytes may go out while it goes on; places: whether the places of
-- errors are told; explored: which runs, where it isn't a single one; at: what is told of the run
-- under a schedule that is given, in place of what it prints; output, entries: the most bytes that
-- it may print, and the most entries of its schedule, if there is a bound
pub record Asked : Type 0 where
  pub space : ℕ
  pub steps : ℕ
  pub quantum : ℕ
  pub plain : Bool
  pub streamed : Bool
  pub places : Bool
  pub stats : Bool
  pub explored : Option Exploration
  pub at : Option View
  pub output : Option ℕ
  pub entries : Option ℕ

-- the most bytes that may be printed
abbrev pub most_output : Option ℕ → ℕ
most_output asked = unwrap_or asked ANY_OUTPUT

-- the most entries of the schedule
abbrev pub most_entries : Option ℕ → ℕ
most_entries asked = unwrap_or asked ANY_ENTRIES

abbrev pub AreAsked : List Text → Asked → Type 0
AreAsked words asked = (asked.space ≡ unwrap_or (size_in (codes "space") words) 65536)
    × (asked.steps ≡ unwrap_or (size_in (codes "steps") words) 1000000000)
    × IsNumber (codes "quantum") words asked.quantum × IsFlag (codes "plain") words asked.plain
    × IsFlag (codes "stream") words asked.streamed × IsFlag (codes "where") words asked.places
    × IsFlag (codes "stats") words asked.stats
    × (asked.explored ≡ exploration_in words)
    × (asked.at ≡ view_asked words)
    × (asked.output ≡ size_in (codes "output") words)
    × (asked.entries ≡ size_in (codes "entries") words)

-- the bounds of its run
abbrev pub most_asked : Asked → Bounds
most_asked asked =
    record { output = most_output asked.output; entries = most_entries asked.entries }

-- the space of its memory
abbrev pub space_of : Asked → Space
space_of asked = if asked.plain then plain_space else bounded_space asked.space

-- the program's text, and the names of files, as far as they are given: that of the program, that
-- of the record, that of the schedule to follow, and that of the picture
pub record Names : Type 0 where
  pub file : Option Text
  pub text : Option Text
  pub recorded : Option Text
  pub replayed : Option Text
  pub drawn : Option Text

abbrev pub names_in : List Text → Names
names_in words = record {
  file = named_in (codes "FILE") words;
  text = named_in (codes "e") words;
  recorded = named_in (codes "record") words;
  replayed = named_in (codes "replay") words;
  drawn = named_in (codes "timeline") words;
}

-- the numbers of a run and the names of files among what the words ask for
abbrev pub config_in : Options → Config
config_in options = record {
  space = options.space;
  workers = options.workers;
  quantum = options.quantum;
  steps = options.steps;
  output = most_output options.output;
  entries = most_entries options.entries;
}

abbrev pub asked_of : Options → Asked
asked_of options = record {
  space = options.space;
  steps = options.steps;
  quantum = options.quantum;
  plain = options.plain;
  streamed = options.stream;
  places = options.places;
  stats = options.stats;
  explored = options.explore;
  at = options.at;
  output = options.output;
  entries = options.entries;
}

-- how many endings there may be: one a run, or a world
abbrev pub most_endings : Exploration → ℕ
most_endings (ByChance runs) = runs
most_endings (EachOrder bounds) = bounds.runs
most_endings (EachWorld most) = most

-- how many records there may be, where it isn't a single run's
abbrev pub records_in : List Text → Option ℕ
records_in words = option_map most_endings (exploration_in words)

abbrev pub records_of : Options → Option ℕ
records_of options = option_map most_endings options.explore

abbrev pub names_of : Options → Names
names_of options = record {
  file = file_of options.source;
  text = program_text options.source;
  recorded = option_map (λ name. name.now) options.record_file;
  replayed = option_map (λ name. name.now) options.replay_file;
  drawn = option_map (λ name. name.now) options.timeline_file;
}

-- the words' numbers are none of a run: the rules refuse such words
pub record AreOutOfRange (words : List Text) : Type 0 where
  pub config : Config
  pub numbers : AreNumbers words (record {
    space = config.space;
    workers = config.workers;
    quantum = config.quantum;
    steps = config.steps;
  })
  pub outside : ¬ IsWithin config
