-- The command line of the program, as rules of clap.
use Rattle.std.specs.Prelude.{◌≡◌, ◌==◌, ◌<◌, ◌≤◌, ◌^◌, ℕ, Bool, ◌&&◌, ◌||◌, List, [], ◌∷◌, Option, Some, None, is_some, is_none, true, false, not, length, drop, nat_eq, codes, unwrap_or, option_map, option_and_then, if◌then◌else◌}
use Rattle.std.specs.Char.{is_ascii_digit}
use Rattle.std.specs.List.{list_all, starts_with}
use Rattle.std.specs.Str.{bytes_eq}
use Rattle.std.specs.Str.Parse.{IsNumeral, digits_value, without_leading_plus}
use Rattle.clap.specs.Kinds.{Kinds, or_else}
use Rattle.clap.specs.Words.{App, Rule, Text, new_app, new_rule, with_rule, matches_of, first_of, one_of, fault_of}
use Rattle.ps_run_options.specs.Sizes.{is_within, size_of}
use Rattle.ps_run_options.specs.Views.{is_viewed, view_in}
use Rattle.ps_run_options.specs.declared.views.View.{View}
use Rattle.ps_run_options.specs.declared.options.Exploration.{Exploration}
use Rattle.ps_run_options.specs.declared.options.Exploration.TheVariants.{ByChance, EachOrder, EachWorld}
use Rattle.clap.specs.declared.builder.action.ArgAction.TheVariants.{SetTrue}
use Rattle.clap.specs.declared.error.kind.ErrorKind.TheVariants.{ArgumentConflict, MissingRequiredArgument, ValueValidation}
use Rattle.clap.specs.declared.builder.value_parser.ValueParser.TheVariants.{Unsigned}

-- an option with a value
abbrev pub valued_rule : Text → Rule
valued_rule name = record (new_rule name) { long = Some name; value_names = 1 }

-- and its text where it is left out
abbrev pub option_rule : Text → Text → Rule
option_rule name default = record (valued_rule name) { defaults = default ∷ [] }

-- a number from least to most
abbrev pub within : Rule → ℕ → ℕ → Rule
within rule least most = record rule { parser = Some (Unsigned least most) }

abbrev pub number_rule : Text → Text → ℕ → ℕ → Rule
number_rule name default least most = within (option_rule name default) least most

-- an option without a value
abbrev pub flag_rule : Text → Rule
flag_rule name = record (new_rule name) { long = Some name; action = Some SetTrue }

-- the program's text: -e with a value
abbrev pub text_rule : Rule
text_rule = record (new_rule (codes "e")) { short = Some 101; value_names = 1 }

-- the program: its text, or its file
abbrev pub with_program : App → App
with_program app = with_rule (with_rule app text_rule) (new_rule (codes "FILE"))

-- the numbers of memory and threads
abbrev pub with_sizes : App → App
with_sizes app = with_rule (with_rule app (option_rule (codes "space") (codes "65536")))
    (number_rule (codes "workers") (codes "4") 1 32)

-- the numbers of steps, and those of bytes and entries
abbrev pub with_limits : App → App
with_limits app = with_rule
    (with_rule (with_rule (with_rule app (number_rule (codes "quantum") (codes "100") 1 65535))
    (option_rule (codes "steps") (codes "1000000000"))) (valued_rule (codes "output")))
    (valued_rule (codes "entries"))

abbrev pub with_flags : App → App
with_flags app = with_rule
    (with_rule (with_rule (with_rule app (flag_rule (codes "plain"))) (flag_rule (codes "stats")))
    (flag_rule (codes "stream"))) (flag_rule (codes "where"))

-- which runs are explored, and the bounds of all orders
abbrev pub with_explored : App → App
with_explored app = with_rule
    (with_rule (with_rule (with_rule app (valued_rule (codes "explore"))) (valued_rule (codes "cuts")))
    (valued_rule (codes "runs"))) (valued_rule (codes "worlds"))

-- the schedules: the files that have them, what is told of one, the file of a run's picture, and
-- which schedules are explored
abbrev pub with_schedules : App → App
with_schedules app = with_explored (with_rule (with_rule
    (with_rule (with_rule app (valued_rule (codes "record"))) (valued_rule (codes "replay")))
    (valued_rule (codes "at"))) (valued_rule (codes "timeline")))

abbrev pub nameless : App → App
nameless app = record app { top = record app.top { no_binary_name = true } }

-- it answers for its version
abbrev pub versioned : App → App
versioned app = record app { top = record app.top { has_version = true } }

-- the whole: its words come without the program's name
abbrev pub command_line : App
command_line = with_schedules (with_flags
    (with_limits (with_sizes (with_program (nameless (versioned (new_app (codes "dpsrun"))))))))

-- the first text of an option in such words, such as the name of a schedule's file
abbrev pub named_in : Text → List Text → Option Text
named_in name words = first_of name (matches_of command_line words)

-- whether a flag stands in such words, by its first text
abbrev pub is_set : Option Text → Bool
is_set None = false
is_set (Some text) = bytes_eq text (codes "true")

-- what says how a run is made, or records it
abbrev pub makes_otherwise : (given : Text → Option Text) → Bool
makes_otherwise given = is_set (given (codes "plain")) || is_some (given (codes "record"))
    || is_some (given (codes "explore")) || is_some (given (codes "entries"))

-- what is told of a whole run, or bounds it
abbrev pub tells_whole : (given : Text → Option Text) → Bool
tells_whole given = is_set (given (codes "stream")) || is_set (given (codes "where"))
    || is_set (given (codes "stats")) || is_some (given (codes "output"))
    || is_some (given (codes "timeline"))

-- what a single run alone has: a stream, places, or a picture
abbrev pub tells_single : (given : Text → Option Text) → Bool
tells_single given = is_set (given (codes "stream")) || is_set (given (codes "where"))
    || is_some (given (codes "timeline"))

-- what is given beside what it can't be used with, by the first text of each option: a schedule
-- beside anything else that says how the run is made or records it; a stream, places or a picture
-- beside many runs; a state without a schedule, or beside what is told of a whole run
abbrev pub excludes : (given : Text → Option Text) → Bool
excludes given = is_some (given (codes "replay")) && makes_otherwise given
    || is_some (given (codes "explore")) && tells_single given
    || is_some (given (codes "at")) && (is_none (given (codes "replay")) || tells_whole given)

-- all orders are asked for
abbrev pub is_all : Option Text → Bool
is_all None = false
is_all (Some text) = bytes_eq text (codes "all")

-- a bound stands there without what it bounds: cuts and worlds without all orders, runs without
-- cuts; or worlds are bounded beside cuts
abbrev pub misbounds : (given : Text → Option Text) → Bool
misbounds given = is_some (given (codes "cuts")) && not (is_all (given (codes "explore")))
    || is_some (given (codes "runs")) && is_none (given (codes "cuts"))
    || is_some (given (codes "worlds"))
    && (is_some (given (codes "cuts")) || not (is_all (given (codes "explore"))))

abbrev pub is_excluded : List Text → Bool
is_excluded words =
    excludes (λ name. named_in name words) || misbounds (λ name. named_in name words)

-- a number in decimal, of any size
abbrev pub is_number : Text → Bool
is_number [] = false
is_number (first ∷ rest) = list_all is_ascii_digit (first ∷ rest)

-- a full stop and a number
abbrev pub is_extension : Text → Bool
is_extension [] = false
is_extension (byte ∷ number) = (byte == 46) && is_number number

-- a name that is another with a full stop and a number behind it: that of an ending's record
abbrev pub is_numbered : (prefix name : Text) → Bool
is_numbered prefix name = starts_with nat_eq name prefix && is_extension (drop (length prefix) name)

-- a record is written to the program's own file, as far as the names tell
abbrev pub overwrites : (recorded explored file : Option Text) → Bool
overwrites (Some name) None (Some file) = bytes_eq file name
overwrites (Some prefix) (Some count) (Some file) = is_numbered prefix file
overwrites _ _ _ = false

-- two names are the same
abbrev pub is_same : (one other : Option Text) → Bool
is_same (Some one) (Some other) = bytes_eq one other
is_same _ _ = false

-- a picture is written to the file of the program, of the record, or of the schedule to follow
abbrev pub draws_over : (given : Text → Option Text) → Bool
draws_over given = is_same (given (codes "timeline")) (given (codes "FILE"))
    || is_same (given (codes "timeline")) (given (codes "record"))
    || is_same (given (codes "timeline")) (given (codes "replay"))

abbrev pub overwrites_any : (given : Text → Option Text) → Bool
overwrites_any given =
    overwrites (given (codes "record")) (given (codes "explore")) (given (codes "FILE"))
    || draws_over given

abbrev pub is_overwritten : List Text → Bool
is_overwritten words = overwrites_any (λ name. named_in name words)

-- one program is given, by the name of its file or by its text
abbrev pub source_fault : (file text : Option Text) → Kinds
source_fault None None = MissingRequiredArgument ∷ []
source_fault (Some name) (Some text) = ArgumentConflict ∷ []
source_fault file text = []

-- where an option stands there, it has a size from least to most
abbrev pub is_sized : (least most : ℕ) → Option Text → Bool
is_sized least most None = true
is_sized least most (Some text) = is_within least most (size_of text)

-- those of such words are, by the first text of each option
abbrev pub are_sized : (given : Text → Option Text) → Bool
are_sized given = is_sized 4096 1048576 (given (codes "space"))
    && is_sized 1 4294967295 (given (codes "steps"))
    && is_sized 0 4294967295 (given (codes "output"))
    && is_sized 1 4294967295 (given (codes "entries"))
    && is_viewed (given (codes "at"))

-- so many schedules, or all orders; the bounds of these
abbrev pub are_explored : (given : Text → Option Text) → Bool
are_explored given = is_sized 0 255 (given (codes "cuts"))
    && is_sized 1 4294967295 (given (codes "runs"))
    && is_sized 1 4294967295 (given (codes "worlds"))
    && (is_all (given (codes "explore")) || is_sized 1 65535 (given (codes "explore")))

abbrev pub are_sizes : List Text → Bool
are_sizes words =
    are_sized (λ name. named_in name words) && are_explored (λ name. named_in name words)

-- the faults beside those of the rules
abbrev pub own_faults : (source : Kinds) → (sized conflicts : Bool) → Kinds
own_faults source sized conflicts =
    or_else source (if sized then (if conflicts then ArgumentConflict ∷ [] else [])
    else ValueValidation ∷ [])

-- the faults of such words: those by the rules, or that they don't name one program, or that a size
-- is none, or that one excludes another, or that the program would be written over
abbrev pub faults_in : List Text → Kinds
faults_in words = or_else (fault_of command_line words)
    (own_faults (source_fault (named_in (codes "FILE") words) (named_in (codes "e") words))
    (are_sizes words) (is_excluded words || is_overwritten words))

-- the text of a flag in such words
abbrev pub flag_in : Text → List Text → Option Text
flag_in name words = one_of name (matches_of command_line words)

-- the number of an option in such words: that of its text, where it is one of 32 bits
abbrev pub IsNumber : (name : Text) → List Text → ℕ → Type 0
IsNumber name words number =
    (text : Text) → one_of name (matches_of command_line words) ≡ Some text
    → IsNumeral 10 (without_leading_plus text)
    → digits_value 10 (without_leading_plus text) < 2 ^ 32
    → number ≡ digits_value 10 (without_leading_plus text)

-- the size of an option in such words, if it stands there
abbrev pub size_in : (name : Text) → List Text → Option ℕ
size_in name words = option_and_then size_of (named_in name words)

-- what is to be told of a run in place of what it prints, if anything is
abbrev pub view_asked : List Text → Option View
view_asked words = option_and_then view_in (named_in (codes "at") words)

-- the numbers of a run
pub record Numbers : Type 0 where
  pub space : ℕ
  pub workers : ℕ
  pub quantum : ℕ
  pub steps : ℕ

-- each is that of its option
pub record AreNumbers (words : List Text) (numbers : Numbers) : Type 0 where
  pub space : numbers.space ≡ unwrap_or (size_in (codes "space") words) 65536
  pub workers : IsNumber (codes "workers") words numbers.workers
  pub quantum : IsNumber (codes "quantum") words numbers.quantum
  pub steps : numbers.steps ≡ unwrap_or (size_in (codes "steps") words) 1000000000

-- all orders: with so many cuts, where they are bounded, in at most a million runs; else by at most
-- 100,000 worlds
abbrev pub all_orders : (cuts runs worlds : Option ℕ) → Exploration
all_orders (Some most) runs worlds =
    EachOrder (record { cuts = most; runs = unwrap_or runs 1000000 })
all_orders None runs worlds = EachWorld (unwrap_or worlds 100000)

-- which runs are made, where it isn't a single one
abbrev pub exploration_of : (given : Text → Option Text) → Option Exploration
exploration_of given = if is_all (given (codes "explore"))
    then Some (all_orders (option_and_then size_of (given (codes "cuts")))
    (option_and_then size_of (given (codes "runs")))
    (option_and_then size_of (given (codes "worlds"))))
    else option_map ByChance (option_and_then size_of (given (codes "explore")))

-- by such words
abbrev pub exploration_in : List Text → Option Exploration
exploration_in words = exploration_of (λ name. named_in name words)

-- the numbers of it are in their ranges
abbrev pub IsExploration : Exploration → Type 0
IsExploration (ByChance runs) = (1 ≤ runs) × (runs ≤ 65535)
IsExploration (EachOrder bounds) = (bounds.cuts ≤ 255) × (1 ≤ bounds.runs)
IsExploration (EachWorld most) = 1 ≤ most

-- whether a flag stands in such words, by its text
pub record IsFlag (name : Text) (words : List Text) (truth : Bool) : Type 0 where
  pub set : flag_in name words ≡ Some (codes "true") → truth ≡ true
  pub unset : flag_in name words ≡ Some (codes "false") → truth ≡ false
