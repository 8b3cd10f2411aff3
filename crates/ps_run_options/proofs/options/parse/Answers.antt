use Rattle.std.proofs.Common.{◌≡◌, ◌<◌, ◌^◌, ℕ, ap, sym, subst, ◌∙◌, refl, codes, rules, true, true≢false, map, List, [], ◌∷◌, Bool, false, Option, Some, None, is_ok, is_some, inl, inr}
use Rattle.std.specs.Prelude.{◌&&◌, ◌||◌, is_none, option_and_then, option_map, unwrap_or, Result, Err}
use Rattle.std.specs.Str.Parse.{IsNumeral, ParsesUnsigned, ExplainsUnsignedError, HasUnsignedDigitsIfOk, digits_value, without_leading_plus}
use Rattle.std.specs.Borrow.{Bor}
use Rattle.clap.specs.Words.{App, Text, app_of, fault_of, found_of, first_value, first_of, one_text, one_of, is_simple, is_simple_and_free, matches_of, rows_of, HasKind, HasMatchesOf, Kinds, ReadsOne}
use Rattle.clap.specs.Kinds.{or_else}
use Rattle.clap.specs.declared.error.Error.{Error}
use Rattle.clap.specs.declared.builder.command.Command.{Command}
use Rattle.clap.specs.declared.parser.matches.ArgMatches.{ArgMatches}
use Rattle.clap.proofs.OnLiterals.{clap_on_literals}
use Rattle.clap.proofs.WalkLemmas.{first_value-rows, one_text-rows}
use Rattle.ps_run_options.specs.CommandLine.{are_explored, are_sized, are_sizes, exploration_of, misbounds, command_line, faults_in, flag_in, excludes, is_excluded, named_in, overwrites_any, is_overwritten, own_faults, source_fault, tells_whole}
use Rattle.ps_run_options.specs.Sizes.{size_of}
use Rattle.ps_run_options.specs.Views.{view_in}
use Rattle.ps_run_options.specs.declared.views.View.{View}
use Rattle.ps_run_options.proofs.options.parse.Goals as goal

-- the command line is one whose matches and faults the rules decide
line_is_free : is_simple_and_free command_line ≡ true
unfolding clap_on_literals
line_is_free = refl

line_is_simple : is_simple command_line ≡ true
unfolding clap_on_literals
line_is_simple = refl

-- a kind of the first faults is one of both, and where those are none, the others are left
has_first : (first next : Kinds) (error : Error) → HasKind first error
    → HasKind (or_else first next) error
has_first first next error (inl memory) = inl memory
has_first [] next error (inr among) = absurd among
has_first (kind ∷ kinds) next error (inr among) = inr among

no_first : (first next : Kinds) → first ≡ [] → or_else first next ≡ next
no_first first next none = ap (λ kinds. or_else kinds next) none

pub returns-in_err-matches-clause-fault : goal.returns-in_err-matches-clause-fault
returns-in_err-matches-clause-fault c =
    let made : app_of c.in_ok-line.line ≡ command_line = c.in_ok-line.ensures in
    let words : List Text = map {A = Bor Text} {B = Text} (λ (word : Bor Text). word.now)
    c.args.words.now in
    let same : c.from_residual-in_err-matches.result ≡ Err c.in_err-matches.field-0.0 =
    search rules in
    rw same (has_first (fault_of command_line words) _ c.in_err-matches.field-0.0
    (subst (λ (app : App). HasKind (fault_of app words) c.in_err-matches.field-0.0) made
    (c.in_err-matches.ensures.kinds (ap is_simple_and_free made ∙ line_is_free))))

-- the rules have no fault of words that were taken
no_fault : (made : Command) (words : List Text) → app_of made ≡ command_line
    → (is_simple_and_free (app_of made) ≡ true → fault_of (app_of made) words ≡ [])
    → fault_of command_line words ≡ []
no_fault made words is none = ap (λ (app : App). fault_of app words) (sym is)
    ∙ none (ap is_simple_and_free is ∙ line_is_free)

-- the rows of the matches are those of the rules
rows_are : (made : Command) (words : List Text) (m : ArgMatches) → app_of made ≡ command_line
    → HasMatchesOf (app_of made) words m
    → rows_of (found_of m) ≡ matches_of command_line words
rows_are made words m is has = (has (ap is_simple is ∙ line_is_simple)).0
    ∙ ap (λ (app : App). matches_of app words) is

-- and so are the first text of a name, and the text that a flag has
name_is : (made : Command) (words : List Text) (m : ArgMatches) (id : Text)
    → app_of made ≡ command_line → HasMatchesOf (app_of made) words m
    → first_value (found_of m) id ≡ first_of id (matches_of command_line words)
name_is made words m id is has = first_value-rows (found_of m) id
    ∙ ap (first_of id) (rows_are made words m is has)

flag_is : (made : Command) (words : List Text) (m : ArgMatches) (id : Text)
    → app_of made ≡ command_line → HasMatchesOf (app_of made) words m
    → one_text (found_of m) id ≡ flag_in id words
flag_is made words m id is has = one_text-rows (found_of m) id
    ∙ ap (one_of id) (rows_are made words m is has)

-- whether one thing excludes another, or wants one that isn't there
excluded_is : (made : Command) (words : List Text) (m : ArgMatches) → app_of made ≡ command_line
    → HasMatchesOf (app_of made) words m
    → excludes (first_value (found_of m)) || misbounds (first_value (found_of m)) ≡ is_excluded words
excluded_is made words m is has =
    λ i. excludes (λ name. name_is made words m name is has i)
    || misbounds (λ name. name_is made words m name is has i)

-- whether a file is written over another that is named
overwritten_is : (made : Command) (words : List Text) (m : ArgMatches)
    → app_of made ≡ command_line → HasMatchesOf (app_of made) words m
    → overwrites_any (first_value (found_of m)) ≡ is_overwritten words
overwritten_is made words m is has =
    λ i. overwrites_any (λ name. name_is made words m name is has i)

-- whether one program is named
source_is : (made : Command) (words : List Text) (m : ArgMatches) → app_of made ≡ command_line
    → HasMatchesOf (app_of made) words m
    → source_fault (first_value (found_of m) (codes "FILE")) (first_value (found_of m) (codes "e"))
    ≡ source_fault (named_in (codes "FILE") words) (named_in (codes "e") words)
source_is made words m is has =
    let file = name_is made words m (codes "FILE") is has in
    let text = name_is made words m (codes "e") is has in
    λ i. source_fault (file i) (text i)

-- whether the sizes are in their ranges
sizes_are : (made : Command) (words : List Text) (m : ArgMatches) → app_of made ≡ command_line
    → HasMatchesOf (app_of made) words m
    → are_sized (first_value (found_of m)) && are_explored (first_value (found_of m))
    ≡ are_sizes words
sizes_are made words m is has =
    λ i. are_sized (λ name. name_is made words m name is has i)
    && are_explored (λ name. name_is made words m name is has i)

or_true : (b : Bool) → (b || true) ≡ true
or_true true = refl
or_true false = refl

-- words that the rules take have the others alone
faults_are : (made : Command) (words : List Text) (source : Kinds) (sized excluded overwritten : Bool)
    → app_of made ≡ command_line
    → (is_simple_and_free (app_of made) ≡ true → fault_of (app_of made) words ≡ [])
    → source_fault (named_in (codes "FILE") words) (named_in (codes "e") words) ≡ source
    → are_sizes words ≡ sized → is_excluded words ≡ excluded → is_overwritten words ≡ overwritten
    → faults_in words ≡ own_faults source sized (excluded || overwritten)
faults_are made words source sized excluded overwritten is none given are one two =
    no_first (fault_of command_line words) (own_faults (source_fault (named_in (codes "FILE") words)
    (named_in (codes "e") words)) (are_sizes words) (is_excluded words || is_overwritten words))
    (no_fault made words is none)
    ∙ (λ i. own_faults (given i) (are i) (one i || two i))

pub returns-in-Err-clause-fault : goal.returns-in-Err-clause-fault
returns-in-Err-clause-fault c =
    let words : List Text = map {A = Bor Text} {B = Text} (λ (word : Bor Text). word.now)
    c.args.words.now in
    let told = sym (source_is c.in_ok-line.line words c.in_ok-matches.matches c.in_ok-line.ensures
    c.in_ok-matches.ensures.ok.2) ∙ c.in-Err.ensures.fault in
    let faults = faults_are c.in_ok-line.line words _ _ _ _ c.in_ok-line.ensures
    c.in_ok-matches.ensures.kinds told refl refl refl in
    subst (λ (kinds : Kinds). HasKind kinds c.in_ok-error-in-Err.field-0) (sym faults)
    (inr (inl c.in_ok-error-in-Err.ensures.kind))

-- sizes that fail are one fault
pub returns-in-Err-sizes_of-clause-fault : goal.returns-in-Err-sizes_of-clause-fault
returns-in-Err-sizes_of-clause-fault c =
    let words : List Text = map {A = Bor Text} {B = Text} (λ (word : Bor Text). word.now)
    c.args.words.now in
    let given = sym (source_is c.in_ok-line.line words c.in_ok-matches.matches c.in_ok-line.ensures
    c.in_ok-matches.ensures.ok.2) ∙ c.in-Ok.ensures.one in
    let bad : is_ok c.sizes_of.result ≡ false = search rules in
    let told = sym (sizes_are c.in_ok-line.line words c.in_ok-matches.matches c.in_ok-line.ensures
    c.in_ok-matches.ensures.ok.2) ∙ sym c.sizes_of.ensures.are ∙ bad in
    let faults = faults_are c.in_ok-line.line words _ _ _ _ c.in_ok-line.ensures
    c.in_ok-matches.ensures.kinds given told refl refl in
    subst (λ (kinds : Kinds). HasKind kinds c.in_ok-bad_size-in-Err-sizes_of.field-0) (sym faults)
    (inr (inl c.in_ok-bad_size-in-Err-sizes_of.ensures))

-- words that name one program by the matches, with sizes in their ranges
sized_faults : (made : Command) (words : List Text) (m : ArgMatches) (excluded overwritten : Bool)
    → app_of made ≡ command_line
    → (is_simple_and_free (app_of made) ≡ true → fault_of (app_of made) words ≡ [])
    → HasMatchesOf (app_of made) words m
    → source_fault (first_value (found_of m) (codes "FILE")) (first_value (found_of m) (codes "e"))
    ≡ []
    → are_sized (first_value (found_of m)) && are_explored (first_value (found_of m)) ≡ true
    → is_excluded words ≡ excluded → is_overwritten words ≡ overwritten
    → faults_in words ≡ own_faults [] true (excluded || overwritten)
sized_faults made words m excluded overwritten is none has one sized =
    faults_are made words [] true excluded overwritten is none
    (sym (source_is made words m is has) ∙ one) (sym (sizes_are made words m is has) ∙ sized)

pub returns-in-Some-clause-fault : goal.returns-in-Some-clause-fault
returns-in-Some-clause-fault c =
    let words : List Text = map {A = Bor Text} {B = Text} (λ (word : Bor Text). word.now)
    c.args.words.now in
    let sized : is_ok c.sizes_of.result ≡ true = search rules in
    let told : is_excluded words ≡ true =
    sym (excluded_is c.in_ok-line.line words c.in_ok-matches.matches c.in_ok-line.ensures
    c.in_ok-matches.ensures.ok.2) ∙ sym c.misused.ensures ∙ ap is_some c.in-Some.is in
    let faults = sized_faults c.in_ok-line.line words c.in_ok-matches.matches true
    (is_overwritten words) c.in_ok-line.ensures c.in_ok-matches.ensures.kinds
    c.in_ok-matches.ensures.ok.2 c.in-Ok.ensures.one (sym c.sizes_of.ensures.are ∙ sized) told refl in
    subst (λ (kinds : Kinds). HasKind kinds c.in_ok-error.field-0) (sym faults)
    (inr (inl c.in_ok-error.ensures.kind))

pub returns-in-Some-overwritten_in-clause-fault : goal.returns-in-Some-overwritten_in-clause-fault
returns-in-Some-overwritten_in-clause-fault c =
    let words : List Text = map {A = Bor Text} {B = Text} (λ (word : Bor Text). word.now)
    c.args.words.now in
    let sized : is_ok c.sizes_of.result ≡ true = search rules in
    let told : is_overwritten words ≡ true =
    sym (overwritten_is c.in_ok-line.line words c.in_ok-matches.matches c.in_ok-line.ensures
    c.in_ok-matches.ensures.ok.2) ∙ sym c.overwritten_in.ensures
    ∙ ap is_some c.in-Some-overwritten_in.is in
    let faults = sized_faults c.in_ok-line.line words c.in_ok-matches.matches (is_excluded words)
    true c.in_ok-line.ensures c.in_ok-matches.ensures.kinds c.in_ok-matches.ensures.ok.2
    c.in-Ok.ensures.one (sym c.sizes_of.ensures.are ∙ sized) refl told
    ∙ ap (own_faults [] true) (or_true (is_excluded words)) in
    subst (λ (kinds : Kinds). HasKind kinds c.in_ok-error-2.field-0) (sym faults)
    (inr (inl c.in_ok-error-2.ensures.kind))

pub returns-clause-fault : goal.returns-clause-fault
returns-clause-fault c =
    let words : List Text = map {A = Bor Text} {B = Text} (λ (word : Bor Text). word.now)
    c.args.words.now in
    let sized : is_ok c.sizes_of.result ≡ true = search rules in
    let none : c.misused.result ≡ None = search rules in
    let alone : c.overwritten_in.result ≡ None = search rules in
    let free : is_excluded words ≡ false =
    sym (excluded_is c.in_ok-line.line words c.in_ok-matches.matches c.in_ok-line.ensures
    c.in_ok-matches.ensures.ok.2) ∙ sym c.misused.ensures ∙ ap is_some none in
    let apart : is_overwritten words ≡ false =
    sym (overwritten_is c.in_ok-line.line words c.in_ok-matches.matches c.in_ok-line.ensures
    c.in_ok-matches.ensures.ok.2) ∙ sym c.overwritten_in.ensures ∙ ap is_some alone in
    sized_faults c.in_ok-line.line words c.in_ok-matches.matches false false c.in_ok-line.ensures
    c.in_ok-matches.ensures.kinds c.in_ok-matches.ensures.ok.2 c.in-Ok.ensures.one
    (sym c.sizes_of.ensures.are ∙ sized) free apart

pub returns-clause-record_file : goal.returns-clause-record_file
returns-clause-record_file c = c.get_str.ensures
    ∙ name_is _ _ _ (codes "record") c.in_ok-line.ensures c.in_ok-matches.ensures.ok.2

pub returns-clause-replay_file : goal.returns-clause-replay_file
returns-clause-replay_file c = c.get_str-2.ensures
    ∙ name_is _ _ _ (codes "replay") c.in_ok-line.ensures c.in_ok-matches.ensures.ok.2

pub returns-clause-timeline_file : goal.returns-clause-timeline_file
returns-clause-timeline_file c = c.get_str-3.ensures
    ∙ name_is _ _ _ (codes "timeline") c.in_ok-line.ensures c.in_ok-matches.ensures.ok.2

pub returns-clause-file : goal.returns-clause-file
returns-clause-file c = c.in-Ok.ensures.file
    ∙ name_is _ _ _ (codes "FILE") c.in_ok-line.ensures c.in_ok-matches.ensures.ok.2

pub returns-clause-text : goal.returns-clause-text
returns-clause-text c = c.in-Ok.ensures.text
    ∙ name_is _ _ _ (codes "e") c.in_ok-line.ensures c.in_ok-matches.ensures.ok.2

-- the sizes
pub returns-clause-output : goal.returns-clause-output
returns-clause-output c = c.in-Ok-sizes_of.ensures.output
    ∙ ap (option_and_then size_of) (name_is _ _ _ (codes "output") c.in_ok-line.ensures
    c.in_ok-matches.ensures.ok.2)

pub returns-clause-entries : goal.returns-clause-entries
returns-clause-entries c = c.in-Ok-sizes_of.ensures.entries
    ∙ ap (option_and_then size_of) (name_is _ _ _ (codes "entries") c.in_ok-line.ensures
    c.in_ok-matches.ensures.ok.2)

pub returns-clause-at : goal.returns-clause-at
returns-clause-at c = c.in-Ok-sizes_of.ensures.at
    ∙ ap (option_and_then view_in) (name_is _ _ _ (codes "at") c.in_ok-line.ensures
    c.in_ok-matches.ensures.ok.2)

pub returns-clause-stats : goal.returns-clause-stats
returns-clause-stats c =
    let is = flag_is _ _ _ (codes "stats") c.in_ok-line.ensures c.in_ok-matches.ensures.ok.2 in
    record {
      set = λ told. c.get_flag.ensures.value (is ∙ told);
      unset = λ told. c.get_flag.ensures.other (is ∙ told);
    }

pub returns-clause-plain : goal.returns-clause-plain
returns-clause-plain c =
    let is = flag_is _ _ _ (codes "plain") c.in_ok-line.ensures c.in_ok-matches.ensures.ok.2 in
    record {
      set = λ told. c.get_flag-2.ensures.value (is ∙ told);
      unset = λ told. c.get_flag-2.ensures.other (is ∙ told);
    }

pub returns-clause-stream : goal.returns-clause-stream
returns-clause-stream c =
    let is = flag_is _ _ _ (codes "stream") c.in_ok-line.ensures c.in_ok-matches.ensures.ok.2 in
    record {
      set = λ told. c.get_flag-3.ensures.value (is ∙ told);
      unset = λ told. c.get_flag-3.ensures.other (is ∙ told);
    }

pub returns-clause-places : goal.returns-clause-places
returns-clause-places c =
    let is = flag_is _ _ _ (codes "where") c.in_ok-line.ensures c.in_ok-matches.ensures.ok.2 in
    record {
      set = λ told. c.get_flag-4.ensures.value (is ∙ told);
      unset = λ told. c.get_flag-4.ensures.other (is ∙ told);
    }

-- a number of 32 bits that was read of its text is that of the text
number_read : {E : Type 0} (A B : Text → Result ℕ E → Type 0) (text : Text) (found : Option ℕ)
    (other : ℕ)
    → ReadsOne (λ t r. ParsesUnsigned 32 10 t r × A t r × B t r) text found
    → IsNumeral 10 (without_leading_plus text)
    → digits_value 10 (without_leading_plus text) < 2 ^ 32
    → unwrap_or found other ≡ digits_value 10 (without_leading_plus text)
number_read A B text (Some number) other reads numeral small = reads.0.1
number_read A B text None other reads numeral small = absurd (reads.1.0 (numeral, small))

pub returns-clause-numbers : goal.returns-clause-numbers
returns-clause-numbers c =
    let made = c.in_ok-line.ensures in
    let found = c.in_ok-matches.ensures.ok.2 in
    record {
      space = c.in-Ok-sizes_of.ensures.space
          ∙ ap (λ text. unwrap_or (option_and_then size_of text) 65536)
          (name_is _ _ _ (codes "space") made found);
      workers = λ text is numeral small. c.unwrap_or.ensures
          ∙ number_read (λ t r. ExplainsUnsignedError 10 t r) (λ t r. HasUnsignedDigitsIfOk t r)
          text c.get_one.result _ (c.get_one.ensures.value text
          (flag_is _ _ _ (codes "workers") made found ∙ is)) numeral small;
      quantum = λ text is numeral small. c.unwrap_or-2.ensures
          ∙ number_read (λ t r. ExplainsUnsignedError 10 t r) (λ t r. HasUnsignedDigitsIfOk t r)
          text c.get_one-2.result _
          (c.get_one-2.ensures.value text (flag_is _ _ _ (codes "quantum") made found ∙ is)) numeral
          small;
      steps = c.in-Ok-sizes_of.ensures.steps
          ∙ ap (λ text. unwrap_or (option_and_then size_of text) 1000000000)
          (name_is _ _ _ (codes "steps") made found);
    }

pub returns-clause-explore : goal.returns-clause-explore
returns-clause-explore c = c.in-Ok-sizes_of.ensures.explore
    ∙ (λ i. exploration_of
    (λ name. name_is _ _ _ name c.in_ok-line.ensures c.in_ok-matches.ensures.ok.2 i))

-- ---- a state is that of a schedule

last_false : (a b : Bool) → (a || b) ≡ false → b ≡ false
last_false true b is = cc
last_false false b is = is

some_mapped : (name : Option (Bor Text)) → is_some (option_map (λ s. s.now) name) ≡ true
    → is_some name ≡ true
some_mapped None some = some
some_mapped (Some name) some = refl

first_false : (a b : Bool) → (a || b) ≡ false → a ≡ false
first_false true b is = cc
first_false false b is = refl

-- where nothing excludes another, a state isn't asked for without a schedule
has_schedule : (at replay : Option Text) (whole : Bool) (view : Option View)
    → (is_some at && (is_none replay || whole)) ≡ false
    → view ≡ option_and_then view_in at → is_some view ≡ true → is_some replay ≡ true
has_schedule None replay whole step free is some = absurd (true≢false (sym some ∙ ap is_some is))
has_schedule (Some text) None whole step free is some = absurd (true≢false free)
has_schedule (Some text) (Some name) whole step free is some = refl

pub returns-clause-at_given : goal.returns-clause-at_given
returns-clause-at_given c = λ some.
    let given = first_value (found_of c.in_ok-matches.matches) in
    let none : c.misused.result ≡ None = search rules in
    let free : excludes given || misbounds given ≡ false = sym c.misused.ensures ∙ ap is_some none in
    let replayed : is_some (given (codes "replay")) ≡ true =
    has_schedule (given (codes "at")) (given (codes "replay")) (tells_whole given)
    c.in-Ok-sizes_of.sizes.at (last_false _ _ (first_false _ _ free)) c.in-Ok-sizes_of.ensures.at some in
    some_mapped c.get_str-2.result (ap is_some c.get_str-2.ensures ∙ replayed)
