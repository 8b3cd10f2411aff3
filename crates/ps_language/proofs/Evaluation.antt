-- What a run of a program computes with: under 'unfolding evaluation' the world of a program is
-- computed.
use Rattle.std.specs.Prelude.{ℕ}
use Rattle.std.specs.Fmt.{digits}
use Rattle.ps_language.specs.Access
use Rattle.ps_language.specs.Bytes
use Rattle.ps_language.specs.Contexts
use Rattle.ps_language.specs.Control
use Rattle.ps_language.specs.Dictionaries
use Rattle.ps_language.specs.Equality
use Rattle.ps_language.specs.Live
use Rattle.ps_language.specs.Locks
use Rattle.ps_language.specs.Machines
use Rattle.ps_language.specs.Owners
use Rattle.ps_language.specs.Readers
use Rattle.ps_language.specs.Reading
use Rattle.ps_language.specs.RowsArithmetic
use Rattle.ps_language.specs.RowsRelations
use Rattle.ps_language.specs.RowsSequences
use Rattle.ps_language.specs.Scan
use Rattle.ps_language.specs.Schedules
use Rattle.ps_language.specs.Step
use Rattle.ps_language.specs.StepBind
use Rattle.ps_language.specs.StepErrors
use Rattle.ps_language.specs.StepFrames
use Rattle.ps_language.specs.StepTokens
use Rattle.ps_language.specs.StepValues
use Rattle.ps_language.specs.Texts
use Rattle.ps_language.specs.Worlds

unfoldable pub evaluation : ℕ
unfolding digits Access.elements Access.bytes Access.dictionary_at Access.with_elements
    Access.with_bytes Access.with_dictionary Access.splice Access.access_of Access.may_read_text
    Bytes.value_in Contexts.context_at Contexts.with_context Contexts.count_not_ended
    Contexts.named_context Control.frames_fit Control.as_procedure Control.as_boolean
    Dictionaries.form Dictionaries.texts_of_key Dictionaries.fits_key Equality.same_key
    Equality.key_of Live.roots Live.words_reached Live.asked_words Live.asked_births Locks.retried
    Locks.is_ready Owners.as_lock Owners.as_condition Owners.owner_of Owners.with_owner
    Readers.as_integer Readers.as_array Readers.as_string Readers.as_dictionary Readers.is_mark
    Readers.is_null Readers.is_full Reading.with_front Reading.with_first Reading.token_count
    Reading.sized_name Reading.sized_string Reading.string_reading Reading.sized_procedure Reading.fits_integer
    Reading.as_signed Reading.word_reading Reading.pairs RowsArithmetic.combination
    RowsArithmetic.negation RowsRelations.comparison RowsSequences.length_of
    RowsSequences.as_sequence RowsSequences.as_pair RowsSequences.with_contents Scan.leading
    Scan.beyond Scan.behind_blank Scan.is_signed Scan.unsigned Scan.is_negative Scan.signed_value
    Scan.are_digits Scan.is_exponent Scan.is_real_tail Scan.are_radix_digits Scan.word_by
    Scan.word_of Scan.after_return Scan.octal_front Scan.octal_rest Scan.escape_of Scan.escape_front
    Scan.escape_rest Scan.mark_of Scan.string_close Scan.string_escape Scan.string_step
    Scan.string_body Scan.hex_reading Scan.start_of Scan.after_hex_start Scan.after_angle
    Scan.after_slash Scan.simple_by Scan.then_elements Scan.elements_step Scan.elements_by
    Scan.token_here Scan.as_scan Scan.text_scan Scan.scan Machines.settled Machines.own_step
    Step.stepped Step.step StepBind.bind_step StepErrors.with_entry StepErrors.with_error
    StepErrors.has_new_error StepErrors.error_line StepFrames.frame_turn StepFrames.unwound_turn
    StepTokens.token_done StepValues.operated StepValues.looked_up StepValues.is_executable_name
    StepValues.is_procedure StepValues.executed StepValues.done Texts.plain_text Texts.full_text
    Worlds.system_pairs Worlds.first_names Worlds.starting_world
    Schedules.moves Schedules.count_of Worlds.after_moves Worlds.world Worlds.printed
    Worlds.IsProper Worlds.is_all_over Worlds.is_some_ready
evaluation = 0
