-- The words by which contexts refer to a memory from outside, its roots (PLRM2, 3.4, 7.1).
use Rattle.std.specs.Prelude.{List, [], ◌∷◌, ◌++◌, Option, flat_map, false}
use Rattle.std.specs.Option.{option_map_or}
use Rattle.ps_word.specs.declared.words.Word.{Word}
use Rattle.ps_word.specs.declared.values.Content.{Content}
use Rattle.ps_word.specs.declared.values.Content.TheVariants.{Array, Text, Dictionary, Lock}
use Rattle.ps_word.specs.declared.values.Content.TheVariants.{Condition}
use Rattle.ps_word.specs.Format.{packed}
use Rattle.ps_mem.specs.Objects.{word_of}
use Rattle.ps_ops_control.specs.declared.frames.Source.{Source}
use Rattle.ps_ops_control.specs.declared.frames.Source.TheVariants.{Program, Text as TextOf}
use Rattle.ps_ops_control.specs.declared.frames.Frame.{Frame}
use Rattle.ps_ops_control.specs.declared.frames.Frame.TheVariants as frames
use Rattle.ps_ops_state.specs.declared.lent.Context.{Context}
use Rattle.ps_ctx_table.specs.declared.members.Course.{Course}
use Rattle.ps_ctx_table.specs.declared.members.Course.TheVariants.{Running, Unwinding, Again}
use Rattle.ps_ctx_table.specs.declared.members.Course.TheVariants.{Waiting, Retaking, Finished}
use Rattle.ps_ctx_table.specs.declared.members.Member.{Member}

-- the literal word of a content
unfoldable pub literal : Content → Word
literal content = word_of (packed (record { content = content; executable = false }))

abbrev pub roots_of_source : Source → List Word
roots_of_source Program = []
roots_of_source (TextOf part) = literal (Text part) ∷ []

abbrev pub roots_of_frame : Frame → List Word
roots_of_frame (frames.Text source at) = roots_of_source source
roots_of_frame (frames.Procedure rest) = literal (Array rest) ∷ []
roots_of_frame (frames.Pending word) = word ∷ []
roots_of_frame (frames.Repeat count body) = literal (Array body) ∷ []
roots_of_frame (frames.Loop body) = literal (Array body) ∷ []
roots_of_frame (frames.For control increment limit body) = literal (Array body) ∷ []
roots_of_frame (frames.Forall over at body) = over ∷ literal (Array body) ∷ []
roots_of_frame frames.Stopped = []
roots_of_frame (frames.Monitor lock) = literal (Lock lock) ∷ []
roots_of_frame (frames.Bind over at depth) = literal (Array over) ∷ []

-- what a context waits for
abbrev pub roots_of_course : Course → List Word
roots_of_course Running = []
roots_of_course (Unwinding cause) = []
roots_of_course Again = []
roots_of_course (Waiting lock condition) = literal (Lock lock) ∷ literal (Condition condition) ∷ []
roots_of_course (Retaking lock) = literal (Lock lock) ∷ []
roots_of_course Finished = []

-- of its stacks, the topmost first, and its $error
abbrev pub roots_of_context : Context → List Word
roots_of_context context = context.operands ++ (context.dictionaries
    ++ (flat_map roots_of_frame context.frames
    ++ literal (Dictionary context.error_dictionary) ∷ []))

abbrev pub roots_of_member : Member → List Word
roots_of_member member = roots_of_context member.context ++ roots_of_course member.course

-- of all that are left, by identifiers
abbrev pub roots_in : List (Option Member) → List Word
roots_in members = flat_map (λ item. option_map_or roots_of_member item []) members
