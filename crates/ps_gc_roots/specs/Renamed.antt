-- Contexts whose roots are renamed: each root is another word, and all else stays.
use Rattle.std.specs.Prelude.{◌≡◌, ℕ, List, ◌++◌, Option, map, option_map}
use Rattle.ps_word.specs.declared.words.Word.{Word}
use Rattle.ps_word.specs.declared.values.Part.{Part}
use Rattle.ps_word.specs.declared.values.Content.{Content}
use Rattle.ps_word.specs.declared.values.Content.TheVariants.{Array, Text, Dictionary, Lock}
use Rattle.ps_word.specs.declared.values.Content.TheVariants.{Condition}
use Rattle.ps_word.specs.Format.{address_in}
use Rattle.ps_mem.specs.Heap.{Heap, Grants}
use Rattle.ps_core_laws.specs.Moves.{Forwarding, moved_word}
use Rattle.ps_ops_control.specs.declared.frames.Source.{Source}
use Rattle.ps_ops_control.specs.declared.frames.Source.TheVariants.{Program, Text as TextOf}
use Rattle.ps_ops_control.specs.declared.frames.Frame.{Frame}
use Rattle.ps_ops_control.specs.declared.frames.Frame.TheVariants as frames
use Rattle.ps_ops_state.specs.declared.lent.Context.{Context}
use Rattle.ps_ctx_table.specs.declared.members.Course.{Course}
use Rattle.ps_ctx_table.specs.declared.members.Course.TheVariants.{Running, Unwinding, Again}
use Rattle.ps_ctx_table.specs.declared.members.Course.TheVariants.{Waiting, Retaking, Finished}
use Rattle.ps_ctx_table.specs.declared.members.Member.{Member}
use Rattle.ps_ctx_table.specs.Desks.{Desk}
use Rattle.ps_gc_roots.specs.Roots.{literal}

-- what a root becomes
abbrev pub Renaming : Type 0
Renaming = Word → Word

-- words begin with what these become
abbrev pub BeginWith : Renaming → (before words : List Word) → Type 0
BeginWith rename before words = (rest : List Word) × (words ≡ map rename before ++ rest)

-- the address in the word that a content's literal word becomes
abbrev pub renamed_address : Renaming → Content → ℕ
renamed_address rename content = address_in (rename (literal content)).0

-- a part of an array, and of a string
abbrev pub renamed_array : Renaming → Part → Part
renamed_array rename part = record part { address = renamed_address rename (Array part) }

abbrev pub renamed_text : Renaming → Part → Part
renamed_text rename part = record part { address = renamed_address rename (Text part) }

abbrev pub renamed_source : Renaming → Source → Source
renamed_source rename Program = Program
renamed_source rename (TextOf part) = TextOf (renamed_text rename part)

abbrev pub renamed_frame : Renaming → Frame → Frame
renamed_frame rename (frames.Text source at) = frames.Text (renamed_source rename source) at
renamed_frame rename (frames.Procedure rest) = frames.Procedure (renamed_array rename rest)
renamed_frame rename (frames.Pending word) = frames.Pending (rename word)
renamed_frame rename (frames.Repeat count body) = frames.Repeat count (renamed_array rename body)
renamed_frame rename (frames.Loop body) = frames.Loop (renamed_array rename body)
renamed_frame rename (frames.For control increment limit body) =
    frames.For control increment limit (renamed_array rename body)
renamed_frame rename (frames.Forall over at body) =
    frames.Forall (rename over) at (renamed_array rename body)
renamed_frame rename frames.Stopped = frames.Stopped
renamed_frame rename (frames.Monitor lock) = frames.Monitor (renamed_address rename (Lock lock))
renamed_frame rename (frames.Bind over at depth) =
    frames.Bind (renamed_array rename over) at depth

abbrev pub renamed_course : Renaming → Course → Course
renamed_course rename Running = Running
renamed_course rename (Unwinding cause) = Unwinding cause
renamed_course rename Again = Again
renamed_course rename (Waiting lock condition) =
    Waiting (renamed_address rename (Lock lock)) (renamed_address rename (Condition condition))
renamed_course rename (Retaking lock) = Retaking (renamed_address rename (Lock lock))
renamed_course rename Finished = Finished

abbrev pub renamed_context : Renaming → Context → Context
renamed_context rename context = record {
  operands = map rename context.operands;
  dictionaries = map rename context.dictionaries;
  frames = map (renamed_frame rename) context.frames;
  error_dictionary = renamed_address rename (Dictionary context.error_dictionary);
}

abbrev pub renamed_member : Renaming → Member → Member
renamed_member rename member = record member {
  context = renamed_context rename member.context;
  course = renamed_course rename member.course;
}

abbrev pub renamed_members : Renaming → List (Option Member) → List (Option Member)
renamed_members rename members = map (option_map (renamed_member rename)) members

-- ---- after a move

-- all contexts over the memory as it is now, with the roots led to the replicas
abbrev pub moved_desk : Desk → (now : Heap) → Grants → Forwarding → Desk
moved_desk d now grants forward = record d {
  heap = now;
  grants = grants;
  members = renamed_members (moved_word forward) d.members;
}
