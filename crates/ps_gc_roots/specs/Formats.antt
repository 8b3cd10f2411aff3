-- The parts and addresses of contexts that have a place in a word.
use Rattle.std.specs.Prelude.{List, Option}
use Rattle.std.specs.List.{AllByRecursion}
use Rattle.ps_word.specs.Format.{IsAddress, IsPart}
use Rattle.ps_ops_control.specs.declared.frames.Source.{Source}
use Rattle.ps_ops_control.specs.declared.frames.Source.TheVariants.{Program, Text as TextOf}
use Rattle.ps_ops_control.specs.declared.frames.Frame.{Frame}
use Rattle.ps_ops_control.specs.declared.frames.Frame.TheVariants.{Text, Procedure, Pending, Repeat}
use Rattle.ps_ops_control.specs.declared.frames.Frame.TheVariants.{Loop, For, Forall, Stopped, Monitor}
use Rattle.ps_ops_control.specs.declared.frames.Frame.TheVariants.{Bind}
use Rattle.ps_ctx_table.specs.declared.members.Course.{Course}
use Rattle.ps_ctx_table.specs.declared.members.Course.TheVariants.{Running, Unwinding, Again}
use Rattle.ps_ctx_table.specs.declared.members.Course.TheVariants.{Waiting, Retaking, Finished}
use Rattle.ps_ctx_table.specs.declared.members.Member.{Member}
use Rattle.ps_ctx_table.specs.Desks.{AllMembers}

abbrev pub IsSourceInFormat : Source → Type 0
IsSourceInFormat Program = Unit {0}
IsSourceInFormat (TextOf part) = IsPart part

abbrev pub IsFrameInFormat : Frame → Type 0
IsFrameInFormat (Text source at) = IsSourceInFormat source
IsFrameInFormat (Procedure rest) = IsPart rest
IsFrameInFormat (Pending word) = Unit {0}
IsFrameInFormat (Repeat count body) = IsPart body
IsFrameInFormat (Loop body) = IsPart body
IsFrameInFormat (For control increment limit body) = IsPart body
IsFrameInFormat (Forall over at body) = IsPart body
IsFrameInFormat Stopped = Unit {0}
IsFrameInFormat (Monitor lock) = IsAddress lock
IsFrameInFormat (Bind over at depth) = IsPart over

abbrev pub IsCourseInFormat : Course → Type 0
IsCourseInFormat Running = Unit {0}
IsCourseInFormat (Unwinding cause) = Unit {0}
IsCourseInFormat Again = Unit {0}
IsCourseInFormat (Waiting lock condition) = IsAddress lock × IsAddress condition
IsCourseInFormat (Retaking lock) = IsAddress lock
IsCourseInFormat Finished = Unit {0}

pub record IsMemberInFormat (member : Member) : Type 0 where
  pub frames : AllByRecursion IsFrameInFormat member.context.frames
  pub error_dictionary : IsAddress member.context.error_dictionary
  pub course : IsCourseInFormat member.course

-- all of each context that is left
abbrev pub AreInFormat : List (Option Member) → Type 0
AreInFormat members = AllMembers IsMemberInFormat members
