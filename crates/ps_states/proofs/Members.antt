-- What a context of a steady desk refers to, and what it has over the store of a world.
use Rattle.std.proofs.Common.{length}
use Rattle.ps_language.specs.Value.{Store}
use Rattle.ps_ops_state.specs.Lent.{IsShown}
use Rattle.ps_ctx_table.specs.declared.members.Member.{Member}
use Rattle.ps_ctx_table.specs.Desks.{Desk, lent_to, IsGoodMember}
use Rattle.ps_states.specs.Held.{IsMemberHeld, IsMemberShown}

pub held_of : (d : Desk) (member : Member) → IsGoodMember d member → IsMemberHeld d.heap member
held_of d member good = record {
  operands = good.good.operands;
  dictionaries = good.good.dictionaries;
  size = length d.program;
  frames = good.good.frames;
  course = good.course;
}

pub shown_of : (d : Desk) (s : Store) (member : Member) → IsShown (lent_to d member.context) s
    → IsMemberShown d.heap d.names s member
shown_of d s member shown =
    record { shows = shown.shows; operands = shown.operands; frames = shown.frames }
