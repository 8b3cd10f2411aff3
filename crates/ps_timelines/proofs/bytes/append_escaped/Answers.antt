-- What stood before stays, also where a byte finds no room.
use Rattle.ps_timelines.proofs.Appended.{front_behind}
use Rattle.ps_timelines.proofs.bytes.append_escaped.Goals as goal

pub returns-in_err-append_escaped_byte-clause-front : goal.returns-in_err-append_escaped_byte-clause-front
returns-in_err-append_escaped_byte-clause-front c =
    front_behind c.args.to.now.items c.loop-byte.to.items c.append_escaped_byte.new.to.items _
    c.loop-byte.invariant c.append_escaped_byte.ensures.front
