use Rattle.std.proofs.Common.{ap, ◌∙◌}
use Rattle.std.specs.Option.{option_map_or}
use Rattle.ps_mem.specs.Heap.{birth_at}
use Rattle.ps_states.specs.declared.presences.Presence.TheVariants.{Gone}
use Rattle.ps_states.specs.Moments.{presence_of}
use Rattle.ps_states.proofs.presences.presence_at.Goals as goal

pub returns-in-None : goal.returns-in-None
returns-in-None g c = λ w is. ap (λ s. option_map_or presence_of s Gone) (c.in-None.ensures w is)

pub returns-in-Some : goal.returns-in-Some
returns-in-Some g c = λ w is.
    c.presence_of.ensures (birth_at (g.M.Memory.heap c.args.runtime.now.memory))
    ∙ ap (λ s. option_map_or presence_of s Gone) (c.in-Some.ensures w is)
