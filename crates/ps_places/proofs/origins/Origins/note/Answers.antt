-- What is added lies behind the others.
use Rattle.ps_places.proofs.Rising.{rising_if}
use Rattle.ps_places.proofs.origins.Origins.note.Goals as goal

pub invariant_of-self : goal.invariant_of-self
invariant_of-self c =
    rw c.push.ensures.items
    (rising_if _ c.self.inside.list.items c.args.origin c.self.invariant
    (rw (← c.as_slice.ensures.value) (c.is_behind.ensures.0 c.if-not-is_behind.false)))
