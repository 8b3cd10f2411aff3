-- The place among the buffers is that among the texts.
use Rattle.std.proofs.Common.{Some, None, sym}
use Rattle.ps_names.proofs.Places.{place_of_buffer, stands_at}
use Rattle.ps_names.proofs.names.Names.search.Goals as goal

pub returns-in_err-place-clause-place : goal.returns-in_err-place-clause-place
returns-in_err-place-clause-place c =
    rw c.from_residual.ensures
    (place_of_buffer c.self.inside.texts.keys c.args.self.now c.args.text.now c.self.view_is None
    c.in_err-place.ensures.index)

pub returns-clause-place : goal.returns-clause-place
returns-clause-place c =
    place_of_buffer c.self.inside.texts.keys c.args.self.now c.args.text.now c.self.view_is
    (Some c.in_ok-place.place) c.in_ok-place.ensures.index

pub returns-clause-stands : goal.returns-clause-stands
returns-clause-stands c =
    let place = place_of_buffer c.self.inside.texts.keys c.args.self.now c.args.text.now c.self.view_is
    (Some c.in_ok-place.place) c.in_ok-place.ensures.index in
    stands_at c.args.text.now c.args.self.now c.in_ok-place.place (sym place)
