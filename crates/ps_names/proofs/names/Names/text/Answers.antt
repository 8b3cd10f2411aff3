-- The text at a place is that of the buffer there.
use Rattle.std.proofs.Common.{◌≡◌, [], Some, None, slice_get, ap, subst, ◌∙◌}
use Rattle.std.specs.Prelude.{unwrap_or}
use Rattle.ps_names.specs.Names.{place_of, AreNames}
use Rattle.ps_names.proofs.Places.{own_place, text_of_buffer}
use Rattle.ps_names.proofs.names.Names.text.Goals as goal

pub returns-in-Some-clause-found : goal.returns-in-Some-clause-found
returns-in-Some-clause-found c within =
    let bytes : c.as_slice.result.now ≡ unwrap_or (slice_get c.args.self.now c.args.id.0) [] =
    c.as_slice.ensures.value
    ∙ text_of_buffer c.self.inside.texts.keys c.args.self.now c.self.view_is c.args.id.0 (Some c.in-Some.text.now)
    (c.in-Some.ensures.key ∙ ap (slice_get c.self.inside.texts.keys) c.from.ensures) in
    ap (λ text. place_of text c.args.self.now) bytes
    ∙ own_place c.args.self.now c.args.id.0 (subst AreNames c.self.view_is c.self.invariant) within

pub returns-in-None-clause-bytes : goal.returns-in-None-clause-bytes
returns-in-None-clause-bytes c =
    text_of_buffer c.self.inside.texts.keys c.args.self.now c.self.view_is c.args.id.0 None (c.in-None.ensures.key
    ∙ ap (slice_get c.self.inside.texts.keys) c.from.ensures)
