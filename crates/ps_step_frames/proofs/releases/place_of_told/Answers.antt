-- The place is that of the key.
use Rattle.std.proofs.Common.{arith, sym, ap, ◌∙◌}
use Rattle.ps_language.specs.Access.{dictionary_at}
use Rattle.ps_mem.specs.Heap.{birth_at}
use Rattle.ps_dict.specs.Places.{first_place}
use Rattle.ps_step_outcome.proofs.Breaking.{no_frames}
use Rattle.ps_step_frames.proofs.Releasing.{told_here}
use Rattle.ps_step_outcome.proofs.Noting.{named_held, named_within, named_met, newerror_first}
use Rattle.ps_step_outcome.proofs.Truths.{none_found}
use Rattle.ps_step_frames.proofs.releases.place_of_told.Goals as goal

pub position-requires-clause-held : goal.position-requires-clause-held
position-requires-clause-held g c = named_held _ _ _ c.requires.key

pub returns-in_default-clause-value : goal.returns-in_default-clause-value
returns-in_default-clause-value g c = λ names s met distinct shows.
    let births = birth_at (g.M.Memory.heap c.args.memory.now) in
    let past = c.if-len-gt0.false in
    let count = c.len.ensures.count in
    let none = no_frames c.args.frames.now (omega (arith, past, count)) in
    told_here (g.M.Memory.heap c.args.memory.now) names c.args.cause c.args.frames.now
    (dictionary_at s (births c.args.address)) c.in-Stop.is none
    ∙ none_found (dictionary_at s (births c.args.address)) (sym c.in_default.is
    ∙ (c.position.ensures.value names s shows distinct
    (named_within names met births _ _ _ c.requires.key newerror_first s)
    ∙ ap (first_place (dictionary_at s (births c.args.address)).pairs)
    (named_met names met births _ _ _ c.requires.key newerror_first)))

pub returns-then-has_new_error-clause-place : goal.returns-then-has_new_error-clause-place
returns-then-has_new_error-clause-place g c = λ names s met distinct shows.
    let births = birth_at (g.M.Memory.heap c.args.memory.now) in
    sym c.in-Some.is
    ∙ (c.position.ensures.value names s shows distinct
    (named_within names met births _ _ _ c.requires.key newerror_first s)
    ∙ ap (first_place (dictionary_at s (births c.args.address)).pairs)
    (named_met names met births _ _ _ c.requires.key newerror_first))
