-- The pair is there, or the place is past the last.
use Rattle.std.proofs.Common.{◌≡◌, arith, ap, ◌∙◌}
use Rattle.std.specs.Prelude.{slice_get}
use Rattle.ps_language.specs.Access.{dictionary_at}
use Rattle.ps_mem.specs.Heap.{birth_at}
use Rattle.ps_step_frames.proofs.Placing.{known_dictionary, far_pair, no_pair, pair_pushed}
use Rattle.ps_step_frames.proofs.places.pair_at.Goals as goal

pub pair-requires-clause-known : goal.pair-requires-clause-known
pair-requires-clause-known g c =
    known_dictionary _ c.args.over c.args.address c.requires.held c.requires.dictionary

pub returns-in_default-clause-pushed : goal.returns-in_default-clause-pushed
returns-in_default-clause-pushed g c =
    far_pair _ c.args.over c.args.at c.args.address c.requires.dictionary c.requires.sound
    c.requires.held (omega (arith, c.in_default.ensures))

pub returns-in_default-pair-clause-pushed : goal.returns-in_default-pair-clause-pushed
returns-in_default-pair-clause-pushed g c =
    let same : c.in-Ok.place ≡ c.args.at = omega (arith, c.in-Ok.ensures) in
    no_pair _ c.args.over c.args.at c.args.address c.requires.dictionary
    (λ names s shows. c.in_default-pair.ensures.value names s shows
    ∙ ap (slice_get (dictionary_at s (birth_at (g.M.Memory.heap c.args.memory.now)
    c.args.address)).pairs) same)

pub returns-clause-pushed : goal.returns-clause-pushed
returns-clause-pushed g c =
    let same : c.in-Ok.place ≡ c.args.at = omega (arith, c.in-Ok.ensures) in
    pair_pushed _ c.args.over c.args.at c.args.address c.requires.dictionary c.in-Some.key
    c.in-Some.value c.in-Some.ensures.held c.in-Some.ensures.within
    (λ names s shows. c.in-Some.ensures.value names s shows
    ∙ ap (slice_get (dictionary_at s (birth_at (g.M.Memory.heap c.args.memory.now)
    c.args.address)).pairs) same)
