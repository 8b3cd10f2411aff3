use Rattle.std.proofs.Common.{◌≡◌, ◌∙◌, ap, sym}
use Rattle.ps_mem.specs.Heap.{Heap}
use Rattle.ps_dict.specs.Places.{pairs_at, place_of}
use Rattle.ps_dict.proofs.Probing.{ahead-none}
use Rattle.ps_dict.proofs.Reading.{position-shown}
use Rattle.ps_dict.proofs.dictionaries.position.Goals as goal

pub returns-then-capacity-eq0-clause-words : goal.returns-then-capacity-eq0-clause-words
returns-then-capacity-eq0-clause-words g c =
    let h = g.M.Memory.heap c.args.memory.now in
    sym (ahead-none h c.args.address c.requires.known c.requires.sound c.args.key
    (sym c.capacity-capacity.ensures.words ∙ c.if-capacity-eq0.true))

pub returns-then-capacity-eq0-clause-value : goal.returns-then-capacity-eq0-clause-value
returns-then-capacity-eq0-clause-value g c = λ names s shows distinct within.
    let h = g.M.Memory.heap c.args.memory.now in
    sym (ahead-none h c.args.address c.requires.known c.requires.sound c.args.key
    (sym c.capacity-capacity.ensures.words ∙ c.if-capacity-eq0.true))
    ∙ sym (position-shown h c.args.address c.requires.known c.requires.sound names s shows
    c.args.key c.requires.held distinct within)

pub returns-clause-value : goal.returns-clause-value
returns-clause-value g c = λ names s shows distinct within.
    let h = g.M.Memory.heap c.args.memory.now in
    let before : g.M.Memory.heap c.capacity-capacity.new.memory ≡ h =
    c.capacity-capacity.ensures.heap in
    c.near_position.ensures.words
    ∙ (ap (λ (k : Heap). place_of (pairs_at k c.args.address) c.args.key) before
    ∙ sym (position-shown h c.args.address c.requires.known c.requires.sound names s shows
    c.args.key c.requires.held distinct within))
