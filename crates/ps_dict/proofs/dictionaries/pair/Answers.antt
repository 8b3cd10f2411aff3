use Rattle.std.proofs.Common.{◌≡◌, ◌<◌, ◌+◌, ◌*◌, ◌∙◌, ap, sym, arith, subst, length}
use Rattle.ps_word.specs.declared.words.Word.{Word}
use Rattle.ps_mem.specs.Heap.{Heap, birth_at, fields_at}
use Rattle.ps_mem.specs.Shows.{IsValue, IsWithin}
use Rattle.ps_mem.proofs.Lists.{all_at}
use Rattle.ps_dict.specs.Places.{body_at, pairs_at}
use Rattle.ps_dict.proofs.Shapes.{pairs-values, pairs-within}
use Rattle.ps_dict.proofs.Reading.{loaded, key-place, value-place, pair-read, past-pairs, pair-shown, past-shown}
use Rattle.ps_dict.proofs.dictionaries.pair.Goals as goal

pub returns-then-place-length-clause-words : goal.returns-then-place-length-clause-words
returns-then-place-length-clause-words g c =
    let count = c.length.ensures.words in
    sym (past-pairs (g.M.Memory.heap c.args.memory.now) c.args.address c.requires.known c.requires.sound c.args.place
    (omega (arith, count)))

pub returns-then-place-length-clause-value : goal.returns-then-place-length-clause-value
returns-then-place-length-clause-value g c = λ names s shows.
    let h = g.M.Memory.heap c.args.memory.now in
    let count = c.length.ensures.words in
    sym (past-shown h c.args.address c.requires.known c.requires.sound names s shows c.args.place
    (past-pairs h c.args.address c.requires.known c.requires.sound c.args.place (omega (arith, count))))

pub load-key-requires : goal.load-key-requires
load-key-requires g c =
    let h = g.M.Memory.heap c.args.memory.now in
    let same : g.M.Memory.heap c.body-body.new.memory ≡ h = c.body-body.ensures.heap ∙ c.length.ensures.heap in
    let is : c.body-body.result ≡ body_at h c.args.address = c.body-body.ensures.words
    ∙ ap (λ (k : Heap). body_at k c.args.address) c.length.ensures.heap in
    let count = c.length.ensures.words in
    let fits : 2 * c.args.place < length (fields_at h (body_at h c.args.address)) =
    key-place h c.args.address c.requires.known c.requires.sound c.args.place (omega (arith, count)) in
    record {
      place = subst (λ (k : Heap). 2 * c.args.place < length (fields_at k c.body-body.result)) (sym same)
          (subst (λ b. 2 * c.args.place < length (fields_at h b)) (sym is) fits);
    }

pub load-value-requires : goal.load-value-requires
load-value-requires g c =
    let h = g.M.Memory.heap c.args.memory.now in
    let same : g.M.Memory.heap c.load-key.new.self ≡ h = c.load-key.ensures.heap
    ∙ (c.body-body.ensures.heap ∙ c.length.ensures.heap) in
    let is : c.body-body.result ≡ body_at h c.args.address = c.body-body.ensures.words
    ∙ ap (λ (k : Heap). body_at k c.args.address) c.length.ensures.heap in
    let count = c.length.ensures.words in
    let fits : 2 * c.args.place + 1 < length (fields_at h (body_at h c.args.address)) =
    value-place h c.args.address c.requires.known c.requires.sound c.args.place (omega (arith, count)) in
    record {
      place = subst (λ (k : Heap). 2 * c.args.place + 1 < length (fields_at k c.body-body.result)) (sym same)
          (subst (λ b. 2 * c.args.place + 1 < length (fields_at h b)) (sym is) fits);
    }

pub returns-clause-words : goal.returns-clause-words
returns-clause-words g c =
    let h = g.M.Memory.heap c.args.memory.now in
    let same : g.M.Memory.heap c.body-body.new.memory ≡ h = c.body-body.ensures.heap ∙ c.length.ensures.heap in
    let is : c.body-body.result ≡ body_at h c.args.address = c.body-body.ensures.words
    ∙ ap (λ (k : Heap). body_at k c.args.address) c.length.ensures.heap in
    let count = c.length.ensures.words in
    sym (pair-read h c.args.address c.requires.known c.requires.sound c.args.place
    (omega (arith, count)) c.load-key.result c.load-value.result
    (loaded _ h c.args.address _ _ _ same is c.load-key.ensures.answer)
    (loaded _ h c.args.address _ _ _ (c.load-key.ensures.heap ∙ same) is c.load-value.ensures.answer))

pub returns-clause-held : goal.returns-clause-held
returns-clause-held g c =
    let h = g.M.Memory.heap c.args.memory.now in
    all_at (λ (pair : Word × Word). IsValue h pair.0 × IsValue h pair.1) (pairs_at h c.args.address) c.args.place (
      c.load-key.result,
      c.load-value.result,
    )
    (pairs-values h c.args.address c.requires.known c.requires.sound) (sym (returns-clause-words g c))

pub returns-clause-within : goal.returns-clause-within
returns-clause-within g c = λ names s shows.
    let h = g.M.Memory.heap c.args.memory.now in
    all_at (λ (pair : Word × Word). IsWithin (birth_at h) names s pair.0
    × IsWithin (birth_at h) names s pair.1) (pairs_at h c.args.address) c.args.place (
      c.load-key.result,
      c.load-value.result,
    )
    (pairs-within h c.args.address c.requires.known c.requires.sound names s shows) (sym (returns-clause-words g c))

pub returns-clause-value : goal.returns-clause-value
returns-clause-value g c = λ names s shows.
    let h = g.M.Memory.heap c.args.memory.now in
    sym (pair-shown h c.args.address c.requires.known c.requires.sound names s shows c.args.place (
      c.load-key.result,
      c.load-value.result,
    ) (sym (returns-clause-words g c)))
