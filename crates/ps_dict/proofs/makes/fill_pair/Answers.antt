use Rattle.std.proofs.Common.{◌++◌, [], ◌∷◌, ◌∙◌, sym, subst}
use Rattle.ps_language.specs.Access.{dictionary_at, with_dictionary}
use Rattle.ps_mem.specs.Heap.{Heap, birth_at}
use Rattle.ps_mem.specs.Meaning.{value_of}
use Rattle.ps_mem.specs.Shows.{IsWithin, Shows}
use Rattle.ps_dict.specs.Puts.{with_value}
use Rattle.ps_dict.proofs.Reading.{position-shown}
use Rattle.ps_dict.proofs.WordRuns.{put-present, put-absent}
use Rattle.ps_dict.proofs.makes.fill_pair.Goals as goal

pub returns-in-Some-clause-shows : goal.returns-in-Some-clause-shows
returns-in-Some-clause-shows g c = λ names s shows distinct within also.
    let h = g.M.Memory.heap c.args.memory.now in
    let b = birth_at h c.args.address in
    let d = dictionary_at s b in
    let found = position-shown h c.args.address c.requires.known c.requires.sound names s shows c.args.key
    c.requires.key distinct within ∙ sym c.in-Some.ensures.words in
    subst (λ ps. Shows (g.M.Memory.heap c.fill_value.new.memory) names (with_dictionary s b (record d { pairs = ps })))
    (sym (put-present d.pairs (value_of (birth_at h) names c.args.key)
    (value_of (birth_at h) names c.args.value) c.in-Some.place found))
    (subst (λ (m : Heap). Shows m names s → IsWithin (birth_at m) names s c.args.value
    → Shows (g.M.Memory.heap c.fill_value.new.memory) names
    (with_dictionary s (birth_at m c.args.address)
    (record (dictionary_at s
    (birth_at m
    c.args.address)) {
      pairs = with_value (dictionary_at s (birth_at m c.args.address)).pairs c.in-Some.place
          (value_of (birth_at m) names c.args.value);
    })))
    c.position.ensures.heap (c.fill_value.ensures.shows names s) shows also)

pub returns-in-None-clause-shows : goal.returns-in-None-clause-shows
returns-in-None-clause-shows g c = λ names s shows distinct within also.
    let h = g.M.Memory.heap c.args.memory.now in
    let b = birth_at h c.args.address in
    let d = dictionary_at s b in
    let none = position-shown h c.args.address c.requires.known c.requires.sound names s shows c.args.key c.requires.key
    distinct within ∙ sym c.in-None.ensures.words in
    subst (λ ps. Shows (g.M.Memory.heap c.fill_last.new.memory) names (with_dictionary s b (record d { pairs = ps })))
    (sym (put-absent d.pairs (value_of (birth_at h) names c.args.key) (value_of (birth_at h) names c.args.value) none))
    (subst (λ (m : Heap). Shows m names s → IsWithin (birth_at m) names s c.args.key
    → IsWithin (birth_at m) names s c.args.value
    → Shows (g.M.Memory.heap c.fill_last.new.memory) names
    (with_dictionary s (birth_at m c.args.address)
    (record
    (dictionary_at s
    (birth_at m
    c.args.address)) {
      pairs = (dictionary_at s (birth_at m c.args.address)).pairs ++ (
        value_of (birth_at m) names c.args.key,
        value_of (birth_at m) names c.args.value,
      ) ∷ [];
    })))
    c.position.ensures.heap (c.fill_last.ensures.shows names s) shows within also)
