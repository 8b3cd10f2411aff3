use Rattle.std.proofs.Common.{◌≡◌, ◌++◌, ◌∙◌, ap, sym, subst, map, take}
use Rattle.std.proofs.lemmas.List.{append-nil}
use Rattle.ps_language.specs.Access.{dictionary_at, with_dictionary}
use Rattle.ps_mem.specs.Heap.{birth_at}
use Rattle.ps_mem.specs.Index.{pairs_of_words}
use Rattle.ps_mem.specs.Shows.{Shows, pair_of}
use Rattle.ps_dict.proofs.Entering.{same-shown}
use Rattle.ps_dict.proofs.entries.append_waiting.Goals as goal

pub returns-else-count-ne0-clause-shows : goal.returns-else-count-ne0-clause-shows
unfolding pairs_of_words
returns-else-count-ne0-clause-shows g c = λ names s shows within.
    let h = g.M.Memory.heap c.args.memory.now in
    let b = birth_at h c.args.address in
    let d = dictionary_at s b in
    let none : c.args.waiting.now.count ≡ 0 = c.if-count-ne0.false in
    subst (λ ps. Shows h names (with_dictionary s b (record d { pairs = ps })))
    (sym (ap (λ n. d.pairs ++ map (pair_of (birth_at h) names)
    (pairs_of_words (take n c.args.waiting.now.words))) none ∙ append-nil d.pairs))
    (same-shown h c.args.address c.requires.known c.requires.sound names s shows)
