use Rattle.std.proofs.Common.{◌++◌, [], ◌∷◌, map, sym, ap, ◌∙◌, subst}
use Rattle.ps_language.specs.Value.{dictionary_object}
use Rattle.ps_language.specs.Access.{empty_dictionary}
use Rattle.ps_language.specs.Dictionaries.{put_pairs}
use Rattle.ps_mem.specs.Heap.{birth_at}
use Rattle.ps_mem.specs.Index.{pairs_of_words}
use Rattle.ps_mem.specs.Shows.{AreValues, AreWithin, pair_of, Shows}
use Rattle.ps_ctx_start.specs.Words.{error_words}
use Rattle.ps_ctx_start.proofs.Meaning.{error-met, error-held, error-within, error-put}
use Rattle.ps_ctx_start.proofs.Standing.{pairs-back}
use Rattle.ps_ctx_start.proofs.dictionaries.make_error_dictionary.Goals as goal

pub make_dictionary_with-requires-clause-held : goal.make_dictionary_with-requires-clause-held
make_dictionary_with-requires-clause-held g c =
    let h = g.M.Memory.heap c.args.memory.now in
    subst (AreValues h) (sym c.error_words.ensures) (error-held h)

pub returns-clause-shows : goal.returns-clause-shows
returns-clause-shows g c = λ names s shows distinct met.
    let h = g.M.Memory.heap c.args.memory.now in
    let new = g.M.Memory.heap c.make_dictionary_with.new.memory in
    let put = ap (put_pairs [])
    (ap (λ ws. map (pair_of (birth_at h) names) (pairs_of_words ws)) c.error_words.ensures
    ∙ (ap (map (pair_of (birth_at h) names)) (pairs-back error_words)
    ∙ error-met names met (birth_at h))) ∙ error-put in
    subst (λ ps. Shows new names
    (s ++ dictionary_object (record (empty_dictionary 8) { pairs = ps }) ∷ [])) put
    (c.make_dictionary_with.ensures.shows names s shows distinct
    (subst (AreWithin h names s) (sym c.error_words.ensures) (error-within names met h s)))
