use Rattle.std.proofs.Common.{[], map, sym, ◌∙◌}
use Rattle.std.proofs.lemmas.List.{append-nil}
use Rattle.ps_language.specs.Operators.{every_operator}
use Rattle.ps_mem.specs.Shows.{words_of_pairs}
use Rattle.ps_ctx_start.specs.Words.{operator_words}
use Rattle.ps_ctx_start.proofs.Pushing.{pair-behind, system-pushed}
use Rattle.ps_ctx_start.proofs.words.push_system_words.Goals as goal

pub returns-clause-words : goal.returns-clause-words
returns-clause-words c =
    let first = words_of_pairs (map operator_words every_operator) in
    let none = c.push_operators.ensures.words ∙ sym (append-nil first) in
    let one = pair-behind first [] _ _ _ _ _ c.push_pair.ensures.words none c.word_of.ensures in
    let two = pair-behind first _ _ _ _ _ _ c.push_pair-2.ensures.words one c.word_of-2.ensures in
    let three = pair-behind first _ _ _ _ _ _ c.push_pair-3.ensures.words two c.word_of-3.ensures
    in
    let four = pair-behind first _ _ _ _ _ _ c.push_pair-4.ensures.words three
    c.word_of-4.ensures in
    pair-behind first _ _ _ _ _ _ c.push_pair-5.ensures.words four c.word_of-5.ensures
    ∙ system-pushed c.args.system c.args.user
