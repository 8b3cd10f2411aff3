use Rattle.std.proofs.Common.{◌∙◌}
use Rattle.ps_table.proofs.Seats.{opens}
use Rattle.ps_table.proofs.words.SharedWordsWords.new.Goals as goal

pub of_words-requires : goal.of_words-requires
of_words-requires c = opens c.args.space c.requires.size c.as_slice.result.now
    (c.as_slice.ensures.value ∙ c.in_ok-words.ensures.items_if_clones_equal (λ y h. h))
