-- By the value of newerror.
use Rattle.std.proofs.Common.{sym, ap, ◌∙◌}
use Rattle.std.specs.Prelude.{option_map}
use Rattle.ps_language.specs.Access.{dictionary_at}
use Rattle.ps_language.specs.Dictionaries.{find}
use Rattle.ps_mem.specs.Heap.{birth_at}
use Rattle.ps_mem.specs.Meaning.{value_of}
use Rattle.ps_step_outcome.proofs.Noting.{named_held, named_within, named_met, newerror_first}
use Rattle.ps_step_outcome.proofs.Truths.{new_some, new_none}
use Rattle.ps_step_outcome.proofs.breaks.has_new_error.Goals as goal

pub value_of_key-requires-clause-held : goal.value_of_key-requires-clause-held
value_of_key-requires-clause-held g c = named_held _ _ _ c.requires.key

pub returns-in-Some-clause-value : goal.returns-in-Some-clause-value
returns-in-Some-clause-value g c = λ names s met distinct shows.
    let births = birth_at (g.M.Memory.heap c.args.memory.now) in
    let pairs = (dictionary_at s (births c.args.address)).pairs in
    let found = c.value_of_key.ensures.value names s shows distinct
    (named_within names met births _ _ _ c.requires.key newerror_first s)
    ∙ ap (find pairs) (named_met names met births _ _ _ c.requires.key newerror_first) in
    c.is_true.ensures births names
    ∙ new_some _ _ (sym (ap (option_map (value_of births names)) c.in-Some.is) ∙ found)

pub returns-in-None-clause-value : goal.returns-in-None-clause-value
returns-in-None-clause-value g c = λ names s met distinct shows.
    let births = birth_at (g.M.Memory.heap c.args.memory.now) in
    let pairs = (dictionary_at s (births c.args.address)).pairs in
    let found = c.value_of_key.ensures.value names s shows distinct
    (named_within names met births _ _ _ c.requires.key newerror_first s)
    ∙ ap (find pairs) (named_met names met births _ _ _ c.requires.key newerror_first) in
    new_none _ (sym (ap (option_map (value_of births names)) c.in-None.is) ∙ found)
