-- The line by what stands under the keys.
use Rattle.std.proofs.Common.{ℕ, List, sym, ap, subst, ◌∙◌}
use Rattle.std.specs.Prelude.{IfSome, option_map}
use Rattle.ps_language.specs.Access.{dictionary_at}
use Rattle.ps_language.specs.Dictionaries.{find}
use Rattle.ps_mem.specs.Heap.{Heap, birth_at}
use Rattle.ps_mem.specs.Meaning.{value_of}
use Rattle.ps_mem.specs.Shows.{IsWithin, Shows}
use Rattle.ps_text.specs.Errors.{error_line_by}
use Rattle.ps_text.specs.Printed.{Prints}
use Rattle.ps_step_outcome.proofs.Noting.{named_held, named_within, named_met, errorname_first, command_first}
use Rattle.ps_step_outcome.proofs.Truths.{line_by}
use Rattle.ps_step_outcome.proofs.breaks.print_line.Goals as goal

pub value_of_key-name-requires-clause-held : goal.value_of_key-name-requires-clause-held
value_of_key-name-requires-clause-held g c = named_held _ _ _ c.requires.name

pub value_of_key-command-requires-clause-held : goal.value_of_key-command-requires-clause-held
value_of_key-command-requires-clause-held g c = named_held _ _ _ c.requires.command

pub returns-clause-prints : goal.returns-clause-prints
returns-clause-prints g c = λ s met distinct shows.
    let names = c.args.names.now in
    let births = birth_at (g.M.Memory.heap c.args.memory.now) in
    let d = dictionary_at s (births c.args.address) in
    let first = c.value_of_key-name.ensures in
    let second = rw first.heap at c.value_of_key-command.ensures.value in
    let second_within = rw first.heap at c.value_of_key-command.ensures.within in
    let Line : Heap → Type 0 = λ k. Shows k names s
    → IfSome c.value_of_key-name.result (IsWithin (birth_at k) names s)
    → IfSome c.value_of_key-command.result (IsWithin (birth_at k) names s)
    → Prints c.print_error_line.result
    (error_line_by s (option_map (value_of (birth_at k) names) c.value_of_key-name.result)
    (option_map (value_of (birth_at k) names) c.value_of_key-command.result))
    c.args.output.now c.print_error_line.new.self in
    let line = subst Line (c.value_of_key-command.ensures.heap ∙ first.heap)
    (c.print_error_line.ensures.prints s) in
    let name = first.value names s shows distinct
    (named_within names met births _ _ _ c.requires.name errorname_first s)
    ∙ ap (find d.pairs) (named_met names met births _ _ _ c.requires.name errorname_first) in
    let command = second names s shows distinct
    (named_within names met births _ _ _ c.requires.command command_first s)
    ∙ ap (find d.pairs) (named_met names met births _ _ _ c.requires.command command_first) in
    subst (λ (text : List ℕ). Prints c.print_error_line.result text c.args.output.now
    c.print_error_line.new.self)
    ((λ i. error_line_by s (name i) (command i)) ∙ sym (line_by s d))
    (line shows (first.within names s shows) (second_within names s shows))
