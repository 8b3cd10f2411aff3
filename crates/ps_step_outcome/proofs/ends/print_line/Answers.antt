-- The line by what will stand in $error.
use Rattle.std.proofs.Common.{◌≡◌, ◌+◌, true, List, ℕ, [], ap, sym, ◌∙◌, subst}
use Rattle.std.specs.Prelude.{Option, IfSome, option_map, if◌then◌else◌}
use Rattle.ps_word.specs.declared.words.Word.{Word}
use Rattle.ps_language.specs.Value.{Value}
use Rattle.ps_mem.specs.Heap.{birth_at}
use Rattle.ps_mem.specs.Meaning.{value_of}
use Rattle.ps_mem.specs.Shows.{IsWithin}
use Rattle.ps_text.specs.Errors.{error_line_by}
use Rattle.ps_text.specs.Printed.{Prints}
use Rattle.ps_step_outcome.specs.Ends as ends
use Rattle.ps_step_outcome.proofs.Lines.{stands-map, stands-if}
use Rattle.ps_step_outcome.proofs.ends.print_line.Goals as goal

pub returns-clause-prints : goal.returns-clause-prints
returns-clause-prints g c = λ s shows inside.
    let h = g.M.Memory.heap c.args.memory.now in
    let names = c.args.names.now in
    let plan = c.args.plan in
    let value : Word → Value = value_of (birth_at h) names in
    let name = c.args.entries.errorname.1 in
    let command = c.args.entries.command.1 in
    let first = c.vacant-waiting.ensures.value in
    let named = c.given_that_stands.ensures
    ∙ ap (λ b. ends.given_that_stands b name) (c.stands-name.ensures
    ∙ ap (λ w. ends.stands plan.errorname w plan.room) first) in
    let commanded = c.given_that_stands-2.ensures
    ∙ ap (λ b. ends.given_that_stands b command) (c.stands-command.ensures
    ∙ (λ i. ends.stands plan.command (first i + c.vacant.ensures.value i) plan.room)) in
    let within = IsWithin (birth_at h) names s in
    let appended = c.print_error_line.ensures.prints s shows
    (subst (λ (o : Option Word). IfSome o within) (sym c.given_that_stands.ensures)
    (stands-if within c.stands-name.result name inside.1.1.1.0))
    (subst (λ (o : Option Word). IfSome o within) (sym c.given_that_stands-2.ensures)
    (stands-if within c.stands-command.result command inside.1.1.1.1.1.0))
    in
    let told : ends.newerror_stands plan ≡ true = sym c.stands.ensures
    ∙ c.if-not-stands.false in
    subst (λ (text : List ℕ). Prints c.print_error_line.result text c.args.output.now
    c.print_error_line.new.self)
    ((λ i. error_line_by s ((ap (option_map value) named ∙ stands-map value _ name) i)
    ((ap (option_map value) commanded ∙ stands-map value _ command) i))
    ∙ sym (ap (λ b. if b then error_line_by s
    (ends.given_that_stands (ends.errorname_stands plan) (value name))
    (ends.given_that_stands (ends.command_stands plan) (value command)) else []) told))
    appended
