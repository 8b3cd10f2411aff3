-- The names are taken back after a fault.
use Rattle.std.proofs.Common.{◌≡◌, ℕ, List, [], ◌++◌, length, take, sym, ap, ◌∙◌, append-nil}
use Rattle.ps_ops_state.proofs.Forming.{cut_names}
use Rattle.ps_step_tokens.specs.Procedures.{IsMore}
use Rattle.ps_step_tokens.proofs.forming.meet_names.Goals as goal

-- as they were
taken_back : (names formed cut : List (List ℕ)) → IsMore names formed → (count : ℕ)
    → count ≡ length names → cut ≡ take count formed → IsMore names cut
taken_back names formed cut more count is cut_is = (
  [],
  cut_is
      ∙ (ap (λ (ns : List (List ℕ)). take count ns)
      (more.1 ∙ sym (append-nil (names ++ more.0)))
      ∙ (cut_names names more.0 [] count is ∙ sym (append-nil names))),
)

pub returns-then-names_fit-clause-more : goal.returns-then-names_fit-clause-more
returns-then-names_fit-clause-more c =
    taken_back c.args.names.now c.form_names.new.names c.truncate.new.self
    c.form_names.ensures.more c.len-count.result c.len-count.ensures.count c.truncate.ensures

pub returns-else-names_fit-clause-more : goal.returns-else-names_fit-clause-more
returns-else-names_fit-clause-more c =
    taken_back c.args.names.now c.form_names.new.names c.truncate.new.self
    c.form_names.ensures.more c.len-count.result c.len-count.ensures.count c.truncate.ensures

pub returns-in-Ok-clause-are : goal.returns-in-Ok-clause-are
returns-in-Ok-clause-are c = c.in-Ok.ensures.are c.len-count.ensures.names
