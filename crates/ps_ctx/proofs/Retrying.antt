-- What is tried again, and the step that tries it.
use Rattle.std.proofs.Common.{◌≡◌, ℕ, List, [], ◌∷◌, Some, None, refl, sym, ap, ◌∙◌}
use Rattle.ps_step_outcome.specs.declared.world_operators.WorldOperator.{WorldOperator}
use Rattle.ps_step_outcome.specs.declared.world_operators.WorldOperator.TheVariants.{Join, Monitor}
use Rattle.ps_language.specs.Locks.{retried}
use Rattle.ps_word.specs.declared.words.Word.{Word}
use Rattle.ps_word.specs.declared.values.Content.{Content}
use Rattle.ps_word.specs.declared.values.Content.TheVariants as contents
use Rattle.ps_word.specs.Format.{content_in}
use Rattle.ps_mem.specs.Heap.{Heap, birth_at}
use Rattle.ps_mem.specs.Meaning.{value_of}
use Rattle.ps_stacks.specs.Tops.{first_of}
use Rattle.ps_ops_operands.specs.Changes.{values_in}
use Rattle.ps_step_outcome.specs.Turns.{calling_of}

-- ---- which operator

pub tries_none : (h : Heap) (names : List (List ℕ)) (operands : List Word)
    → first_of operands ≡ None → calling_of Join ≡ retried (values_in h names operands)
unfolding retried
tries_none h names [] none = refl
tries_none h names (top ∷ rest) none = absurd (cc)

abbrev is_integer : Content → WorldOperator
is_integer (contents.Integer number) = Join
is_integer content = Monitor

by_content : (births : ℕ → ℕ) (names : List (List ℕ)) (top : Word) (rest : List _)
    (content : Content) → content_in top.0 ≡ content
    → calling_of (is_integer content) ≡ retried (value_of births names top ∷ rest)
unfolding retried value_of
by_content births names top rest contents.Null is = rw is refl
by_content births names top rest (contents.Integer number) is = rw is refl
by_content births names top rest (contents.Boolean truth) is = rw is refl
by_content births names top rest contents.Mark is = rw is refl
by_content births names top rest (contents.Name number) is = rw is refl
by_content births names top rest (contents.Operator operator) is = rw is refl
by_content births names top rest (contents.Array part) is = rw is refl
by_content births names top rest (contents.Text part) is = rw is refl
by_content births names top rest (contents.Dictionary address) is = rw is refl
by_content births names top rest (contents.Lock address) is = rw is refl
by_content births names top rest (contents.Condition address) is = rw is refl
by_content births names top rest (contents.Body address) is = rw is refl

tries_some : (h : Heap) (names : List (List ℕ)) (operands : List Word) (top : Word)
    → first_of operands ≡ Some top → (content : Content) → content_in top.0 ≡ content
    → calling_of (is_integer content) ≡ retried (values_in h names operands)
tries_some h names [] top some content is = absurd (cc)
tries_some h names (one ∷ rest) top some content is =
    let same : one ≡ top = cc in
    by_content (birth_at h) names one (values_in h names rest) content
    (ap (λ (w : Word). content_in w.0) same ∙ is)

pub tries_join : (h : Heap) (names : List (List ℕ)) (operands : List Word) (top : Word)
    → first_of operands ≡ Some top → (number : _) → content_in top.0 ≡ contents.Integer number
    → calling_of Join ≡ retried (values_in h names operands)
tries_join h names operands top some number is =
    tries_some h names operands top some (contents.Integer number) is

other_content : (content : Content) → ((number : _) → content ≡ contents.Integer number → ⊥)
    → is_integer content ≡ Monitor
other_content contents.Null other = refl
other_content (contents.Integer number) other = absurd (other number refl)
other_content (contents.Boolean truth) other = refl
other_content contents.Mark other = refl
other_content (contents.Name number) other = refl
other_content (contents.Operator operator) other = refl
other_content (contents.Array part) other = refl
other_content (contents.Text part) other = refl
other_content (contents.Dictionary address) other = refl
other_content (contents.Lock address) other = refl
other_content (contents.Condition address) other = refl
other_content (contents.Body address) other = refl

pub tries_monitor : (h : Heap) (names : List (List ℕ)) (operands : List Word) (top : Word)
    → first_of operands ≡ Some top → (content : Content) → content_in top.0 ≡ content
    → ((number : _) → content ≡ contents.Integer number → ⊥)
    → calling_of Monitor ≡ retried (values_in h names operands)
tries_monitor h names operands top some content is other =
    ap calling_of (sym (other_content content other))
    ∙ tries_some h names operands top some content is
