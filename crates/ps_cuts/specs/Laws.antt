-- Laws of a program's runs: no context has the number 0, and a run ends in one way.
use Rattle.std.specs.Prelude.{◌≡◌, ℕ, Bool, true, false, ◌&&◌, ◌↔◌, IsTrue, List, None, nat_eq, not}
use Rattle.std.specs.Cmp.Lexicographic.{pointwise, same_text, other_text}
use Rattle.std.proofs.Common.{refl, sym, ◌∙◌, subst, rules}
use Rattle.std.proofs.lemmas.Bool.{true≢false}
use denote.Enum.Bare.{sameb, same_true, true_same}
use Rattle.ps_language.specs.Contexts.{context_at}
use Rattle.ps_language.specs.Locks.{is_ready}
use Rattle.ps_language.specs.World.{World}
use Rattle.ps_language.specs.Worlds.{is_all_over, is_some_ready}
use Rattle.ps_vault.specs.contracts.reports.Outcome.{the_type}
use Rattle.ps_vault.specs.declared.reports.Outcome.{Outcome}
use Rattle.ps_vault.specs.declared.reports.Outcome.TheVariants.{Finished, Faulted, AllWaiting, StepsOut, Memory}
use Rattle.ps_vault.specs.Reports.{EndsAs}
use Rattle.ps_cuts.specs.declared.endings.Ending.{Ending}
use Rattle.ps_cuts.specs.Cuts.{price}
use Rattle.ps_cuts.specs.Runs.{EndsLike}

pub nobody : (program path : List ℕ) → price program path 0 ≡ None
unfolding is_ready context_at
nobody program path = refl

-- ---- outcomes

-- by what is over, clean and ready
judged : (over clean ready : Bool) → Outcome
judged true true ready = Finished
judged true false ready = Faulted
judged false clean true = StepsOut
judged false clean false = AllWaiting

finished_by : (over clean ready : Bool) → IsTrue (over && clean)
    → Finished ≡ judged over clean ready
unfolding judged
finished_by true true ready is = refl
finished_by true false ready is = absurd (true≢false (sym is))
finished_by false clean ready is = absurd (true≢false (sym is))

faulted_by : (over clean ready : Bool) → IsTrue (over && not clean)
    → Faulted ≡ judged over clean ready
unfolding judged
faulted_by true false ready is = refl
faulted_by true true ready is = absurd (true≢false (sym is))
faulted_by false clean ready is = absurd (true≢false (sym is))

waiting_by : (over clean ready : Bool) → IsTrue (not over && not ready)
    → AllWaiting ≡ judged over clean ready
unfolding judged
waiting_by false clean false is = refl
waiting_by false clean true is = absurd (true≢false (sym is))
waiting_by true clean ready is = absurd (true≢false (sym is))

out_by : (over clean ready : Bool) → over ≡ false → ready ≡ true
    → StepsOut ≡ judged over clean ready
unfolding judged
out_by false clean true none is = refl
out_by false clean false none is = absurd (true≢false (sym is))
out_by true clean ready none is = absurd (true≢false none)

judged_is : (now : World) (outcome : Outcome) → EndsAs now true ⊥ outcome
    → outcome ≡ judged (is_all_over now) (nat_eq now.error_lines 0) (is_some_ready now)
judged_is now Finished ends = finished_by _ _ _ ends
judged_is now Faulted ends = faulted_by _ _ _ ends
judged_is now AllWaiting ends = waiting_by _ _ _ ends
judged_is now StepsOut ends = out_by _ _ _ ends.0 ends.1
judged_is now Memory ends = absurd (true≢false ends.0)

outcome_one : (now : World) (a b : Outcome) → EndsAs now true ⊥ a → EndsAs now true ⊥ b → a ≡ b
outcome_one now a b one other = judged_is now a one ∙ sym (judged_is now b other)

-- ---- endings

text_same : (xs ys : List ℕ) → xs ≡ ys → pointwise nat_eq xs ys ≡ true
text_same xs ys same = by (pointwise nat_eq xs ys) refl
  where
    by : (b : Bool) → b ≡ pointwise nat_eq xs ys → b ≡ true
    by true is = refl
    by false is = absurd (other_text xs ys is same)

both : (a b : Bool) → a ≡ true → b ≡ true → (a && b) ≡ true
both true b one other = other
both false b one other = one

first_of_both : (a b : Bool) → (a && b) ≡ true → a ≡ true
first_of_both true b is = refl
first_of_both false b is = is

second_of_both : (a b : Bool) → (a && b) ≡ true → b ≡ true
second_of_both true b is = is
second_of_both false b is = absurd (true≢false (sym is))

pub ending_equal : (now : World) (a b : Ending) → EndsLike now a
    → EndsLike now b ↔ ((pointwise nat_eq a.printed.items b.printed.items
    && sameb the_type a.outcome b.outcome) ≡ true)
ending_equal now a b ends = (
  λ other. both _ _
      (text_same a.printed.items b.printed.items (ends.printed ∙ sym other.printed))
      (true_same the_type a.outcome b.outcome
      (outcome_one now a.outcome b.outcome ends.outcome other.outcome)),
  λ is.
      record {
        printed = sym (same_text a.printed.items b.printed.items
            (sym (first_of_both (pointwise nat_eq a.printed.items b.printed.items) _ is)))
            ∙ ends.printed;
        outcome = subst (EndsAs now true ⊥)
            (same_true the_type (search rules) a.outcome b.outcome
            (second_of_both (pointwise nat_eq a.printed.items b.printed.items) _ is))
            ends.outcome;
      },
)
