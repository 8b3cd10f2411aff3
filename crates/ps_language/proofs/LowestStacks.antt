-- The two lowest dictionaries stay under the operators on the dictionary stack.
use Rattle.std.proofs.Common.{◌≡◌, suc, ◌-◌, ◌≤◌, true, List, [], ◌∷◌, length, drop, sym, ap, ◌∙◌, arith, length-drop}
use Rattle.std.specs.Prelude.{nat_lt}
use Rattle.std.proofs.lemmas.Bool.Decides.{nat_tests}
use Rattle.ps_language.specs.Value.{Value, Store}
use Rattle.ps_language.specs.Outcome.{Outcome, leaves, fails, Stacks}
use Rattle.ps_language.specs.Readers.{natural, push}
use Rattle.ps_language.specs.RowsDictionaries.{begin_row, end_row, cleardictstack_row, same_stack, currentdict_row}
use Rattle.ps_language.specs.RowsDictionaries.{countdictstack_row}
use Rattle.ps_language.specs.Lowest.{lowest, HasFirstDictionaries}
use Rattle.ps_language.proofs.Leaving.{Leaves, left_with, left_none, given_that-when, leaving}

-- a dictionary stack has the first two lowest, if an earlier one had
abbrev pub KeepsLowest : (old new : List Value) → Type 0
KeepsLowest old new = HasFirstDictionaries old → HasFirstDictionaries new

-- ---- one dictionary more, one less, and all but two less

lowest-cons : (d : Value) (dictionaries : List Value) → 2 ≤ length dictionaries
    → lowest (d ∷ dictionaries) ≡ lowest dictionaries
lowest-cons d dictionaries two =
    ap (λ count. drop count (d ∷ dictionaries)) {x = length (d ∷ dictionaries) - 2}
    {y = suc (length dictionaries - 2)} (omega arith)

length-first : (dictionaries : List Value) → HasFirstDictionaries dictionaries
    → 2 ≤ length dictionaries
length-first dictionaries first =
    omega (arith, length-drop (length dictionaries - 2) dictionaries, ap length first)

begun-lowest : (d : Value) (dictionaries : List Value) → KeepsLowest dictionaries (d ∷ dictionaries)
begun-lowest d dictionaries first =
    lowest-cons d dictionaries (length-first dictionaries first) ∙ first

ended-lowest : (dictionaries : List Value) → nat_lt 2 (length dictionaries) ≡ true
    → KeepsLowest dictionaries (drop 1 dictionaries)
ended-lowest [] more first = cc
ended-lowest (d ∷ dictionaries) more first =
    let two : 2 ≤ length dictionaries = grind (arith, nat_tests) in
    sym (lowest-cons d dictionaries two) ∙ first

cleared-lowest : (dictionaries : List Value) → KeepsLowest dictionaries (lowest dictionaries)
cleared-lowest dictionaries first = ap lowest first

-- ---- the operators on the dictionary stack

abbrev pub StacksKeepLowest : (old : List Value) → Outcome Stacks → Type 0
StacksKeepLowest old outcome = Leaves (λ stacks. KeepsLowest old stacks.dictionaries) outcome

pub begin_row-lowest : (store : Store) (dictionaries operands : List Value)
    → StacksKeepLowest dictionaries (begin_row store dictionaries operands)
begin_row-lowest store dictionaries [] = left_none
begin_row-lowest store dictionaries (d ∷ rest) = search (leaving, begun-lowest)

pub end_row-lowest : (store : Store) (dictionaries operands : List Value)
    → StacksKeepLowest dictionaries (end_row store dictionaries operands)
end_row-lowest store dictionaries operands =
    given_that-when _ (nat_lt 2 (length dictionaries)) _ _ λ more.
    left_with (ended-lowest dictionaries more)

pub cleardictstack_row-lowest : (store : Store) (dictionaries operands : List Value)
    → StacksKeepLowest dictionaries (cleardictstack_row store dictionaries operands)
cleardictstack_row-lowest store dictionaries operands = left_with (cleared-lowest dictionaries)

same_stack-lowest : (dictionaries : List Value) (outcome : Outcome (List Value))
    → StacksKeepLowest dictionaries (same_stack dictionaries outcome)
same_stack-lowest dictionaries (leaves operands) = left_with (λ first. first)
same_stack-lowest dictionaries (fails error) = left_none

pub currentdict_row-lowest : (store : Store) (dictionaries operands : List Value)
    → StacksKeepLowest dictionaries (currentdict_row store dictionaries operands)
currentdict_row-lowest store dictionaries operands = search (leaving, same_stack-lowest)

pub countdictstack_row-lowest : (store : Store) (dictionaries operands : List Value)
    → StacksKeepLowest dictionaries (countdictstack_row store dictionaries operands)
countdictstack_row-lowest store dictionaries operands =
    same_stack-lowest dictionaries (push (natural (length dictionaries)) operands)
