-- Each name by its number.
use Rattle.std.proofs.Common.{◌≡◌, ◌+◌, ◌-◌, Some, sym, ap, arith, ◌∙◌}
use Rattle.std.specs.Prelude.{slice_get}
use Rattle.std.proofs.lemmas.Bool.Decides.{nat_tests}
use Rattle.ps_language.specs.Operators.{operator_name}
use Rattle.ps_language.specs.Worlds.{first_names}
use Rattle.ps_names.proofs.FirstNames.{operator_first}
use Rattle.ps_names.proofs.first.first_name.Goals as goal

pub returns-then-number-ge-FIRST_OPERATOR : goal.returns-then-number-ge-FIRST_OPERATOR
returns-then-number-ge-FIRST_OPERATOR c =
    let from = c.if-number-ge-FIRST_OPERATOR.true in
    let below = c.requires in
    let place : 35 + (c.args.number - 35) ≡ c.args.number = omega (arith, from) in
    ap (slice_get first_names) (sym place)
    ∙ operator_first (c.args.number - 35) (omega (arith, from, below))
    ∙ ap Some (sym (c.operator_name.ensures ∙ ap operator_name c.operator_at.ensures))

pub returns-in-0 : goal.returns-in-0
unfolding first_names
returns-in-0 c = ap (slice_get first_names) c.in-0.is ∙ ap Some (sym c.error_text.ensures)

pub returns-in-1 : goal.returns-in-1
unfolding first_names
returns-in-1 c = ap (slice_get first_names) c.in-1.is ∙ ap Some (sym c.error_text-in-1.ensures)

pub returns-in-2 : goal.returns-in-2
unfolding first_names
returns-in-2 c = ap (slice_get first_names) c.in-2.is ∙ ap Some (sym c.error_text-in-2.ensures)

pub returns-in-3 : goal.returns-in-3
unfolding first_names
returns-in-3 c = ap (slice_get first_names) c.in-3.is ∙ ap Some (sym c.error_text-in-3.ensures)

pub returns-in-4 : goal.returns-in-4
unfolding first_names
returns-in-4 c = ap (slice_get first_names) c.in-4.is ∙ ap Some (sym c.error_text-in-4.ensures)

pub returns-in-5 : goal.returns-in-5
unfolding first_names
returns-in-5 c = ap (slice_get first_names) c.in-5.is ∙ ap Some (sym c.error_text-in-5.ensures)

pub returns-in-6 : goal.returns-in-6
unfolding first_names
returns-in-6 c = ap (slice_get first_names) c.in-6.is ∙ ap Some (sym c.error_text-in-6.ensures)

pub returns-in-7 : goal.returns-in-7
unfolding first_names
returns-in-7 c = ap (slice_get first_names) c.in-7.is ∙ ap Some (sym c.error_text-in-7.ensures)

pub returns-in-8 : goal.returns-in-8
unfolding first_names
returns-in-8 c = ap (slice_get first_names) c.in-8.is ∙ ap Some (sym c.error_text-in-8.ensures)

pub returns-in-9 : goal.returns-in-9
unfolding first_names
returns-in-9 c = ap (slice_get first_names) c.in-9.is ∙ ap Some (sym c.error_text-in-9.ensures)

pub returns-in-10 : goal.returns-in-10
unfolding first_names
returns-in-10 c = ap (slice_get first_names) c.in-10.is ∙ ap Some (sym c.error_text-in-10.ensures)

pub returns-in-11 : goal.returns-in-11
unfolding first_names
returns-in-11 c = ap (slice_get first_names) c.in-11.is ∙ ap Some (sym c.error_text-in-11.ensures)

pub returns-in-12 : goal.returns-in-12
unfolding first_names
returns-in-12 c = ap (slice_get first_names) c.in-12.is ∙ ap Some (sym c.error_text-in-12.ensures)

pub returns-in-13 : goal.returns-in-13
unfolding first_names
returns-in-13 c = ap (slice_get first_names) c.in-13.is ∙ ap Some (sym c.error_text-in-13.ensures)

pub returns-in-14 : goal.returns-in-14
unfolding first_names
returns-in-14 c = ap (slice_get first_names) c.in-14.is ∙ ap Some (sym c.error_text-in-14.ensures)

pub returns-in-15 : goal.returns-in-15
unfolding first_names
returns-in-15 c = ap (slice_get first_names) c.in-15.is ∙ ap Some (sym c.error_text-in-15.ensures)

pub returns-in-16 : goal.returns-in-16
unfolding first_names
returns-in-16 c = ap (slice_get first_names) c.in-16.is

pub returns-in-17 : goal.returns-in-17
unfolding first_names
returns-in-17 c = ap (slice_get first_names) c.in-17.is

pub returns-in-18 : goal.returns-in-18
unfolding first_names
returns-in-18 c = ap (slice_get first_names) c.in-18.is

pub returns-in-19 : goal.returns-in-19
unfolding first_names
returns-in-19 c = ap (slice_get first_names) c.in-19.is

pub returns-in-20 : goal.returns-in-20
unfolding first_names
returns-in-20 c = ap (slice_get first_names) c.in-20.is

pub returns-in-21 : goal.returns-in-21
unfolding first_names
returns-in-21 c = ap (slice_get first_names) c.in-21.is

pub returns-in-22 : goal.returns-in-22
unfolding first_names
returns-in-22 c = ap (slice_get first_names) c.in-22.is

pub returns-in-23 : goal.returns-in-23
unfolding first_names
returns-in-23 c = ap (slice_get first_names) c.in-23.is

pub returns-in-24 : goal.returns-in-24
unfolding first_names
returns-in-24 c = ap (slice_get first_names) c.in-24.is

pub returns-in-25 : goal.returns-in-25
unfolding first_names
returns-in-25 c = ap (slice_get first_names) c.in-25.is

pub returns-in-26 : goal.returns-in-26
unfolding first_names
returns-in-26 c = ap (slice_get first_names) c.in-26.is

pub returns-in-27 : goal.returns-in-27
unfolding first_names
returns-in-27 c = ap (slice_get first_names) c.in-27.is

pub returns-in-28 : goal.returns-in-28
unfolding first_names
returns-in-28 c = ap (slice_get first_names) c.in-28.is

pub returns-in-29 : goal.returns-in-29
unfolding first_names
returns-in-29 c = ap (slice_get first_names) c.in-29.is

pub returns-in-30 : goal.returns-in-30
unfolding first_names
returns-in-30 c = ap (slice_get first_names) c.in-30.is

pub returns-in-31 : goal.returns-in-31
unfolding first_names
returns-in-31 c = ap (slice_get first_names) c.in-31.is

pub returns-in-32 : goal.returns-in-32
unfolding first_names
returns-in-32 c = ap (slice_get first_names) c.in-32.is

pub returns-in-33 : goal.returns-in-33
unfolding first_names
returns-in-33 c = ap (slice_get first_names) c.in-33.is

pub returns-in-34 : goal.returns-in-34
unfolding first_names
returns-in-34 c = ap (slice_get first_names) c.in-34.is
