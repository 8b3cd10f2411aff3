-- The settings are those of the numbers, and the numbers are some.
use Rattle.std.proofs.Common.{refl, sym, ◌∙◌}
use Rattle.std.proofs.lemmas.Bool.{true≢false}
use Rattle.ps_run_hosts.proofs.numbers.settings_of.Goals as goal

pub returns-then-not-is_known-clause-refused : goal.returns-then-not-is_known-clause-refused
returns-then-not-is_known-clause-refused c =
    (refl, λ s. true≢false (sym (c.is_known.ensures.1 s.known) ∙ c.if-not-is_known.true))

pub returns-clause-settings : goal.returns-clause-settings
returns-clause-settings c =
    let three = c.in-Some-Some-Some in (
      (λ i. record {
        space = three.ensures.short.0 i;
        quantum = three.ensures'.short.0 i;
        steps = three.ensures''.short.0 i;
        plain = c.flag_at.ensures i;
        output = c.number_at.ensures i;
        entries = c.number_at-2.ensures i;
        keys = record { first = c.number_at-3.ensures i; second = c.number_at-4.ensures i };
      }),
      record {
        space = three.ensures.short.1;
        quantum = three.ensures'.short.1;
        steps = three.ensures''.short.1;
        known = c.is_known.ensures.0 c.if-not-is_known.false;
      },
    )
