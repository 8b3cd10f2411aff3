-- Of a fault more is told than of one kind of run.
use Rattle.std.proofs.Common.{ℕ, Option, inl, inr, refl, sym, ap, subst}
use Rattle.std.specs.Prelude.{option_map}
use Rattle.ps_run.specs.Driving.{IsFileFault, most_endings, names_of}
use Rattle.ps_run.proofs.Driven.{driven_more}
use Rattle.ps_run.proofs.driver.carry_out.Goals as goal

pub returns-then-is_some-clause-run : goal.returns-then-is_some-clause-run
returns-then-is_some-clause-run g c = driven_more _ _ _ _ _ _ _ _ _ refl (λ asked is. is)
    (λ fault. elim fault [
      | inl file ↦ inl (inl file)
      | inr past ↦ inr past
    ]) c.show_view-status.ensures.run

pub returns-in-None-clause-run : goal.returns-in-None-clause-run
returns-in-None-clause-run g c = driven_more _ _ _ _ _ _ _ _ _ refl (λ asked is. is)
    (λ fault. inl (elim fault [
      | inl file ↦ inl (subst (λ (many : Option ℕ).
          IsFileFault (g.F.FileSet.contents c.args.outside.now.files) (names_of c.args.options.now) many
          (g.X.Telling.told c.args.outside.now.err) (g.X.Telling.told c.run.new.outside.err))
          (sym (ap (option_map most_endings) c.in-None.is)) file)
      | inr outside ↦ inr outside
    ])) c.run.ensures.run

pub returns-in-Some-ByChance-clause-run : goal.returns-in-Some-ByChance-clause-run
returns-in-Some-ByChance-clause-run g c = driven_more _ _ _ _ _ _ _ _ _ refl (λ asked is. is)
    (λ fault. inl fault) c.explore-status.ensures.run

pub returns-in-Some-EachOrder-clause-run : goal.returns-in-Some-EachOrder-clause-run
returns-in-Some-EachOrder-clause-run g c = driven_more _ _ _ _ _ _ _ _ _ refl (λ asked is. is)
    (λ fault. inl fault) c.explore_each_order-status.ensures.run

pub returns-in-Some-EachWorld-clause-run : goal.returns-in-Some-EachWorld-clause-run
returns-in-Some-EachWorld-clause-run g c = driven_more _ _ _ _ _ _ _ _ _ refl (λ asked is. is)
    (λ fault. inl fault) c.explore_each_world-status.ensures.run

-- the files that many runs write are those of their records
pub returns-in-Some-ByChance-clause-files : goal.returns-in-Some-ByChance-clause-files
returns-in-Some-ByChance-clause-files g c = λ name other.
    c.explore-status.ensures.files name (λ is. other (inl is))

pub returns-in-Some-EachOrder-clause-files : goal.returns-in-Some-EachOrder-clause-files
returns-in-Some-EachOrder-clause-files g c = λ name other.
    c.explore_each_order-status.ensures.files name (λ is. other (inl is))

pub returns-in-Some-EachWorld-clause-files : goal.returns-in-Some-EachWorld-clause-files
returns-in-Some-EachWorld-clause-files g c = λ name other.
    c.explore_each_world-status.ensures.files name (λ is. other (inl is))
