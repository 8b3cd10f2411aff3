-- Texts that are told behind one another.
use Rattle.std.proofs.Common.{◌≡◌, ℕ, Bool, true, false, true≢false, List, [], ◌++◌, refl, sym, ap, ◌∙◌, subst}
use Rattle.std.proofs.KnownBytes.{Appends-nil, Appends-trans}
use Rattle.ps_vault.specs.Screens.{AppendsPart}
use Rattle.ps_vault.proofs.Parts.{part_before, part_behind}
use Rattle.ps_run.specs.Telling.{Tells, Told}

-- nothing at all
pub tells_nothing : (told : Told) (text : List ℕ) → told.failed ≡ true → Tells told told text
tells_nothing told text failed = record {
  part = record { part = []; rest = text; is = refl; written = Appends-nil told.bytes };
  whole = λ going. absurd (true≢false (sym failed ∙ going));
  silent = λ is. refl;
}

-- one text and then another
pub tells_both : (a b c : Told) (xs ys : List ℕ) → Tells a b xs → Tells b c ys → Tells a c (xs ++ ys)
tells_both a b c xs ys first second = record {
  part = by b.failed refl;
  whole = λ going. Appends-trans a.bytes b.bytes c.bytes xs ys (first.whole (goes going))
      (second.whole going);
  silent = λ failed. second.silent (ap (λ (t : Told). t.failed) (first.silent failed) ∙ failed)
      ∙ first.silent failed;
}
  where
    by : (is : Bool) → b.failed ≡ is → AppendsPart a.bytes c.bytes (xs ++ ys)
    by false going =
        part_behind a.bytes b.bytes c.bytes xs ys (first.whole going) second.part
    by true failed = subst (λ (t : Told). AppendsPart a.bytes t.bytes (xs ++ ys))
        (sym (second.silent failed)) (part_before a.bytes b.bytes xs ys first.part)

    went : (is : Bool) → b.failed ≡ is → c.failed ≡ false → b.failed ≡ false
    went false is going = is
    went true is going = ap (λ (t : Told). t.failed) (sym (second.silent is)) ∙ going

    goes : c.failed ≡ false → b.failed ≡ false
    goes going = went b.failed refl going
