-- A string, or what takes no memory.
use Rattle.std.proofs.Common.{refl, sym, subst, inl, inr}
use Rattle.ps_scan.specs.Shown.{IsAtString, IsSomeString, simple_at}
use Rattle.ps_scan.proofs.ReadingForms.{same_answer, string_at, angle_at}
use Rattle.ps_scan.proofs.simple.simple_token.Goals as goal

pub returns-then-first-eq40 : goal.returns-then-first-eq40
returns-then-first-eq40 c =
    same_answer _ (IsAtString c.args.bytes.now c.args.at (simple_at c.args.bytes.now c.args.at)) c.args.bytes.now
    c.args.at _ _ _ (λ h. (
      inl c.if-first-eq40.true,
      subst IsSomeString (sym (string_at c.args.bytes.now c.args.at c.if-first-eq40.true)) h,
    )) (string_at c.args.bytes.now c.args.at c.if-first-eq40.true) c.string_token.ensures

pub returns-then-first-eq60 : goal.returns-then-first-eq60
returns-then-first-eq60 c =
    same_answer _ (IsAtString c.args.bytes.now c.args.at (simple_at c.args.bytes.now c.args.at)) c.args.bytes.now
    c.args.at _ _ _ (λ h. (
      inr c.if-first-eq60.true,
      subst IsSomeString (sym (angle_at c.args.bytes.now c.args.at c.if-first-eq60.true)) h,
    )) (angle_at c.args.bytes.now c.args.at c.if-first-eq60.true) c.angle_token.ensures

pub returns : goal.returns
returns c = same_answer ⊥ _ c.args.bytes.now c.args.at _ _ _ (λ no. absurd no) refl c.bare_token.ensures
