use Rattle.std.proofs.Common.{◌≡◌, ◌-◌, ℕ, length, replicate, ap, ◌∙◌, refl, arith}
use Rattle.ps_mem.specs.Objects.{wanting, all_headers}
use Rattle.ps_mem.proofs.region.Region.empty.Goals as goal

pub invariant_of-result : goal.invariant_of-result
unfolding wanting all_headers
invariant_of-result c =
    let none : length c.empty.result ≡ 0 = ap length c.empty.ensures in
    record {
      within = omega arith;
      limited = omega (arith, none);
      whole = refl;
      headers = refl;
      blank = let zero : 0 ≡ length c.empty.result - 0 = omega (arith, none) in
          c.empty.ensures ∙ ap (λ k. replicate {A = ℕ} k 0) zero;
      births = omega arith;
    }
