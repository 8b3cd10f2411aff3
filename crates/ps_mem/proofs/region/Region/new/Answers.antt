use Rattle.std.proofs.Common.{◌≡◌, ℕ, length, replicate, ap, ◌∙◌, arith, refl}
use Rattle.std.proofs.lemmas.List.{length-replicate}
use Rattle.ps_mem.specs.Objects.{wanting, all_headers}
use Rattle.ps_mem.proofs.region.Region.new.Goals as goal

pub invariant_of-result : goal.invariant_of-result
unfolding wanting all_headers
invariant_of-result c =
    let is = c.in_ok-words.ensures in
    let many : length c.in_ok-words.words ≡ c.args.size = ap length is ∙ length-replicate c.args.size 0 in
    let small = c.requires in
    record {
      within = omega arith;
      limited = omega (arith, many, small);
      whole = refl;
      headers = refl;
      blank = is ∙ ap (λ k. replicate {A = ℕ} k 0) (omega (arith, many));
      births = omega arith;
    }
