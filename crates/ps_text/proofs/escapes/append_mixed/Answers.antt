-- Each run of bytes that need no escape is shown whole, and each other byte by its escape.
use Rattle.std.proofs.Common.{◌≡◌, ℕ, ◌+◌, ◌-◌, ◌≤◌, List, [], ◌∷◌, ◌++◌, take, drop, get_or, ◌∙◌, ap, sym, subst}
use Rattle.std.proofs.Common.{arith}
use Rattle.std.specs.Prelude.{slice_range}
use Rattle.std.specs.List.{flat_map}
use Rattle.std.proofs.lemmas.List.{append-nil, drop_more, drop_all, drop-drop, take-append-drop}
use Rattle.ps_language.specs.Texts.{escaped}
use Rattle.ps_text.proofs.Cuts.{err_given, goes_further}
use Rattle.ps_text.proofs.Rests.{run_step, run_full, texts_end}
use Rattle.ps_text.proofs.escapes.append_mixed.Goals as goal

run_left : (xs : List ℕ) (i behind : ℕ) → i ≤ behind
    → drop i xs ≡ slice_range xs i behind ++ drop (i + (behind - i)) xs
run_left xs i behind low = sym (take-append-drop (behind - i) (drop i xs))
    ∙ ap (λ rest. slice_range xs i behind ++ rest) (drop-drop (behind - i) i xs)

pub loop-index-preserved-then-behind-index : goal.loop-index-preserved-then-behind-index
loop-index-preserved-then-behind-index c =
    let xs = c.args.bytes.now in
    let i = c.loop-index.index in
    let b = get_or xs i 0 in
    let below = c.loop-index-test.true in
    let grown = c.append_escape.ensures.capacity in
    let before = c.loop-index.invariant.capacity in
    record {
      within = omega (arith, below);
      goes_on = goes_further _ _ _ _ c.loop-index.invariant.goes_on
          c.append_escape.ensures.goes_on;
      capacity = omega (arith, grown, before);
      rest = run_step c.args.end escaped _ c.loop-index.output.items i 1 xs (b ∷ []) (escaped b)
          (drop_more xs i 0 (omega (arith, below))) (append-nil (escaped b))
          c.loop-index.invariant.rest _ c.in_ok-append_escape.ensures.ok;
    }

pub returns-in_err-append_escape-clause-full : goal.returns-in_err-append_escape-clause-full
returns-in_err-append_escape-clause-full c =
    let xs = c.args.bytes.now in
    let i = c.loop-index.index in
    let b = get_or xs i 0 in
    let below = c.loop-index-test.true in
    let before = c.loop-index.invariant.capacity in
    let full = c.in_err-append_escape.ensures.full in
    err_given _ c.from_residual.result (run_full c.args.end escaped _ c.loop-index.output.items i 1
    xs (b ∷ []) (escaped b) (drop_more xs i 0 (omega (arith, below))) (append-nil (escaped b))
    c.loop-index.invariant.rest _ (omega (arith, before, full)))

pub loop-index-preserved : goal.loop-index-preserved
loop-index-preserved c =
    let xs = c.args.bytes.now in
    let i = c.loop-index.index in
    let behind = c.plain_end-behind.result in
    let low = c.plain_end-behind.ensures.low in
    let high = c.plain_end-behind.ensures.high in
    let grown = c.append_cut.ensures.capacity in
    let before = c.loop-index.invariant.capacity in
    let run = slice_range xs i behind in
    let there : i + (behind - i) ≡ behind = omega (arith, low) in
    record {
      within = omega (arith, high);
      goes_on = goes_further _ _ _ _ c.loop-index.invariant.goes_on c.append_cut.ensures.goes_on;
      capacity = omega (arith, grown, before);
      rest = subst (λ n. take c.args.end (c.append_cut.new.output.items
          ++ flat_map escaped (drop n xs)) ≡ take c.args.end (c.args.output.now.items
          ++ flat_map escaped xs)) there
          (run_step c.args.end escaped _ c.loop-index.output.items i (behind - i) xs run run
          (run_left xs i behind low) c.plain_end-behind.ensures.plain
          c.loop-index.invariant.rest _ c.in_ok-append_cut.ensures.ok);
    }

pub returns-in_err-append_cut-clause-full : goal.returns-in_err-append_cut-clause-full
returns-in_err-append_cut-clause-full c =
    let xs = c.args.bytes.now in
    let i = c.loop-index.index in
    let behind = c.plain_end-behind.result in
    let low = c.plain_end-behind.ensures.low in
    let before = c.loop-index.invariant.capacity in
    let run = slice_range xs i behind in
    let full = c.in_err-append_cut.ensures.full in
    err_given _ c.from_residual-in_err-append_cut.result (run_full c.args.end escaped _
    c.loop-index.output.items i (behind - i) xs run run (run_left xs i behind low)
    c.plain_end-behind.ensures.plain c.loop-index.invariant.rest _ (omega (arith, before, full)))

pub returns-clause-ok : goal.returns-clause-ok
returns-clause-ok c =
    texts_end c.args.end escaped _ c.loop-index.output.items _
    (drop_all c.loop-index.index c.args.bytes.now (omega (arith, c.loop-index-test.false)))
    c.loop-index.invariant.goes_on.short c.loop-index.invariant.rest
