-- Each column's longest share is that of its shares.
use Rattle.std.proofs.Common.{◌≡◌, ◌∙◌, ap, ℕ, ◌<◌, List, length, get_or, max, arith}
use Rattle.std.proofs.lemmas.List.{get_or_read, length-set}
use Rattle.std.proofs.lemmas.List.FromFn.{fill_by_all}
use Rattle.ps_timelines.specs.Columns.{columns, share}
use Rattle.ps_timelines.specs.Levels.{longest, longest_share, longest_shares}
use Rattle.ps_timelines.proofs.Covering.{at_most_whole}
use Rattle.ps_timelines.proofs.Tables.{written, unwritten}
use Rattle.ps_timelines.proofs.levels.longest_shares.Goals as goal

-- what is read from a table of shares
read : (xs : List ℕ) (n i x s : ℕ) → length xs ≡ n → i < n → x ≡ get_or xs i x → get_or xs i 0 ≡ s → x ≡ s
read xs n i x s size h e is = get_or_read xs i x (omega arith) e 0 ∙ is

-- the greatest of four is that of what they are
greatest : (r l c j m n o R L C J : ℕ) → m ≡ max r l → n ≡ max m c → o ≡ max n j → r ≡ R → l ≡ L → c ≡ C → j ≡ J
    → o ≡ max (max (max R L) C) J
greatest r l c j m n o R L C J e f g p q u v = omega (arith, e, f, g, p, q, u, v)

pub longest-requires : goal.longest-requires
longest-requires c =
    let l = c.loop-column in
    let within : l.column < columns c.args.steps = omega (arith, c.columns-column-end.ensures.is) in
    let is : c.index-in-loop-column-4.result.now ≡ share c.args.steps c.args.drawn.now.steps.items l.column =
    read c.in_ok-stepping.stepping.items (columns c.args.steps) l.column _ _ c.in_ok-stepping.ensures.size within
    c.index-in-loop-column-4.ensures (c.in_ok-stepping.ensures.each l.column within
    ∙ ap (λ i. share c.args.steps i l.column) c.as_slice.ensures.value) in
    omega (arith, is, at_most_whole c.args.steps l.column c.args.drawn.now.steps.items)

pub loop-column-init : goal.loop-column-init
loop-column-init c = record {
  size = c.in_ok-longests.ensures.size;
  done = λ k h. absurd (omega (arith, h));
  rest = λ k h w. c.in_ok-longests.ensures.each k w
      ∙ ap (λ i. share c.args.steps i k) c.as_slice-2.ensures.value;
}

pub loop-column-preserved : goal.loop-column-preserved
unfolding longest_share
loop-column-preserved c =
    let l = c.loop-column in
    let s = c.args.drawn.now in
    let n = columns c.args.steps in
    let within : l.column < columns c.args.steps = omega (arith, c.columns-column-end.ensures.is) in
    let ready : c.index.result.now ≡ share c.args.steps s.ready.items l.column =
    read l.longests.items n l.column _ _ l.invariant.size within c.index.ensures
    (l.invariant.rest l.column (omega arith) within) in
    let lock : c.index-in-loop-column.result.now ≡ share c.args.steps s.lock.items l.column =
    read c.in_ok-lock.lock.items n l.column _ _ c.in_ok-lock.ensures.size within
    c.index-in-loop-column.ensures (c.in_ok-lock.ensures.each l.column within
    ∙ ap (λ i. share c.args.steps i l.column) c.as_slice-3.ensures.value) in
    let condition : c.index-in-loop-column-2.result.now ≡ share c.args.steps s.condition.items l.column =
    read c.in_ok-condition.condition.items n l.column _ _ c.in_ok-condition.ensures.size within
    c.index-in-loop-column-2.ensures (c.in_ok-condition.ensures.each l.column within
    ∙ ap (λ i. share c.args.steps i l.column) c.as_slice-4.ensures.value) in
    let join : c.index-in-loop-column-3.result.now ≡ share c.args.steps s.join.items l.column =
    read c.in_ok-join.join.items n l.column _ _ c.in_ok-join.ensures.size within
    c.index-in-loop-column-3.ensures (c.in_ok-join.ensures.each l.column within
    ∙ ap (λ i. share c.args.steps i l.column) c.as_slice-5.ensures.value) in
    let stepping : c.index-in-loop-column-4.result.now ≡ share c.args.steps s.steps.items l.column =
    read c.in_ok-stepping.stepping.items n l.column _ _ c.in_ok-stepping.ensures.size within
    c.index-in-loop-column-4.ensures (c.in_ok-stepping.ensures.each l.column within
    ∙ ap (λ i. share c.args.steps i l.column) c.as_slice.ensures.value) in
    let top : c.max-greatest.result ≡ max (max (max (share c.args.steps s.ready.items l.column)
    (share c.args.steps s.lock.items l.column)) (share c.args.steps s.condition.items l.column))
    (share c.args.steps s.join.items l.column) =
    greatest _ _ _ _ _ _ _ _ _ _ _ c.max.ensures c.max-in-loop-column.ensures c.max-greatest.ensures
    ready lock condition join in
    let value : c.longest.result ≡ longest_share c.args.steps s l.column =
    c.longest.ensures
    ∙ ap (λ x. longest c.args.steps x c.max-greatest.result) stepping
    ∙ ap (longest c.args.steps (share c.args.steps s.steps.items l.column)) top in
    record {
      size = length-set l.longests.items l.column c.longest.result ∙ l.invariant.size;
      done = written (longest_share c.args.steps s) l.longests.items n l.column c.longest.result
          l.invariant.size within l.invariant.done value;
      rest = unwritten (share c.args.steps s.ready.items) l.longests.items n l.column c.longest.result
          l.invariant.rest;
    }

pub returns : goal.returns
unfolding longest_shares
returns c =
    fill_by_all (longest_share c.args.steps c.args.drawn.now) c.loop-column.longests.items
    (columns c.args.steps) 0 c.loop-column.invariant.size
    (λ k w. c.loop-column.invariant.done k (omega (arith, c.columns-column-end.ensures.is)))
