use Rattle.std.proofs.Common.{◌≡◌, ◌∙◌, ◌≤◌, ◌+◌, ◌++◌, ◌∷◌, [], List, ℕ, suc, Some, length, subst, sym, ap, arith, inl, inr}
use Rattle.std.specs.Prelude.{◌⊎◌, slice_get}
use Rattle.std.proofs.lemmas.Bool.{cases_lt}
use Rattle.std.proofs.lemmas.List.{length-append}
use Rattle.std.proofs.lemmas.Option.{slice_get_within}
use Rattle.ps_mem.proofs.Lists.{slice_get-append_end}
use Rattle.ps_mem.proofs.NewShows.{slice_get-append_left}
use Rattle.ps_timelines.specs.declared.lanes.Lane.{Lane}
use Rattle.ps_walks.specs.Drawings.{IsFresh}
use Rattle.ps_walks.proofs.drawn.grow_lanes.Goals as goal

same_some : {A : Type 0} (x y : A) → Some x ≡ Some y → x ≡ y
same_some x y is = cc

-- one more that is fresh
one_fresh : (old lanes new : List Lane) (fresh : Lane) → new ≡ lanes ++ fresh ∷ []
    → length old ≤ length lanes → IsFresh (suc (length lanes)) fresh
    → ((place : ℕ) (lane : Lane) → slice_get lanes place ≡ Some lane
    → (slice_get old place ≡ Some lane) ⊎ ((length old ≤ place) × IsFresh (suc place) lane))
    → (place : ℕ) (lane : Lane) → slice_get new place ≡ Some lane
    → (slice_get old place ≡ Some lane) ⊎ ((length old ≤ place) × IsFresh (suc place) lane)
one_fresh old lanes new fresh is more made each place lane at = elim (cases_lt place (length lanes)) [
  | inl before ↦ each place lane (sym (slice_get-append_left lanes (fresh ∷ []) place before)
      ∙ ap (λ l. slice_get l place) (sym is) ∙ at)
  | inr beyond ↦
      let size : length new ≡ length lanes + 1 = ap length is ∙ length-append lanes (fresh ∷ []) in
      let here : place ≡ length lanes = omega (arith, size, beyond, slice_get_within new place lane at) in
      let one : fresh ≡ lane = same_some fresh lane
      (sym (slice_get-append_end lanes [] fresh) ∙ ap (slice_get (lanes ++ fresh ∷ [])) (sym here)
      ∙ ap (λ l. slice_get l place) (sym is) ∙ at) in
      let late : length old ≤ place = omega (arith, more, here) in
      inr (
        late,
        subst (λ l. IsFresh (suc place) l) one
            (subst (λ n. IsFresh (suc n) fresh) (sym here) made),
      )
]

pub grow-preserved : goal.grow-preserved
grow-preserved c =
    let lanes = c.grow.lanes.items in
    let old = c.args.lanes.now.items in
    let size = ap length c.in_ok-push.ensures.items ∙ length-append lanes (c.new.result ∷ []) in
    let next : c.new.result.context ≡ suc (length lanes) =
    c.new.ensures.context ∙ omega (arith, c.len-in-grow.ensures) in
    record {
      within = omega (arith, size, c.grow.invariant.within, c.grow-test.true, c.len.ensures);
      more = omega (arith, size, c.grow.invariant.more);
      each = one_fresh old lanes c.push.new.self.items c.new.result c.in_ok-push.ensures.items
          c.grow.invariant.more
          (record { context = next; intervals = c.new.ensures.intervals; labels = c.new.ensures.labels })
          c.grow.invariant.each;
    }
