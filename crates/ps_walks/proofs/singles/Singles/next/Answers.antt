-- The next step of a schedule: of the entry, or of the one behind it.
use Rattle.std.proofs.Common.{rules, ◌≡◌, ◌≢◌, ◌∙◌, ◌<◌, ◌+◌, ◌^◌, None, [], ◌++◌, ◌∷◌, drop, ap, sym, arith}
use Rattle.ps_language.specs.Schedules.{moves, moves_of}
use Rattle.ps_walks.proofs.Single.{next_entry, no_entry, none_more, one_more}
use Rattle.ps_walks.proofs.singles.Singles.next.Goals as goal

pub returns-in_err-entry : goal.returns-in_err-entry
returns-in_err-entry c =
    let at = c.loop-self.self-inside in
    let none : c.from_residual.result ≡ None = c.from_residual.ensures in
    let end : (at.left ≡ []) × (c.next.new.self ≡ []) = search rules in
    let all : at.made ≡ at.entry.steps = search rules in
    rw none (
      sym c.loop-self.invariant.left ∙ none_more at.entry at.made at.left all
          ∙ no_entry at.left end.0,
      none_more at.entry at.made c.next.new.self all ∙ no_entry c.next.new.self end.1,
    )

pub loop-self-preserved : goal.loop-self-preserved
loop-self-preserved c =
    let at = c.loop-self.self-inside in
    let all : at.made ≡ at.entry.steps = search rules in
    let is : at.left ≡ c.in_ok-entry.entry ∷ c.next.new.self = search rules in
    let fits : c.in_ok-entry.entry.steps < 2 ^ 32 = search rules in
    record {
      fits = fits;
      within = omega arith;
      left = sym (next_entry c.in_ok-entry.entry at.left c.next.new.self is)
          ∙ sym (none_more at.entry at.made at.left all) ∙ c.loop-self.invariant.left;
    }

pub overflow_add-self : goal.overflow_add-self
overflow_add-self c =
    let at = c.loop-self.self-inside in
    let other : at.made ≢ at.entry.steps = search rules in
    omega (arith, other, c.loop-self.invariant.within, c.loop-self.invariant.fits)

pub returns : goal.returns
returns c =
    let at = c.loop-self.self-inside in
    let other : at.made ≢ at.entry.steps = search rules in
    let below : at.made < at.entry.steps = omega (arith, other, c.loop-self.invariant.within) in
    sym c.loop-self.invariant.left ∙ one_more at.entry at.made at.left below
    ∙ ap (λ move. move ∷ (drop (at.made + 1) (moves_of at.entry at.entry.steps) ++ moves at.left))
    (sym c.way_of-refused.ensures)
