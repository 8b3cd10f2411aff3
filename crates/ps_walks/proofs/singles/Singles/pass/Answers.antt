-- Steps that are passed over: of the entry, or all of it and then more.
use Rattle.std.proofs.Common.{rules, ℕ, List, refl, ◌≡◌, ◌∙◌, ◌<◌, ◌≤◌, ◌-◌, ◌^◌, [], ◌∷◌, ◌++◌, length, sym, ap, arith, drop}
use Rattle.std.proofs.lemmas.List.{drop_all}
use Rattle.ps_language.specs.declared.schedules.Entry.{Entry}
use Rattle.ps_language.specs.Schedules.{moves, moves_of}
use Rattle.ps_walks.proofs.Following.{length_moves}
use Rattle.ps_walks.proofs.Single.{next_entry, no_entry, none_more, pass_beyond}
use Rattle.ps_walks.proofs.singles.Singles.pass.Goals as goal

pub overflow_cast-self : goal.overflow_cast-self
overflow_cast-self c =
    let few : c.loop-more.more ≤ c.from-here.result = search rules in
    let here : c.from-here.result ≡ c.loop-more.self-inside.entry.steps - c.loop-more.self-inside.made =
    search rules in
    omega (arith, few, here, c.loop-more.invariant.fits)

pub overflow_add-self : goal.overflow_add-self
overflow_add-self c =
    let few : c.loop-more.more ≤ c.from-here.result = search rules in
    let here : c.from-here.result ≡ c.loop-more.self-inside.entry.steps - c.loop-more.self-inside.made =
    search rules in
    omega (arith, few, here, c.loop-more.invariant.within, c.loop-more.invariant.fits)

pub returns-in_default : goal.returns-in_default
returns-in_default c =
    let at = c.loop-more.self-inside in
    let more = c.loop-more.more in
    let all = moves_of at.entry at.entry.steps in
    let end : (at.left ≡ []) × (c.next.new.self ≡ []) = search rules in
    let here : c.from-here.result ≡ at.entry.steps - at.made = search rules in
    let less : c.from-here.result < more = search rules in
    let count : length all ≡ at.entry.steps = length_moves at.entry at.entry.steps in
    let none : (n : ℕ) (left : List Entry) → left ≡ [] → drop n (moves left) ≡ [] = λ n left is.
    ap (drop n) (no_entry left is) ∙ drop_all n [] (omega arith) in
    none_more at.entry at.entry.steps c.next.new.self refl ∙ no_entry c.next.new.self end.1
    ∙ sym (none (more - (length all - at.made)) at.left end.0)
    ∙ sym (pass_beyond all (moves at.left) at.made more
    (omega (arith, count, c.loop-more.invariant.within))
    (omega (arith, count, here, less, c.loop-more.invariant.within)))
    ∙ c.loop-more.invariant.left

pub loop-more-preserved : goal.loop-more-preserved
loop-more-preserved c =
    let at = c.loop-more.self-inside in
    let more = c.loop-more.more in
    let all = moves_of at.entry at.entry.steps in
    let is : at.left ≡ c.in-Some.entry ∷ c.next.new.self = search rules in
    let here : c.from-here.result ≡ at.entry.steps - at.made = search rules in
    let less : c.from-here.result < more = search rules in
    let count : length all ≡ at.entry.steps = length_moves at.entry at.entry.steps in
    let fits : c.in-Some.entry.steps < 2 ^ 32 = search rules in
    let rest : more - c.from-here.result ≡ more - (length all - at.made) = omega (arith, here, count) in
    record {
      fits = fits;
      within = omega arith;
      left = ap (λ n. drop n (moves_of c.in-Some.entry c.in-Some.entry.steps ++ moves c.next.new.self)) rest
          ∙ ap (drop (more - (length all - at.made)))
          (sym (next_entry c.in-Some.entry at.left c.next.new.self is))
          ∙ sym (pass_beyond all (moves at.left) at.made more
          (omega (arith, count, c.loop-more.invariant.within))
          (omega (arith, count, here, less, c.loop-more.invariant.within)))
          ∙ c.loop-more.invariant.left;
    }
