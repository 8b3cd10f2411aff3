-- The number in the lock's field is its owner's.
use Rattle.std.proofs.Common.{◌≡◌, ℕ, Some, sym, ap, subst, ◌∙◌, rules, arith, w32}
use mir.Val.{SFits}
use Rattle.std.specs.Prelude.{pos}
use Rattle.std.proofs.lemmas.Int.{to_z-of_z}
use Rattle.ps_language.specs.Contexts.{identifier_of}
use Rattle.ps_language.specs.Owners.{owner_of}
use Rattle.ps_mem.specs.Heap.{birth_at}
use Rattle.ps_ctx_operators.specs.Singles.{owner_by}
use Rattle.ps_ctx_operators.proofs.Locking.{lock_reaches, lock_number, owner_read}
use Rattle.ps_ctx_operators.proofs.locks.owner.Goals as goal

pub load-requires : goal.load-requires
load-requires g c = record {
  place = let reaches = lock_reaches (g.M.Memory.heap c.args.memory.now) c.args.lock
      c.requires.known in omega (arith, reaches);
}

pub returns-in-Some-clause-value : goal.returns-in-Some-clause-value
returns-in-Some-clause-value g c = λ names s shows.
    let h = g.M.Memory.heap c.args.memory.now in
    let fits : SFits w32 c.in-Some.number = search rules in
    let there = lock_number h c.args.lock c.requires.known c.requires.sound c.load.result
    c.load.ensures.answer in
    let both : Some c.in-Some.number ≡ Some (pos there.0) = c.in-Some.ensures ∙ there.1 in
    let number : c.in-Some.number ≡ pos there.0 = cc in
    let is : c.identifier_of.result ≡ there.0 =
    simp to_z-of_z at c.identifier_of.ensures.value ∙ ap identifier_of number in
    subst (λ (n : ℕ). owner_of s (birth_at h c.args.lock) ≡ owner_by n) (sym is)
    (owner_read h c.args.lock c.requires.known names s shows c.load.result c.load.ensures.answer
    there.0 (sym there.1))

pub returns-in-None-clause-value : goal.returns-in-None-clause-value
returns-in-None-clause-value g c = λ names s shows.
    let there = lock_number (g.M.Memory.heap c.args.memory.now) c.args.lock c.requires.known
    c.requires.sound c.load.result c.load.ensures.answer in
    let clash = c.in-None.ensures ∙ there.1 in
    absurd (cc)
