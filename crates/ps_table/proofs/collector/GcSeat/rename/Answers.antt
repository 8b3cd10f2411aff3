use Rattle.std.proofs.Common.{arith, ◌≡◌, ◌+◌, ◌<◌, ℕ, List, [], ◌∷◌, ◌++◌, length, true, get_or, map, take, drop, sym}
use Rattle.std.proofs.Common.{ap, ◌∙◌}
use Rattle.std.specs.Prelude.{slice_set}
use Rattle.std.proofs.lemmas.List.{drop_more, drop-set-lt, drop-drop, take_more, take_more_set, map_push}
use Rattle.ps_word.specs.declared.words.Word.{Word}
use Rattle.ps_core_machine.specs.declared.events.Gc.{Gc}
use Rattle.ps_core_machine.specs.Objects.{renamed_value, value_has_replica, values_have_replicas}
use Rattle.ps_core_laws.proofs.HeapTests.{and_parts}
use Rattle.ps_core_laws.specs.Stores.{number_of, numbers}
use Rattle.ps_table.specs.Events.{gc_did_all, root_look, root_looks}
use Rattle.ps_table.proofs.Flipping.{gc_all-append}
use Rattle.ps_table.proofs.collector.GcSeat.rename.Goals as goal

-- one word more is renamed
one_more : (f : ℕ → ℕ) (xs ys : List Word) (i : ℕ) (x new d : Word) → i < length xs
    → i < length ys → get_or ys i d ≡ x → number_of new ≡ f (number_of x)
    → numbers (take i xs) ≡ map f (numbers (take i ys))
    → numbers (take (i + 1) (slice_set xs i new)) ≡ map f (numbers (take (i + 1) ys))
one_more f xs ys i x new d lt below at is before =
    let left : numbers (take (i + 1) (slice_set xs i new))
    ≡ numbers (take i xs) ++ number_of new ∷ [] =
    ap numbers (take_more_set xs i new lt) ∙ map_push number_of (take i xs) new in
    let right : map f (numbers (take (i + 1) ys))
    ≡ map f (numbers (take i ys)) ++ f (number_of x) ∷ [] =
    ap (λ l. map f (numbers l)) (take_more ys i d below)
    ∙ (ap (map f) (map_push number_of (take i ys) (get_or ys i d))
    ∙ (map_push f (numbers (take i ys)) (number_of (get_or ys i d))
    ∙ ap (λ (w : Word). map f (numbers (take i ys)) ++ f (number_of w) ∷ []) at)) in
    left ∙ ((λ j. before j ++ is j ∷ []) ∙ sym right)

pub loop-root-preserved : goal.loop-root-preserved
loop-root-preserved g c =
    let g = c.args.self.now.seat.me.0.gc in
    let m = c.args.self.now.seat.me.0 in
    let i = c.loop-root.root-index in
    let xs = c.loop-root.roots in
    let ys = c.args.roots.now in
    let inv = c.loop-root.invariant in
    let none : Word = record { 0 = 0 } in
    let x : Word = get_or xs i none in
    let new = c.renamed.result in
    let long = c.loop-root.auto.roots in
    let below = c.loop-root-test.true in
    let lt : i < length xs = omega arith in
    let more : drop i xs ≡ x ∷ drop (i + 1) xs = drop_more xs i none lt in
    let more_there : drop i ys ≡ get_or ys i none ∷ drop (i + 1) ys = drop_more ys i none below in
    let both : get_or ys i none ∷ drop (i + 1) ys ≡ x ∷ drop (i + 1) xs =
    sym more_there ∙ (sym inv.4 ∙ more) in
    let same : get_or ys i none ≡ x = cc in
    let rest : drop (i + 1) (slice_set xs i new) ≡ drop (i + 1) xs =
    drop-set-lt (i + 1) xs i new (omega arith) in
    let has : values_have_replicas g.pairs (numbers (x ∷ drop (i + 1) xs)) ≡ true =
    ap (λ l. values_have_replicas g.pairs (numbers l)) (sym more) ∙ inv.2 in
    let parts = and_parts (value_has_replica g.pairs x.0)
    (values_have_replicas g.pairs (numbers (drop (i + 1) xs))) has in (
      c.renamed.ensures.part ∙ inv.0,
      c.renamed.ensures.same ∙ inv.1,
      ap (λ l. values_have_replicas g.pairs (numbers l)) rest ∙ parts.1,
      ap (λ l. gc_did_all c.renamed.new.self.seat.me.0 (root_looks g (numbers l))) rest
          ∙ (ap (λ n. gc_did_all n (root_looks g (numbers (drop (i + 1) xs))))
          (c.renamed.ensures.did ∙ ap (λ (h : Gc). gc_did_all c.loop-root.self.seat.me.0
          (root_look h x.0)) inv.0)
          ∙ (sym (gc_all-append c.loop-root.self.seat.me.0 (root_look g x.0)
          (root_looks g (numbers (drop (i + 1) xs))))
          ∙ (ap (λ l. gc_did_all c.loop-root.self.seat.me.0 (root_looks g (numbers l)))
          (sym more) ∙ inv.3))),
      rest ∙ (sym (drop-drop 1 i xs) ∙ (ap (drop 1) inv.4 ∙ drop-drop 1 i ys)),
      one_more (renamed_value g.pairs) xs ys i x new none lt below same
          (c.renamed.ensures.renamed
          ∙ ap (λ (h : Gc). renamed_value h.pairs (number_of x)) inv.0)
          inv.5,
    )
