-- What a move of just what is reached leaves.
use Rattle.std.proofs.Common.{◌≡◌, ◌≢◌, ℕ, zero, suc, ◌<◌, ◌^◌, true, List, [], ◌∷◌, map, Some, None, Option, refl, sym}
use Rattle.std.proofs.Common.{ap, ◌∙◌, subst, arith}
use Rattle.std.specs.Prelude.{nat_le, ◌&&◌}
use Rattle.std.specs.List.{Contains}
use Rattle.std.proofs.lemmas.List.Elements.{All-contains, All-from_recursion}
use Rattle.ps_language.specs.declared.kinds.Kind.TheVariants.{Text}
use Rattle.ps_word.specs.declared.words.Word.{Word}
use Rattle.ps_word.specs.Format.{address_in}
use Rattle.ps_word.specs.Readers.{is_reference, readdressed}
use Rattle.ps_word.proofs.Changes.{address_in-readdressed, type-readdressed}
use Rattle.ps_mem.specs.Heap.{Heap, Standing, object_at}
use Rattle.ps_core_laws.specs.Moves.{Forwarding, led, moved_word, moved_words, moved_object, HasReplica, HaveReplicas}
use Rattle.ps_core_laws.specs.Moves.{IsMovedTo}
use Rattle.ps_core_laws.proofs.Words.{moved_fields-words}
use Rattle.ps_core_laws.specs.Reached.{IsReached, by_root, by_field, AreReached, MovesReached}

-- an element becomes one
pub contains-map : {A B : Type 0} (f : A → B) (xs : List A) (x : A) → Contains xs x
    → Contains (map f xs) (f x)
contains-map f [] x c = absurd (let low = c.1 in omega (arith, low))
contains-map f (y ∷ ys) x (zero, low, is) = (0, omega arith, ap f is)
contains-map f (y ∷ ys) x (suc k, low, is) =
    let rest = contains-map f ys x (k, omega (arith, low), is) in
    let within = rest.1 in
    (suc rest.0, omega (arith, within), rest.2)

-- an address of a replica
record Leads (h now : Heap) (forward : Forwarding) (roots : List Word) (a : ℕ) : Type 0 where
  to : ℕ
  there : forward a ≡ Some to
  reached : IsReached now (moved_words forward roots) to

module _ (h now : Heap) (forward : Forwarding) (roots : List Word)
    (moves : IsMovedTo h now forward) where
  some_is : (x : Option ℕ) → x ≢ None → (b : ℕ) × (x ≡ Some b)
  some_is None some = absurd (some refl)
  some_is (Some b) some = (b, refl)

  some_there : (x : Option Standing) → x ≢ None → (o : Standing) × (x ≡ Some o)
  some_there None some = absurd (some refl)
  some_there (Some o) some = (o, refl)

  -- a reference to what has a replica becomes one to the replica
  module _ (w : Word) (b : ℕ) (is : is_reference w.0 ≡ true)
      (there : forward (address_in w.0) ≡ Some b) where
    low : b < 2 ^ 24
    low = (moves.replicas (address_in w.0) b there).to

    word-led : (moved_word forward w).0 ≡ readdressed w.0 b
    word-led = rw is (ap (led w.0) there)

    reference-led : is_reference (moved_word forward w).0 ≡ true
    reference-led =
        ap is_reference word-led
        ∙ (ap (λ t. nat_le 6 t && nat_le t 11) (type-readdressed w.0 b low) ∙ is)

    address-led : address_in (moved_word forward w).0 ≡ b
    address-led = ap address_in word-led ∙ address_in-readdressed w.0 b low

  leads : HaveReplicas forward roots → (a : ℕ) → IsReached h roots a → Leads h now forward roots a
  leads have a (by_root w contains is) =
      let found = some_is (forward (address_in w.0))
      (All-contains (HasReplica forward) roots w
      (All-from_recursion (HasReplica forward) roots have) contains is) in
      record {
        to = found.0;
        there = found.1;
        reached = subst (IsReached now (moved_words forward roots))
            (address-led w found.0 is found.1)
            (by_root (moved_word forward w) (contains-map (moved_word forward) roots w contains)
            (reference-led w found.0 is found.1));
      }
  leads have a (by_field from o w reach stands kind contains is) =
      let before = leads have from reach in
      let r = moves.replicas from before.to before.there in
      let one : Some r.object ≡ Some o = sym r.stood ∙ stands in
      let same : r.object ≡ o = cc in
      let all : HaveReplicas forward o.fields =
      subst (λ (x : Standing). x.kind ≢ Text → HaveReplicas forward x.fields) same r.complete
      kind in
      let found = some_is (forward (address_in w.0))
      (All-contains (HasReplica forward) o.fields w
      (All-from_recursion (HasReplica forward) o.fields all) contains is) in
      let fields = moved_fields-words forward o.kind o.fields kind in
      record {
        to = found.0;
        there = found.1;
        reached = subst (IsReached now (moved_words forward roots))
            (address-led w found.0 is found.1)
            (by_field before.to (moved_object forward o) (moved_word forward w) before.reached
            (r.stands ∙ ap (λ (x : Standing). Some (moved_object forward x)) same) kind
            (subst (λ ws. Contains ws (moved_word forward w)) (sym fields)
            (contains-map (moved_word forward) o.fields w contains))
            (reference-led w found.0 is found.1));
      }

  pub are-reached : HaveReplicas forward roots → MovesReached h forward roots
      → AreReached now (moved_words forward roots)
  are-reached have just b stands =
      let there = some_there (object_at now b) stands in
      let from = moves.only b there.0 there.1 in
      let l = leads have from.0 (just from.0 (λ none. let clash : None ≡ Some b =
      sym none ∙ from.1 in cc)) in
      let one : Some l.to ≡ Some b = sym l.there ∙ from.1 in
      let same : l.to ≡ b = cc in
      subst (IsReached now (moved_words forward roots)) same l.reached
