-- What moving leaves of the marks: they cover what stands then.
use Rattle.std.proofs.Common.{◌≡◌, ◌≢◌, ℕ, zero, suc, Bool, true, false, List, [], ◌∷◌, map, Some, refl, sym, ap, ◌∙◌, subst}
use Rattle.std.specs.Prelude.{slice_get}
use Rattle.ps_language.specs.declared.kinds.Kind.TheVariants.{Text as TextKind, Body as BodyKind}
use Rattle.ps_word.specs.declared.words.Word.{Word}
use Rattle.ps_word.specs.declared.values.Content.{Content}
use Rattle.ps_word.specs.declared.values.Content.TheVariants.{Name, Array, Text, Dictionary, Lock, Condition, Body}
use Rattle.ps_word.specs.Format.{content_in}
use Rattle.ps_mem.specs.Heap.{Heap, Standing}
use Rattle.ps_mem.specs.declared.marks.Mark.{Mark as NameMark}
use Rattle.ps_mem.specs.Marks.{Covers, admits, mark_of}
use Rattle.ps_mem.proofs.Lists.{all_at}
use Rattle.ps_core_laws.specs.Moves.{Forwarding, HasReplica, IsMovedTo, moved_word, moved_words, moved_object}
use Rattle.ps_core_laws.proofs.Words.{place, placed, content-moved, moved_fields-words}

-- what is a name was that name
name-placed : (place : ℕ → ℕ) (c : Content) (n : ℕ) → placed place c ≡ Name n → c ≡ Name n
name-placed place (Array p) n e = cc
name-placed place (Text p) n e = cc
name-placed place (Dictionary a) n e = cc
name-placed place (Lock a) n e = cc
name-placed place (Condition a) n e = cc
name-placed place (Body a) n e = cc
name-placed place _ n e = e

-- what stands at a place of a mapped list
got-map : {A B : Type 0} (f : A → B) (xs : List A) (i : ℕ) (y : B)
    → slice_get (map f xs) i ≡ Some y → (x : A) × (slice_get xs i ≡ Some x) × (f x ≡ y)
got-map f [] i y e = cc
got-map f (x ∷ xs) zero y e = (x, refl, (let same : f x ≡ y = cc in same))
got-map f (x ∷ xs) (suc i) y e = got-map f xs i y e

module _ (h now : Heap) (forward : Forwarding) (moves : IsMovedTo h now forward)
    (marks : List NameMark) (covers : Covers h marks) where
  pub Covers-moved : Covers now marks
  Covers-moved name b at o w there kind found even is =
      let (a, from) = moves.only b o there in
      let r = moves.replicas a b from in
      let same : moved_object forward r.object ≡ o =
      let both : Some (moved_object forward r.object) ≡ Some o = sym r.stands ∙ there in cc in
      let was : r.object.kind ≡ BodyKind = ap (λ (x : Standing). x.kind) same ∙ kind in
      let no_text : r.object.kind ≢ TextKind = λ text. let clash : BodyKind ≡ TextKind = sym was ∙ text in cc in
      let fields : moved_words forward r.object.fields ≡ o.fields =
      sym (moved_fields-words forward r.object.kind r.object.fields no_text)
      ∙ ap (λ (x : Standing). x.fields) same in
      let (v, stood, led) = got-map (moved_word forward) r.object.fields at w
      (ap (λ xs. slice_get xs at) fields ∙ found) in
      let have = all_at (HasReplica forward) r.object.fields at v (r.complete no_text) stood in
      let named : content_in v.0 ≡ Name name =
      name-placed (place h now forward moves) (content_in v.0) name
      (sym (content-moved h now forward moves v have)
      ∙ (ap (λ (x : Word). content_in x.0) led ∙ is)) in
      ap (admits (mark_of marks name)) (sym (ap (λ (x : Standing). x.birth) same))
      ∙ covers name a at r.object v r.stood was stood even named

-- they cover it whether it was moved or stays as it was
pub Covers-either : (h now : Heap) (marks : List NameMark) → Covers h marks → (ended : Bool)
    → (ended ≡ true → (forward : Forwarding) × IsMovedTo h now forward)
    → (ended ≡ false → now ≡ h) → Covers now marks
Covers-either h now marks covers true moved same =
    let (forward, moves) = moved refl in Covers-moved h now forward moves marks covers
Covers-either h now marks covers false moved same =
    subst (λ (k : Heap). Covers k marks) (sym (same refl)) covers
