-- What an operator leaves that makes an object of any kind: made, refused, or without room.
use Rattle.std.proofs.Common.{◌≡◌, ℕ, ◌+◌, ◌-◌, List, [], ◌∷◌, ◌++◌, length, Bool, true, false, Ok, Err, refl, sym, ap, subst, arith, ◌∙◌}
use Rattle.std.specs.Prelude.{◌==◌, not, if◌then◌else◌}
use Rattle.std.proofs.lemmas.Bool.Decides.{nat_tests}
use Rattle.std.proofs.lemmas.List.{length-append}
use Rattle.ps_language.specs.declared.access.Access.TheVariants.{Unlimited}
use Rattle.ps_language.specs.declared.kinds.Kind.TheVariants.{Array as ArrayKind, Text as TextKind}
use Rattle.ps_language.specs.declared.errors.ErrorName.TheVariants.{VmError}
use Rattle.ps_language.specs.Value.{Value, Object, array_object, string_object, dictionary_object, lock_object, condition_object, Store}
use Rattle.ps_language.specs.Outcome.{Outcome, fails, Change}
use Rattle.ps_language.specs.Objects.{size_of, reference_to, making, made_between}
use Rattle.ps_language.specs.Readers.{literal, whole}
use Rattle.ps_language.proofs.AskedLemmas.{made-new}
use Rattle.ps_ops_operands.specs.declared.failure.NotMade.{NotMade as Reason}
use Rattle.ps_ops_operands.specs.declared.failure.Failure.TheVariants.{Error, NotMade}
use Rattle.ps_word.specs.declared.words.Word.{Word}
use Rattle.ps_word.specs.declared.values.Part.{Part}
use Rattle.ps_mem.specs.Heap.{Heap, birth_at}
use Rattle.ps_mem.specs.Keeps.{Keeps}
use Rattle.ps_mem.specs.References.{StandsAs, words_for}
use Rattle.ps_mem.specs.Meaning.{value_of, part_of}
use Rattle.ps_mem.specs.Shows.{IsValue, AreValues, IsSound, IsReady, IsWithin, AreWithin, Shows}
use Rattle.ps_mem.proofs.KeepsLemmas.{AreValues-kept, AreWithin-kept, values_of-kept, known_values}
use Rattle.ps_mem.proofs.NewShows.{longer}
use Rattle.ps_ops_operands.specs.Changes.{values_in, IsLeft, refusing, IsRoomReason, ChangesAs, Makes}

-- ---- a reference to all of a new object

-- all of an array or a string of so many elements or bytes
abbrev pub whole_part : (address count : ℕ) → Part
whole_part address count =
    record { address = address; offset = 0; length = count; access = Unlimited }

pub whole_part-end : (part : Part) (count : ℕ) → part ≡ whole_part part.address count
    → part.offset + part.length ≡ count
whole_part-end part count is =
    omega (arith, ap (λ (p : Part). p.offset) is, ap (λ (p : Part). p.length) is)

-- as the language has it, of the newest object
pub part_of-whole : (births : ℕ → ℕ) (part : Part) (count birth : ℕ)
    → part ≡ whole_part part.address count → births part.address ≡ birth
    → part_of births part ≡ whole birth count
part_of-whole births part count birth is born =
    ap (λ (p : Part). record {
      birth = births part.address;
      offset = p.offset;
      count = p.length;
      access = p.access;
    }) is ∙ ap (λ (b : ℕ). whole b count) born

-- all of an array that stands
pub array_stands_whole : (now : Heap) (part : Part) (count : ℕ)
    → part ≡ whole_part part.address count
    → StandsAs now ArrayKind part.address count
    → StandsAs now ArrayKind part.address (part.offset + part.length)
array_stands_whole now part count is stands =
    subst (StandsAs now ArrayKind part.address) (sym (whole_part-end part count is)) stands

-- all of a string that stands
pub string_stands_whole : (now : Heap) (part : Part) (count : ℕ)
    → part ≡ whole_part part.address count
    → StandsAs now TextKind part.address (words_for count)
    → StandsAs now TextKind part.address (words_for (part.offset + part.length))
string_stands_whole now part count is stands =
    subst (λ n. StandsAs now TextKind part.address (words_for n))
    (sym (whole_part-end part count is)) stands

-- ---- made

-- the row made this object above these operands, and the word w refers to it
pub record MakesObject (row : Store → List Value → Outcome Change) (h now : Heap)
    (old rest : List Word) (w : Word) (names : List (List ℕ)) (s : Store) : Type 0 where
  pub object : Object
  pub is : row s (values_in h names old) ≡ making object (values_in h names rest) s
  pub reference : value_of (birth_at now) names w ≡ literal (reference_to object (length s))
  pub word_within : IsWithin (birth_at now) names (s ++ object ∷ []) w
  pub within : AreWithin h names s rest
  pub shows : Shows now names (s ++ object ∷ [])

module _ (h now : Heap) (old new rest : List Word) (keeps : Keeps h now) (values : AreValues h rest)
    (w : Word) (is : new ≡ w ∷ rest) where
  pub made_ready : IsSound now → IsValue now w → IsReady now new
  made_ready sound held = record {
    sound = sound;
    values =
        subst (AreValues now) (sym is) (held, AreValues-kept h now keeps rest values);
  }

  pub does_makes : (row : Store → List Value → Outcome Change) (refused : Bool) → refused ≡ false
      → ((names : List (List ℕ)) (s : Store) → Shows h names s → AreWithin h names s old
      → MakesObject row h now old rest w names s)
      → Makes row refused (Ok tt) h now old new
  does_makes row refused made makes = record {
    meets = λ names s shows within.
        let m = makes names s shows within in
        let reference : Value = literal (reference_to m.object (length s)) in
        let change : Change = record {
          operands = reference ∷ values_in h names rest;
          store = s ++ m.object ∷ [];
        } in
        let left : IsLeft change names now new = record {
          operands =
              ap (values_in now names) is
              ∙ (ap (λ v. v ∷ values_in now names rest) m.reference
              ∙ ap (λ vs. reference ∷ vs)
              (values_of-kept h now keeps names rest (known_values h rest values)));
          store = m.shows;
          within = subst (AreWithin now names (s ++ m.object ∷ [])) (sym is) (
            m.word_within,
            AreWithin-kept h now keeps names s (s ++ m.object ∷ [])
                (longer s (m.object ∷ [])) rest (known_values h rest values) m.within,
          );
        } in
        subst (λ outcome. ChangesAs (λ reason change. IsRoomReason reason h
        (made_between s change.store) (length change.store - length s)) (Ok tt)
        (refusing refused s outcome) names h now old new) (sym m.is)
        (subst (λ r. ChangesAs (λ reason change. IsRoomReason reason h (made_between s change.store)
        (length change.store - length s)) (Ok tt)
        (refusing r s (making m.object (values_in h names rest) s)) names h now old new)
        (sym made) left);
  }

-- ---- refused, or without room

-- the row makes an object of so many words
pub record IsMaking (row : Store → List Value → Outcome Change) (h : Heap) (words : ℕ)
    (old : List Word) (names : List (List ℕ)) (s : Store) : Type 0 where
  pub object : Object
  pub rest : List Value
  pub is : row s (values_in h names old) ≡ making object rest s
  pub size : size_of object ≡ words

-- the room that it asks for
made_births : (object : Object) (s : Store) → length (s ++ object ∷ []) - length s ≡ 1
made_births object s = omega (arith, length-append s (object ∷ []))

-- no object is of no words
size_of-some : (object : Object) → (size_of object == 0) ≡ false
size_of-some (array_object elements) = grind (arith, nat_tests)
size_of-some (string_object bytes) = grind (arith, nat_tests)
size_of-some (dictionary_object dictionary) = grind (arith, nat_tests)
size_of-some (lock_object owner) = refl
size_of-some condition_object = refl

lacks_making : (object : Object) (rest : List Value) (s : Store)
    → refusing true s (making object rest s) ≡ fails VmError
lacks_making object rest s =
    let some : (made_between s (s ++ object ∷ []) == 0) ≡ false =
    ap (λ (n : ℕ). n == 0) (made-new s object) ∙ size_of-some object in
    ap (λ (none : Bool). if not none then fails VmError else making object rest s) some

pub refused_makes : (row : Store → List Value → Outcome Change) (refused : Bool) (h : Heap)
    (words : ℕ) (old : List Word) → refused ≡ true
    → ((names : List (List ℕ)) (s : Store) → IsMaking row h words old names s)
    → Makes row refused (Err (Error VmError)) h h old old
refused_makes row refused h words old is makes = record {
  meets = λ names s shows within.
      let m = makes names s in
      subst (λ (outcome : Outcome Change). ChangesAs
      (λ reason change. IsRoomReason reason h (made_between s change.store)
      (length change.store - length s)) (Err (Error VmError)) outcome names h h old old)
      (sym (ap (λ (r : Bool). refusing r s (row s (values_in h names old))) is
      ∙ (ap (refusing true s) m.is ∙ lacks_making m.object m.rest s))) (refl, (refl, refl));
}

pub unmade_makes : (row : Store → List Value → Outcome Change) (refused : Bool) (h now : Heap)
    (words : ℕ) (old : List Word) (why : Reason) → refused ≡ false → now ≡ h
    → IsRoomReason why h words 1
    → ((names : List (List ℕ)) (s : Store) → IsMaking row h words old names s)
    → Makes row refused (Err (NotMade why)) h now old old
unmade_makes row refused h now words old why is same reason makes = record {
  meets = λ names s shows within.
      let m = makes names s in
      let asked : IsRoomReason why h (made_between s (s ++ m.object ∷ []))
      (length (s ++ m.object ∷ []) - length s)
      = subst (λ (n : ℕ). IsRoomReason why h n (length (s ++ m.object ∷ []) - length s))
      (sym (made-new s m.object ∙ m.size))
      (subst (λ (n : ℕ). IsRoomReason why h words n) (sym (made_births m.object s)) reason) in
      subst (λ (outcome : Outcome Change). ChangesAs
      (λ reason change. IsRoomReason reason h (made_between s change.store)
      (length change.store - length s)) (Err (NotMade why)) outcome names h now old old)
      (sym (ap (λ (r : Bool). refusing r s (row s (values_in h names old))) is
      ∙ ap (refusing false s) m.is)) (asked, (same, refl));
}
