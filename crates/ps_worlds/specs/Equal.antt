-- Equal images are of the same contexts over the same memory.
use Rattle.std.proofs.Common.{rules, ◌≡◌, Bool, true, false, ℕ, List, Option, Some, None, [], ◌∷◌, ◌++◌, map, take, refl, sym, ap, ◌∙◌, true≢false}
use Rattle.std.specs.Prelude.{◌&&◌, nat_eq, option_map}
use Rattle.std.specs.Bool.{beq}
use Rattle.std.specs.Cmp.{booleans_Decides, signed_Decides}
use Rattle.std.specs.Cmp.Lexicographic.{pointwise}
use Rattle.std.proofs.lemmas.Bool.Decides.{Decides-eqb}
use Rattle.std.proofs.lemmas.List.{map-id}
use Rattle.ps_language.specs.Worlds.{first_names}
use Rattle.ps_word.specs.declared.words.Word.{Word}
use Rattle.ps_word.specs.contracts.words.WordPartialEq as words
use Rattle.ps_word.specs.declared.values.Part.{Part}
use Rattle.ps_word.specs.contracts.values.PartPartialEq as parts
use Rattle.ps_mem.specs.Plain.{heap_of_image}
use Rattle.ps_ops_control.specs.declared.frames.Frame.{Frame}
use Rattle.ps_ops_control.specs.declared.frames.Frame.TheVariants.{Text, Procedure, Pending, Repeat, Loop, For, Forall, Stopped, Monitor, Bind}
use Rattle.ps_ops_control.specs.contracts.frames.FramePartialEq as frames
use Rattle.ps_ctx_table.specs.declared.members.Course.{Course}
use Rattle.ps_ctx_table.specs.contracts.members.CoursePartialEq as courses
use Rattle.ps_ctx_table.specs.Desks.{Desk}
use Rattle.ps_worlds.specs.declared.images.Image.{Image}
use Rattle.ps_worlds.specs.declared.members.MemberImage.{MemberImage}
use Rattle.ps_worlds.specs.declared.memories.MemoryImage.{MemoryImage}
use Rattle.ps_worlds.specs.declared.names.NamesImage.{NamesImage}
use Rattle.ps_worlds.specs.contracts.images.ImagePartialEq as images
use Rattle.ps_worlds.specs.contracts.members.MemberImagePartialEq as members
use Rattle.ps_worlds.specs.contracts.memories.MemoryImagePartialEq as memories
use Rattle.ps_worlds.specs.contracts.names.NamesImagePartialEq as names
use Rattle.ps_worlds.specs.Images.{cut_at, member_in, names_in, words_in, IsImageOf}

-- ---- tests

left_of : (a b : Bool) → (a && b) ≡ true → a ≡ true
left_of true b is = refl
left_of false b is = is

right_of : (a b : Bool) → (a && b) ≡ true → b ≡ true
right_of true b is = is
right_of false b is = absurd (true≢false (sym is))

number_same : (a b : ℕ) → nat_eq a b ≡ true → a ≡ b
number_same a b is = (Decides-eqb a b).0 is

truth_same : (a b : Bool) → beq a b ≡ true → a ≡ b
truth_same a b is = (booleans_Decides a b).0 is

-- of two lists whose elements are pairwise equal
mapped_same : {A B : Type 0} (E : A → A → Bool) (f : A → B)
    → ((x y : A) → E x y ≡ true → f x ≡ f y) → (xs ys : List A) → pointwise E xs ys ≡ true
    → map f xs ≡ map f ys
mapped_same E f same [] [] is = refl
mapped_same E f same [] (y ∷ ys) is = absurd (true≢false (sym is))
mapped_same E f same (x ∷ xs) [] is = absurd (true≢false (sym is))
mapped_same E f same (x ∷ xs) (y ∷ ys) is =
    ap (λ (one : _). one ∷ map f xs) (same x y (left_of (E x y) (pointwise E xs ys) is))
    ∙ ap (λ (rest : List _). f y ∷ rest)
    (mapped_same E f same xs ys (right_of (E x y) (pointwise E xs ys) is))

items_same : {A : Type 0} (E : A → A → Bool) → ((x y : A) → E x y ≡ true → x ≡ y)
    → (xs ys : List A) → pointwise E xs ys ≡ true → xs ≡ ys
items_same {A} E same xs ys is =
    sym (map-id xs) ∙ (mapped_same E (λ (x : A). x) same xs ys is ∙ map-id ys)

numbers_same : (xs ys : List ℕ) → pointwise nat_eq xs ys ≡ true → xs ≡ ys
numbers_same xs ys is = items_same nat_eq number_same xs ys is

-- ---- contexts

word_same : (a b : Word) → words.TheImpl.ghosts.eq a b ≡ true → a ≡ b
word_same a b is = search rules

course_same : (a b : Course) → courses.TheImpl.ghosts.eq a b ≡ true → a ≡ b
course_same a b is = search rules

part_same : (a b : Part) → parts.TheImpl.ghosts.eq a b ≡ true → a ≡ b
part_same a b is = search rules

frame_same : (a b : Frame) → frames.TheImpl.ghosts.eq a b ≡ true → a ≡ b
frame_same (Text source at) b is = search rules
frame_same (Procedure rest) b is = search rules
frame_same (Pending word) b is = search rules
frame_same (Repeat count body) b is = search rules
frame_same (Loop body) b is = search rules
frame_same (For control increment limit body) (Text source at) is = search rules
frame_same (For control increment limit body) (Procedure rest) is = search rules
frame_same (For control increment limit body) (Pending word) is = search rules
frame_same (For control increment limit body) (Repeat count other) is = search rules
frame_same (For control increment limit body) (Loop other) is = search rules
frame_same (For control increment limit body) (For at more last other) is =
    let first : control ≡ at = (signed_Decides control at).0 (left_of _ _ is) in
    let second = right_of _ _ is in
    let third = right_of _ _ second in
    let step : increment ≡ more = (signed_Decides increment more).0 (left_of _ _ second) in
    let end : limit ≡ last = (signed_Decides limit last).0 (left_of _ _ third) in
    let same : body ≡ other = part_same body other (right_of _ _ third) in
    rw (first, step, end, same) refl
frame_same (For control increment limit body) (Forall over at other) is = search rules
frame_same (For control increment limit body) Stopped is = search rules
frame_same (For control increment limit body) (Monitor lock) is = search rules
frame_same (For control increment limit body) (Bind over at depth) is = search rules
frame_same (Forall over at body) b is = search rules
frame_same Stopped b is = search rules
frame_same (Monitor lock) b is = search rules
frame_same (Bind over at depth) b is = search rules

member_same : (a b : MemberImage) → members.TheImpl.ghosts.eq a b ≡ true
    → member_in a ≡ member_in b
member_same a b is =
    let operands : a.operands.items ≡ b.operands.items =
    items_same _ word_same a.operands.items b.operands.items (left_of _ _ is) in
    let first = right_of _ _ is in
    let dictionaries : a.dictionaries.items ≡ b.dictionaries.items =
    items_same _ word_same a.dictionaries.items b.dictionaries.items (left_of _ _ first) in
    let second = right_of _ _ first in
    let frames : a.frames.items ≡ b.frames.items =
    items_same _ frame_same a.frames.items b.frames.items (left_of _ _ second) in
    let third = right_of _ _ second in
    let error : a.error_dictionary ≡ b.error_dictionary =
    number_same a.error_dictionary b.error_dictionary (left_of _ _ third) in
    let fourth = right_of _ _ third in
    let course : a.course ≡ b.course = course_same a.course b.course (left_of _ _ fourth) in
    let detached : a.is_detached ≡ b.is_detached =
    truth_same a.is_detached b.is_detached (right_of _ _ fourth) in
    rw (operands, dictionaries, frames, error, course, detached) refl

-- ---- memories and names

-- what an image says of a memory
pub memory_same : (first : List ℕ) (a b : MemoryImage) → memories.TheImpl.ghosts.eq a b ≡ true
    → heap_of_image (words_in first a) a.next ≡ heap_of_image (words_in first b) b.next
memory_same first a b is =
    let same : a.same ≡ b.same = number_same a.same b.same (left_of _ _ is) in
    let rest = right_of _ _ is in
    let words : a.words.items ≡ b.words.items =
    numbers_same a.words.items b.words.items (left_of _ _ rest) in
    let next : a.next ≡ b.next = number_same a.next b.next (right_of _ _ rest) in
    ap (λ (n : ℕ). heap_of_image (take n first ++ a.words.items) a.next) same
    ∙ (ap (λ (ws : List ℕ). heap_of_image (take b.same first ++ ws) a.next) words
    ∙ ap (heap_of_image (words_in first b)) next)

pub named_same : (a b : NamesImage) → names.TheImpl.ghosts.eq a b ≡ true
    → names_in a ≡ names_in b
named_same a b is =
    let lengths : a.lengths.items ≡ b.lengths.items =
    numbers_same a.lengths.items b.lengths.items (left_of _ _ is) in
    let bytes : a.bytes.items ≡ b.bytes.items =
    numbers_same a.bytes.items b.bytes.items (right_of _ _ is) in
    ap (λ (counts : List ℕ). first_names ++ cut_at counts a.bytes.items) lengths
    ∙ ap (λ (all : List ℕ). first_names ++ cut_at b.lengths.items all) bytes

-- ---- images

option_same : {A B : Type 0} (E : Option A → Option A → Bool) (F : A → A → Bool) (f : A → B)
    → ((x y : A) → E (Some x) (Some y) ≡ F x y) → ((x : A) → E None (Some x) ≡ false)
    → ((x : A) → E (Some x) None ≡ false) → ((x y : A) → F x y ≡ true → f x ≡ f y)
    → (x y : Option A) → E x y ≡ true → option_map f x ≡ option_map f y
option_same E F f both none some same None None is = refl
option_same E F f both none some same None (Some y) is =
    absurd (true≢false (sym is ∙ none y))
option_same E F f both none some same (Some x) None is =
    absurd (true≢false (sym is ∙ some x))
option_same E F f both none some same (Some x) (Some y) is =
    ap (λ (one : _). Some one) (same x y (sym (both x y) ∙ is))

pub image_same : (first : List ℕ) (d : Desk) (a b : Image) → images.TheImpl.ghosts.eq a b ≡ true
    → IsImageOf first d a → IsImageOf first d b
image_same first d a b is of =
    let rest = right_of _ _ is in
    let second = right_of _ _ rest in
    let third = right_of _ _ second in
    record {
      heap = of.heap ∙ memory_same first a.memory b.memory (left_of _ _ is);
      names = of.names ∙ named_same a.names b.names (left_of _ _ rest);
      printed = of.printed ∙ numbers_same a.printed.items b.printed.items (left_of _ _ second);
      faulted = of.faulted ∙ truth_same a.has_faulted b.has_faulted (left_of _ _ third);
      members = of.members ∙ mapped_same _ (option_map member_in)
          (option_same _ members.TheImpl.ghosts.eq member_in (λ x y. refl) (λ x. refl)
          (λ x. refl) member_same) a.members.items b.members.items (right_of _ _ third);
    }
