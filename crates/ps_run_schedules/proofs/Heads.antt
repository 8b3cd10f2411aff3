-- Schedules that begin others, of which an entry each is cut.
use Rattle.std.proofs.Common.{rules, ◌≡◌, ◌≢◌, ◌↔◌, IsTrue, ℕ, suc, ◌+◌, ◌-◌, ◌<◌, ◌≤◌, Bool, true, false, Option, List}
use Rattle.std.proofs.Common.{[], ◌∷◌, ◌++◌, take, length, refl, sym, subst, ◌∙◌, ap, arith, length-append}
use Rattle.std.proofs.Common.{append_assoc, append-nil}
use mathlib.Core.List.{IsPrefix}
use Rattle.std.specs.Prelude.{ℤ, replicate, nat_lt}
use Rattle.std.proofs.lemmas.Bool.Decides.{nat_tests}
use Rattle.std.proofs.lemmas.List.{append_cancel_left, same_from_push, take_at, take_all, length-take-le}
use Rattle.std.proofs.lemmas.List.{length-replicate, replicate-append-replicate}
use Rattle.ps_language.specs.contracts.schedules.EntryPartialEq as derived
use Rattle.ps_language.specs.declared.schedules.Entry.{Entry}
use Rattle.ps_language.specs.Schedules.{Move, plain_move, last_move, moves_of, moves}
use Rattle.ps_run_schedules.specs.Fronts.{front, behind}
use Rattle.ps_run_schedules.proofs.Counting.{length_moves_of}

-- the first entry's steps come first
head_steps : (entry : Entry) (after : List Entry)
    → moves (entry ∷ after) ≡ moves_of entry entry.steps ++ moves after
unfolding moves
head_steps entry after = refl

no_moves : moves [] ≡ []
unfolding moves
no_moves = refl

-- an entry of no steps is none
pub no_head : (entry : Entry) (after : List Entry) → entry.steps ≡ 0
    → moves (entry ∷ after) ≡ moves after
unfolding moves
no_head entry after none = rw none refl

-- ---- an entry that is cut

-- the steps of an entry, cut behind so many
cut_at : (entry : Entry) (few more : ℕ) → moves_of entry (few + suc more)
    ≡ replicate few (plain_move entry.context) ++ moves_of entry (suc more)
cut_at entry few more =
    let plain : Move = plain_move entry.context in
    subst (λ n. moves_of entry n ≡ replicate few plain ++ moves_of entry (suc more))
    (let e : suc (few + more) ≡ few + suc more = omega arith in e)
    (ap {B = List Move} (λ (steps : List Move). steps ++ last_move entry ∷ [])
    (sym (replicate-append-replicate few more plain))
    ∙ append_assoc (replicate few plain) (replicate more plain) (last_move entry ∷ []))

-- the first steps of an entry that has more are ordinary ones
pub plain_front : (entry : Entry) (few : ℕ) → few < entry.steps
    → front entry few ≡ replicate few (plain_move entry.context)
plain_front entry few less =
    let plain : List Move = replicate few (plain_move entry.context) in
    let more : ℕ = entry.steps - few - 1 in
    let long : few + suc more ≡ entry.steps = omega (arith, less) in
    subst (λ n. take few (moves_of entry n) ≡ plain) long
    (ap (take few) (cut_at entry few more)
    ∙ take_at plain (moves_of entry (suc more)) few (length-replicate few (plain_move entry.context)))

-- where it has no more, they are all
whole_front : (entry : Entry) (steps : ℕ) → entry.steps ≤ steps
    → front entry steps ≡ moves_of entry entry.steps
whole_front entry steps le =
    take_all steps (moves_of entry entry.steps) (omega (arith, length_moves_of entry entry.steps, le))

-- as many as were asked for
length_front : (entry : Entry) (steps : ℕ) → steps ≤ entry.steps
    → length (front entry steps) ≡ steps
length_front entry steps le =
    length-take-le steps (moves_of entry entry.steps)
    (omega (arith, length_moves_of entry entry.steps, le))

-- an entry of these steps has as many
steps_of_front : (entry cut : Entry) (steps : ℕ) → steps ≤ entry.steps
    → moves_of cut cut.steps ≡ front entry steps → cut.steps ≡ steps
steps_of_front entry cut steps le same =
    sym (length_moves_of cut cut.steps) ∙ (ap (λ (moves : List Move). length moves) same
    ∙ length_front entry steps le)

cut_by : (entry : Entry) (few : ℕ) (test : Bool) → nat_lt few entry.steps ≡ test
    → few ≤ entry.steps → moves_of entry entry.steps
    ≡ front entry few ++ moves_of (behind entry few) (entry.steps - few)
cut_by entry few true is le =
    let less : few < entry.steps = grind (arith, nat_tests) in
    let more : ℕ = entry.steps - few - 1 in
    let long : entry.steps ≡ few + suc more = omega (arith, less) in
    let left : entry.steps - few ≡ suc more = omega (arith, less) in
    let plain : List Move = replicate few (plain_move entry.context) in
    ap (moves_of entry) long
    ∙ (cut_at entry few more
    ∙ (ap (λ n. plain ++ moves_of (behind entry few) n) (sym left)
    ∙ ap {B = List Move} (λ steps. steps ++ moves_of (behind entry few) (entry.steps - few))
    (sym (plain_front entry few less))))
cut_by entry few false is le =
    let all : entry.steps ≤ few = grind (arith, nat_tests) in
    let none : entry.steps - few ≡ 0 = omega (arith, all) in
    rw (none, whole_front entry few all) (sym (append-nil (moves_of entry entry.steps)))

-- the steps of a schedule, behind so many of its first entry
parted : (entry : Entry) (after : List Entry) (few : ℕ) → few ≤ entry.steps
    → moves (entry ∷ after) ≡ front entry few ++ moves (behind entry few ∷ after)
parted entry after few le =
    head_steps entry after
    ∙ (ap {B = List Move} (λ steps. steps ++ moves after)
    (cut_by entry few (nat_lt few entry.steps) refl le)
    ∙ (append_assoc (front entry few) (moves_of (behind entry few) (entry.steps - few)) (moves after)
    ∙ ap {B = List Move} (λ steps. front entry few ++ steps)
    (sym (head_steps (behind entry few) after))))

-- ---- two entries that are cut

entry_with : (context steps : ℕ) (refused : Bool) (shown : Option (ℤ × ℤ)) → Entry
entry_with context steps refused shown =
    record { context = context; steps = steps; refused = refused; shown = shown }

fields : (a b : ℕ) (m n : ℕ) (r s : Bool) (u v : Option (ℤ × ℤ)) → a ≡ b → m ≡ n → r ≡ s → u ≡ v
    → entry_with a m r u ≡ entry_with b n s v
fields a b m n r s u v c k f p = rw (c, k, f, p) refl

-- an entry is known by its steps, if it has any
same_entry : (first second : Entry) (n : ℕ) → first.steps ≡ suc n → second.steps ≡ suc n
    → moves_of first (suc n) ≡ moves_of second (suc n) → first ≡ second
unfolding entry_with
same_entry first second n few many same =
    let last : last_move first ≡ last_move second =
    (same_from_push (replicate n (plain_move first.context)) (replicate n (plain_move second.context))
    (last_move first) (last_move second) same).1 in
    fields first.context second.context first.steps second.steps first.refused second.refused first.shown second.shown
    (ap (λ (m : Move). m.context) last) (few ∙ sym many) (ap (λ (m : Move). m.refused) last)
    (ap (λ (m : Move). m.shown) last)

known_by_steps : (first second : Entry) → 1 ≤ first.steps
    → moves_of first first.steps ≡ moves_of second second.steps → first ≡ second
known_by_steps first second some same =
    let long : first.steps ≡ second.steps =
    sym (length_moves_of first first.steps) ∙ (ap (λ (steps : List Move). length steps) same
    ∙ length_moves_of second second.steps) in
    let n : ℕ = first.steps - 1 in
    let few : first.steps ≡ suc n = omega (arith, some) in
    let many : second.steps ≡ suc n = sym long ∙ few in
    same_entry first second n few many
    (sym (ap (moves_of first) few) ∙ (same ∙ ap (moves_of second) many))

equal_entries : (test : Bool) (a b : Entry) → test ≡ derived.TheImpl.ghosts.eq a b
    → IsTrue test ↔ a ≡ b
equal_entries test a b is = search rules

-- so two entries of the first steps of others are equal exactly if those steps are the same
pub equal_fronts : (first second one two : Entry) (steps : ℕ) (test : Bool) → 1 ≤ steps
    → steps ≤ first.steps → moves_of one one.steps ≡ front first steps
    → moves_of two two.steps ≡ front second steps → test ≡ derived.TheImpl.ghosts.eq one two
    → IsTrue test ↔ front first steps ≡ front second steps
equal_fronts first second one two steps test some le a b is =
    let equal = equal_entries test one two is in
    let long = steps_of_front first one steps le a in (
      λ h. sym a ∙ (ap (λ (entry : Entry). moves_of entry entry.steps) (equal.0 h) ∙ b),
      λ same. equal.1 (known_by_steps one two (omega (arith, long, some)) (a ∙ (same ∙ sym b))),
    )

-- where both begin with the same steps, what is left of the one begins what is left of the other
-- exactly if all does
pub same_front : (first second : Entry) (part whole : List Entry) (n : ℕ)
    → n ≤ first.steps → n ≤ second.steps → front first n ≡ front second n
    → IsPrefix (moves (behind first n ∷ part)) (moves (behind second n ∷ whole))
    ↔ IsPrefix (moves (first ∷ part)) (moves (second ∷ whole))
same_front first second part whole n few many same =
    let head : List Move = front first n in
    let left : List Move = moves (behind first n ∷ part) in
    let right : List Move = moves (behind second n ∷ whole) in
    let one : moves (first ∷ part) ≡ head ++ left = parted first part n few in
    let two : moves (second ∷ whole) ≡ head ++ right =
    parted second whole n many ∙ ap (λ (steps : List Move). steps ++ right) (sym same) in (
      λ h. (
        h.0,
        ap (λ (steps : List Move). steps ++ h.0) one
            ∙ (append_assoc head left h.0 ∙ (ap (λ (steps : List Move). head ++ steps) h.1 ∙ sym two)),
      ),
      λ h. (
        h.0,
        append_cancel_left head (left ++ h.0) right
            (sym (append_assoc head left h.0)
            ∙ (ap (λ (steps : List Move). steps ++ h.0) (sym one) ∙ (h.1 ∙ two))),
      ),
    )

-- where they don't, none begins the other
pub other_front : (first second : Entry) (part whole : List Entry) (n : ℕ)
    → n ≤ first.steps → n ≤ second.steps → front first n ≢ front second n
    → ¬ IsPrefix (moves (first ∷ part)) (moves (second ∷ whole))
other_front first second part whole n few many other = λ h.
    let one : List Move = front first n in
    let two : List Move = front second n in
    let left : List Move = moves (behind first n ∷ part) ++ h.0 in
    let right : List Move = moves (behind second n ∷ whole) in
    let whole_is : one ++ left ≡ two ++ right =
    sym (append_assoc one (moves (behind first n ∷ part)) h.0)
    ∙ (ap (λ (steps : List Move). steps ++ h.0) (sym (parted first part n few))
    ∙ (h.1 ∙ parted second whole n many)) in
    other (sym (take_at one left n (length_front first n few))
    ∙ (ap (take n) whole_is ∙ take_at two right n (length_front second n many)))

-- ---- schedules of which nothing is left

-- nothing begins all
pub none_first : (entry : Entry) (after : List Entry) (whole : List Move) → entry.steps ≡ 0
    → length after ≡ 0 → IsPrefix (moves (entry ∷ after)) whole
none_first entry [] whole none end = (
  whole,
  ap (λ (steps : List Move). steps ++ whole) (no_head entry [] none ∙ no_moves),
)
none_first entry (next ∷ after) whole none end = absurd (omega (arith, end))

-- a step begins no schedule without steps
pub some_first : (entry second : Entry) (after whole : List Entry) → 1 ≤ entry.steps
    → second.steps ≡ 0 → length whole ≡ 0 → ¬ IsPrefix (moves (entry ∷ after)) (moves (second ∷ whole))
some_first entry second after [] some none end = λ h.
    let is : (moves_of entry entry.steps ++ moves after) ++ h.0 ≡ [] =
    ap (λ (steps : List Move). steps ++ h.0) (sym (head_steps entry after))
    ∙ (h.1 ∙ (no_head second [] none ∙ no_moves)) in
    let long : length ((moves_of entry entry.steps ++ moves after) ++ h.0) ≡ 0 =
    ap (λ (steps : List Move). length steps) is in
    let a = length-append (moves_of entry entry.steps ++ moves after) h.0 in
    let b = length-append (moves_of entry entry.steps) (moves after) in
    let c = length_moves_of entry entry.steps in
    omega (arith, long, a, b, c, some)
some_first entry second after (next ∷ whole) some none end = absurd (omega (arith, end))

-- ---- the same of the same steps

pub still_first : (part others whole further : List Move) (A : Type 0) → part ≡ others
    → whole ≡ further → (IsPrefix part whole ↔ A) → IsPrefix others further ↔ A
still_first part others whole further A one two h =
    subst (λ (steps : List Move). IsPrefix steps further ↔ A) one
    (subst (λ (steps : List Move). IsPrefix part steps ↔ A) two h)
