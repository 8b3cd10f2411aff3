-- What the rows of control push, by what the operands are.
use Rattle.std.proofs.Common.{◌≡◌, ℕ, ℤ, List, [], ◌∷◌, Bool, true, false, ◌&&◌, Some, None, drop, length, ◌<◌, ◌≤◌, Ok}
use Rattle.std.proofs.Common.{refl, ap, subst, arith, ◌∙◌}
use Rattle.std.specs.Prelude.{slice_get}
use Rattle.std.specs.List.{AllByRecursion}
use Rattle.ps_language.specs.declared.errors.ErrorName.TheVariants.{ExecStackOverflow, InvalidAccess, TypeCheck}
use Rattle.ps_language.specs.Value.{Value, Store}
use Rattle.ps_language.specs.Effect.{Scene}
use Rattle.ps_language.specs.Outcome.{leaves, fails}
use Rattle.ps_language.specs.Access.{is_executable, is_writable}
use Rattle.ps_language.specs.Readers.{as_integer, as_count}
use Rattle.ps_language.specs.Control.{as_procedure, as_boolean, with_operands, exec_row, if_row, ifelse_row, for_row}
use Rattle.ps_language.specs.Control.{repeat_row, loop_row, stopped_row, bind_row}
use Rattle.ps_stacks.specs.Tops.{first_of, first_two_of, first_three_of}
use Rattle.ps_word.specs.declared.words.Word.{Word}
use Rattle.ps_word.specs.declared.values.Part.{Part}
use Rattle.ps_mem.specs.Heap.{Heap, birth_at}
use Rattle.ps_mem.specs.Meaning.{value_of, part_of}
use Rattle.ps_mem.specs.Shows.{IsValue, IsWithin}
use Rattle.ps_ops_operands.specs.Changes.{values_in}
use Rattle.ps_ops_operands.proofs.Held.{first_held, rest_held}
use Rattle.ps_ops_operands.proofs.Ready.{ready_drop}
use Rattle.ps_ops_operands.proofs.Operands.{first_split, first_two_split, first_three_split}
use Rattle.ps_ops_control.specs.declared.frames.Frame.TheVariants.{Pending, Repeat, Loop, For, Stopped, Bind}
use Rattle.ps_ops_control.specs.declared.frames.Frame.{Frame}
use Rattle.ps_ops_control.specs.Frames.{frame_of}
use Rattle.ps_ops_control.specs.Controls.{stacks, scene_of, IsReadyFor, Controls, Begins, Enters}
use Rattle.ps_ops_control.proofs.Rooms.{fits, full}
use Rattle.ps_ops_control.proofs.Controlling.{controls_left}

pub first_four_split : {A : Type 0} (xs : List A) (x y z u : A) → Some (x, y, z) ≡ first_three_of xs
    → Some u ≡ slice_get xs 3 → xs ≡ x ∷ y ∷ z ∷ u ∷ drop 4 xs
first_four_split [] x y z u three fourth = cc
first_four_split (a ∷ []) x y z u three fourth = cc
first_four_split (a ∷ b ∷ []) x y z u three fourth = cc
first_four_split (a ∷ b ∷ c ∷ []) x y z u three fourth = cc
first_four_split (a ∷ b ∷ c ∷ d ∷ rest) x y z u three fourth =
    first_three_split (a ∷ b ∷ c ∷ d ∷ rest) x y z three ∙ ap (λ v. x ∷ y ∷ z ∷ v ∷ rest) same
  where
    same : d ≡ u
    same = cc

pub second_of_three_held : {A : Type 0} (P : A → Type 0) (xs : List A) → AllByRecursion P xs
    → (x y z : A) → Some (x, y, z) ≡ first_three_of xs → P y
second_of_three_held P xs all x y z three = let now : AllByRecursion P (x ∷ y ∷ z ∷ drop 3 xs) =
    subst (AllByRecursion P) (first_three_split xs x y z three) all in now.1.0

-- what words are, whatever the memory
abbrev IsProcedure : Word → Part → Type 0
IsProcedure w body = (births : ℕ → ℕ) (names : List (List ℕ))
    → as_procedure (value_of births names w) ≡ Some (part_of births body)

abbrev IsNumber : Word → ℤ → Type 0
IsNumber w number = (births : ℕ → ℕ) (names : List (List ℕ))
    → as_integer (value_of births names w) ≡ Some number

abbrev IsTruth : Word → Bool → Type 0
IsTruth w truth = (births : ℕ → ℕ) (names : List (List ℕ))
    → as_boolean (value_of births names w) ≡ Some truth

module _ (h : Heap) (operands : List Word) where
  pub exec_begins : (w : Word) → Some w ≡ first_of operands
      → Begins exec_row h operands 1 (Pending w)
  exec_begins w one = record { is = λ names scene. rw (first_split operands w one) refl }

  pub loop_begins : (p : Word) (body : Part) → Some p ≡ first_of operands → IsProcedure p body
      → is_executable body.access ≡ true → Begins loop_row h operands 1 (Loop body)
  loop_begins p body one procedure executable =
      record {
        is = λ names scene.
            rw (first_split operands p one, procedure (birth_at h) names, executable) refl;
      }

  pub repeat_begins : (p n : Word) (body : Part) (number : ℤ) (count : ℕ)
      → Some (p, n) ≡ first_two_of operands → IsProcedure p body → IsNumber n number
      → is_executable body.access ≡ true → as_count number ≡ Some count
      → Begins repeat_row h operands 2 (Repeat count body)
  repeat_begins p n body number count two procedure integer executable counted =
      record {
        is = λ names scene.
            rw (
              first_two_split operands p n two,
              procedure (birth_at h) names,
              integer (birth_at h)
                  names,
              executable,
              counted,
            ) refl;
      }

  pub bind_begins : (p : Word) (body : Part) → Some p ≡ first_of operands → IsProcedure p body
      → is_writable body.access ≡ true → Begins bind_row h operands 0 (Bind body 0 1)
  bind_begins p body one procedure unlimited =
      record {
        is = λ names scene.
            rw (first_split operands p one, procedure (birth_at h) names, unlimited) refl;
      }

  module _ (p t : Word) (body : Part) (two : Some (p, t) ≡ first_two_of operands)
      (procedure : IsProcedure p body) (executable : is_executable body.access ≡ true) where
    pub if_enters : IsTruth t true → Enters if_row h operands 2 body
    if_enters truth = record {
      is =
          λ names scene. rw (
            first_two_split operands p t two,
            procedure (birth_at h) names,
            truth
                (birth_at h) names,
            executable,
          ) refl;
    }

    pub if_passes : IsTruth t false → (names : List (List ℕ)) (scene : Scene)
        → if_row (values_in h names operands) (with_operands (values_in h names operands) scene)
        ≡ leaves (with_operands (drop 2 (values_in h names operands)) scene)
    if_passes truth names scene = rw (
      first_two_split operands p t two,
      procedure (birth_at h) names,
      truth (birth_at h) names,
      executable,
    ) refl

  module _ (q p t : Word) (other body : Part) (three : Some (q, p, t) ≡ first_three_of operands)
      (second : IsProcedure q other) (first : IsProcedure p body)
      (may : (is_executable other.access && is_executable body.access) ≡ true) where
    pub ifelse_first : IsTruth t true → Enters ifelse_row h operands 3 body
    ifelse_first truth = record {
      is = λ names scene. rw (
        first_three_split operands q p t three,
        second (birth_at h) names,
        first (birth_at h) names,
        truth (birth_at h) names,
        may,
      ) refl;
    }

    pub ifelse_second : IsTruth t false → Enters ifelse_row h operands 3 other
    ifelse_second truth = record {
      is = λ names scene. rw (
        first_three_split operands q p t three,
        second (birth_at h) names,
        first (birth_at h) names,
        truth (birth_at h) names,
        may,
      ) refl;
    }

  module _ (p k j i : Word) (body : Part) (limit increment : ℤ)
      (three : Some (p, k, j) ≡ first_three_of operands) (fourth : Some i ≡ slice_get operands 3)
      (procedure : IsProcedure p body) (last : IsNumber k limit) (step : IsNumber j increment) where
    pub for_wrong : ((births : ℕ → ℕ) (names : List (List ℕ))
        → as_integer (value_of births names i) ≡ None) → (names : List (List ℕ)) (scene : Scene)
        → for_row (values_in h names operands) (with_operands (values_in h names operands) scene) ≡
        fails TypeCheck
    for_wrong none names scene =
        rw (
          first_four_split operands p k j i three fourth,
          procedure (birth_at h) names,
          last
              (birth_at h) names,
          step (birth_at h) names,
          none (birth_at h) names,
        ) refl

    module _ (number : ℤ) (start : IsNumber i number) where
      pub for_hidden : is_executable body.access ≡ false → (names : List (List ℕ)) (scene : Scene)
          → for_row (values_in h names operands) (with_operands (values_in h names operands) scene)
          ≡ fails InvalidAccess
      for_hidden hidden names scene =
          rw (
            first_four_split operands p k j i three fourth,
            procedure (birth_at h) names,
            last
                (birth_at h) names,
            step (birth_at h) names,
            start (birth_at h) names,
            hidden,
          ) refl

      pub for_begins : is_executable body.access ≡ true
          → Begins for_row h operands 4 (For number increment limit body)
      for_begins executable = record {
        is = λ names scene. rw (
          first_four_split operands p k j i three fourth,
          procedure
              (birth_at h) names,
          last (birth_at h) names,
          step (birth_at h) names,
          start (birth_at h)
              names,
          executable,
        ) refl;
      }

-- stopped pushes two
module _ (h : Heap) (operands : List Word) (frames : List Frame) (w : Word)
    (one : Some w ≡ first_of operands) where
  pub stopped_full : 248 < length frames
      → (names : List (List ℕ)) (store : Store) (dictionaries : List Value)
      → stopped_row (values_in h names operands)
      (scene_of h names store dictionaries (stacks operands frames)) ≡ fails ExecStackOverflow
  stopped_full many names store dictionaries =
      rw (
        first_split operands w one,
        full (frame_of (birth_at h) names) frames 2
            (omega (arith, many)),
      ) refl

module _ (h : Heap) (size : ℕ) (operands : List Word) (frames : List Frame)
    (ready : IsReadyFor h size (stacks operands frames)) (w : Word)
    (one : Some w ≡ first_of operands) where
  pub stopped_held : length frames ≤ 248
      → Controls stopped_row (Ok tt) h size (stacks operands frames)
      (stacks (drop 1 operands) (Pending w ∷ Stopped ∷ frames))
  stopped_held room = controls_left stopped_row h size (stacks operands frames) ready
      (stacks (drop 1 operands) (Pending w ∷ Stopped ∷ frames))
      (λ names store dictionaries. left names store dictionaries)
      (record {
        operands = ready_drop h operands 1 ready.operands;
        frames =
            (first_held (IsValue h) operands ready.operands.values w one, (tt, ready.frames));
      })
      (λ names store both. record {
        operands = rest_held (IsWithin (birth_at h) names store) operands both.operands 1;
        frames = (
          first_held (IsWithin (birth_at h) names store) operands both.operands w one,
          (tt, both.frames),
        );
      })
    where
      left : (names : List (List ℕ)) (store : Store) (dictionaries : List Value)
          → stopped_row (values_in h names operands)
          (scene_of h names store dictionaries (stacks operands frames)) ≡ leaves
          (scene_of h names store dictionaries
          (stacks (drop 1 operands) (Pending w ∷ Stopped ∷ frames)))
      left names store dictionaries =
          rw (
            first_split operands w one,
            fits (frame_of (birth_at h) names) frames 2
                (omega (arith, room)),
          ) refl
