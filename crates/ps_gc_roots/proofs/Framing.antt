-- Frames whose roots are led to the replicas.
use Rattle.std.proofs.Common.{◌≡◌, ℕ, ◌+◌, ◌≤◌, List, [], ◌∷◌, ◌++◌, length, map, refl, sym, ap, ap₂, subst}
use Rattle.std.specs.Prelude.{flat_map}
use Rattle.std.specs.List.{AllByRecursion}
use Rattle.ps_language.specs.Access.{bytes}
use Rattle.ps_language.specs.Value.{Store}
use Rattle.ps_language.specs.World as world
use Rattle.ps_language.specs.declared.kinds.Kind.TheVariants as kinds
use Rattle.ps_word.specs.declared.values.Part.{Part}
use Rattle.ps_word.specs.declared.values.Content.TheVariants.{Array, Text, Lock}
use Rattle.ps_word.specs.Format.{IsPart}
use Rattle.ps_mem.specs.Heap.{Heap, birth_at}
use Rattle.ps_mem.specs.References.{StandsAs, words_for}
use Rattle.ps_mem.specs.Meaning.{part_of}
use Rattle.ps_mem.specs.Shows.{IsValue, AreValues}
use Rattle.ps_mem.specs.Stands.{IsAddressed}
use Rattle.ps_core_laws.specs.Moves.{Forwarding, IsMovedTo, HasReplica, HaveReplicas, moved_word}
use Rattle.ps_core_laws.proofs.Words.{IsValue-moved, IsWithin-moved, value-moved}
use Rattle.ps_ops_control.specs.declared.frames.Source.{Source}
use Rattle.ps_ops_control.specs.declared.frames.Source.TheVariants.{Program, Text as TextOf}
use Rattle.ps_ops_control.specs.declared.frames.Frame.{Frame}
use Rattle.ps_ops_control.specs.declared.frames.Frame.TheVariants as frames
use Rattle.ps_ops_control.specs.Frames.{IsHeld, IsHeldText, source_of, frame_of, frames_in, IsSourceAt, IsFrame, AreFrames}
use Rattle.ps_ops_control.specs.Frames.{IsSourceWithin, IsFrameWithin, AreFramesWithin}
use Rattle.ps_gc_roots.specs.Formats.{IsSourceInFormat, IsFrameInFormat}
use Rattle.ps_gc_roots.specs.Roots.{literal, roots_of_source, roots_of_frame}
use Rattle.ps_gc_roots.specs.Renamed.{renamed_array, renamed_text, renamed_source, renamed_frame, renamed_address}
use Rattle.ps_gc_roots.proofs.Literals.{value-literal, address-stands, address-led, birth-led, known-led}

-- ---- all of two lists

pub both : {A : Type 0} (P : A → Type 0) (xs ys : List A) → AllByRecursion P xs
    → AllByRecursion P ys → AllByRecursion P (xs ++ ys)
both P [] ys p q = q
both P (x ∷ xs) ys p q = (p.0, both P xs ys p.1 q)

pub fore : {A : Type 0} (P : A → Type 0) (xs ys : List A) → AllByRecursion P (xs ++ ys)
    → AllByRecursion P xs
fore P [] ys p = tt
fore P (x ∷ xs) ys p = (p.0, fore P xs ys p.1)

pub rear : {A : Type 0} (P : A → Type 0) (xs ys : List A) → AllByRecursion P (xs ++ ys)
    → AllByRecursion P ys
rear P [] ys p = p
rear P (x ∷ xs) ys p = rear P xs ys p.1

-- ---- as they stand

module _ (h : Heap) (addressed : IsAddressed h) where
  pub array-form : (part : Part) → IsHeld h part → IsPart part
  array-form part held = record {
    address = address-stands h addressed kinds.Array part.address _ held.stands;
    within = held.end;
  }

  pub text-form : (part : Part) → IsHeldText h part → IsPart part
  text-form part held = record {
    address = address-stands h addressed kinds.Text part.address _ held.stands;
    within = held.end;
  }

  array-value : (part : Part) → IsHeld h part → IsValue h (literal (Array part))
  array-value part held = value-literal h (Array part) (array-form part held) refl held.stands

  source-values : (size : ℕ) (source : Source) (at : ℕ) → IsSourceAt h size source at
      → AreValues h (roots_of_source source)
  source-values size Program at good = tt
  source-values size (TextOf part) at good =
      (value-literal h (Text part) (text-form part good.0) refl good.0.stands, tt)

  frame-values : (size : ℕ) (frame : Frame) → IsFrame h size frame
      → AreValues h (roots_of_frame frame)
  frame-values size (frames.Text source at) good = source-values size source at good
  frame-values size (frames.Procedure rest) good = (array-value rest good.0, tt)
  frame-values size (frames.Pending word) good = (good, tt)
  frame-values size (frames.Repeat count body) good = (array-value body good, tt)
  frame-values size (frames.Loop body) good = (array-value body good, tt)
  frame-values size (frames.For control increment limit body) good = (array-value body good.0, tt)
  frame-values size (frames.Forall over at body) good = (good.0, (array-value body good.1, tt))
  frame-values size frames.Stopped good = tt
  frame-values size (frames.Monitor lock) good = (
    value-literal h (Lock lock) (address-stands h addressed kinds.Lock lock 1 good) refl good,
    tt,
  )
  frame-values size (frames.Bind over at depth) good = (array-value over good.0, tt)

  pub frames-values : (size : ℕ) (list : List Frame) → AreFrames h size list
      → AreValues h (flat_map roots_of_frame list)
  frames-values size [] good = tt
  frames-values size (frame ∷ list) good =
      both (IsValue h) (roots_of_frame frame) (flat_map roots_of_frame list)
      (frame-values size frame good.0) (frames-values size list good.1)

  -- ---- what they are packed from is in the format

  source-format : (size : ℕ) (source : Source) (at : ℕ) → IsSourceAt h size source at
      → IsSourceInFormat source
  source-format size Program at good = tt
  source-format size (TextOf part) at good = text-form part good.0

  frame-format : (size : ℕ) (frame : Frame) → IsFrame h size frame → IsFrameInFormat frame
  frame-format size (frames.Text source at) good = source-format size source at good
  frame-format size (frames.Procedure rest) good = array-form rest good.0
  frame-format size (frames.Pending word) good = tt
  frame-format size (frames.Repeat count body) good = array-form body good
  frame-format size (frames.Loop body) good = array-form body good
  frame-format size (frames.For control increment limit body) good = array-form body good.0
  frame-format size (frames.Forall over at body) good = array-form body good.1
  frame-format size frames.Stopped good = tt
  frame-format size (frames.Monitor lock) good =
      address-stands h addressed kinds.Lock lock 1 good
  frame-format size (frames.Bind over at depth) good = array-form over good.0

  pub frames-format : (size : ℕ) (list : List Frame) → AreFrames h size list
      → AllByRecursion IsFrameInFormat list
  frames-format size [] good = tt
  frames-format size (frame ∷ list) good =
      (frame-format size frame good.0, frames-format size list good.1)

-- ---- once they were moved

module _ (h now : Heap) (forward : Forwarding) (moves : IsMovedTo h now forward)
    (addressed : IsAddressed h) where
  -- ---- parts

  array-led : (part : Part) → IsHeld h part → HasReplica forward (literal (Array part))
      → IsHeld now (renamed_array (moved_word forward) part)
  array-led part held have =
      let form = array-form h addressed part held in
      record {
        stands = subst (λ b. StandsAs now kinds.Array b (part.offset + part.length))
            (sym (address-led h now forward moves (Array part) part.address form refl have))
            (known-led h now forward moves (Array part) part.address form refl have refl
            held.stands);
        end = held.end;
      }

  text-led : (part : Part) → IsHeldText h part → HasReplica forward (literal (Text part))
      → IsHeldText now (renamed_text (moved_word forward) part)
  text-led part held have =
      let form = text-form h addressed part held in
      record {
        stands = subst (λ b. StandsAs now kinds.Text b (words_for (part.offset + part.length)))
            (sym (address-led h now forward moves (Text part) part.address form refl have))
            (known-led h now forward moves (Text part) part.address form refl have refl
            held.stands);
        end = held.end;
      }

  array-same : (part : Part) → IsHeld h part → HasReplica forward (literal (Array part))
      → part_of (birth_at now) (renamed_array (moved_word forward) part)
      ≡ part_of (birth_at h) part
  array-same part held have = ap (λ b. record
      { birth = b; offset = part.offset; count = part.length; access = part.access })
      (birth-led h now forward moves (Array part) part.address
      (array-form h addressed part held) refl have)

  text-same : (part : Part) → IsHeldText h part → HasReplica forward (literal (Text part))
      → birth_at now (renamed_address (moved_word forward) (Text part)) ≡ birth_at h part.address
  text-same part held have = birth-led h now forward moves (Text part) part.address
      (text-form h addressed part held) refl have

  -- a lock
  pub lock-led : (lock : ℕ) → StandsAs h kinds.Lock lock 1
      → HasReplica forward (literal (Lock lock))
      → StandsAs now kinds.Lock (renamed_address (moved_word forward) (Lock lock)) 1
  lock-led lock stands have =
      let form = address-stands h addressed kinds.Lock lock 1 stands in
      subst (λ b. StandsAs now kinds.Lock b 1)
      (sym (address-led h now forward moves (Lock lock) lock form refl have))
      (known-led h now forward moves (Lock lock) lock form refl have refl stands)

  pub lock-same : (lock : ℕ) → StandsAs h kinds.Lock lock 1
      → HasReplica forward (literal (Lock lock))
      → birth_at now (renamed_address (moved_word forward) (Lock lock)) ≡ birth_at h lock
  lock-same lock stands have = birth-led h now forward moves (Lock lock) lock
      (address-stands h addressed kinds.Lock lock 1 stands) refl have

  -- ---- they stand

  source-led : (size : ℕ) (source : Source) (at : ℕ) → IsSourceAt h size source at
      → HaveReplicas forward (roots_of_source source)
      → IsSourceAt now size (renamed_source (moved_word forward) source) at
  source-led size Program at good have = good
  source-led size (TextOf part) at good have = (text-led part good.0 have.0, good.1)

  frame-led : (size : ℕ) (frame : Frame) → IsFrame h size frame
      → HaveReplicas forward (roots_of_frame frame)
      → IsFrame now size (renamed_frame (moved_word forward) frame)
  frame-led size (frames.Text source at) good have = source-led size source at good have
  frame-led size (frames.Procedure rest) good have = (array-led rest good.0 have.0, good.1)
  frame-led size (frames.Pending word) good have =
      IsValue-moved h now forward moves word have.0 good
  frame-led size (frames.Repeat count body) good have = array-led body good have.0
  frame-led size (frames.Loop body) good have = array-led body good have.0
  frame-led size (frames.For control increment limit body) good have =
      (array-led body good.0 have.0, good.1)
  frame-led size (frames.Forall over at body) good have =
      (IsValue-moved h now forward moves over have.0 good.0, array-led body good.1 have.1.0)
  frame-led size frames.Stopped good have = tt
  frame-led size (frames.Monitor lock) good have = lock-led lock good have.0
  frame-led size (frames.Bind over at depth) good have =
      (array-led over good.0 have.0, good.1, good.2, good.3)

  pub frames-led : (size : ℕ) (list : List Frame) → AreFrames h size list
      → HaveReplicas forward (flat_map roots_of_frame list)
      → AreFrames now size (map (renamed_frame (moved_word forward)) list)
  frames-led size [] good have = tt
  frames-led size (frame ∷ list) good have =
      let here = fore (HasReplica forward) (roots_of_frame frame) (flat_map roots_of_frame list)
      have in
      let there = rear (HasReplica forward) (roots_of_frame frame) (flat_map roots_of_frame list)
      have in
      (frame-led size frame good.0 here, frames-led size list good.1 there)

  -- ---- they stand for the same

  source-same : (size : ℕ) (source : Source) (at : ℕ) → IsSourceAt h size source at
      → HaveReplicas forward (roots_of_source source)
      → source_of (birth_at now) (renamed_source (moved_word forward) source)
      ≡ source_of (birth_at h) source
  source-same size Program at good have = refl
  source-same size (TextOf part) at good have =
      ap (λ b. world.from_string (record
      { birth = b; offset = part.offset; count = part.length; access = part.access }))
      (text-same part good.0 have.0)

  frame-same : (size : ℕ) (names : List (List ℕ)) (frame : Frame) → IsFrame h size frame
      → HaveReplicas forward (roots_of_frame frame)
      → frame_of (birth_at now) names (renamed_frame (moved_word forward) frame)
      ≡ frame_of (birth_at h) names frame
  frame-same size names (frames.Text source at) good have =
      ap (λ s. world.text_frame s at) (source-same size source at good have)
  frame-same size names (frames.Procedure rest) good have =
      ap world.procedure_frame (array-same rest good.0 have.0)
  frame-same size names (frames.Pending word) good have =
      ap world.pending_frame (value-moved h now forward moves names word have.0)
  frame-same size names (frames.Repeat count body) good have =
      ap (world.repeat_frame count) (array-same body good have.0)
  frame-same size names (frames.Loop body) good have =
      ap world.loop_frame (array-same body good have.0)
  frame-same size names (frames.For control increment limit body) good have =
      ap (world.for_frame control increment limit) (array-same body good.0 have.0)
  frame-same size names (frames.Forall over at body) good have =
      ap₂ (λ v p. world.forall_frame v at p) (value-moved h now forward moves names over have.0)
      (array-same body good.1 have.1.0)
  frame-same size names frames.Stopped good have = refl
  frame-same size names (frames.Monitor lock) good have =
      ap world.monitor_frame (lock-same lock good have.0)
  frame-same size names (frames.Bind over at depth) good have =
      ap (λ p. world.bind_frame p at depth) (array-same over good.0 have.0)

  pub frames-same : (size : ℕ) (names : List (List ℕ)) (list : List Frame) → AreFrames h size list
      → HaveReplicas forward (flat_map roots_of_frame list)
      → frames_in now names (map (renamed_frame (moved_word forward)) list)
      ≡ frames_in h names list
  frames-same size names [] good have = refl
  frames-same size names (frame ∷ list) good have =
      let here = fore (HasReplica forward) (roots_of_frame frame) (flat_map roots_of_frame list)
      have in
      let there = rear (HasReplica forward) (roots_of_frame frame) (flat_map roots_of_frame list)
      have in
      λ i. frame-same size names frame good.0 here i
      ∷ frames-same size names list good.1 there i

  -- ---- they are within the names and the store

  source-within : (size : ℕ) (store : Store) (source : Source) (at : ℕ)
      → IsSourceAt h size source at → HaveReplicas forward (roots_of_source source)
      → IsSourceWithin (birth_at h) store source
      → IsSourceWithin (birth_at now) store (renamed_source (moved_word forward) source)
  source-within size store Program at good have within = tt
  source-within size store (TextOf part) at good have within =
      subst (λ b. part.offset + part.length ≤ length (bytes store b))
      (sym (text-same part good.0 have.0)) within

  frame-within : (size : ℕ) (names : List (List ℕ)) (store : Store) (frame : Frame)
      → IsFrame h size frame → HaveReplicas forward (roots_of_frame frame)
      → IsFrameWithin (birth_at h) names store frame
      → IsFrameWithin (birth_at now) names store (renamed_frame (moved_word forward) frame)
  frame-within size names store (frames.Text source at) good have within =
      source-within size store source at good have within
  frame-within size names store (frames.Procedure rest) good have within = tt
  frame-within size names store (frames.Pending word) good have within =
      IsWithin-moved h now forward moves names store word have.0 within
  frame-within size names store (frames.Repeat count body) good have within = tt
  frame-within size names store (frames.Loop body) good have within = tt
  frame-within size names store (frames.For control increment limit body) good have within = tt
  frame-within size names store (frames.Forall over at body) good have within =
      IsWithin-moved h now forward moves names store over have.0 within
  frame-within size names store frames.Stopped good have within = tt
  frame-within size names store (frames.Monitor lock) good have within = tt
  frame-within size names store (frames.Bind over at depth) good have within = tt

  pub frames-within : (size : ℕ) (names : List (List ℕ)) (store : Store) (list : List Frame)
      → AreFrames h size list → HaveReplicas forward (flat_map roots_of_frame list)
      → AreFramesWithin h names store list
      → AreFramesWithin now names store (map (renamed_frame (moved_word forward)) list)
  frames-within size names store [] good have within = tt
  frames-within size names store (frame ∷ list) good have within =
      let here = fore (HasReplica forward) (roots_of_frame frame) (flat_map roots_of_frame list)
      have in
      let there = rear (HasReplica forward) (roots_of_frame frame) (flat_map roots_of_frame list)
      have in (
        frame-within size names store frame good.0 here within.0,
        frames-within size names store list good.1 there within.1,
      )
