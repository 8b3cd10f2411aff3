-- What is lent beside operands, over a memory that keeps what stood.
use Rattle.std.proofs.Common.{◌≡◌, ℕ, ◌+◌, ◌≤◌, arith, List, [], ◌∷◌, length, refl, sym, ap, subst}
use Rattle.ps_language.specs.Value.{Store}
use Rattle.ps_language.specs.Access.{bytes}
use Rattle.ps_language.specs.World as world
use Rattle.ps_word.specs.declared.values.Part.{Part}
use Rattle.ps_mem.specs.Heap.{Heap, birth_at}
use Rattle.ps_mem.specs.Keeps.{Keeps}
use Rattle.ps_mem.specs.Meaning.{part_of}
use Rattle.ps_mem.proofs.KeepsLemmas.{birth_at-kept, stands-kept, IsValue-kept, value_of-kept, IsWithin-kept}
use Rattle.ps_ops_control.specs.declared.frames.Source.{Source}
use Rattle.ps_ops_control.specs.declared.frames.Source.TheVariants.{Program, Text as TextOf}
use Rattle.ps_ops_control.specs.declared.frames.Frame.{Frame}
use Rattle.ps_ops_control.specs.declared.frames.Frame.TheVariants.{Text, Procedure, Pending, Repeat, Loop, For, Forall}
use Rattle.ps_ops_control.specs.declared.frames.Frame.TheVariants.{Stopped, Monitor, Bind}
use Rattle.ps_ops_control.specs.Frames.{IsHeld, source_of, frame_of, frames_in, IsSourceAt, IsFrame, AreFrames}
use Rattle.ps_ops_control.specs.Frames.{IsSourceWithin, IsFrameWithin, AreFramesWithin}

module _ (old new : Heap) (keeps : Keeps old new) where
  held-kept : (part : Part) → IsHeld old part → IsHeld new part
  held-kept part held = record {
    stands = stands-kept old new keeps _ part.address _ held.stands;
    end = held.end;
  }

  source-kept : (size : ℕ) (source : Source) (at : ℕ) → IsSourceAt old size source at
      → IsSourceAt new size source at
  source-kept size Program at good = good
  source-kept size (TextOf part) at good =
      let stands = stands-kept old new keeps _ part.address _ good.0.stands in
      (record { stands = stands; end = good.0.end }, good.1)

  frame-good : (size : ℕ) (frame : Frame) → IsFrame old size frame → IsFrame new size frame
  frame-good size (Text source at) good = source-kept size source at good
  frame-good size (Procedure rest) good = (held-kept rest good.0, good.1)
  frame-good size (Pending word) good = IsValue-kept old new keeps word good
  frame-good size (Repeat count body) good = held-kept body good
  frame-good size (Loop body) good = held-kept body good
  frame-good size (For control increment limit body) good = (held-kept body good.0, good.1)
  frame-good size (Forall over at body) good =
      (IsValue-kept old new keeps over good.0, held-kept body good.1)
  frame-good size Stopped good = tt
  frame-good size (Monitor lock) good = stands-kept old new keeps _ lock _ good
  frame-good size (Bind over at depth) good = (held-kept over good.0, good.1, good.2, good.3)

  pub frames-good : (size : ℕ) (frames : List Frame) → AreFrames old size frames
      → AreFrames new size frames
  frames-good size [] good = tt
  frames-good size (frame ∷ frames) good =
      (frame-good size frame good.0, frames-good size frames good.1)

  part-same : (part : Part) → IsHeld old part
      → part_of (birth_at new) part ≡ part_of (birth_at old) part
  part-same part held = ap (λ b. record
      { birth = b; offset = part.offset; count = part.length; access = part.access })
      (birth_at-kept old new keeps part.address held.stands.object held.stands.at)

  source-same : (size : ℕ) (source : Source) (at : ℕ) → IsSourceAt old size source at
      → source_of (birth_at new) source ≡ source_of (birth_at old) source
  source-same size Program at good = refl
  source-same size (TextOf part) at good =
      ap (λ b. world.from_string (record
      { birth = b; offset = part.offset; count = part.length; access = part.access }))
      (birth_at-kept old new keeps part.address good.0.stands.object good.0.stands.at)

  frame-same : (size : ℕ) (names : List (List ℕ)) (frame : Frame) → IsFrame old size frame
      → frame_of (birth_at new) names frame ≡ frame_of (birth_at old) names frame
  frame-same size names (Text source at) good =
      ap (λ s. world.text_frame s at) (source-same size source at good)
  frame-same size names (Procedure rest) good = ap world.procedure_frame (part-same rest good.0)
  frame-same size names (Pending word) good =
      ap world.pending_frame (value_of-kept old new keeps names word good.known)
  frame-same size names (Repeat count body) good =
      ap (world.repeat_frame count) (part-same body good)
  frame-same size names (Loop body) good = ap world.loop_frame (part-same body good)
  frame-same size names (For control increment limit body) good =
      ap (world.for_frame control increment limit) (part-same body good.0)
  frame-same size names (Forall over at body) good =
      λ i. world.forall_frame (value_of-kept old new keeps names over good.0.known i) at
      (part-same body good.1 i)
  frame-same size names Stopped good = refl
  frame-same size names (Monitor lock) good =
      ap world.monitor_frame (birth_at-kept old new keeps lock good.object good.at)
  frame-same size names (Bind over at depth) good =
      ap (λ p. world.bind_frame p at depth) (part-same over good.0)

  pub frames-same : (size : ℕ) (names : List (List ℕ)) (frames : List Frame)
      → AreFrames old size frames → frames_in new names frames ≡ frames_in old names frames
  frames-same size names [] good = refl
  frames-same size names (frame ∷ frames) good =
      λ i. frame-same size names frame good.0 i ∷ frames-same size names frames good.1 i

  module _ (size : ℕ) (names : List (List ℕ)) (s t : Store)
      (longer : (birth : ℕ) → length (bytes s birth) ≤ length (bytes t birth)) where
    source-within : (source : Source) (at : ℕ) → IsSourceAt old size source at
        → IsSourceWithin (birth_at old) s source → IsSourceWithin (birth_at new) t source
    source-within Program at good within = tt
    source-within (TextOf part) at good within =
        let more = longer (birth_at old part.address) in
        subst (λ b. part.offset + part.length ≤ length (bytes t b))
        (sym (birth_at-kept old new keeps part.address good.0.stands.object good.0.stands.at))
        (omega (arith, more, within))

    frame-within : (frame : Frame) → IsFrame old size frame
        → IsFrameWithin (birth_at old) names s frame → IsFrameWithin (birth_at new) names t frame
    frame-within (Text source at) good within = source-within source at good within
    frame-within (Procedure rest) good within = tt
    frame-within (Pending word) good within =
        IsWithin-kept old new keeps names s t longer word good.known within
    frame-within (Repeat count body) good within = tt
    frame-within (Loop body) good within = tt
    frame-within (For control increment limit body) good within = tt
    frame-within (Forall over at body) good within =
        IsWithin-kept old new keeps names s t longer over good.0.known within
    frame-within Stopped good within = tt
    frame-within (Monitor lock) good within = tt
    frame-within (Bind over at depth) good within = tt

    pub frames-within : (frames : List Frame) → AreFrames old size frames
        → AreFramesWithin old names s frames → AreFramesWithin new names t frames
    frames-within [] good within = tt
    frames-within (frame ∷ frames) good within =
        (frame-within frame good.0 within.0, frames-within frames good.1 within.1)
