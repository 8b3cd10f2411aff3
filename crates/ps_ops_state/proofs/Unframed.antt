-- An operator that neither sees nor changes frames acts alike under more of them.
use Rattle.std.proofs.Common.{◌≡◌, ℕ, Bool, true, false, true≢false, List, [], ◌∷◌, ◌++◌, length, Ok, Err, refl, sym}
use Rattle.std.proofs.Common.{ap, subst, ◌∙◌}
use Rattle.std.specs.List.{AllByRecursion}
use Rattle.ps_language.specs.Acts.{operands_effect, change_effect, naming_effect, stacks_effect, printing_effect}
use Rattle.ps_language.specs.Acts.{effect_of}
use Rattle.ps_language.specs.Effect.{Around, Scene, Effect, makes, unwinds, raises, calls}
use Rattle.ps_language.specs.Objects.{lacks_room}
use Rattle.ps_language.specs.Outcome.{Outcome, leaves, fails, Change, Naming, Stacks, Printing}
use Rattle.ps_language.specs.Rows.{Row, operand_row, reading_row, changing_row, naming_row, looking_row, stacking_row}
use Rattle.ps_language.specs.Rows.{printing_row, around_row, scene_row, world_row}
use Rattle.ps_language.specs.Value.{Value, Store}
use Rattle.ps_language.specs.World as world
use Rattle.ps_mem.specs.Heap.{birth_at}
use Rattle.ps_ops_control.specs.declared.frames.Frame.{Frame}
use Rattle.ps_ops_control.specs.Frames.{frames_in, AreFrames, IsFrameWithin, AreFramesWithin}
use Rattle.ps_ops_operands.specs.Changes.{KeepsLogsWithin}
use Rattle.ps_ops_state.specs.declared.breaks.Break.{Break}
use Rattle.ps_ops_state.specs.declared.breaks.Break.TheVariants.{Unwinds, Raises, NotMade}
use Rattle.ps_ops_state.specs.declared.lent.Attempt.{Attempt}
use Rattle.ps_ops_state.specs.Acts.{Asked, Needs, needs_as, lacks, IsLeft, IsSame, ActsAs, effect_in, Acts}
use Rattle.ps_ops_state.specs.Lent.{Lent, scene_of, around_of, IsShown, IsGood}
use Rattle.ps_ops_state.specs.Attempts.{ordinary}
use Rattle.ps_ops_state.specs.Unframed.{is_unframed, under, IsUndone}
use Rattle.ps_ops_state.proofs.Kept.{frames-good, frames-same, frames-within}
use Rattle.ps_ops_state.proofs.Meeting.{meets_by}
use Rattle.ps_ops_state.proofs.Naming.{frames_same, frames_within}

-- ---- effects

-- an effect on a scene with other frames
abbrev reframed : List world.Frame → Effect → Effect
reframed frames (makes scene output) = makes (record scene { frames = frames }) output
reframed frames (unwinds cause scene) = unwinds cause (record scene { frames = frames })
reframed frames (raises error) = raises error
reframed frames (calls deed) = calls deed

module _ (scene : Scene) (frames : List world.Frame) where
  abbrev there : Scene
  there = record scene { frames = frames }

  operands_reframed : (outcome : Outcome (List Value))
      → operands_effect there outcome ≡ reframed frames (operands_effect scene outcome)
  operands_reframed (leaves operands) = refl
  operands_reframed (fails error) = refl

  change_reframed : (outcome : Outcome Change)
      → change_effect there outcome ≡ reframed frames (change_effect scene outcome)
  change_reframed (leaves change) = refl
  change_reframed (fails error) = refl

  naming_reframed : (outcome : Outcome Naming)
      → naming_effect there outcome ≡ reframed frames (naming_effect scene outcome)
  naming_reframed (leaves naming) = refl
  naming_reframed (fails error) = refl

  stacks_reframed : (outcome : Outcome Stacks)
      → stacks_effect there outcome ≡ reframed frames (stacks_effect scene outcome)
  stacks_reframed (leaves stacks) = refl
  stacks_reframed (fails error) = refl

  printing_reframed : (outcome : Outcome Printing)
      → printing_effect there outcome ≡ reframed frames (printing_effect scene outcome)
  printing_reframed (leaves printing) = refl
  printing_reframed (fails error) = refl

  reframes : (row : Row) → is_unframed row ≡ true → (around : Around)
      → effect_of row around there ≡ reframed frames (effect_of row around scene)
  reframes (operand_row does) is around = operands_reframed (does scene.operands)
  reframes (reading_row does) is around = operands_reframed (does scene.store scene.operands)
  reframes (changing_row does) is around = change_reframed (does scene.store scene.operands)
  reframes (naming_row does) is around =
      naming_reframed (does scene.names scene.store scene.operands)
  reframes (looking_row does) is around =
      naming_reframed (does scene.names scene.dictionaries scene.store scene.operands)
  reframes (stacking_row does) is around =
      stacks_reframed (does scene.store scene.dictionaries scene.operands)
  reframes (printing_row does) is around = printing_reframed (does scene.store scene.operands)
  reframes (around_row does) is around = operands_reframed (does around scene.operands)
  reframes (scene_row does) is around = absurd (true≢false (sym is))
  reframes (world_row does) is around = absurd (true≢false (sym is))

-- ---- under more frames

-- what holds of all holds of those below
of_below : (P : Frame → Type 0) (above below : List Frame) → AllByRecursion P (above ++ below)
    → AllByRecursion P below
of_below P [] below all = all
of_below P (frame ∷ above) below all = of_below P above below all.1

module _ (above : List Frame) (l new : Lent) (asks : Scene → Asked) (row : Row) (attempt : Attempt)
    (acts : Acts asks row attempt (Ok tt) l new) (same : new.frames ≡ l.frames)
    (good : IsGood (under above l)) where
  abbrev frames : List Frame
  frames = above ++ l.frames

  abbrev after : Lent
  after = record new { frames = frames }

  shown_below : (store : Store) → IsShown (under above l) store → IsShown l store
  shown_below store shown = record {
    shows = shown.shows;
    operands = shown.operands;
    dictionaries = shown.dictionaries;
    frames = of_below (IsFrameWithin (birth_at l.heap) l.names store) above l.frames shown.frames;
  }

  module _ (store : Store) (shown : IsShown (under above l) store) (scene : Scene)
      (left : IsLeft store new scene) where
    within_here : AreFramesWithin new.heap l.names scene.store frames
    within_here = frames-within l.heap new.heap acts.keeps (length l.program) l.names store
        scene.store left.lasts frames good.frames shown.frames

    within_after : AreFramesWithin new.heap new.names scene.store frames
    within_after =
        subst (λ names. AreFramesWithin new.heap names scene.store frames) (sym acts.stays.names)
        (frames_within new.heap l.names acts.stays.formed scene.store frames within_here)

    frames_kept : frames_in new.heap new.names frames ≡ frames_in l.heap l.names frames
    frames_kept = ap (λ names. frames_in new.heap names frames) acts.stays.names
        ∙ (frames_same new.heap l.names acts.stays.formed scene.store frames within_here
        ∙ frames-same l.heap new.heap acts.keeps (length l.program) l.names frames good.frames)

    left_under : IsLeft store after (record scene { frames = frames_in l.heap l.names frames })
    left_under = record {
      is = λ i. record (left.is i) { frames = frames_kept i };
      shown = record {
        shows = left.shown.shows;
        operands = left.shown.operands;
        dictionaries = left.shown.dictionaries;
        frames = within_after;
      };
      lasts = left.lasts;
    }

  module _ (store : Store) (shown : IsShown (under above l) store) where
    abbrev frames_there : List world.Frame
    frames_there = frames_in l.heap l.names frames

    did_under : (effect : Effect) (asked other : Asked)
        → ActsAs (needs_as asked (scene_of l store) effect
        (lacks attempt.refused (scene_of l store) effect)) attempt.slot (scene_of l store) (Ok tt)
        effect (lacks attempt.refused (scene_of l store) effect) l new
        → ActsAs (needs_as other (scene_of (under above l) store) (reframed frames_there effect)
        (lacks attempt.refused (scene_of (under above l) store) (reframed frames_there effect))) attempt.slot
        (scene_of (under above l) store) (Ok tt) (reframed frames_there effect)
        (lacks attempt.refused (scene_of (under above l) store) (reframed frames_there effect))
        (under above l) after
    did_under (makes scene output) asked other did =
        by (lacks_room attempt.refused store scene.store) did
      where
        by : (lacking : Bool)
            → ActsAs (needs_as asked (scene_of l store) (makes scene output) lacking) attempt.slot
            (scene_of l store) (Ok tt) (makes scene output) lacking l new
            → ActsAs (needs_as other (scene_of (under above l) store)
            (reframed frames_there (makes scene output)) lacking) attempt.slot
            (scene_of (under above l) store) (Ok tt) (reframed frames_there (makes scene output)) lacking
            (under above l) after
        by false done = (left_under store shown scene done.0, done.1)
        by true done = absurd done
    did_under (unwinds cause scene) asked other did = absurd did
    did_under (raises error) asked other did = absurd did
    did_under (calls deed) asked other did = absurd did

  after_good : IsGood after
  after_good = record {
    sound = acts.good.sound;
    operands = acts.good.operands;
    dictionaries = acts.good.dictionaries;
    frames = subst (λ (program : List ℕ). AreFrames new.heap (length program) frames)
        (sym acts.stays.program)
        (frames-good l.heap new.heap acts.keeps (length l.program) frames good.frames);
    error_stands = acts.good.error_stands;
    names = acts.good.names;
    first = acts.good.first;
    empty = acts.good.empty;
  }

  acts_there : is_unframed row ≡ true
      → ((scene : Scene) (others : List world.Frame)
      → asks (record scene { frames = others }) ≡ asks scene)
      → Acts asks row attempt (Ok tt) (under above l) after
  acts_there unframed asked = record {
    meets = λ store shown.
        let met = acts.meets store (shown_below store shown) in
        let before = scene_of (under above l) store in
        meets_by asks attempt before (under above l) after (Ok tt)
        (effect_in row (under above l) store) (reframed (frames_there store shown) (effect_in row l store))
        (reframes (scene_of l store) (frames_there store shown) row unframed (around_of l))
        (record {
          did = did_under store shown (effect_in row l store) (asks (scene_of l store))
              (asks before) met.did;
          logs = subst (λ (a : Asked). KeepsLogsWithin a.records l.grants new.grants attempt.slot)
              (sym (asked (scene_of l store) (frames_there store shown))) met.logs;
        });
    good = after_good;
    keeps = acts.keeps;
    stays = record {
      program = acts.stays.program;
      most = acts.stays.most;
      error_dictionary = acts.stays.error_dictionary;
      formed = acts.stays.formed;
      names = acts.stays.names;
      capacity = acts.stays.capacity;
      scratch = acts.stays.scratch;
    };
    logs = acts.logs;
    framed = tt;
  }

  pub acts_under : is_unframed row ≡ true
      → ((scene : Scene) (others : List world.Frame)
      → asks (record scene { frames = others }) ≡ asks scene)
      → Acts asks row attempt (Ok tt) (under above l) (under above new)
  acts_under unframed asked =
      subst (λ (fs : List Frame). Acts asks row attempt (Ok tt) (under above l)
      (record new { frames = above ++ fs })) (sym same) (acts_there unframed asked)

-- ---- nothing was done

-- of an ordinary step none lacks room
undone_as : (needs : Needs) (slot : ℕ) (before : Scene) (break : Break) (effect : Effect)
    (l new : Lent)
    → ActsAs needs slot before (Err break) effect (lacks false before effect) l new → IsSame l new
undone_as needs slot before (Unwinds cause) (unwinds for scene) l new did = did.2
undone_as needs slot before (Unwinds cause) (makes scene output) l new did = absurd did
undone_as needs slot before (Unwinds cause) (raises error) l new did = absurd did
undone_as needs slot before (Unwinds cause) (calls deed) l new did = absurd did
undone_as needs slot before (Raises error) (raises raised) l new did = did.1
undone_as needs slot before (Raises error) (makes scene output) l new did = absurd did
undone_as needs slot before (Raises error) (unwinds for scene) l new did = absurd did
undone_as needs slot before (Raises error) (calls deed) l new did = absurd did
undone_as needs slot before (NotMade reason) (makes scene output) l new did = did.1
undone_as needs slot before (NotMade reason) (unwinds for scene) l new did = absurd did
undone_as needs slot before (NotMade reason) (raises raised) l new did = absurd did
undone_as needs slot before (NotMade reason) (calls deed) l new did = absurd did

pub undone : (asks : Scene → Asked) (row : Row) (slot : ℕ) (break : Break) (l new : Lent)
    → Acts asks row (ordinary slot) (Err break) l new → IsUndone slot l new
undone asks row slot break l new acts = record {
  same = λ store shown.
      undone_as _ slot (scene_of l store) break (effect_in row l store) l new
      (acts.meets store shown).did;
  good = acts.good;
  keeps = acts.keeps;
  stays = acts.stays;
  logs = acts.logs;
}
