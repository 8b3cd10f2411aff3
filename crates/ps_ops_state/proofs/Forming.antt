-- What is lent once a name is formed, and without it again.
use Rattle.std.proofs.Common.{◌≡◌, ℕ, zero, suc, ◌≤◌, ◌++◌, arith, Bool, true, false, List, [], length, take, Ok}
use Rattle.std.proofs.Common.{Err, refl, sym, ap, subst, ◌∙◌, append-nil, inl, inr, length-append}
use Rattle.std.proofs.Common.{append_assoc, ◌-◌}
use Rattle.std.proofs.lemmas.List.{take-append-le, take_all, length-take}
use Rattle.ps_language.specs.declared.errors.ErrorName.TheVariants.{VmError}
use Rattle.ps_language.specs.Value.{Store}
use Rattle.ps_language.specs.Effect.{Scene, Effect, makes, unwinds, raises, calls}
use Rattle.ps_language.specs.Objects.{lacks_room}
use Rattle.ps_language.specs.Rows.{Row}
use Rattle.ps_language.specs.Worlds.{first_names}
use Rattle.ps_mem.specs.Heap.{Grants}
use Rattle.ps_names.specs.Names.{AreNames}
use Rattle.ps_ops_operands.specs.declared.failure.NotMade.{NotMade as Reason}
use Rattle.ps_ops_operands.specs.declared.failure.NotMade.TheVariants.{LogFull, LogClosed, NeedSpace, Memory}
use Rattle.ps_ops_operands.specs.Changes.{KeepsLogsWithin}
use Rattle.ps_ops_state.specs.declared.breaks.Break.TheVariants.{Raises, NotMade}
use Rattle.ps_ops_state.specs.declared.lent.Attempt.{Attempt}
use Rattle.ps_ops_state.specs.Lent.{Lent, Rooms, scene_of, IsShown, IsGood}
use Rattle.ps_ops_state.specs.Acts.{Asked, needs_as, needs_of_refused, IsLeft, names_formed, lacks, IsReason, IsRefused}
use Rattle.ps_ops_state.specs.Acts.{MayNote, ActsAs, effect_in, Acts}
use Rattle.ps_ops_state.proofs.Naming.{named_left}
use Rattle.ps_ops_state.proofs.Meeting.{keeps-same, stays_as, at_least-same, AreNeedsWithin, needs_within-same, reason_more}
use Rattle.ps_ops_state.proofs.Meeting.{meets_by, refused_meets}

begins_more : (first names more : List (List ℕ)) → take (length first) names ≡ first
    → take (length first) (names ++ more) ≡ first
begins_more first names more begins =
    let size = length-take (length first) names in
    let same = ap length begins in
    let within : length first ≤ length names = omega (arith, size, same) in
    take-append-le (length first) names more within ∙ begins

-- the names that were cut to those before
pub cut_names : (names more after : List (List ℕ)) (count : ℕ) → count ≡ length names
    → take count ((names ++ more) ++ after) ≡ names
cut_names names more after count is =
    ap (take count) (append_assoc names more after)
    ∙ (take-append-le count names (more ++ after) (omega (arith, is))
    ∙ take_all count names (omega (arith, is)))

-- a refused step that forms more names lacks no less
refused_within : (scratch : Rooms) (few many : ℕ) → few ≤ many
    → AreNeedsWithin (needs_of_refused scratch few) (needs_of_refused scratch many)
refused_within scratch zero zero more = needs_within-same _
refused_within scratch zero (suc many) more = record {
  bytes = omega arith;
  names = omega arith;
  records = omega arith;
  words = refl;
  births = refl;
  scratch = at_least-same scratch;
}
refused_within scratch (suc few) zero more = absurd (omega (arith, more))
refused_within scratch (suc few) (suc many) more = record {
  bytes = omega arith;
  names = omega (arith, more);
  records = omega arith;
  words = refl;
  births = refl;
  scratch = at_least-same scratch;
}

refused_more : (scratch : Rooms) (slot few many : ℕ) (old new : Lent) (reason : Reason)
    → few ≤ many → IsReason (needs_of_refused scratch few) slot old new reason
    → IsReason (needs_of_refused scratch many) slot old new reason
refused_more scratch slot few many old new reason more =
    reason_more _ _ (refused_within scratch few many more) slot old new reason

module _ (l : Lent) (more names : List (List ℕ)) (are : names ≡ l.names ++ more) where
  abbrev formed : Lent
  formed = record l { names = names }

  pub formed_good : IsGood l → AreNames names → IsGood formed
  formed_good good are_names = record {
    sound = good.sound;
    operands = good.operands;
    dictionaries = good.dictionaries;
    frames = good.frames;
    error_stands = good.error_stands;
    names = are_names;
    first = subst (λ (ns : List (List ℕ)). take (length first_names) ns ≡ first_names) (sym are)
        (begins_more first_names l.names more good.first);
    empty = good.empty;
  }

  -- the same scene under more names
  pub formed_left : (store : Store) → IsShown l store
      → IsLeft store formed (record (scene_of l store) { names = names })
  formed_left store shown =
      subst (λ (ns : List (List ℕ)). IsLeft store (record l { names = ns })
      (record (scene_of l store) { names = ns })) (sym are) (named_left l more store shown)

  -- ---- a refused step, whose names are formed
  module _ (row : Row) (attempt : Attempt) (grants : Grants) where
    abbrev refusing : Lent
    refusing = record l { grants = grants; names = names }

    -- the row lacks the room that it asks for
    pub record Lacks (store : Store) : Type 0 where
      pub scene : Scene
      pub output : List ℕ
      pub is : effect_in row l store ≡ makes scene output
      pub names_are : scene.names ≡ names
      pub lacking : lacks_room attempt.refused store scene.store ≡ true

    pub refused_acts : (asks : Scene → Asked) → IsGood formed
        → KeepsLogsWithin 0 l.grants grants attempt.slot → MayNote attempt.slot l refusing names
        → ((store : Store) → IsShown l store → Lacks store)
        → Acts asks row attempt (Err (Raises VmError)) l refusing
    refused_acts asks good logs may each = record {
      meets = λ store shown.
          let lack = each store shown in
          let left = formed_left store shown in
          let refused : IsRefused attempt.slot (scene_of l store) l refusing names = record {
            is = refl;
            left = record {
              is = left.is;
              shown = record {
                shows = left.shown.shows;
                operands = left.shown.operands;
                dictionaries = left.shown.dictionaries;
                frames = left.shown.frames;
              };
              lasts = left.lasts;
            };
            may_note = may;
          } in
          meets_by asks attempt (scene_of l store) l refusing (Err (Raises VmError)) _ _ lack.is
          (refused_meets asks attempt (scene_of l store) l refusing lack.scene lack.output
          lack.lacking
          (subst (λ (ns : List (List ℕ)).
          IsRefused attempt.slot (scene_of l store) l refusing ns) (sym lack.names_are) refused) logs);
      good = record {
        sound = good.sound;
        operands = good.operands;
        dictionaries = good.dictionaries;
        frames = good.frames;
        error_stands = good.error_stands;
        names = good.names;
        first = good.first;
        empty = good.empty;
      };
      keeps = keeps-same l.heap;
      stays = record {
        program = refl;
        most = refl;
        error_dictionary = refl;
        formed = more;
        names = are;
        capacity = omega arith;
        scratch = at_least-same _;
      };
      logs = logs;
      framed = refl;
    }

    -- it is not made, for want of the records of its note
    pub unnoted_acts : (asks : Scene → Asked) → IsGood l
        → KeepsLogsWithin 0 l.grants grants attempt.slot → (reason : Reason)
        → ((store : Store) → IsShown l store → Lacks store)
        → ((store : Store) → IsReason (needs_of_refused (asks (scene_of l store)).scratch
        (length names - length l.names)) attempt.slot l (record l { grants = grants }) reason)
        → Acts asks row attempt (Err (NotMade reason)) l (record l { grants = grants })
    unnoted_acts asks good logs reason each why = record {
      meets = λ store shown.
          let lack = each store shown in
          meets_by asks attempt (scene_of l store) l (record l { grants = grants })
          (Err (NotMade reason)) _ _ lack.is
          (record {
            did = subst (λ (lacking : Bool). ActsAs (needs_as (asks (scene_of l store))
                (scene_of l store) (makes lack.scene lack.output) lacking) attempt.slot
                (scene_of l store) (Err (NotMade reason)) (makes lack.scene lack.output) lacking l
                (record l { grants = grants })) (sym lack.lacking) (
                  subst (λ (ns : List (List ℕ)). IsReason
                      (needs_of_refused (asks (scene_of l store)).scratch (length ns - length l.names))
                      attempt.slot l (record l { grants = grants }) reason) (sym lack.names_are)
                      (why store),
                  refl,
                );
            logs = logs;
          });
      good = record {
        sound = good.sound;
        operands = good.operands;
        dictionaries = good.dictionaries;
        frames = good.frames;
        error_stands = good.error_stands;
        names = good.names;
        first = good.first;
        empty = good.empty;
      };
      keeps = keeps-same l.heap;
      stays = stays_as l _ refl refl refl refl (omega arith) (at_least-same _);
      logs = logs;
      framed = refl;
    }

  -- the row of an operator, and another for what it does under the name
  module _ (row other : Row) (asks others : Scene → Asked) (attempt : Attempt)
      (effects : (store : Store) → IsShown l store
      → effect_in row l store ≡ effect_in other formed store)
      (asked : (store : Store) → IsShown l store
      → others (scene_of formed store) ≡ asks (scene_of l store)) where
    -- ---- done
    done_as : (store : Store) (effect : Effect) (needs : Asked) (new : Lent)
        → ActsAs (needs_as needs (scene_of formed store) effect
        (lacks attempt.refused (scene_of formed store) effect)) attempt.slot (scene_of formed store)
        (Ok tt) effect (lacks attempt.refused (scene_of formed store) effect) formed new
        → ActsAs (needs_as needs (scene_of l store) effect
        (lacks attempt.refused (scene_of l store) effect)) attempt.slot (scene_of l store) (Ok tt)
        effect (lacks attempt.refused (scene_of l store) effect) l new
    done_as store (makes scene output) needs new did =
        by (lacks_room attempt.refused store scene.store) did
      where
        by : (lacking : Bool)
            → ActsAs (needs_as needs (scene_of formed store) (makes scene output) lacking)
            attempt.slot (scene_of formed store) (Ok tt) (makes scene output) lacking formed new
            → ActsAs (needs_as needs (scene_of l store) (makes scene output) lacking) attempt.slot
            (scene_of l store) (Ok tt) (makes scene output) lacking l new
        by false done = done
        by true done = absurd done
    done_as store (unwinds cause scene) needs new did = absurd did
    done_as store (raises error) needs new did = absurd did
    done_as store (calls deed) needs new did = absurd did

    pub formed_acts : (new : Lent) → Acts others other attempt (Ok tt) formed new
        → Acts asks row attempt (Ok tt) l new
    formed_acts new acts = record {
      meets = λ store shown.
          let did = acts.meets store (formed_left store shown).shown in
          let same = asked store shown in
          meets_by asks attempt (scene_of l store) l new (Ok tt) (effect_in row l store)
          (effect_in other formed store) (effects store shown)
          (record {
            did = done_as store (effect_in other formed store) (asks (scene_of l store)) new
                (subst (λ (a : Asked). ActsAs (needs_as a (scene_of formed store)
                (effect_in other formed store)
                (lacks attempt.refused (scene_of formed store) (effect_in other formed store)))
                attempt.slot (scene_of formed store) (Ok tt) (effect_in other formed store)
                (lacks attempt.refused (scene_of formed store) (effect_in other formed store)) formed
                new) same did.did);
            logs = subst (λ (a : Asked). KeepsLogsWithin a.records l.grants new.grants attempt.slot)
                same did.logs;
          });
      good = acts.good;
      keeps = acts.keeps;
      stays = record {
        program = acts.stays.program;
        most = acts.stays.most;
        error_dictionary = acts.stays.error_dictionary;
        formed = more ++ acts.stays.formed;
        names = acts.stays.names
            ∙ (ap (λ (ns : List (List ℕ)). ns ++ acts.stays.formed) are
            ∙ append_assoc l.names more acts.stays.formed);
        capacity = acts.stays.capacity;
        scratch = acts.stays.scratch;
      };
      logs = acts.logs;
      framed = acts.framed;
    }

    -- ---- not made: the name is taken back
    abbrev without : Lent → Lent
    without new = record new { names = l.names }

    fewer_formed : (after : List (List ℕ))
        → length after - length names ≤ length after - length l.names
    fewer_formed after =
        let size = ap length are ∙ length-append l.names more in omega (arith, size)

    module _ (store : Store) (scene : Scene) (output : List ℕ) (needs : Asked) (new : Lent) where
      unmade_reason : (lacking : Bool) (reason : Reason)
          → IsReason (needs_as needs (scene_of formed store) (makes scene output) lacking)
          attempt.slot formed new reason
          → IsReason (needs_as needs (scene_of l store) (makes scene output) lacking) attempt.slot l
          (without new) reason
      unmade_reason true reason why =
          refused_more needs.scratch attempt.slot _ _ l (without new) reason
          (fewer_formed scene.names) (why_there reason why)
        where
          why_there : (reason : Reason)
              → IsReason (needs_of_refused needs.scratch
              (names_formed (scene_of formed store) scene)) attempt.slot formed new reason
              → IsReason (needs_of_refused needs.scratch
              (names_formed (scene_of formed store) scene)) attempt.slot l (without new) reason
          why_there LogFull w = w
          why_there LogClosed w = w
          why_there (NeedSpace words) w = w
          why_there Memory w = w
      unmade_reason false LogFull why = why
      unmade_reason false LogClosed why = why
      unmade_reason false (NeedSpace words) why = why
      unmade_reason false Memory (inl less) = inl less
      unmade_reason false Memory (inr (inl some)) =
          let fewer = fewer_formed scene.names in inr (inl (omega (arith, some, fewer)))
      unmade_reason false Memory (inr (inr rest)) = inr (inr rest)

    unmade_as : (store : Store) (effect : Effect) (needs : Asked) (reason : Reason) (new : Lent)
        → ActsAs (needs_as needs (scene_of formed store) effect
        (lacks attempt.refused (scene_of formed store) effect)) attempt.slot (scene_of formed store)
        (Err (NotMade reason)) effect (lacks attempt.refused (scene_of formed store) effect) formed
        new
        → ActsAs (needs_as needs (scene_of l store) effect
        (lacks attempt.refused (scene_of l store) effect)) attempt.slot (scene_of l store)
        (Err (NotMade reason)) effect (lacks attempt.refused (scene_of l store) effect) l
        (without new)
    unmade_as store (makes scene output) needs reason new did =
        by (lacks_room attempt.refused store scene.store) did
      where
        by : (lacking : Bool)
            → ActsAs (needs_as needs (scene_of formed store) (makes scene output) lacking)
            attempt.slot (scene_of formed store) (Err (NotMade reason)) (makes scene output) lacking
            formed new
            → ActsAs (needs_as needs (scene_of l store) (makes scene output) lacking) attempt.slot
            (scene_of l store) (Err (NotMade reason)) (makes scene output) lacking l (without new)
        by true it = (
          unmade_reason store scene output needs new true reason it.0,
          ap without it.1,
        )
        by false it = (
          unmade_reason store scene output needs new false reason it.0,
          ap without it.1,
        )
    unmade_as store (unwinds cause scene) needs reason new did = absurd did
    unmade_as store (raises error) needs reason new did = absurd did
    unmade_as store (calls deed) needs reason new did = absurd did

    pub unmade_acts : IsGood l → (reason : Reason) (new : Lent)
        → Acts others other attempt (Err (NotMade reason)) formed new
        → Acts asks row attempt (Err (NotMade reason)) l (record new { names = l.names })
    unmade_acts good reason new acts = record {
      meets = λ store shown.
          let did = acts.meets store (formed_left store shown).shown in
          let same = asked store shown in
          meets_by asks attempt (scene_of l store) l (without new) (Err (NotMade reason))
          (effect_in row l store) (effect_in other formed store) (effects store shown)
          (record {
            did = unmade_as store (effect_in other formed store) (asks (scene_of l store)) reason
                new
                (subst (λ (a : Asked). ActsAs (needs_as a (scene_of formed store)
                (effect_in other formed store)
                (lacks attempt.refused (scene_of formed store) (effect_in other formed store)))
                attempt.slot (scene_of formed store) (Err (NotMade reason))
                (effect_in other formed store)
                (lacks attempt.refused (scene_of formed store) (effect_in other formed store)) formed
                new) same did.did);
            logs = did.logs;
          });
      good = record {
        sound = acts.good.sound;
        operands = acts.good.operands;
        dictionaries = acts.good.dictionaries;
        frames = acts.good.frames;
        error_stands = acts.good.error_stands;
        names = good.names;
        first = good.first;
        empty = acts.good.empty;
      };
      keeps = acts.keeps;
      stays = record {
        program = acts.stays.program;
        most = acts.stays.most;
        error_dictionary = acts.stays.error_dictionary;
        formed = [];
        names = sym (append-nil l.names);
        capacity = acts.stays.capacity;
        scratch = acts.stays.scratch;
      };
      logs = acts.logs;
      framed = acts.framed;
    }
