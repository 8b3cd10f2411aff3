-- `read_at` meets its contract: a walk of its MIR by hand.
-- A walk is a list of steps over a context, the things that are owned, which comments show as
-- [first; second; ..].
use Rattle.std.proofs.Common.{ℕ, ◌*◌, ◌^◌, ◌<◌, List, [], ◌∷◌, length, get_or, sym, refl, arith, w64, Bor}
use seplogic.Ra.Ura.{Ura}
use mir.Syntax.{ty_int, named}
use mir.Val.{Val, vint}
use base.Logic.{SProp, ent}
use base.Fml.{Lft, Share, ftrue, fat, flft}
use prog.Memory.{Memory}
use prog.Routine.{Routine}
use prog.Wp.{Env, Calls, Loops, WpFn, Tables}
use types.Logic.{Logic}
use contract.Monad.{Fun}
use contract.Running.{tables, tables_of}
use sound.WpLaws.{WpFn-mono}
use types.Kit.{‵, ◌⊛◌, ⋆, at_ret, ◌$◌, ◌∵◌, !, qed, by, move, keep, drop, split, join, fsplit, fjoin, feq_i, flt_i}
use types.Kit.{rewrite, suffices, frame, done}
use types.Part.{whole, sub}
use types.Run.{look, stop, fld, load, addr, hop, from, lit, of_opd, bin, first, blocks, exec, returns, enter}
use types.ByLocal.{alloc_all, pass_all, free_all, look_at, look_in_at, get, through, sets, sets_last, env}
use denote.Copied.{uint_Copied}
use denote.Exit.{yes}
use denote.Laws.{Is, shows}
use denote.RattleType.{owns}
use denote.Plain.{uint_vals, uint_Tells}
use denote.Slice.{ShrSlice, Room, slice_val, shr_slice_vals, shr_slice_Tells}
use denote.Index.{elem_out, elem_back, place_is, looks_slice, shuts_slice}
use denote.Builtin.{u64, usize}
use denote.Signature.{plain}
use denote.Steps.{nothing}
use denote.Triple.Clauses.{Clauses}
use denote.Triple.Entry.{on_entry}
use denote.Triple.Spec.{Meets, triple_of}
use denote.Triple.Table.{entered}
use denote.Triple.Walked.{says, needs, Stays, stay_dropped, walk_of, ends_at, walked, Goes-dropped, walk_Meets}
use denote.Signature.{shr_slice_of}
use Rattle.ps_raw.specs.contracts.pointers.read_at.Key.{name as #read_at}
use Rattle.ps_raw.specs.contracts.pointers.read_at as read_at
use Rattle.ps_raw.proofs.pointers.read_at.Statement as stated
use Rattle.ps_raw.proofs.pointers.read_at.Code as code

-- the function keeps nothing of its parameters
abbrev stayed : Stays (read_at.ended).signature.params (read_at.ended).kept
stayed = (stay_dropped (shr_slice_of (0 ∷ []) tt (plain (λ _. u64))) yes, (stay_dropped (plain (λ _. usize)) yes, tt))

module _ {M : Type 1} {𝓤 : Ura M} (𝓛 : Logic 𝓤) (at_mem : Memory → SProp 𝓤) (run : Routine → Fun 𝓤) where
  open 𝓛 use {H}

  abbrev clauses : Clauses 𝓤 read_at.ended
  clauses = read_at.clauses 𝓛 at_mem run

  -- the slice is lent for κ, lies at the offset o of the block b and holds xs
  module _ (κ : Lft) (q : Share) (b o : ℕ) (xs : List ℕ) (i : ℕ) where
    abbrev words_at : Bor (List ℕ)
    words_at = record { ref_ptr = (b, o); now = xs }

    abbrev passed : List Val × (List Val × Unit {0})
    passed = (shr_slice_vals words_at, (vint w64 i ∷ [], tt))

    abbrev bound : (walk_of 𝓛 read_at.ended stayed clauses).Ghost
    bound = (((κ, tt), (q, tt), tt, (words_at, (i, tt)), passed), tt)

    abbrev Post : Val → SProp 𝓤
    Post = (walk_of 𝓛 read_at.ended stayed clauses).post bound

    abbrev word : ℕ
    word = get_or xs i 0

    -- the end: the `ensures`, the token of κ, and the result
    exits : word < 2 ^ 64 → ent 𝓤 (⋆ 𝓛 (‵ (flft κ q) ∷ [])) (Post (vint w64 word))
    exits fits =
        qed 𝓛 (‵ (flft κ q) ∷ []) ∵
        suffices ! _ (ends_at 𝓛 read_at.ended stayed clauses bound (vint w64 word) word (tt, (tt, tt)) (tt, (tt, tt))) $
        says ! refl $
        nothing ! $ move ! (1 ∷ 0 ∷ []) $ join ! $ frame ! $
        nothing ! $ nothing ! $ fjoin ! $ nothing ! $ fjoin ! $
        flt_i ! word (2 ^ 64) fits $ feq_i ! (List Val) (vint w64 word ∷ [])
        (vint w64 word ∷ []) refl $ fjoin ! $ move ! (1 ∷ 0 ∷ []) $ done !

    module _ (C : Calls 𝓤 H) (Λ : Loops 𝓤 H) where
      walk : Room u64 (length xs) → i < length xs
          → ent 𝓤 (on_entry 𝓛 read_at.signature (κ, tt) (q, tt) (words_at, (i, tt)) passed)
          (WpFn 𝓤 H C Λ code.function (slice_val (b, o) (length xs) ∷ vint w64 i ∷ []) Post)
      walk room inside =
          let count : length xs < 2 ^ 64 = room.0 in
          let bytes : length xs * 8 < 2 ^ 63 = room.1 in
          let fi : i < 2 ^ 64 = omega arith in
          let offset : i * 8 < 2 ^ 64 = omega arith in
          qed 𝓛 ((‵ (flft κ q) ⊛ ‵ ftrue) ∷ ‵ (owns (ShrSlice (named 0) κ u64 ∷ usize ∷ []) (words_at, (i, tt)) passed)
          ∷ []) ∵
          enter ! C Λ code.function (slice_val (b, o) (length xs) ∷ vint w64 i ∷ []) _ $
          alloc_all ! (λ l. pass_all ! refl (
            (tt, (tt, (record { fits = count }, tt))),
            ((tt, record { fits = fi }), tt),
          ) $
          let En : Env 𝓤 H = env (code.function).locals l in
          move ! (1 ∷ []) $ fsplit ! $ fsplit ! $ drop ! $ move ! (2 ∷ []) $ split ! $ move ! (2 ∷ 0 ∷ []) $
          -- [the elements, shared; the token of κ; ..]
          looks_slice ! tt u64 (uint_Copied 𝓛 w64) xs b o
          (λ q'. elem_out ! u64 (Is u64) (shows 𝓛 u64) (uint_vals w64) (uint_Tells w64) q' xs i 0 b o inside (λ g.
          rewrite ! 0 (λ (k : ℕ). ‵ (fat q' (ty_int w64) b k (vint w64 word))) (place_is 8 o i) refl $
          -- [the cell; ..]. From here, one step for each statement of the MIR.
          -- let start = words.as_ptr();
          sets ! (addr ! (from ! (fld ! refl (hop ! (look_in_at ! 1 (sub ! 0 refl (whole !))) (stop !))))) refl
          (tt, tt) $
          first ! $ blocks ! $
          -- *start.add(index)
          sets ! (bin ! (get ! refl) (lit ! tt) (record { fits = offset })) refl (tt, record { fits = offset }) $
          sets ! (bin ! (get ! refl) (get ! refl) tt) refl (tt, tt) $
          sets_last ! (of_opd ! (load ! (through ! refl (stop !)) (look ! 0 refl))) refl (tt, record { fits = g.1 }) $
          exec ! C Λ En code.Mir.t-3 (at_ret En Post) $
          sets ! (of_opd ! (get ! refl)) refl (tt, record { fits = g.1 }) $
          rewrite ! 0 (λ (k : ℕ). ‵ (fat q' (ty_int w64) b k (vint w64 word))) (sym (place_is 8 o i)) refl $
          elem_back ! u64 q' xs i 0 (vint w64 word ∷ []) b o inside $ shuts_slice ! tt u64 q' xs b o $
          returns ! (look_at ! 0 refl) $ free_all ! refl $ keep ! (0 ∷ []) $ by ! (exits g.1))))

  meets : (𝓣 : Tables 𝓤 H) → Meets 𝓛 read_at.signature (WpFn 𝓤 H 𝓣.C 𝓣.Λ code.function) (read_at.spec 𝓛 at_mem run)
  meets 𝓣 =
      walk_Meets 𝓛 read_at.ended stayed (
        Goes-dropped 𝓛 1 (shr_slice_of (0 ∷ []) tt (plain (λ _. u64))) yes (λ κs x f. refl),
        (Goes-dropped 𝓛 1 (plain (λ _. usize)) yes (λ κs x f. refl), tt),
      )
      clauses (WpFn 𝓤 H 𝓣.C 𝓣.Λ code.function) (WpFn-mono 𝓤 H 𝓛.laws 𝓣 code.function)
      (walked 𝓛 read_at.ended stayed clauses (WpFn 𝓤 H 𝓣.C 𝓣.Λ code.function)
      (λ κs. (shr_slice_vals, (uint_vals w64, tt))) (λ κs. (shr_slice_Tells (named 0) κs.0 u64, (uint_Tells w64, tt)))
      (λ κs qs bounds a g are. needs 𝓤 (a.1.0 < length a.0.now) _
      (walk κs.0 qs.0 a.0.ref_ptr.0 a.0.ref_ptr.1 a.0.now a.1.0 𝓣.C 𝓣.Λ are.0.0.1)))

pub read_at_spec : {M : Type 1} → stated.statement M
unfolding tables_of
read_at_spec 𝓤 𝓛 𝓜 𝓡 wired =
    entered 𝓤 𝓛.H (triple_of 𝓛 read_at.signature (read_at.spec 𝓛 𝓜.mem 𝓡.returns))
    (tables 𝓤 𝓛.H 𝓜 𝓡 𝓡.env).C (tables 𝓤 𝓛.H 𝓜 𝓡 𝓡.env).Λ #read_at code.function (code.unfolded 𝓤 𝓛.H 𝓜 𝓡 wired)
    (meets 𝓛 𝓜.mem 𝓡.returns (tables_of 𝓤 𝓛.H 𝓜 (tables 𝓤 𝓛.H 𝓜 𝓡 𝓡.env)))
