-- `write_at` meets its contract: a walk of its MIR by hand.
-- A walk is a list of steps over a context, the things that are owned, which comments show as
-- [first; second; ..].
use Rattle.std.proofs.Common.{◌≡◌, ℕ, ◌+◌, ◌*◌, ◌^◌, ◌<◌, List, [], ◌∷◌, length, get_or, set, sym, refl, ap, subst}
use Rattle.std.proofs.Common.{arith, length-set, w64, MutBor}
use seplogic.Ra.Ura.{Ura}
use base.Fraction.{full_share}
use mir.Syntax.{ty_int, named}
use mir.Val.{Val, vint, vunit}
use base.Logic.{SProp, ent}
use base.Fml.{Fml, Lft, GName, Share, ftrue, fat, flft, fobs, fbor}
use prog.Memory.{Memory}
use prog.Routine.{Routine}
use prog.Wp.{Env, Calls, Loops, WpFn, Tables}
use types.Logic.{Logic}
use contract.Monad.{Fun}
use contract.Running.{tables, tables_of}
use sound.WpLaws.{WpFn-mono}
use types.Kit.{‵, ◌⊛◌, ⋆, at_ret, ◌$◌, ◌∵◌, !, qed, by, move, keep, use1, use2, drop, split, join, fsplit, fjoin, feq_i}
use types.Kit.{rewrite, suffices, frame, done}
use types.Part.{whole, sub}
use types.Run.{store, stop, fld, addr, hop, from, lit, unit_lit, of_opd, bin, assigns_last, first, blocks, exec}
use types.Run.{returns, enter}
use types.ByLocal.{alloc_all, pass_all, free_all, look_at, look_in_at, get, through, sets, env}
use denote.Exit.{yes}
use denote.RattleType.{owns}
use denote.Memory.{part_at, shares}
use denote.Plain.{uint_vals, uint_Tells, uint_in, uint_out}
use denote.Slice.{MutSlice, Room, slice_val, mut_slice_vals, mut_slice_Tells, mut_slice_at, coded_holeys, heres}
use denote.Lend.{Held}
use denote.Index.{row, others, takes, puts, place_is, opens_slice, closes_slice, place as nth}
use denote.Shadow.{pure_i}
use denote.Builtin.{u64, usize}
use denote.Signature.{plain}
use denote.Steps.{nothing}
use denote.Triple.Clauses.{Clauses}
use denote.Triple.Entry.{on_entry}
use denote.Triple.Spec.{Meets, triple_of}
use denote.Triple.Table.{entered}
use denote.Triple.Walked.{says, needs, Stays, stay_dropped, stay_slice, walk_of, ends_at, walked, Goes-dropped}
use denote.Triple.Walked.{Goes-slice, walk_Meets}
use Rattle.ps_raw.specs.contracts.pointers.write_at.Key.{name as #write_at}
use Rattle.ps_raw.specs.contracts.pointers.write_at as write_at
use Rattle.ps_raw.proofs.pointers.write_at.Statement as stated
use Rattle.ps_raw.proofs.pointers.write_at.Code as code

-- what the function still has of each parameter when it returns: the slice, and nothing of the two
-- numbers
abbrev stayed : Stays (write_at.ended).signature.params (write_at.ended).kept
stayed = (
  stay_slice (0 ∷ []) tt (plain (λ _. u64)),
  (stay_dropped (plain (λ _. usize)) yes, (stay_dropped (plain (λ _. u64)) yes, tt)),
)

module _ {M : Type 1} {𝓤 : Ura M} (𝓛 : Logic 𝓤) (at_mem : Memory → SProp 𝓤) (run : Routine → Fun 𝓤) where
  open 𝓛 use {H}

  abbrev clauses : Clauses 𝓤 write_at.ended
  clauses = write_at.clauses 𝓛 at_mem run

  -- the slice is lent for κ, lies at the offset o of the block b, is named γ and holds xs
  module _ (κ : Lft) (q : Share) (b o : ℕ) (γ : GName) (xs : List ℕ) (i x : ℕ) where
    abbrev words_at : List ℕ → MutBor (List ℕ)
    words_at zs = record { ref_ptr = (b, o); ghost_name = γ; now = zs }

    abbrev passed : List Val × (List Val × (List Val × Unit {0}))
    passed = (mut_slice_vals (words_at xs), (vint w64 i ∷ [], (vint w64 x ∷ [], tt)))

    abbrev bound : (walk_of 𝓛 write_at.ended stayed clauses).Ghost
    bound = (((κ, tt), (q, tt), tt, (words_at xs, (i, (x, tt))), passed), tt)

    abbrev Post : Val → SProp 𝓤
    Post = (walk_of 𝓛 write_at.ended stayed clauses).post bound

    abbrev old : ℕ
    old = get_or xs i 0

    abbrev ys : List ℕ
    ys = set xs i x

    abbrev rest : Fml
    rest = others (shares u64) full_share xs i b o

    -- the cell of element i is taken out of the row, and put back with x in it
    cell_out : i < length xs
        → ent 𝓤 (⋆ 𝓛 (‵ (row u64 full_share xs b o) ∷ []))
        (⋆ 𝓛 (‵ (fat full_share (ty_int w64) b (i * 8 + o) (vint w64 old)) ∷ ‵ rest ∷ []))
    cell_out inside =
        qed 𝓛 (‵ (row u64 full_share xs b o) ∷ []) ∵
        use1 𝓛 (‵ (part_at u64 full_share old b (nth 8 o i)) ⊛ ‵ rest)
        (takes (shares u64) full_share 𝓛 xs i 0 b o inside) $ split ! $
        rewrite ! 0 (λ (k : ℕ). ‵ (part_at u64 full_share old b k)) (place_is 8 o i) refl $
        use1 𝓛 (‵ (fat full_share (ty_int w64) b (i * 8 + o) (vint w64 old)))
        (uint_out 𝓛 full_share w64 old b (i * 8 + o)) $ done !

    cell_in : i < length xs
        → ent 𝓤 (⋆ 𝓛 (‵ (fat full_share (ty_int w64) b (i * 8 + o) (vint w64 x)) ∷ ‵ rest ∷ []))
        (⋆ 𝓛 (‵ (row u64 full_share ys b o) ∷ []))
    cell_in inside =
        qed 𝓛 (‵ (fat full_share (ty_int w64) b (i * 8 + o) (vint w64 x)) ∷ ‵ rest ∷ []) ∵
        use1 𝓛 (‵ (part_at u64 full_share x b (i * 8 + o))) (uint_in 𝓛 full_share w64 x b (i * 8 + o)) $
        rewrite ! 0 (λ (k : ℕ). ‵ (part_at u64 full_share x b k)) (sym (place_is 8 o i)) refl $
        by ! (puts (shares u64) full_share 𝓛 xs i x b o inside)

    -- the end: the `ensures`, the token of κ, and the slice at ys
    exits : Room u64 (length xs)
        → ent 𝓤 (⋆ 𝓛 (‵ (fobs γ ((coded_holeys u64).code (heres u64 ys))) ∷ ‵ (fbor κ (Held u64 (length ys) b o γ))
        ∷ ‵ (flft κ q) ∷ [])) (Post vunit)
    exits room =
        let same : length ys ≡ length xs = length-set xs i x in
        qed 𝓛 (‵ (fobs γ ((coded_holeys u64).code (heres u64 ys))) ∷ ‵ (fbor κ (Held u64 (length ys) b o γ))
        ∷ ‵ (flft κ q) ∷ []) ∵
        suffices ! _ (ends_at 𝓛 write_at.ended stayed clauses bound vunit tt (ys, (tt, (tt, tt))) (
          same,
          (tt, (tt, tt)),
        )) $ says ! refl $
        nothing ! $ move ! (3 ∷ 0 ∷ []) $ join ! $ frame ! $ fjoin ! $
        pure_i ! (mut_slice_at u64 (words_at ys) (mut_slice_vals (words_at xs))) (tt, (tt, tt)) (
          ap (λ (n : ℕ). slice_val (b, o) n ∷ []) (sym same),
          subst (Room u64) (sym same) room,
        ) $ fjoin ! $
        -- [the slice]
        nothing ! $ nothing ! $ fjoin ! $ nothing ! $ fjoin ! $ move ! (1 ∷ 0 ∷ []) $ fjoin ! $
        -- [the three parameters]
        feq_i ! (List Val) (vunit ∷ []) (vunit ∷ []) refl $ move ! (1 ∷ 0 ∷ []) $ done !

    module _ (C : Calls 𝓤 H) (Λ : Loops 𝓤 H) where
      walk : Room u64 (length xs) → x < 2 ^ 64 → i < length xs
          → ent 𝓤 (on_entry 𝓛 write_at.signature (κ, tt) (q, tt) (
            words_at xs,
            (i, (x, tt)),
          ) passed) (WpFn 𝓤 H C Λ code.function (slice_val (b, o) (length xs) ∷ vint w64 i ∷ vint w64 x ∷ []) Post)
      walk room fx inside =
          let count : length xs < 2 ^ 64 = room.0 in
          let bytes : length xs * 8 < 2 ^ 63 = room.1 in
          let fi : i < 2 ^ 64 = omega arith in
          let offset : i * 8 < 2 ^ 64 = omega arith in
          qed 𝓛 ((‵ (flft κ q) ⊛ ‵ ftrue) ∷ ‵ (owns (MutSlice (named 0) κ u64 ∷ usize ∷ u64 ∷ []) (
            words_at xs,
            (i, (x, tt)),
          ) passed) ∷ []) ∵
          enter ! C Λ code.function (slice_val (b, o) (length xs) ∷ vint w64 i ∷ vint w64 x ∷ []) _ $
          alloc_all ! (λ l. pass_all ! refl (
            (tt, (tt, (record { fits = count }, tt))),
            ((tt, record { fits = fi }), ((tt, record { fits = fx }), tt)),
          ) $
          let En : Env 𝓤 H = env (code.function).locals l in
          move ! (1 ∷ []) $ fsplit ! $ fsplit ! $ drop ! $ fsplit ! $ move ! (3 ∷ []) $ split ! $ move !
          (2 ∷ 3 ∷ 0 ∷ []) $
          -- [what γ is seen at; the borrow; the token of κ; ..]
          opens_slice ! tt u64 xs b o $ use1 𝓛 (‵ (fat full_share (ty_int w64) b (i * 8 + o) (vint w64 old)) ⊛ ‵ rest)
          (cell_out inside) $ split ! $
          -- [the cell; the other elements; the open borrow; ..]. From here, one step for each
          -- statement of the MIR. let start = words.as_mut_ptr();
          sets ! (addr ! (from ! (fld ! refl (hop ! (look_in_at ! 1 (sub ! 0 refl (whole !))) (stop !))))) refl
          (tt, tt) $
          first ! $ blocks ! $
          -- let at = start.add(index);
          sets ! (bin ! (get ! refl) (lit ! tt) (record { fits = offset })) refl (tt, record { fits = offset }) $
          sets ! (bin ! (get ! refl) (get ! refl) tt) refl (tt, tt) $
          -- *at = word;  the cell is item 0
          assigns_last ! (of_opd ! (get ! refl)) (through ! refl (stop !)) (store ! 0 refl (tt, record { fits = fx })) $
          exec ! C Λ En code.Mir.t-3 (at_ret En Post) $
          sets ! (of_opd ! (unit_lit !)) refl (tt, tt) $
          use2 𝓛 (‵ (row u64 full_share ys b o)) (cell_in inside) $ closes_slice ! tt u64 xs ys
          (length-set xs i x) b o $
          returns ! (look_at ! 0 refl) $ free_all ! refl $ keep ! (0 ∷ 1 ∷ 2 ∷ []) $ by ! (exits room))

  meets : (𝓣 : Tables 𝓤 H) → Meets 𝓛 write_at.signature (WpFn 𝓤 H 𝓣.C 𝓣.Λ code.function) (write_at.spec 𝓛 at_mem run)
  meets 𝓣 =
      walk_Meets 𝓛 write_at.ended stayed (
        Goes-slice 𝓛 1 0 tt (plain (λ _. u64)),
        (
          Goes-dropped 𝓛 1 (plain (λ _. usize)) yes (λ κs x f. refl),
          (Goes-dropped 𝓛 1 (plain (λ _. u64)) yes (λ κs x f. refl), tt),
        ),
      )
      clauses (WpFn 𝓤 H 𝓣.C 𝓣.Λ code.function) (WpFn-mono 𝓤 H 𝓛.laws 𝓣 code.function)
      (walked 𝓛 write_at.ended stayed clauses (WpFn 𝓤 H 𝓣.C 𝓣.Λ code.function)
      (λ κs. (mut_slice_vals, (uint_vals w64, (uint_vals w64, tt)))) (λ κs. (
        mut_slice_Tells (named 0) κs.0 u64,
        (uint_Tells w64, (uint_Tells w64, tt)),
      ))
      (λ κs qs bounds a g are. needs 𝓤 (a.1.0 < length a.0.now) _
      (walk κs.0 qs.0 a.0.ref_ptr.0 a.0.ref_ptr.1 a.0.ghost_name a.0.now a.1.0 a.1.1.0 𝓣.C 𝓣.Λ are.0.0.1 are.1.1.0.1)))

pub write_at_spec : {M : Type 1} → stated.statement M
unfolding tables_of
write_at_spec 𝓤 𝓛 𝓜 𝓡 wired =
    entered 𝓤 𝓛.H (triple_of 𝓛 write_at.signature (write_at.spec 𝓛 𝓜.mem 𝓡.returns))
    (tables 𝓤 𝓛.H 𝓜 𝓡 𝓡.env).C (tables 𝓤 𝓛.H 𝓜 𝓡 𝓡.env).Λ #write_at code.function (code.unfolded 𝓤 𝓛.H 𝓜 𝓡 wired)
    (meets 𝓛 𝓜.mem 𝓡.returns (tables_of 𝓤 𝓛.H 𝓜 (tables 𝓤 𝓛.H 𝓜 𝓡 𝓡.env)))
