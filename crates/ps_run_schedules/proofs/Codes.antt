-- Entries as bytes: what is written is read.
use Rattle.std.proofs.Common.{◌≡◌, ◌≢◌, ℕ, ℤ, ◌+◌, ◌%◌, false, Option, Some, None}
use Rattle.std.proofs.Common.{List, ◌++◌, length, refl, sym, ◌∙◌, ap, arith, append_assoc, length-append}
use Rattle.std.specs.Prelude.{pos, ◌==◌, is_none, nat_lt, if◌then◌else◌}
use Rattle.std.specs.Option.{unwrap_or}
use Rattle.std.proofs.lemmas.Bool.Decides.{nat_tests}
use Rattle.ps_language.specs.declared.schedules.Entry.{Entry}
use Rattle.ps_run_schedules.specs.Packing.{number_in, words_of, flagged_in, entry_in, Writes, most_entry_bytes}
use Rattle.ps_run_schedules.specs.Turns.{plain_entry}

-- the pair that is shown
shown_back : (flags used most : ℕ) (shown : Option (ℤ × ℤ)) → nat_lt flags 2 ≡ is_none shown
    → (words_of used, words_of most) ≡ unwrap_or shown (pos 0, pos 0)
    → (if nat_lt flags 2 then None else Some (words_of used, words_of most)) ≡ shown
shown_back flags used most None test same = rw test refl
shown_back flags used most (Some pair) test same = rw (test, same) refl

-- the flags, the context, the steps and the pair of an entry
pub flags_written : (flags context steps used most : ℕ) (old b1 b2 b3 b4 new : List ℕ)
    → Writes ℕ number_in flags 1 old b1 → Writes ℕ number_in context 5 b1 b2
    → Writes ℕ number_in steps 5 b2 b3 → Writes ℕ number_in used 5 b3 b4
    → Writes ℕ number_in most 5 b4 new
    → Writes Entry flagged_in
    (record {
      context = context;
      steps = steps;
      refused = flags % 2 == 1;
      shown = if nat_lt flags 2 then None else Some (words_of used, words_of most);
    }) 21 old new
flags_written flags context steps used most old b1 b2 b3 b4 new f c s u m =
    let all_of : (rest : List ℕ) → (f.code ++ (c.code ++ (s.code ++ (u.code ++ m.code)))) ++ rest
    ≡ f.code ++ (c.code ++ (s.code ++ (u.code ++ (m.code ++ rest)))) = λ rest. simp append_assoc in
    let sizes : length (f.code ++ (c.code ++ (s.code ++ (u.code ++ m.code))))
    ≡ length f.code + (length c.code + (length s.code + (length u.code + length m.code))) =
    simp length-append in
    record {
      code = f.code ++ (c.code ++ (s.code ++ (u.code ++ m.code)));
      is =
          m.is ∙ ap (λ bs. bs ++ m.code) (u.is ∙ ap (λ bs. bs ++ u.code) (s.is ∙ ap (λ bs. bs ++ s.code)
          (c.is ∙ ap (λ bs. bs ++ c.code) f.is)))
          ∙ simp append_assoc;
      reads = λ rest. ap flagged_in (all_of rest)
          ∙ rw (
            f.reads (c.code ++ (s.code ++ (u.code ++ (m.code ++ rest)))),
            c.reads (s.code ++ (u.code ++ (m.code ++ rest))),
            s.reads (u.code ++ (m.code ++ rest)),
            u.reads (m.code ++ rest),
            m.reads rest,
          ) refl;
      some = omega (arith, sizes, f.some);
      short = omega (arith, sizes, f.short, c.short, s.short, u.short, m.short);
    }

pub entry_back : (entry : Entry) (flags used most : ℕ) → (flags % 2 == 1) ≡ entry.refused
    → nat_lt flags 2 ≡ is_none entry.shown
    → (words_of used, words_of most) ≡ unwrap_or entry.shown (pos 0, pos 0)
    → record {
      context = entry.context;
      steps = entry.steps;
      refused = flags % 2 == 1;
      shown = if nat_lt flags 2 then None else Some (words_of used, words_of most);
    } ≡ entry
entry_back entry flags used most refused test same =
    let shown = shown_back flags used most entry.shown test same in
    λ i. record {
      context = entry.context;
      steps = entry.steps;
      refused = refused i;
      shown = shown i;
    }

-- an entry of ordinary steps
pub plain_written : (entry : Entry) (old between new : List ℕ) → entry.steps ≢ 0
    → entry ≡ plain_entry entry.context entry.steps
    → Writes ℕ number_in entry.steps 5 old between
    → Writes ℕ number_in entry.context 5 between new
    → Writes Entry entry_in entry most_entry_bytes old new
plain_written entry old between new some plain s c =
    let all_of : (rest : List ℕ) → (s.code ++ c.code) ++ rest ≡ s.code ++ (c.code ++ rest) =
    λ rest. append_assoc s.code c.code rest in
    let sizes = length-append s.code c.code in
    let test : (entry.steps == 0) ≡ false = grind (arith, nat_tests) in
    record {
      code = s.code ++ c.code;
      is = c.is ∙ ap (λ bs. bs ++ c.code) s.is ∙ append_assoc old s.code c.code;
      reads = λ rest. ap entry_in (all_of rest)
          ∙ rw (s.reads (c.code ++ rest), c.reads rest, test) (λ i. (sym plain i, rest));
      some = omega (arith, sizes, s.some);
      short = omega (arith, sizes, s.short, c.short);
    }

-- any other
pub flagged_written : (entry : Entry) (old between new : List ℕ)
    → Writes ℕ number_in 0 1 old between → Writes Entry flagged_in entry 21 between new
    → Writes Entry entry_in entry most_entry_bytes old new
flagged_written entry old between new z f =
    let all_of : (rest : List ℕ) → (z.code ++ f.code) ++ rest ≡ z.code ++ (f.code ++ rest) =
    λ rest. append_assoc z.code f.code rest in
    let sizes = length-append z.code f.code in
    record {
      code = z.code ++ f.code;
      is = f.is ∙ ap (λ bs. bs ++ f.code) z.is ∙ append_assoc old z.code f.code;
      reads = λ rest. ap entry_in (all_of rest) ∙ rw (z.reads (f.code ++ rest), f.reads rest) refl;
      some = omega (arith, sizes, z.some);
      short = omega (arith, sizes, z.short, f.short);
    }
