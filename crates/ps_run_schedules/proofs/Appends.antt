-- Entries that are packed, one after another.
use Rattle.std.proofs.Common.{◌≡◌, ℕ, zero, suc, ◌+◌, ◌-◌, ◌≤◌, Option, Some, None}
use Rattle.std.proofs.Common.{List, [], ◌∷◌, ◌++◌, length, refl, sym, ◌∙◌, ap, subst, arith, append_assoc, append-nil, length-append}
use Rattle.std.specs.Option.{option_to_list}
use Rattle.ps_language.specs.declared.schedules.Entry.{Entry}
use Rattle.ps_run_schedules.specs.Packing.{entry_in, entries_in, items_in, Writes, IsPacked, most_entry_bytes}

-- as many as were asked for
pub length_entries_in : (count : ℕ) (bytes : List ℕ) → length (entries_in count bytes).0 ≡ count
length_entries_in zero bytes = refl
length_entries_in (suc more) bytes =
    let rest = length_entries_in more (entry_in bytes).1 in omega (arith, rest)

-- all entries together
pub count_is : (count : ℕ) (bytes : List ℕ) (last : Option Entry) → IsPacked count bytes last
    → length (items_in count bytes last) ≡ count
count_is count bytes last packed =
    let front = length_entries_in (count - 1) bytes in
    let both = length-append (entries_in (count - 1) bytes).0 (option_to_list last) in
    omega (arith, front, both, packed.some)

-- where so many leave these bytes, one more is the one that they begin with
next_in : (count : ℕ) (bytes left rest : List ℕ) (entries : List Entry) (entry : Entry)
    → entries_in count bytes ≡ (entries, left) → entry_in left ≡ (entry, rest)
    → entries_in (suc count) bytes ≡ (entries ++ entry ∷ [], rest)
next_in zero bytes left rest entries entry is one =
    let none : [] ≡ entries = ap {B = List Entry} (λ (p : List Entry × List ℕ). p.0) is in
    let same : bytes ≡ left = ap {B = List ℕ} (λ (p : List Entry × List ℕ). p.1) is in
    rw (← none, same, one) refl
next_in (suc count) bytes left rest entries entry is one =
    let first = entry_in bytes in
    let behind = entries_in count first.1 in
    let whole : first.0 ∷ behind.0 ≡ entries = ap {B = List Entry} (λ (p : List Entry × List ℕ). p.0) is in
    let more : behind.1 ≡ left = ap {B = List ℕ} (λ (p : List Entry × List ℕ). p.1) is in
    let next = next_in count first.1 left rest behind.0 entry (λ i. (behind.0, more i)) one in
    (λ i. (first.0 ∷ (next i).0, (next i).1)) ∙ (λ i. (whole i ++ entry ∷ [], rest))

one_more : (count : ℕ) (bytes new : List ℕ) (last : Entry) → IsPacked count bytes (Some last)
    → Writes Entry entry_in last most_entry_bytes bytes new → (rest : List ℕ)
    → entries_in ((count + 1) - 1) (new ++ rest)
    ≡ ((entries_in (count - 1) bytes).0 ++ last ∷ [], rest)
one_more count bytes new last packed written rest =
    let some : 1 ≤ count = omega (arith, packed.some) in
    let size : (count + 1) - 1 ≡ suc (count - 1) = omega (arith, some) in
    let all : new ++ rest ≡ bytes ++ (written.code ++ rest) =
    ap (λ bs. bs ++ rest) written.is ∙ append_assoc bytes written.code rest in
    ap (λ n. entries_in n (new ++ rest)) size
    ∙ ap (entries_in (suc (count - 1))) all
    ∙ next_in (count - 1) (bytes ++ (written.code ++ rest)) (written.code ++ rest) rest
    (entries_in (count - 1) bytes).0 last (packed.whole (written.code ++ rest)) (written.reads rest)

-- the last entry is packed, and another stands behind it
pub packed_more : (count : ℕ) (bytes new : List ℕ) (last entry : Entry)
    → IsPacked count bytes (Some last) → Writes Entry entry_in last most_entry_bytes bytes new
    → IsPacked (count + 1) new (Some entry)
packed_more count bytes new last entry packed written =
    let alone = one_more count bytes new last packed written [] in
    let here = ap (entries_in ((count + 1) - 1)) (sym (append-nil new)) ∙ alone in
    let size = ap {B = ℕ} (λ (bs : List ℕ). length bs) written.is in
    let sum = length-append bytes written.code in
    record {
      whole = λ rest. one_more count bytes new last packed written rest
          ∙ λ i. (ap {B = List Entry} (λ (p : List Entry × List ℕ). p.0) (sym here) i, rest);
      fits = omega (arith, size, sum, written.some, packed.fits);
      some = omega arith;
    }

pub items_more : (count : ℕ) (bytes new : List ℕ) (last entry : Entry)
    → IsPacked count bytes (Some last) → Writes Entry entry_in last most_entry_bytes bytes new
    → items_in (count + 1) new (Some entry) ≡ items_in count bytes (Some last) ++ entry ∷ []
items_more count bytes new last entry packed written =
    let here = ap (entries_in ((count + 1) - 1)) (sym (append-nil new))
    ∙ one_more count bytes new last packed written [] in
    ap {B = List Entry} (λ (p : List Entry × List ℕ). p.0 ++ entry ∷ []) here

-- the first entry of all
pub packed_first : (count : ℕ) (bytes : List ℕ) (entry : Entry) → IsPacked count bytes None
    → IsPacked 1 bytes (Some entry)
packed_first count bytes entry packed = let none : count ≡ 0 = omega (arith, packed.some) in record {
  whole = subst (λ n. (rest : List ℕ) → entries_in (n - 1) (bytes ++ rest)
      ≡ ((entries_in (n - 1) bytes).0, rest)) none packed.whole;
  fits = omega arith;
  some = refl;
}

pub none_yet : (count : ℕ) (bytes : List ℕ) → IsPacked count bytes None
    → items_in count bytes None ≡ []
none_yet count bytes packed =
    let none : count ≡ 0 = omega (arith, packed.some) in rw none refl

-- another last entry
pub packed_again : (count : ℕ) (bytes : List ℕ) (last entry : Entry)
    → IsPacked count bytes (Some last) → IsPacked count bytes (Some entry)
packed_again count bytes last entry packed =
    record { whole = packed.whole; fits = packed.fits; some = packed.some }
