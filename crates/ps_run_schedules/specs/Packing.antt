-- Entries packed into bytes. A number stands in groups of seven bits, the lowest first; each byte
-- but its last one has 128 more.
use Rattle.std.specs.Prelude.{ℕ, zero, suc, ℤ, pos, negsuc, ◌+◌, ◌-◌, ◌*◌, ◌/◌, ◌%◌, ◌≡◌, ◌==◌, min}
use Rattle.std.specs.Prelude.{◌<◌, ◌≤◌, Option, Some, None, List, [], ◌∷◌, ◌++◌, length, nat_lt}
use Rattle.std.specs.Prelude.{if◌then◌else◌}
use Rattle.std.specs.Option.{option_to_list}
use Rattle.ps_language.specs.declared.schedules.Entry.{Entry}
use Rattle.ps_run_schedules.specs.Turns.{plain_entry}

-- ---- read

-- a number, up to 4294967295, and the bytes behind it
abbrev pub number_in : List ℕ → ℕ × List ℕ
number_in [] = (0, [])
number_in (byte ∷ bytes) =
    if nat_lt byte 128 then (byte, bytes)
    else (min (128 * (number_in bytes).0 + (byte - 128)) 4294967295, (number_in bytes).1)

-- a number of words: even from 0 on, odd below
abbrev pub words_of : ℕ → ℤ
words_of code = if code % 2 == 0 then pos (code / 2) else negsuc (code / 2)

-- the pair that is shown, and the bytes behind it
abbrev pub pair_in : List ℕ → (ℤ × ℤ) × List ℕ
pair_in bytes =
    let used = number_in bytes in
    let most = number_in used.1 in
    ((words_of used.0, words_of most.0), most.1)

-- an entry with flags: 1 where its last step is refused, 2 where it shows a pair; and the bytes
-- behind it
abbrev pub flagged_in : List ℕ → Entry × List ℕ
flagged_in bytes =
    let flags = number_in bytes in
    let context = number_in flags.1 in
    let steps = number_in context.1 in
    let pair = pair_in steps.1 in (
      record {
        context = context.0;
        steps = steps.0;
        refused = flags.0 % 2 == 1;
        shown = if nat_lt flags.0 2 then None else Some pair.0;
      },
      pair.1,
    )

-- an entry, and the bytes behind it: where the first number is 0 one with flags, else one of so
-- many ordinary steps
abbrev pub entry_in : List ℕ → Entry × List ℕ
entry_in bytes =
    let steps = number_in bytes in
    let context = number_in steps.1 in
    if steps.0 == 0 then flagged_in steps.1 else (plain_entry context.0 steps.0, context.1)

-- so many entries, and the bytes behind them
abbrev pub entries_in : ℕ → List ℕ → List Entry × List ℕ
entries_in zero bytes = ([], bytes)
entries_in (suc more) bytes =
    let first = entry_in bytes in
    let rest = entries_in more first.1 in
    (first.0 ∷ rest.0, rest.1)

-- ---- written

-- behind what stood there, a value is written in some bytes, up to so many, that are read as it,
-- whatever follows them
pub record Writes
    (A : Type 0) (read : List ℕ → A × List ℕ) (value : A) (most : ℕ) (old new : List ℕ)
    : Type 0 where
  pub code : List ℕ
  pub is : new ≡ old ++ code
  pub reads : (rest : List ℕ) → read (code ++ rest) ≡ (value, rest)
  pub some : 1 ≤ length code
  pub short : length code ≤ most

-- the most bytes of an entry: two of one byte, and four numbers of up to five
abbrev pub most_entry_bytes : ℕ
most_entry_bytes = 22

-- an entry of two bytes: of few ordinary steps, of one of the first contexts
pub record IsShort (entry : Entry) : Type 0 where
  pub ordinary : entry ≡ plain_entry entry.context entry.steps
  pub some : 1 ≤ entry.steps
  pub few : entry.steps < 128
  pub early : entry.context < 128

-- ---- a packed schedule: but for its last entry

abbrev pub items_in : (count : ℕ) → List ℕ → Option Entry → List Entry
items_in count bytes last = (entries_in (count - 1) bytes).0 ++ option_to_list last

-- the bytes are those of as many entries, and no more
pub record IsPacked (count : ℕ) (bytes : List ℕ) (last : Option Entry) : Type 0 where
  pub whole : (rest : List ℕ) → entries_in (count - 1) (bytes ++ rest)
      ≡ ((entries_in (count - 1) bytes).0, rest)
  pub fits : count ≤ length bytes + 1
  pub some : length (option_to_list last) ≡ min count 1
