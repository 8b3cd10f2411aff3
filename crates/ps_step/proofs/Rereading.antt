-- Bytes of a string that were read, and the tokens in them.
use Rattle.std.proofs.Common.{◌≡◌, ℕ, ◌+◌, ◌-◌, ◌<◌, ◌≤◌, arith, List, [], length, take, drop, sym, ap, subst, ◌∙◌}
use Rattle.std.proofs.Common.{Option, Some, None, Result, Ok, Err}
use Rattle.std.specs.Prelude.{slice_range, IfSome, OnOk, OnErr}
use Rattle.std.specs.declared.alloc.AllocError.{AllocError}
use Rattle.ps_language.specs.Scan.{scan}
use Rattle.ps_language.specs.Token as language
use Rattle.ps_language.specs.Token.{found}
use Rattle.ps_language.specs.Access.{bytes, part_bytes}
use Rattle.ps_language.specs.Value.{Store}
use Rattle.ps_mem.specs.Heap.{Heap, birth_at}
use Rattle.ps_mem.specs.Meaning.{part_of}
use Rattle.ps_mem.specs.Shows.{Shows}
use Rattle.ps_word.specs.declared.values.Part.{Part}
use Rattle.ps_scan.specs.declared.tokens.Token.{Token}
use Rattle.ps_ops_control.specs.declared.frames.Source.{Source}
use Rattle.ps_ops_control.specs.declared.frames.Source.TheVariants.{Program, Text}
use Rattle.ps_ops_operands.specs.declared.failure.NotMade.{NotMade as Reason}
use Rattle.ps_step_outcome.specs.declared.turned.Turned.{Turned}
use Rattle.ps_step.specs.declared.windows.Window.{Window}
use Rattle.ps_step.specs.Texts.{Scans}
use Rattle.ps_step.specs.Windows.{AreRead, IsWindow, StandsBehind}
use Rattle.ps_step.proofs.Scanning.{window_scanned, fronted, rest_scanned, token_further}

nothing_at : (all : List ℕ) (start : ℕ) → [] ≡ slice_range all start (start + 0)
nothing_at all start =
    let none : (start + 0) - start ≡ 0 = omega arith in
    sym (ap (λ (n : ℕ). take n (drop start all)) none)

-- no bytes are those from any place on
pub none_read : (h : Heap) (address start : ℕ) (list : List ℕ) → list ≡ []
    → AreRead h address start list
none_read h address start list none = λ names s shows within.
    let all : List ℕ = bytes s (birth_at h address) in
    subst (λ (l : List ℕ). l ≡ slice_range all start (start + length l)) (sym none)
    (nothing_at all start)

-- they are of every source, from its first place on
pub no_window : (h : Heap) (source : Source) (window : Window) → window.start ≡ 0
    → window.bytes.items ≡ [] → IsWindow h source window
no_window h Program window begin none = tt
no_window h (Text part) window begin none =
    let size = ap length none in
    (none_read h part.address window.start window.bytes.items none, omega (arith, begin, size))

-- a token that ends before the bytes do that were read is that of the string
module _ (all : List ℕ) (offset count at start : ℕ) (low : at ≤ count)
    (within : offset + count ≤ length all) (list : List ℕ)
    (read : list ≡ slice_range all start (start + length list)) (near : start ≤ offset + at)
    (fits : start + length list ≤ offset + count) where
  read_again : (token : language.Token) (end : ℕ)
      → scan list ((offset + at) - start) ≡ found token end → end < length list
      → scan (slice_range all offset (offset + count)) at
      ≡ found token (at + (end - ((offset + at) - start)))
  read_again token end is below =
      let from : (offset + at) - ((offset + at) - start) ≡ start = omega (arith, near) in
      let size : (count - at) + ((offset + at) - start) ≡ (offset + count) - start =
      omega (arith, low, near) in
      let sized : start + ((offset + count) - start) ≡ offset + count = omega (arith, near, low) in
      let window : scan (slice_range all start (start + length list)) ((offset + at) - start)
      ≡ found token end =
      subst (λ (l : List ℕ). scan l ((offset + at) - start) ≡ found token end) read is in
      let whole = window_scanned all start ((offset + count) - start) (length list)
      (omega (arith, fits)) (omega (arith, sized, within)) ((offset + at) - start) token end window
      below in
      rest_scanned all offset count at low within
      ∙ token_further ((offset + at) - start) at
      (scan (slice_range all (offset + at) ((offset + at) + (count - at))) 0) token end
      (sym (fronted all offset count at ((offset + at) - start) low (omega arith) within)
      ∙ ((λ i. scan (slice_range all (from i) (from i + size i)) ((offset + at) - start)) ∙ whole))

-- the same by where the place stands in the list
pub scanned_again : (all : List ℕ) (offset count at start front : ℕ) → at ≤ count
    → offset + count ≤ length all → (list : List ℕ)
    → list ≡ slice_range all start (start + length list) → start + front ≡ offset + at
    → start + length list ≤ offset + count → (token : language.Token) (end : ℕ)
    → scan list front ≡ found token end → end < length list
    → scan (slice_range all offset (offset + count)) at ≡ found token (at + (end - front))
scanned_again all offset count at start front low within list read place fits token end =
    let is : (offset + at) - start ≡ front = omega (arith, place) in
    subst (λ (f : ℕ). scan list f ≡ found token end → end < length list
    → scan (slice_range all offset (offset + count)) at ≡ found token (at + (end - f))) is
    (read_again all offset count at start low within list read (omega (arith, place)) fits token
    end)

-- what follows where it was read
pub on_ok : {P Q : Type 0} (result : Result Unit AllocError) → OnOk result P → (P → Q)
    → OnOk result Q
on_ok (Ok _) holds follows = follows holds
on_ok (Err _) holds follows = tt

-- what was read of a part, or nothing
module _ (h : Heap) (part : Part) (list : List ℕ) where
  pub part_read : (result : Result Unit AllocError)
      → ((names : List (List ℕ)) (s : Store) → Shows h names s
      → part.offset + part.length ≤ length (bytes s (birth_at h part.address))
      → OnOk result (list ≡ part_bytes s (part_of (birth_at h) part)))
      → OnOk result (length list ≡ part.length) → OnErr result (list ≡ [])
      → AreRead h part.address part.offset list
  part_read (Ok _) value size none = λ names s shows within.
      let all : List ℕ = bytes s (birth_at h part.address) in
      value names s shows (omega (arith, within, size))
      ∙ ap (λ (n : ℕ). slice_range all part.offset (part.offset + n)) (sym size)
  part_read (Err _) value size none = none_read h part.address part.offset list none

-- a token that stands behind a place of a part of the bytes that were read
pub in_window : (h : Heap) (part : Part) (at : ℕ) (program : List ℕ) (window : Window)
    → IsWindow h (Text part) window → (token : Token)
    → StandsBehind part at window.start window.bytes.items token
    → Scans h (Text part) at program window.bytes.items (Ok (Some token))
in_window h part at program window read token stands = λ names s shows within.
    let fits = read.1 in
    stands (bytes s (birth_at h part.address)) within
    (read.0 names s shows (omega (arith, fits, within)))

pub words_in_window : (h : Heap) (part : Part) (at : ℕ) (program : List ℕ) (window : Window)
    → IsWindow h (Text part) window → (result : Option Token)
    → IfSome result (StandsBehind part at window.start window.bytes.items)
    → IfSome result (λ token. Scans h (Text part) at program window.bytes.items (Ok (Some token)))
words_in_window h part at program window read (Some token) stands =
    in_window h part at program window read token stands
words_in_window h part at program window read None stands = tt

-- what follows of what was done by operands alone
pub done_then : {P Q : Type 0} (taken : Result ℕ (Result Turned Reason)) → OnOk taken P → (P → Q)
    → OnOk taken Q
done_then (Ok end) holds follows = follows holds
done_then (Err turn) holds follows = tt
