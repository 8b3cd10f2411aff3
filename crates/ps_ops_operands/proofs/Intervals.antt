-- Parts of parts of strings.
use Rattle.std.proofs.Common.{◌≡◌, ℕ, ◌+◌, ◌≤◌, List, length, Some, sym, subst, arith}
use Rattle.std.specs.Prelude.{IfSome}
use Rattle.ps_language.specs.Value.{Store}
use Rattle.ps_language.specs.Access.{bytes}
use Rattle.ps_language.specs.declared.kinds.Kind.TheVariants.{Text as TextKind}
use Rattle.ps_word.specs.declared.words.Word.{Word}
use Rattle.ps_word.specs.declared.values.Part.{Part}
use Rattle.ps_word.specs.Format.{content_in}
use Rattle.ps_word.specs.Readers as words
use Rattle.ps_mem.specs.Heap.{Heap}
use Rattle.ps_mem.specs.References.{StandsAs, words_for}
use Rattle.ps_mem.specs.Shows.{IsValue, IsWithin}
use Rattle.ps_ops_operands.proofs.Held.{stands_less}
use Rattle.ps_ops_operands.proofs.Reading.{as_string-stands, as_string-within}

-- so many bytes of a part from a place on
abbrev pub inner_part : Part → (place count : ℕ) → Part
inner_part part place count = record part { offset = part.offset + place; length = count }

pub inner_stands : (h : Heap) (part inner : Part) (place count : ℕ) → place + count ≤ part.length
    → inner ≡ inner_part part place count
    → StandsAs h TextKind part.address (words_for (part.offset + part.length))
    → StandsAs h TextKind inner.address (words_for (inner.offset + inner.length))
inner_stands h part inner place count fits is stands =
    subst (λ (p : Part). StandsAs h TextKind p.address (words_for (p.offset + p.length))) (sym is)
    (stands_less h TextKind part.address (words_for (part.offset + part.length)) (words_for
    (part.offset + place + count)) (omega (arith, fits)) stands)

pub inner_within : (births : ℕ → ℕ) (store : Store) (part inner : Part) (place count : ℕ)
    → place + count ≤ part.length → inner ≡ inner_part part place count
    → part.offset + part.length ≤ length (bytes store (births part.address))
    → inner.offset + inner.length ≤ length (bytes store (births inner.address))
inner_within births store part inner place count fits is within =
    subst (λ (p : Part). p.offset + p.length ≤ length (bytes store (births p.address))) (sym is)
    (let inside : part.offset + place + count ≤ length (bytes store (births part.address)) = omega
    (arith, fits, within) in inside)

module _ (string : Word) (part inner : Part) (place count : ℕ) (reads : words.as_text
    (content_in string.0) ≡ Some part) (fits : place + count ≤ part.length) (is : inner
    ≡ inner_part part place count) where
  pub part_stands : (h : Heap) → IsValue h string → StandsAs h TextKind inner.address (words_for
      (inner.offset + inner.length))
  part_stands h held =
      inner_stands h part inner place count fits is
      (subst (λ o. IfSome o (λ (p : Part). StandsAs h TextKind p.address (words_for
      (p.offset + p.length)))) reads (as_string-stands h string held))

  pub part_within : (births : ℕ → ℕ) (names : List (List ℕ)) (store : Store)
      → IsWithin births names store string → inner.offset + inner.length ≤ length (bytes store
      (births inner.address))
  part_within births names store within =
      inner_within births store part inner place count fits is
      (subst (λ o. IfSome o (λ (p : Part). p.offset + p.length ≤ length (bytes store
      (births p.address)))) reads (as_string-within births names store string within))

pub interval_stands : (h : Heap) (string : Word) (part inner : Part) (place count : ℕ)
    → words.as_text (content_in string.0) ≡ Some part → place + count ≤ part.length → inner
    ≡ inner_part part place count
    → IsValue h string → StandsAs h TextKind inner.address (words_for (inner.offset + inner.length))
interval_stands h string part inner place count reads fits is held = part_stands string part inner
    place count reads fits is h held

pub interval_within : (births : ℕ → ℕ) (names : List (List ℕ)) (store : Store) (string : Word)
    (part inner : Part) (place count : ℕ) → words.as_text (content_in string.0) ≡ Some part
    → place + count ≤ part.length → inner ≡ inner_part part place count
    → IsWithin births names store string → inner.offset + inner.length ≤ length (bytes store
    (births inner.address))
interval_within births names store string part inner place count reads fits is within = part_within
    string part inner place count reads fits is births names store within
