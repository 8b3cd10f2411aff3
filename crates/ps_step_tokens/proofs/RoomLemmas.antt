-- The room of elements, one by one, and why it is not to be had.
use Rattle.std.proofs.Common.{◌≡◌, ◌∙◌, ◌<◌, ◌≤◌, arith, refl, sym, ap, ℕ, List, Vec, Global, Option, Some, None}
use Rattle.std.proofs.Common.{Result, Ok, Err, true, false}
use Rattle.std.specs.Prelude.{◌^◌, nat_lt, IfSome, IfNone, OnOk, OnErr}
use Rattle.std.proofs.lemmas.Bool.Decides.{nat_tests}
use Rattle.std.specs.Result.{is_err}
use Rattle.ps_scan.specs.declared.tokens.TokenKind.{TokenKind}
use Rattle.ps_scan.specs.declared.tokens.TokenKind.TheViews.{Procedure}
use Rattle.ps_scan.specs.Shown.{token_of}
use Rattle.ps_step_tokens.specs.Procedures.{listed, tokens_in, token_words, token_births, procedure_words, procedure_births}
use Rattle.ps_step_tokens.proofs.Elements.{procedure-token}

pub if_none : {A : Type 0} {P : Type 0} (r : Option A) → P → IfNone r P
if_none None p = p
if_none (Some x) p = tt

-- a fact of what is there that is another fact too
pub if_some : {A : Type 0} {P Q : A → Type 0} (r : Option A) → ((x : A) → P x → Q x)
    → IfSome r P → IfSome r Q
if_some None more p = tt
if_some (Some x) more p = more x p

pub none_so : {A : Type 0} {P Q : Type 0} (r : Option A) → (P → Q) → IfNone r P → IfNone r Q
none_so None more p = more p
none_so (Some x) more p = tt

pub on_err : {A E : Type 0} {P : Type 0} (r : Result A E) → is_err r ≡ true → OnErr r P → P
on_err (Ok x) is p = absurd (impossible is)
  where
    impossible : false ≡ true → ⊥
    impossible e = cc
on_err (Err e) is p = p

pub on_ok : {A E : Type 0} {P : Type 0} (r : Result A E) → is_err r ≡ false → OnOk r P → P
on_ok (Ok x) is p = p
on_ok (Err e) is p = absurd (impossible is)
  where
    impossible : true ≡ false → ⊥
    impossible e = cc

-- the token of a procedure with these elements
pub procedure-shown : (kind : TokenKind) (inner : Vec TokenKind Global)
    (elements : List TokenKind) → kind ≡ Procedure inner → elements ≡ inner.items
    → (text : List ℕ)
    → (procedure_words (tokens_in text elements) ≡ token_words (token_of text kind))
    × (procedure_births (tokens_in text elements) ≡ token_births (token_of text kind))
procedure-shown kind inner elements is view text =
    let token = ap (token_of text) is ∙ procedure-token text inner in (
      ap (λ kinds. procedure_words (tokens_in text kinds)) view ∙ sym (ap token_words token),
      ap (λ kinds. procedure_births (tokens_in text kinds)) view ∙ sym (ap token_births token),
    )

-- ---- the list that the words are put together in

pub listed_few : (words : ℕ) → words < 2 ^ 32 → listed words ≡ words
listed_few words few =
    let small : nat_lt words (2 ^ 32) ≡ true = grind (arith, nat_tests, few) in rw small refl

pub listed_many : (words : ℕ) → 2 ^ 32 ≤ words → listed words ≡ 2 ^ 64
listed_many words many =
    let large : nat_lt words (2 ^ 32) ≡ false = grind (arith, nat_tests, many) in rw large refl
