-- What is read of a file part by part is its beginning.
use Rattle.std.proofs.Common.{◌≡◌, ◌⊎◌, inl, inr, ℕ, Option, Some, None, List, [], ◌∷◌, ◌++◌, length, arith, refl, sym, ap, subst, ◌∙◌, IfSome, length-append, append_assoc, append-nil}
use Rattle.ps_run.specs.Driving as driving
use Rattle.std.specs.Prelude.{⊤}
use Rattle.clap.specs.Words.{Text}
use Rattle.ps_run.specs.Parts.{ReadsNext}
use Rattle.ps_run.specs.Telling.{Tells, Told}
use Rattle.ps_run.specs.declared.files.ReadFault.{ReadFault}
use Rattle.ps_run.specs.declared.files.ReadFault.TheVariants as fault
use Rattle.ps_run.specs.declared.statuses.Status.{Status}
use Rattle.ps_run.specs.declared.statuses.Status.TheVariants as status

-- a fact of a known value
pub if_known : {A : Type 0} (found : Option A) (P : A → Type 0)
    → ((known : A) → found ≡ Some known → P known) → IfSome found P
if_known None P is = tt
if_known (Some known) P is = is known refl

pub of_known : {A : Type 0} (found : Option A) (P : A → Type 0) (known : A) → found ≡ Some known
    → IfSome found P → P known
of_known found P known is fact = subst (λ o. IfSome o P) is fact

pub if_mapped : {A : Type 0} (found : Option A) (P Q : A → Type 0)
    → ((known : A) → P known → Q known) → IfSome found P → IfSome found Q
if_mapped None P Q gives fact = tt
if_mapped (Some known) P Q gives fact = gives known fact

-- what a file comes to that was not read: a fault of a known file is want of memory
abbrev pub Comes : (told : Status) → (old new : Told) → (Usage : Type 0) → Type 0
Comes told old new Usage = ((told ≡ status.Memory) × Tells old new (driving.line_of status.Memory))
    ⊎ ((told ≡ status.Usage) × Usage)

pub unread_comes : (why : ReadFault) (found : Option (List ℕ)) (P : List ℕ → Type 0)
    (told : Status) (old new : Told) (name : Text) → told ≡ driving.unread why
    → Tells old new (driving.unread_lines why name)
    → IfSome found (λ known. why ≡ fault.Memory) → Comes told old new (IfSome found P)
unread_comes why (Some known) P told old new name is tells memory = inl (
  is ∙ ap driving.unread memory,
  subst (λ (w : ReadFault). Tells old new (driving.unread_lines w name)) memory tells,
)
unread_comes why None P told old new name is tells memory = by (driving.reason_of why) is tells
  where
    by : (reason : Option (List ℕ)) → told ≡ driving.status_for reason
        → Tells old new (driving.lines_for reason name) → Comes told old new ⊤
    by None is tells = inl (is, tells)
    by (Some reason) is tells = inr (is, tt)

-- so much of a file is read, and the rest is left
pub record IsReadTo (known read : List ℕ) (left : Option (List ℕ)) : Type 0 where
  pub rest : List ℕ
  pub is : known ≡ read ++ rest
  pub is_left : left ≡ Some rest

abbrev pub Next : (old_left new_left : Option (List ℕ)) → (old new : List ℕ) → Type 0
Next old_left new_left old new =
    IfSome old_left (λ known. ReadsNext known new_left old new)

module _ (known before old new : List ℕ) (old_left new_left : Option (List ℕ))
    (is : IsReadTo known (before ++ old) old_left) (next : Next old_left new_left old new) where
  reads : ReadsNext is.rest new_left old new
  reads = of_known old_left (λ known. ReadsNext known new_left old new) is.rest is.is_left next

  -- one part more
  pub read_more : IsReadTo known (before ++ new) new_left
  read_more = record {
    rest = reads.rest;
    is =
        is.is ∙ ap (λ bs. (before ++ old) ++ bs) reads.is
        ∙ sym (append_assoc (before ++ old) reads.part reads.rest)
        ∙ ap (λ bs. bs ++ reads.rest) (append_assoc before old reads.part)
        ∙ ap (λ bs. (before ++ bs) ++ reads.rest) (sym reads.appended);
    is_left = reads.is_left;
  }

  -- where nothing came, nothing is left
  pub none_left : length new ≡ length old → read_more.rest ≡ []
  unfolding read_more reads
  none_left same =
      let size = ap {B = ℕ} (λ (bs : List ℕ). length bs) reads.appended in
      let sum = length-append old reads.part in
      reads.some (empty reads.part (omega (arith, size, sum, same)))
    where
      empty : (bytes : List ℕ) → length bytes ≡ 0 → bytes ≡ []
      empty [] is = refl
      empty (b ∷ bytes) is = absurd (omega (arith, is))

  -- and so all is read
  pub all_read : length new ≡ length old → known ≡ before ++ new
  all_read same =
      read_more.is ∙ ap (λ bs. (before ++ new) ++ bs) (none_left same)
      ∙ append-nil (before ++ new)
