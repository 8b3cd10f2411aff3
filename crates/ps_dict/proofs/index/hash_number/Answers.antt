use Rattle.std.proofs.Common.{◌≡◌, ◌+◌, ap, ◌∙◌, sym, arith, of_z, w32}
use Rattle.std.proofs.lemmas.Int.{to_z-of_z}
use Rattle.ps_language.specs.declared.kinds.Kind.TheVariants.{Array as ArrayKind, Text as TextKind, Dictionary as DictionaryKind, Lock as LockKind, Condition as ConditionKind, Body as BodyKind}
use Rattle.ps_word.specs.declared.values.Content.TheVariants.{Null, Mark, Integer, Boolean, Name, Operator, Array, Text, Dictionary, Lock, Condition, Body}
use Rattle.ps_mem.specs.Heap.{birth_at}
use Rattle.ps_dict.proofs.Hashing.{hash-content, known-content, fits-content, stands-some, birth-read}
use mir.Val.{bool_byte}
use Rattle.std.proofs.Common.{refl}
use Rattle.std.specs.Prelude.{Bool, true, false}
use Rattle.ps_word.specs.Format.{bit_of}
use Rattle.ps_dict.proofs.index.hash_number.Goals as goal

truth_bit : (truth : Bool) → bool_byte truth ≡ bit_of truth
truth_bit true = refl
truth_bit false = refl

pub header-requires : goal.header-requires
header-requires g c =
    let h = g.M.Memory.heap c.args.memory.now in
    record {
      stands = stands-some h ArrayKind c.in-Array.part.address _
          (known-content h c.args.key (Array c.in-Array.part) (sym c.in-Array.is ∙ c.content.ensures)
          c.requires.held);
    }

pub overflow_add-result : goal.overflow_add-result
overflow_add-result g c =
    let h = g.M.Memory.heap c.args.memory.now in
    let fits = fits-content h c.args.key (Array c.in-Array.part)
    (sym c.in-Array.is ∙ c.content.ensures) c.requires.held in
    let within = fits.within in
    let birth = c.header.ensures.birth in
    omega (arith, within, birth)

pub overflow_add-result-in-Array : goal.overflow_add-result-in-Array
overflow_add-result-in-Array g c =
    let h = g.M.Memory.heap c.args.memory.now in
    let fits = fits-content h c.args.key (Array c.in-Array.part)
    (sym c.in-Array.is ∙ c.content.ensures) c.requires.held in
    let within = fits.within in
    let birth = c.header.ensures.birth in
    omega (arith, within, birth)

pub returns-in-Array-clause-answer : goal.returns-in-Array-clause-answer
returns-in-Array-clause-answer g c =
    let h = g.M.Memory.heap c.args.memory.now in
    let is = sym c.in-Array.is ∙ c.content.ensures in
    ap (λ n. n + c.in-Array.part.offset + c.in-Array.part.length)
    (birth-read h ArrayKind c.in-Array.part.address _
    (known-content h c.args.key (Array c.in-Array.part) is c.requires.held) c.header.result
    c.header.ensures.answer)
    ∙ hash-content (birth_at h) c.args.key (Array c.in-Array.part) is

pub returns-in-Null-clause-answer : goal.returns-in-Null-clause-answer
returns-in-Null-clause-answer g c =
    hash-content (birth_at (g.M.Memory.heap c.args.memory.now)) c.args.key Null
    (sym c.in-Null.is ∙ c.content.ensures)

pub returns-in-Mark-clause-answer : goal.returns-in-Mark-clause-answer
returns-in-Mark-clause-answer g c =
    hash-content (birth_at (g.M.Memory.heap c.args.memory.now)) c.args.key Mark
    (sym c.in-Mark.is ∙ c.content.ensures)

pub returns-in-Integer-clause-answer : goal.returns-in-Integer-clause-answer
returns-in-Integer-clause-answer g c =
    let h = g.M.Memory.heap c.args.memory.now in
    let fits = fits-content h c.args.key (Integer c.in-Integer.number)
    (sym c.in-Integer.is ∙ c.content.ensures) c.requires.held in
    c.cast_unsigned.ensures ∙
    (ap (of_z w32) (to_z-of_z w32 c.in-Integer.number fits)
    ∙ hash-content (birth_at h) c.args.key (Integer c.in-Integer.number)
    (sym c.in-Integer.is ∙ c.content.ensures))

pub header-requires-in-Text : goal.header-requires-in-Text
header-requires-in-Text g c =
    let h = g.M.Memory.heap c.args.memory.now in
    record {
      stands = stands-some h TextKind c.in-Text.part.address _
          (known-content h c.args.key (Text c.in-Text.part) (sym c.in-Text.is ∙ c.content.ensures)
          c.requires.held);
    }

pub returns-in-Text-clause-answer : goal.returns-in-Text-clause-answer
returns-in-Text-clause-answer g c =
    let h = g.M.Memory.heap c.args.memory.now in
    let is = sym c.in-Text.is ∙ c.content.ensures in
    birth-read h TextKind c.in-Text.part.address _
    (known-content h c.args.key (Text c.in-Text.part) is c.requires.held)
    c.header-in-Text.result c.header-in-Text.ensures.answer
    ∙ hash-content (birth_at h) c.args.key (Text c.in-Text.part) is

pub header-requires-in-Dictionary : goal.header-requires-in-Dictionary
header-requires-in-Dictionary g c =
    let h = g.M.Memory.heap c.args.memory.now in
    record {
      stands = stands-some h DictionaryKind c.in-Dictionary.address _
          (known-content h c.args.key (Dictionary c.in-Dictionary.address)
          (sym c.in-Dictionary.is ∙ c.content.ensures) c.requires.held);
    }

pub returns-in-Dictionary-clause-answer : goal.returns-in-Dictionary-clause-answer
returns-in-Dictionary-clause-answer g c =
    let h = g.M.Memory.heap c.args.memory.now in
    let is = sym c.in-Dictionary.is ∙ c.content.ensures in
    birth-read h DictionaryKind c.in-Dictionary.address _
    (known-content h c.args.key (Dictionary c.in-Dictionary.address) is c.requires.held)
    c.header-in-Dictionary.result c.header-in-Dictionary.ensures.answer
    ∙ hash-content (birth_at h) c.args.key (Dictionary c.in-Dictionary.address) is

pub header-requires-in-Lock : goal.header-requires-in-Lock
header-requires-in-Lock g c =
    let h = g.M.Memory.heap c.args.memory.now in
    record {
      stands = stands-some h LockKind c.in-Lock.address _
          (known-content h c.args.key (Lock c.in-Lock.address) (sym c.in-Lock.is ∙ c.content.ensures)
          c.requires.held);
    }

pub returns-in-Lock-clause-answer : goal.returns-in-Lock-clause-answer
returns-in-Lock-clause-answer g c =
    let h = g.M.Memory.heap c.args.memory.now in
    let is = sym c.in-Lock.is ∙ c.content.ensures in
    birth-read h LockKind c.in-Lock.address _
    (known-content h c.args.key (Lock c.in-Lock.address) is c.requires.held)
    c.header-in-Lock.result c.header-in-Lock.ensures.answer
    ∙ hash-content (birth_at h) c.args.key (Lock c.in-Lock.address) is

pub header-requires-in-Condition : goal.header-requires-in-Condition
header-requires-in-Condition g c =
    let h = g.M.Memory.heap c.args.memory.now in
    record {
      stands = stands-some h ConditionKind c.in-Condition.address _
          (known-content h c.args.key (Condition c.in-Condition.address)
          (sym c.in-Condition.is ∙ c.content.ensures) c.requires.held);
    }

pub returns-in-Condition-clause-answer : goal.returns-in-Condition-clause-answer
returns-in-Condition-clause-answer g c =
    let h = g.M.Memory.heap c.args.memory.now in
    let is = sym c.in-Condition.is ∙ c.content.ensures in
    birth-read h ConditionKind c.in-Condition.address _
    (known-content h c.args.key (Condition c.in-Condition.address) is c.requires.held)
    c.header-in-Condition.result c.header-in-Condition.ensures.answer
    ∙ hash-content (birth_at h) c.args.key (Condition c.in-Condition.address) is

pub header-requires-in-Body : goal.header-requires-in-Body
header-requires-in-Body g c =
    let h = g.M.Memory.heap c.args.memory.now in
    record {
      stands = stands-some h BodyKind c.in-Body.address _
          (known-content h c.args.key (Body c.in-Body.address) (sym c.in-Body.is ∙ c.content.ensures)
          c.requires.held);
    }

pub returns-in-Body-clause-answer : goal.returns-in-Body-clause-answer
returns-in-Body-clause-answer g c =
    let h = g.M.Memory.heap c.args.memory.now in
    let is = sym c.in-Body.is ∙ c.content.ensures in
    birth-read h BodyKind c.in-Body.address _
    (known-content h c.args.key (Body c.in-Body.address) is c.requires.held)
    c.header-in-Body.result c.header-in-Body.ensures.answer
    ∙ hash-content (birth_at h) c.args.key (Body c.in-Body.address) is

pub returns-in-Boolean-clause-answer : goal.returns-in-Boolean-clause-answer
returns-in-Boolean-clause-answer g c =
    truth_bit c.in-Boolean.truth
    ∙ hash-content (birth_at (g.M.Memory.heap c.args.memory.now)) c.args.key
    (Boolean c.in-Boolean.truth) (sym c.in-Boolean.is ∙ c.content.ensures)

pub returns-in-Name-clause-answer : goal.returns-in-Name-clause-answer
returns-in-Name-clause-answer g c =
    hash-content (birth_at (g.M.Memory.heap c.args.memory.now)) c.args.key (Name c.in-Name.number)
    (sym c.in-Name.is ∙ c.content.ensures)

pub returns-in-Operator-clause-answer : goal.returns-in-Operator-clause-answer
returns-in-Operator-clause-answer g c =
    c.number_of.ensures ∙ hash-content (birth_at (g.M.Memory.heap c.args.memory.now)) c.args.key
    (Operator c.in-Operator.operator) (sym c.in-Operator.is ∙ c.content.ensures)
