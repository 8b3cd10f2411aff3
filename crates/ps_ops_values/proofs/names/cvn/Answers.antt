-- The name is formed behind all other errors.
use Rattle.std.proofs.Common.{◌∙◌, refl, sym, []}
use Rattle.ps_mem.specs.Heap.{birth_at}
use Rattle.ps_mem.specs.Shows.{IsWithin}
use Rattle.ps_ops_operands.proofs.Held.{first_held}
use Rattle.ps_step_lookup.proofs.Formed.{fault_acts}
use Rattle.ps_ops_values.proofs.NameRow.{cvn_tail, cvn_acts}
use Rattle.ps_ops_values.proofs.names.cvn.Goals as goal

pub returns-in-Err : goal.returns-in-Err
returns-in-Err g c =
    let births = birth_at (g.M.Memory.heap c.args.runtime.now.memory) in
    rw (c.read_key-key.ensures.heap, c.read_key-key.ensures.grants)
    (record {
      acts = λ attempt. fault_acts _ _ c.requires.good attempt c.in-Some.string _
          c.read_key-key.ensures.key
          (λ store shown. first_held (IsWithin births _ store) _ shown.operands _
          c.in-Some.ensures) [] _
          (cvn_tail _ _ c.in-Some.ensures _ (c.in-Some-string_of.ensures.part _ _)
          (sym c.is_readable.ensures ∙ c.if-not-is_readable.false))
          c.in-Err.fault c.in-Err.ensures.did _ (c.in-Err.ensures.unmade _ refl);
      frames = refl;
    })

pub returns : goal.returns
returns g c =
    let made = c.in_default-form_key.ensures.made refl in
    let is = rw c.len-count.ensures.count at c.formed_word-name.ensures in
    rw (c.replace.ensures, c.read_key-key.ensures.heap, c.read_key-key.ensures.grants)
    (record {
      acts = λ attempt. cvn_acts _ _ c.in-Some.ensures _ (c.in-Some-string_of.ensures.part _ _)
          c.len-count.ensures.names _ c.requires.good attempt
          (sym c.is_readable.ensures ∙ c.if-not-is_readable.false) _ c.read_key-key.ensures.key
          c.in_default-form_key.ensures.did made.0 made.1 _ is c.is_executable.result
          c.is_executable.ensures _ c.with_executable.ensures.value c.with_executable.ensures.word;
      frames = refl;
    })
