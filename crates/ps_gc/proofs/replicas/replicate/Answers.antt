use Rattle.std.proofs.Common.{◌≡◌, Bool, ℕ, true, [], sym, ap, ◌∙◌}
use Rattle.std.specs.Prelude.{if◌then◌else◌}
use Rattle.ps_word.specs.Format.{address_in}
use Rattle.ps_word.specs.Readers.{is_reference}
use Rattle.ps_table.specs.Events.{gc_did_all}
use Rattle.ps_gc.specs.Events.{object_replicated}
use Rattle.ps_gc.proofs.replicas.replicate.Goals as goal

pub returns-clause-did : goal.returns-clause-did
returns-clause-did g c =
    let did = c.find_replica-replica.ensures.did in
    let m = c.args.gc.now.seat.me.0 in
    let is : is_reference c.args.word.0 ≡ true =
    sym c.is_reference.ensures.number ∙ c.if-not-is_reference.false in (
      did.0,
      did.1,
      did.2
          ∙ ap (λ es. gc_did_all m es)
          (ap (λ (a : ℕ). object_replicated m.gc a did.0 did.1) c.low_address.ensures
          ∙ ap (λ (b : Bool). if b then object_replicated m.gc (address_in c.args.word.0) did.0 did.1
          else []) (sym is)),
    )
