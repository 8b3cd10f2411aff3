use Rattle.std.proofs.Common.{arith, ◌≡◌, ◌-◌, ◌^◌, ◌&&◌, Bool, true, false, ℕ, sym, ap, ◌∙◌, nat_le, inl, inr}
use Rattle.ps_core_laws.proofs.HeapTests.{le_true, le_is, bool_cases}
use Rattle.ps_core_laws.proofs.Room.{room_answer}
use Rattle.ps_table.proofs.Facts.{vm_facts}
use Rattle.ps_table.proofs.mirror.Mirror.room.Goals as goal

pub overflow_sub-self : goal.overflow_sub-self
overflow_sub-self c =
    let s = c.requires in let k = vm_facts c.args.seat.now.me.0.vm s.runs in
    let lo = k.low_end in let m = s.mirrors in let b = m.base_is in let e = m.end_is in
    omega arith

pub overflow_sub-self-2 : goal.overflow_sub-self-2
overflow_sub-self-2 c =
    let s = c.requires in let k = vm_facts c.args.seat.now.me.0.vm s.runs in
    let lo = k.low_end in let hi = k.end_high in let m = s.mirrors in let b = m.base_is in
    let e = m.end_is in let n = m.space_is in
    omega arith

pub overflow_sub-result : goal.overflow_sub-result
overflow_sub-result c =
    let s = c.requires in let k = vm_facts c.args.seat.now.me.0.vm s.runs in
    let n = k.births in let m = s.mirrors in let b = m.birth_is in
    omega arith

pub returns-then-words-self : goal.returns-then-words-self
returns-then-words-self c =
    let s = c.requires in
    let m = s.mirrors in
    let n = c.args.self.now in
    let v = c.args.seat.now.me.0.vm in
    let births : nat_le c.args.births (2 ^ 40 - n.next_birth)
    ≡ nat_le c.args.births (2 ^ 40 - v.next_birth) =
    ap (λ (n : ℕ). nat_le c.args.births (2 ^ 40 - n)) m.birth_is in
    let test : nat_le c.args.words (n.space - (n.end - n.base)) ≡ true =
    le_true c.args.words (n.space - (n.end - n.base)) c.if-words-self.true in
    let test' = rw (m.space_is, m.end_is, m.base_is) at test in
    births ∙ (ap (λ (x : Bool). x && nat_le c.args.births (2 ^ 40 - v.next_birth)) (sym test')
    ∙ room_answer v c.args.words c.args.births (vm_facts v s.runs))

pub returns-else-words-self : goal.returns-else-words-self
returns-else-words-self c =
    let s = c.requires in
    let m = s.mirrors in
    let n = c.args.self.now in
    let v = c.args.seat.now.me.0.vm in
    let past = c.if-words-self.false in
    let test : nat_le c.args.words (n.space - (n.end - n.base)) ≡ false =
    elim (bool_cases (nat_le c.args.words (n.space - (n.end - n.base)))) [
      | inl t ↦ (let le = le_is c.args.words (n.space - (n.end - n.base)) t in
          absurd (omega arith))
      | inr f ↦ f
    ] in
    let test' = rw (m.space_is, m.end_is, m.base_is) at test in
    test ∙ (ap (λ (x : Bool). x && nat_le c.args.births (2 ^ 40 - v.next_birth)) (sym test')
    ∙ room_answer v c.args.words c.args.births (vm_facts v s.runs))
