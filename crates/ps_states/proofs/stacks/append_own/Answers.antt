use Rattle.std.proofs.Common.{◌≡◌, ℕ, List, Option, [], ◌++◌, arith, sym, ap, ◌∙◌, append_assoc}
use Rattle.std.specs.Prelude.{option_map}
use Rattle.std.specs.Option.{option_map_or}
use Rattle.std.proofs.lemmas.Result.{on_ok_weaker}
use Rattle.std.proofs.lemmas.List.{append-nil}
use Rattle.ps_language.specs.Access.{dictionary_at}
use Rattle.ps_language.specs.Value.{Store}
use Rattle.ps_mem.specs.Heap.{birth_at}
use Rattle.ps_mem.specs.Meaning.{value_of}
use Rattle.ps_dict.proofs.Telling.{dictionary_stands}
use Rattle.ps_step_lookup.proofs.Looking.{dictionary_is}
use Rattle.ps_views.specs.States.{dictionary_text}
use Rattle.ps_states.specs.States.{dictionary_line, keys_text, own_line}
use Rattle.ps_states.proofs.Own.{first_hidden, own_told}
use Rattle.ps_states.proofs.Words.{stands_some}
use Rattle.ps_states.proofs.stacks.append_own.Goals as goal

-- the line by what the word has for an address
abbrev line_by : Store → Option ℕ → List ℕ
line_by s found = option_map_or (own_line s) found []

pub returns-in_default-clause-line : goal.returns-in_default-clause-line
returns-in_default-clause-line g c = λ s shows.
    let births = birth_at (g.M.Memory.heap c.args.runtime.now.memory) in
    let names = c.args.runtime.now.shared.names in
    let none : [] ≡ dictionary_line s (value_of births names c.args.word) =
    ap (λ found. line_by s (option_map births found)) c.in_default.ensures
    ∙ ap (line_by s) (sym (dictionary_is births names c.args.word)) in
    sym (append-nil c.args.to.now.items) ∙ ap (λ line. c.args.to.now.items ++ line) none

pub birth_of-birth-requires : goal.birth_of-birth-requires
birth_of-birth-requires g c = record {
  stands = stands_some (dictionary_stands (g.M.Memory.heap c.args.runtime.now.memory) c.args.word
      c.requires.held c.in-Some.address c.in-Some.ensures);
}

pub append_keys-requires-clause-known : goal.append_keys-requires-clause-known
append_keys-requires-clause-known g c = rw c.birth_of-birth.ensures.heap
    (dictionary_stands (g.M.Memory.heap c.args.runtime.now.memory) c.args.word c.requires.held
    c.in-Some.address c.in-Some.ensures)

pub returns-then-birth-le1-clause-line : goal.returns-then-birth-le1-clause-line
returns-then-birth-le1-clause-line g c = λ s shows.
    let births = birth_at (g.M.Memory.heap c.args.runtime.now.memory) in
    let names = c.args.runtime.now.shared.names in
    let none : [] ≡ dictionary_line s (value_of births names c.args.word) =
    sym (first_hidden s (births c.in-Some.address) (omega (arith, c.birth_of-birth.ensures.birth, c.if-birth-le1.true)))
    ∙ ap (λ found. line_by s (option_map births found)) c.in-Some.ensures
    ∙ ap (line_by s) (sym (dictionary_is births names c.args.word)) in
    sym (append-nil c.args.to.now.items) ∙ ap (λ line. c.args.to.now.items ++ line) none

pub returns-clause-line : goal.returns-clause-line
returns-clause-line g c = λ s shows.
    let h = g.M.Memory.heap c.args.runtime.now.memory in
    let births = birth_at h in
    let names = c.args.runtime.now.shared.names in
    let pairs = (dictionary_at s (births c.in-Some.address)).pairs in
    let told = c.append_keys.ensures.keys in
    let keys = rw c.birth_of-birth.ensures.heap at told in
    let begun : c.append_dictionary.new.to.items
    ≡ c.args.to.now.items ++ dictionary_text (births c.in-Some.address) =
    c.in_ok-append_dictionary.ensures.appended
    ∙ ap (λ birth. c.args.to.now.items ++ dictionary_text birth) c.birth_of-birth.ensures.birth in
    let line : dictionary_text (births c.in-Some.address) ++ keys_text s pairs
    ≡ dictionary_line s (value_of births names c.args.word) =
    sym (own_told s (births c.in-Some.address) (omega (arith, c.birth_of-birth.ensures.birth, c.if-birth-le1.false)))
    ∙ ap (λ found. line_by s (option_map births found)) c.in-Some.ensures
    ∙ ap (line_by s) (sym (dictionary_is births names c.args.word)) in
    on_ok_weaker c.append_keys.result
    (λ ended. ended ∙ ap (λ front. front ++ keys_text s pairs) begun
    ∙ append_assoc c.args.to.now.items (dictionary_text (births c.in-Some.address)) (keys_text s pairs)
    ∙ ap (λ text. c.args.to.now.items ++ text) line)
    (keys s shows)
