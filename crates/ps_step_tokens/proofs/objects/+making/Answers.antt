-- The word of an element, and the elements put together.
use Rattle.std.proofs.Common.{◌≡◌, ℕ, ◌+◌, ◌-◌, ◌*◌, ◌<◌, ◌≤◌, List, [], ◌∷◌, ◌++◌, length, take, drop, append-nil}
use Rattle.std.proofs.Common.{append_assoc, length-append, vec_len, vec_capacity, true, false, refl, sym, ap, subst}
use Rattle.std.proofs.Common.{◌∙◌, arith, rules, w32}
use denote.Param.Weighed.{at_most}
use mir.Val.{SFits}
use Rattle.std.proofs.lemmas.List.{length_push, drop_at, take_all}
use Rattle.std.proofs.lemmas.Int.{to_z-of_z}
use Rattle.ps_language.specs.Readers.{integer}
use Rattle.ps_language.specs.StepTokens.{names_in}
use Rattle.ps_language.specs.Token as language
use Rattle.ps_language.specs.Token.{number_token, literal_name_token, executable_name_token, immediate_name_token}
use Rattle.ps_language.specs.Token.{string_token, procedure_token, no_tokens, more_tokens}
use Rattle.ps_language.specs.Value.{Value, array_object}
use Rattle.ps_word.specs.declared.words.Word.{Word}
use Rattle.ps_mem.specs.Heap.{birth_at}
use Rattle.ps_mem.specs.Meaning.{value_of}
use Rattle.ps_mem.specs.Shows.{AreWithin, IsSound, Shows}
use Rattle.ps_mem.proofs.KeepsLemmas.{Keeps-Extends, AreValues-kept}
use Rattle.ps_ops_operands.specs.Changes.{values_in}
use Rattle.ps_ops_operands.proofs.Making.{array_stands_whole, whole_part, string_stands_whole}
use Rattle.ps_ops_operands.proofs.Ready.{plain_value, plain_within}
use Rattle.ps_ops_types.proofs.First.{name_held}
use Rattle.ps_scan.specs.Shown.{token_of}
use Rattle.ps_scan.proofs.tokens.TokenKind.TheLaws.{the_size}
use Rattle.ps_scan.proofs.TokenForms.{integer_is, literal_name_is, executable_name_is, text_is}
use Rattle.ps_step_tokens.specs.declared.names.NameKind.TheVariants.{Literal, Executable}
use Rattle.ps_step_tokens.specs.Made.{AreMet, IsMade, one_made}
use Rattle.ps_step_tokens.specs.Procedures.{tokens_in, token_in, token_words, token_births, element_words, element_births}
use Rattle.ps_step_tokens.specs.Short.{IsShort, AreShort}
use Rattle.ps_step_tokens.proofs.Building.{plain_made, string_is_made}
use Rattle.ps_step_tokens.proofs.Elements.{tokens-next, tokens-end, tokens-count}
use Rattle.ps_step_tokens.proofs.Together.{AreMade, none_made, more_made, procedure_is_made}
use Rattle.ps_step_tokens.proofs.Walking.{met_more, names_more}
use Rattle.ps_step_tokens.proofs.Naming.{name_means, name_within}
use Rattle.ps_step_tokens.proofs.objects.+making.Goals as goal

pub make_element-returns-in-Integer-clause-made : goal.make_element-returns-in-Integer-clause-made
make_element-returns-in-Integer-clause-made g t c =
    let h = g.M.Memory.heap c.args.memory.now in
    let names = c.args.names.now in
    let fits : SFits w32 c.in-Integer.number = search rules in
    let value : (births : ℕ → ℕ) (names : List (List ℕ))
    → value_of births names c.integer.result ≡ integer c.in-Integer.number =
    simp to_z-of_z at c.integer.ensures.value in
    subst (λ (token : language.Token). IsMade (one_made token) names c.args.dictionaries.now h h
    c.integer.result)
    (sym (ap (token_of c.args.text.now) c.in-Integer.is
    ∙ integer_is c.args.text.now c.in-Integer.number))
    (plain_made (number_token c.in-Integer.number) names c.args.dictionaries.now h
    c.integer.result c.requires.sound (plain_value h c.integer.result c.integer.ensures.plain)
    (λ s shows inside. plain_within (birth_at h) names s c.integer.result c.integer.ensures.plain)
    (λ s shows. ap (λ (v : Value). record { values = v ∷ []; store = s })
    (sym (value (birth_at h) names))))

pub make_element-returns-in-LiteralName-clause-made :
    goal.make_element-returns-in-LiteralName-clause-made
make_element-returns-in-LiteralName-clause-made g t c =
    let h = g.M.Memory.heap c.args.memory.now in
    let names = c.args.names.now in
    let text = c.of.result.now in
    let w = c.met_word.result in
    let met = c.met_word.ensures.word in
    subst (λ (token : language.Token). IsMade (one_made token) names c.args.dictionaries.now h h w)
    (sym (ap (token_of c.args.text.now) c.in-LiteralName.is
    ∙ (literal_name_is c.args.text.now c.in-LiteralName.span
    ∙ ap literal_name_token (sym c.of.ensures))))
    (plain_made (literal_name_token text) names c.args.dictionaries.now h w c.requires.sound
    (name_held w met.number false met.is h met.word)
    (λ s shows inside.
    name_within Literal w met.number met.is names text met.stands (birth_at h) s)
    (λ s shows. ap (λ (v : Value). record { values = v ∷ []; store = s })
    (sym (name_means Literal w met.number met.is names text met.stands (birth_at h)))))

pub make_element-returns-in-ExecutableName-clause-made :
    goal.make_element-returns-in-ExecutableName-clause-made
make_element-returns-in-ExecutableName-clause-made g t c =
    let h = g.M.Memory.heap c.args.memory.now in
    let names = c.args.names.now in
    let text = c.of-in-ExecutableName.result.now in
    let w = c.met_word-in-ExecutableName.result in
    let met = c.met_word-in-ExecutableName.ensures.word in
    subst (λ (token : language.Token). IsMade (one_made token) names c.args.dictionaries.now h h w)
    (sym (ap (token_of c.args.text.now) c.in-ExecutableName.is
    ∙ (executable_name_is c.args.text.now c.in-ExecutableName.span
    ∙ ap executable_name_token (sym c.of-in-ExecutableName.ensures))))
    (plain_made (executable_name_token text) names c.args.dictionaries.now h w c.requires.sound
    (name_held w met.number true met.is h met.word)
    (λ s shows inside.
    name_within Executable w met.number met.is names text met.stands (birth_at h) s)
    (λ s shows. ap (λ (v : Value). record { values = v ∷ []; store = s })
    (sym (name_means Executable w met.number met.is names text met.stands (birth_at h)))))

pub make_element-returns-in-Text-clause-made : goal.make_element-returns-in-Text-clause-made
make_element-returns-in-Text-clause-made g t c =
    let h = g.M.Memory.heap c.args.memory.now in
    let now = g.M.Memory.heap c.make_string-part.new.memory in
    let names = c.args.names.now in
    let text = c.deref.result.now in
    let w = c.string_word.result in
    let part = c.make_string-part.result in
    let made = c.make_string-part.ensures in
    let part_is : part ≡ whole_part part.address (length text) = made.part in
    subst (λ (token : language.Token).
    IsMade (one_made token) names c.args.dictionaries.now h now w)
    (sym (ap (token_of c.args.text.now) c.in-Text.is
    ∙ (text_is c.args.text.now c.in-Text.bytes ∙ ap string_token (sym c.deref.ensures.value))))
    (string_is_made text names c.args.dictionaries.now h now w part part_is made.birth
    (λ births names. c.string_word.ensures.value births names)
    (λ births names s inside. c.string_word.ensures.within births names s inside) made.sound
    made.extends
    (c.string_word.ensures.held now (string_stands_whole now part (length text) part_is made.known))
    (λ s shows. made.shows names s shows))

-- what stands in the list behind its start is what was made
done_part : (old done items : List Word) (start : ℕ) (view : List Word) → view ≡ items
    → items ≡ old ++ done → start ≡ length old
    → take (length view - start) (drop start view) ≡ done
done_part old done items start view seen is count =
    let behind : drop start view ≡ done =
    ap (drop start) (seen ∙ is) ∙ drop_at old done start (sym count) in
    let size : length done ≤ length view - start =
    omega (arith, count, ap length (seen ∙ is), length-append old done) in
    ap (take (length view - start)) behind ∙ take_all (length view - start) done size

pub make_elements-loop-element-init : goal.make_elements-loop-element-init
make_elements-loop-element-init g t c =
    let all = tokens_in c.args.text.now c.args.elements.now in
    record {
      dictionaries = c.requires.dictionaries;
      met = c.requires.met;
      short = c.requires.short.1;
      words = omega arith;
      births = omega arith;
      logs = record { cycle_open = refl; records = refl; put = refl; closed = refl };
      done = (
        [],
        sym (append-nil c.args.words.now.items),
        refl,
        none_made c.args.names.now c.args.dictionaries.now all
            (g.M.Memory.heap c.args.memory.now) c.requires.sound,
      );
      room = omega (arith, c.args.words.now.ok.0, c.requires.list);
      capacity = omega arith;
    }

pub make_elements-make_element-word-requires : goal.make_elements-make_element-word-requires
make_elements-make_element-word-requires g t c =
    let text = c.args.text.now in
    let names = c.args.names.now in
    let i = c.loop-element.element-index in
    let rest = tokens_in text (drop (i + 1) c.args.elements.now) in
    let token = token_of text c.element-item.result in
    let next = tokens-next text c.args.elements.now i c.element-item.result c.loop-element-test.true
    c.element-item.is in
    let v = c.loop-element.invariant in
    let words_list = c.loop-element.words in
    let all_words = ap element_words next in
    let all_births = ap element_births next in
    let met : AreMet names (names_in (token_in text c.element-item.result)) =
    (met_more _ (names_in (token_in text c.element-item.result)) (names_in rest)
    (subst (AreMet names) (ap names_in next ∙ names_more token rest) v.met)).0 in
    let short : IsShort token = (subst AreShort next v.short).0 in
    let sound : IsSound (g.M.Memory.heap c.loop-element.memory) = v.done.3.sound in
    let words : token_words token ≤ (g.M.Memory.grants c.loop-element.memory).words =
    omega (arith, v.words, all_words, c.requires.words) in
    let births : token_births token ≤ (g.M.Memory.grants c.loop-element.memory).births =
    omega (arith, v.births, all_births, c.requires.births) in
    let room : vec_len words_list + token_words token ≤ vec_capacity words_list =
    omega (arith, v.room, all_words, words_list.ok.0) in
    let less : 2 * the_size c.element-item.result + 0 < t =
    omega (
      arith,
      c.decreases,
      at_most (λ x. the_size x) c.args.elements.now i
          c.element-item.result c.loop-element-test.true,
      ap the_size c.element-item.is,
    ) in
    λ κs within.
    (less, (search rules, (sound, (v.dictionaries, (met, (short, (words, (births, room))))))))

pub make_elements-loop-element-preserved : goal.make_elements-loop-element-preserved
make_elements-loop-element-preserved g t c =
    let text = c.args.text.now in
    let names = c.args.names.now in
    let dictionaries = c.args.dictionaries.now in
    let all = tokens_in text c.args.elements.now in
    let i = c.loop-element.element-index in
    let rest = tokens_in text (drop (i + 1) c.args.elements.now) in
    let token = token_of text c.element-item.result in
    let next = tokens-next text c.args.elements.now i c.element-item.result c.loop-element-test.true
    c.element-item.is in
    let v = c.loop-element.invariant in
    let words = ap element_words next in
    let births = ap element_births next in
    let done = v.done.0 in
    let word = c.make_element-word.result in
    let old = g.M.Memory.heap c.args.memory.now in
    let h = g.M.Memory.heap c.loop-element.memory in
    let now = g.M.Memory.heap c.make_element-word.new.memory in
    record {
      dictionaries = AreValues-kept h now
          (Keeps-Extends h now c.make_element-word.ensures.made.extends) dictionaries
          v.dictionaries;
      met = (met_more _ (names_in (token_in text c.element-item.result)) (names_in rest)
          (subst (AreMet names) (ap names_in next ∙ names_more token rest) v.met)).1;
      short = (subst AreShort next v.short).1;
      words = omega (arith, v.words, words, c.make_element-word.ensures.words);
      births = omega (arith, v.births, births, c.make_element-word.ensures.births);
      logs = let first = v.logs in let next = c.make_element-word.ensures.logs in record {
        cycle_open = next.cycle_open ∙ first.cycle_open;
        records = next.records ∙ first.records;
        put = next.put ∙ first.put;
        closed = next.closed ∙ first.closed;
      };
      done = (
        done ++ word ∷ [],
        c.add_word.ensures.items ∙
            (ap (λ (ws : List Word). ws ++ word ∷ [])
            (c.make_element-word.ensures.items ∙ v.done.1)
            ∙ append_assoc c.args.words.now.items done (word ∷ [])),
        length_push done word ∙ ap (λ (n : ℕ). n + 1) v.done.2,
        more_made names dictionaries all rest old h now done token word c.requires.sound
            c.requires.dictionaries
            (subst (λ left. AreMade names dictionaries all left old h done) next v.done.3)
            c.make_element-word.ensures.made,
      );
      room = omega (
        arith,
        v.room,
        words,
        ap length c.add_word.ensures.items,
        length_push c.make_element-word.new.words.items word,
        ap length c.make_element-word.ensures.items,
        c.make_element-word.ensures.capacity,
        c.add_word.ensures.capacity,
      );
      capacity = omega (
        arith,
        v.capacity,
        c.make_element-word.ensures.capacity,
        c.add_word.ensures.capacity,
      );
    }

pub make_elements-make_array-part-requires-clause-length :
    goal.make_elements-make_array-part-requires-clause-length
make_elements-make_array-part-requires-clause-length g t c =
    let v = c.loop-element.invariant in
    let count = tokens-count c.args.text.now c.args.elements.now in
    let size = ap length (done_part c.args.words.now.items v.done.0 c.loop-element.words.items
    c.len-start.result c.deref.result.now c.deref.ensures.value v.done.1
    (c.len-start.ensures ∙ c.args.words.now.ok.0)) in
    omega (arith, size, v.done.2, count, c.requires.short.0, c.loop-element.auto.element-index-end)

pub make_elements-make_array-part-requires-clause-words :
    goal.make_elements-make_array-part-requires-clause-words
make_elements-make_array-part-requires-clause-words g t c =
    let v = c.loop-element.invariant in
    let size = ap length (done_part c.args.words.now.items v.done.0 c.loop-element.words.items
    c.len-start.result c.deref.result.now c.deref.ensures.value v.done.1
    (c.len-start.ensures ∙ c.args.words.now.ok.0)) in
    omega (arith, size, v.done.2, v.words, c.requires.words)

pub make_elements-returns-clause-made : goal.make_elements-returns-clause-made
make_elements-returns-clause-made g t c =
    let text = c.args.text.now in
    let names = c.args.names.now in
    let dictionaries = c.args.dictionaries.now in
    let all = tokens_in text c.args.elements.now in
    let old = g.M.Memory.heap c.args.memory.now in
    let h = g.M.Memory.heap c.loop-element.memory in
    let now = g.M.Memory.heap c.make_array-part.new.memory in
    let v = c.loop-element.invariant in
    let done = v.done.0 in
    let array = c.make_array-part.ensures in
    let part = c.make_array-part.result in
    let word = c.array_word.result in
    let is = done_part c.args.words.now.items done c.loop-element.words.items c.len-start.result
    c.deref.result.now c.deref.ensures.value v.done.1
    (c.len-start.ensures ∙ c.args.words.now.ok.0) in
    let before = subst (λ left. AreMade names dictionaries all left old h done)
    (tokens-end text c.args.elements.now c.loop-element.element-index (omega arith)) v.done.3 in
    procedure_is_made names dictionaries all old h now done before part
    (array.part ∙ ap (λ (ws : List Word). whole_part part.address (length ws)) is) array.birth
    (λ s shows within. subst
    (λ (ws : List Word). Shows now names (s ++ array_object (values_in h names ws) ∷ [])) is
    (array.shows names s shows (subst (AreWithin h names s) (sym is) within)))
    word (λ births names. c.array_word.ensures.value births names) array.sound array.extends
    (c.array_word.ensures.held now (array_stands_whole now part _ array.part array.known))
    (λ store. c.array_word.ensures.within (birth_at now) names store)

pub make_elements-returns-clause-words : goal.make_elements-returns-clause-words
make_elements-returns-clause-words g t c =
    let v = c.loop-element.invariant in
    let size = ap length (done_part c.args.words.now.items v.done.0 c.loop-element.words.items
    c.len-start.result c.deref.result.now c.deref.ensures.value v.done.1
    (c.len-start.ensures ∙ c.args.words.now.ok.0)) in
    omega (arith, size, v.done.2, v.words, c.make_array-part.ensures.grants.words)
