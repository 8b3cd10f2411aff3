use Rattle.std.proofs.Common.{◌≡◌, ℕ, ◌++◌, ◌∙◌, [], ◌∷◌, ap, arith, subst, length, map}
use Rattle.ps_language.specs.declared.kinds.Kind.TheVariants.{Dictionary as DictionaryKind}
use Rattle.ps_language.specs.Value.{Dictionary, dictionary_object}
use Rattle.ps_language.specs.Access.{empty_dictionary, dictionary_at, with_dictionary}
use Rattle.ps_language.specs.Dictionaries.{put_pairs}
use Rattle.ps_mem.specs.Heap.{birth_at}
use Rattle.ps_mem.specs.Index.{pairs_of_words}
use Rattle.ps_mem.specs.Shows.{pair_of, Shows}
use Rattle.ps_mem.proofs.KeepsLemmas.{Keeps-Extends, AreValues-kept, AreWithin-kept, stands-kept, known_values}
use Rattle.ps_mem.proofs.NewShows.{longer}
use Rattle.ps_dict.proofs.Fresh.{last-dictionary, with-last, pairs_of-kept}
use Rattle.ps_dict.proofs.makes.make_dictionary_with.Goals as goal

pub fill_pairs-requires-clause-room : goal.fill_pairs-requires-clause-room
fill_pairs-requires-clause-room g c =
    let none = c.new_dictionary-address.ensures.count in
    let room = c.new_dictionary-address.ensures.capacity in omega (arith, none, room)

pub fill_pairs-requires-clause-held : goal.fill_pairs-requires-clause-held
fill_pairs-requires-clause-held g c =
    let old = g.M.Memory.heap c.args.memory.now in
    let now = g.M.Memory.heap c.new_dictionary-address.new.memory in
    AreValues-kept old now (Keeps-Extends old now c.new_dictionary-address.ensures.extends)
    c.args.words.now c.requires.held

pub returns-clause-known : goal.returns-clause-known
returns-clause-known g c =
    let now = g.M.Memory.heap c.new_dictionary-address.new.memory in
    stands-kept now (g.M.Memory.heap c.fill_pairs.new.memory) c.fill_pairs.ensures.keeps
    DictionaryKind c.new_dictionary-address.result 4 c.new_dictionary-address.ensures.known

pub returns-clause-extends : goal.returns-clause-extends
returns-clause-extends g c =
    c.fill_pairs.ensures.extends (g.M.Memory.heap c.args.memory.now)
    c.new_dictionary-address.ensures.extends c.new_dictionary-address.ensures.free
    c.new_dictionary-address.ensures.body_free

pub returns-clause-birth : goal.returns-clause-birth
returns-clause-birth g c =
    ap (λ (births : ℕ → ℕ). births c.new_dictionary-address.result) c.fill_pairs.ensures.births
    ∙ c.new_dictionary-address.ensures.birth

pub returns-clause-shows : goal.returns-clause-shows
returns-clause-shows g c = λ names s shows distinct within.
    let old = g.M.Memory.heap c.args.memory.now in
    let now = g.M.Memory.heap c.new_dictionary-address.new.memory in
    let new = g.M.Memory.heap c.fill_pairs.new.memory in
    let words = c.args.words.now in
    let keeps = Keeps-Extends old now c.new_dictionary-address.ensures.extends in
    let d = empty_dictionary c.args.capacity in
    let t = s ++ dictionary_object d ∷ [] in
    let b = birth_at now c.new_dictionary-address.result in
    let at : b ≡ length s = c.new_dictionary-address.ensures.birth ∙ shows.next in
    let done = c.fill_pairs.ensures.shows names t
    (c.new_dictionary-address.ensures.shows names s shows) distinct
    (AreWithin-kept old now keeps names s t (longer s (dictionary_object d ∷ [])) words
    (known_values old words c.requires.held) within) in
    let put = map (pair_of (birth_at now) names) (pairs_of_words words) in
    let is : with_dictionary t b (record (dictionary_at t b)
    { pairs = put_pairs (dictionary_at t b).pairs put }) ≡ s
    ++ dictionary_object (record d { pairs = put_pairs [] put }) ∷ [] =
    ap (λ (x : Dictionary). with_dictionary t b (record x { pairs = put_pairs x.pairs put }))
    (last-dictionary s d b at) ∙ with-last s d (record d { pairs = put_pairs [] put }) b at in
    subst (λ ps. Shows new names
    (s ++ dictionary_object (record d { pairs = put_pairs [] ps }) ∷ []))
    (pairs_of-kept old now keeps names words c.requires.held) (subst (Shows new names) is done)
