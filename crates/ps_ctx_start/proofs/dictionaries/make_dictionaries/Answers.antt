use Rattle.std.proofs.Common.{◌≡◌, ℕ, [], IsTrue, length, map, sym, ap, ◌∙◌, arith, subst}
use Rattle.ps_language.specs.declared.kinds.Kind.TheVariants.{Dictionary as DictionaryKind}
use Rattle.ps_language.specs.Worlds.{first_names, system_pairs}
use Rattle.ps_mem.specs.Heap.{Heap, birth_at}
use Rattle.ps_mem.specs.Index.{pairs_of_words}
use Rattle.ps_mem.specs.Shows.{IsSound, AreValues, AreWithin, pair_of, Shows}
use Rattle.ps_mem.proofs.EmptyLemmas.{IsSound-empty, Shows-empty}
use Rattle.ps_mem.proofs.KeepsLemmas.{Extends-then, Keeps-Extends, Keeps-then, stands-kept}
use Rattle.ps_dict.specs.Places.{natural_in, body_in}
use Rattle.ps_ctx_start.specs.Words.{system_words}
use Rattle.ps_ctx_start.proofs.Meaning.{begin, system-met, system-held, system-within}
use Rattle.ps_ctx_start.proofs.Distinct.{names-apart}
use Rattle.ps_ctx_start.proofs.Standing.{pairs-back, fields-same, birth-same, store_before, store-made, system-long}
use Rattle.ps_ctx_start.proofs.dictionaries.make_dictionaries.Goals as goal

pub new_dictionary-system-requires-clause-sound : goal.new_dictionary-system-requires-clause-sound
new_dictionary-system-requires-clause-sound g c =
    subst IsSound (sym c.requires.heap) (IsSound-empty (g.M.Memory.heap c.args.memory.now).space)

pub fill_pairs-requires-clause-body_fresh : goal.fill_pairs-requires-clause-body_fresh
fill_pairs-requires-clause-body_fresh g c =
    let h1 = g.M.Memory.heap c.new_dictionary-system.new.memory in
    let h2 = g.M.Memory.heap c.new_dictionary-user.new.memory in
    let h3 = g.M.Memory.heap c.make_error_dictionary-error.new.memory in
    let system = c.new_dictionary-system.result in
    let extends = Extends-then h1 h2 h3 c.new_dictionary-user.ensures.extends
    c.make_error_dictionary-error.ensures.extends in
    let same = ap (λ ws. body_in ws 3)
    (fields-same h1 h3 extends DictionaryKind system 4 c.new_dictionary-system.ensures.known) in
    subst (λ b. IsTrue ((g.M.Memory.grants c.make_error_dictionary-error.new.memory).fresh b))
    (sym same)
    (c.make_error_dictionary-error.ensures.grants.still_fresh _
    (c.new_dictionary-user.ensures.grants.still_fresh _
    c.new_dictionary-system.ensures.body_fresh))

pub fill_pairs-requires-clause-room : goal.fill_pairs-requires-clause-room
fill_pairs-requires-clause-room g c =
    let h1 = g.M.Memory.heap c.new_dictionary-system.new.memory in
    let h2 = g.M.Memory.heap c.new_dictionary-user.new.memory in
    let h3 = g.M.Memory.heap c.make_error_dictionary-error.new.memory in
    let system = c.new_dictionary-system.result in
    let extends = Extends-then h1 h2 h3 c.new_dictionary-user.ensures.extends
    c.make_error_dictionary-error.ensures.extends in
    let same = fields-same h1 h3 extends DictionaryKind system 4
    c.new_dictionary-system.ensures.known in
    let count = ap (λ ws. natural_in ws 0) same ∙ c.new_dictionary-system.ensures.count in
    let capacity = ap (λ ws. natural_in ws 1) same ∙ c.new_dictionary-system.ensures.capacity in
    let long = ap length (c.deref.ensures.value ∙ c.push_system_words.ensures.words)
    ∙ system-long system c.new_dictionary-user.result in
    omega (arith, count, capacity, long)

pub fill_pairs-requires-clause-held : goal.fill_pairs-requires-clause-held
fill_pairs-requires-clause-held g c =
    let h1 = g.M.Memory.heap c.new_dictionary-system.new.memory in
    let h2 = g.M.Memory.heap c.new_dictionary-user.new.memory in
    let h3 = g.M.Memory.heap c.make_error_dictionary-error.new.memory in
    let system = c.new_dictionary-system.result in
    let user = c.new_dictionary-user.result in
    let later = Keeps-Extends h2 h3 c.make_error_dictionary-error.ensures.extends in
    let keeps = Keeps-then h1 h2 h3 (Keeps-Extends h1 h2 c.new_dictionary-user.ensures.extends)
    later in
    subst (AreValues h3) (sym (c.deref.ensures.value ∙ c.push_system_words.ensures.words))
    (system-held system user c.new_dictionary-system.ensures.address
    c.new_dictionary-user.ensures.address h3
    (stands-kept h1 h3 keeps DictionaryKind system 4 c.new_dictionary-system.ensures.known)
    (stands-kept h2 h3 later DictionaryKind user 4 c.new_dictionary-user.ensures.known))

pub fill_access-requires-clause-known : goal.fill_access-requires-clause-known
fill_access-requires-clause-known g c =
    let h1 = g.M.Memory.heap c.new_dictionary-system.new.memory in
    let h2 = g.M.Memory.heap c.new_dictionary-user.new.memory in
    let h3 = g.M.Memory.heap c.make_error_dictionary-error.new.memory in
    let h4 = g.M.Memory.heap c.fill_pairs.new.memory in
    let keeps = Keeps-then h1 h2 h3 (Keeps-Extends h1 h2 c.new_dictionary-user.ensures.extends)
    (Keeps-Extends h2 h3 c.make_error_dictionary-error.ensures.extends) in
    stands-kept h1 h4 (Keeps-then h1 h3 h4 keeps c.fill_pairs.ensures.keeps) DictionaryKind
    c.new_dictionary-system.result 4 c.new_dictionary-system.ensures.known

pub returns-clause-first : goal.returns-clause-first
returns-clause-first g c =
    let h0 = g.M.Memory.heap c.args.memory.now in
    let h1 = g.M.Memory.heap c.new_dictionary-system.new.memory in
    let h2 = g.M.Memory.heap c.new_dictionary-user.new.memory in
    let h3 = g.M.Memory.heap c.make_error_dictionary-error.new.memory in
    let h4 = g.M.Memory.heap c.fill_pairs.new.memory in
    let h5 = g.M.Memory.heap c.fill_access.new.memory in
    let system = c.new_dictionary-system.result in
    let user = c.new_dictionary-user.result in
    let error = c.make_error_dictionary-error.result in
    let words = c.deref.result.now in
    let is = c.deref.ensures.value ∙ c.push_system_words.ensures.words in
    -- what is kept
    let keeps12 = Keeps-Extends h1 h2 c.new_dictionary-user.ensures.extends in
    let keeps23 = Keeps-Extends h2 h3 c.make_error_dictionary-error.ensures.extends in
    let keeps13 = Keeps-then h1 h2 h3 keeps12 keeps23 in
    let keeps35 = Keeps-then h3 h4 h5 c.fill_pairs.ensures.keeps c.fill_access.ensures.keeps in
    let births35 = c.fill_access.ensures.births ∙ c.fill_pairs.ensures.births in
    let system3 = stands-kept h1 h3 keeps13 DictionaryKind system 4
    c.new_dictionary-system.ensures.known in
    let user3 = stands-kept h2 h3 keeps23 DictionaryKind user 4
    c.new_dictionary-user.ensures.known in
    -- the stores shown, one after another
    let shows0 : Shows h0 first_names [] = subst (λ (h : Heap). Shows h first_names [])
    (sym c.requires.heap) (Shows-empty h0.space first_names) in
    let shows1 = c.new_dictionary-system.ensures.shows first_names [] shows0 in
    let shows2 = c.new_dictionary-user.ensures.shows first_names _ shows1 in
    let shows3 = c.make_error_dictionary-error.ensures.shows first_names _ shows2 names-apart begin
    in
    let shows4 = c.fill_pairs.ensures.shows first_names _ shows3 names-apart
    (subst (AreWithin h3 first_names store_before) (sym is)
    (system-within system user c.new_dictionary-system.ensures.address
    c.new_dictionary-user.ensures.address h3 store_before)) in
    let shows5 = c.fill_access.ensures.shows first_names _ shows4 in
    -- the birth numbers
    let first : birth_at h3 system ≡ 0 = birth-same h1 h3 keeps13 DictionaryKind system 4
    c.new_dictionary-system.ensures.known ∙ (c.new_dictionary-system.ensures.birth ∙ shows0.next) in
    let second : birth_at h3 user ≡ 1 = birth-same h2 h3 keeps23 DictionaryKind user 4
    c.new_dictionary-user.ensures.known ∙ (c.new_dictionary-user.ensures.birth ∙ shows1.next) in
    let third : birth_at h3 error ≡ 2 = c.make_error_dictionary-error.ensures.birth ∙ shows2.next in
    let pairs = map (pair_of (birth_at h3) first_names) (pairs_of_words words) in
    let are : pairs ≡ system_pairs = ap (λ ws. map (pair_of (birth_at h3) first_names)
    (pairs_of_words ws)) is ∙ (ap (map (pair_of (birth_at h3) first_names))
    (pairs-back (system_words system user))
    ∙ system-met system user c.new_dictionary-system.ensures.address
    c.new_dictionary-user.ensures.address (birth_at h3) first second) in
    record {
      sound = c.fill_access.ensures.sound;
      shows = subst (Shows h5 first_names) (store-made (birth_at h3 system) (birth_at h4 system)
          pairs first (ap (λ (births : ℕ → ℕ). births system) c.fill_pairs.ensures.births
          ∙ first) are) shows5;
      system = record {
        stands = stands-kept h3 h5 keeps35 DictionaryKind system 4 system3;
        below = c.new_dictionary-system.ensures.address;
        born = ap (λ (births : ℕ → ℕ). births system) births35 ∙ first;
      };
      user = record {
        stands = stands-kept h3 h5 keeps35 DictionaryKind user 4 user3;
        below = c.new_dictionary-user.ensures.address;
        born = ap (λ (births : ℕ → ℕ). births user) births35 ∙ second;
      };
      error = record {
        stands = stands-kept h3 h5 keeps35 DictionaryKind error 4
            c.make_error_dictionary-error.ensures.known;
        below = c.make_error_dictionary-error.ensures.address;
        born = ap (λ (births : ℕ → ℕ). births error) births35 ∙ third;
      };
    }

pub returns-clause-space : goal.returns-clause-space
returns-clause-space g c =
    c.fill_access.ensures.keeps.space
    ∙ (c.fill_pairs.ensures.keeps.space
    ∙ (c.make_error_dictionary-error.ensures.extends.space
    ∙ (c.new_dictionary-user.ensures.extends.space ∙ c.new_dictionary-system.ensures.extends.space)))
