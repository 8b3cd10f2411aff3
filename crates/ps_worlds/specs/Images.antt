-- What an image says of all contexts and what they share.
use Rattle.std.specs.Prelude.{◌≡◌, ℕ, Option, List, [], ◌∷◌, ◌++◌, drop, map, option_map, reverse, take}
use Rattle.ps_language.specs.Worlds.{first_names}
use Rattle.ps_mem.specs.Plain.{heap_of_image}
use Rattle.ps_ctx_table.specs.declared.members.Member.{Member}
use Rattle.ps_ctx_table.specs.Desks.{Desk}
use Rattle.ps_worlds.specs.declared.images.Image.{Image}
use Rattle.ps_worlds.specs.declared.memories.MemoryImage.{MemoryImage}
use Rattle.ps_worlds.specs.declared.members.MemberImage.{MemberImage}
use Rattle.ps_worlds.specs.declared.names.NamesImage.{NamesImage}

-- the words of all objects, where these stood at the start
abbrev pub words_in : (first : List ℕ) → MemoryImage → List ℕ
words_in first image = take image.same first ++ image.words.items

-- the names of so many bytes each
abbrev pub cut_at : (lengths bytes : List ℕ) → List (List ℕ)
cut_at [] bytes = []
cut_at (length ∷ lengths) bytes = take length bytes ∷ cut_at lengths (drop length bytes)

-- all names that were met
abbrev pub names_in : NamesImage → List (List ℕ)
names_in image = first_names ++ cut_at image.lengths.items image.bytes.items

-- a context
abbrev pub member_in : MemberImage → Member
member_in image = record {
  context = record {
    operands = reverse image.operands.items;
    dictionaries = reverse image.dictionaries.items;
    frames = reverse image.frames.items;
    error_dictionary = image.error_dictionary;
  };
  course = image.course;
  is_detached = image.is_detached;
}

-- all of them, by identifiers
abbrev pub members_in : List (Option MemberImage) → List (Option Member)
members_in images = map (option_map member_in) images

-- an image is of these contexts, over a memory in which these words stood at the start
pub record IsImageOf (first : List ℕ) (d : Desk) (image : Image) : Type 0 where
  pub heap : d.heap ≡ heap_of_image (words_in first image.memory) image.memory.next
  pub names : d.names ≡ names_in image.names
  pub printed : d.printed ≡ image.printed.items
  pub faulted : d.has_faulted ≡ image.has_faulted
  pub members : d.members ≡ members_in image.members.items
