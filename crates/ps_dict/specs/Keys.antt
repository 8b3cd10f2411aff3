-- When two words are the same key.
pub use Rattle.ps_mem.specs.Keys.{same_place, same_content, IsKey}
unfoldable pub use Rattle.ps_mem.specs.Keys.{same_words}
