use Rattle.ps_table.proofs.plain_words.note.Given as goal

abbrev pub ghosts-note_named : goal.ghosts-note_named
ghosts-note_named g a = record {
  space = a.table.now.shared.key;
  place = a.place;
  first = a.first;
  word = a.word;
  items = a.items.now;
}
