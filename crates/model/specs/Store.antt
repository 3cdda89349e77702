-- A STORE: its words, and the words that are kept beside them.
use Rattle.std.specs.Prelude.{ℕ, List}
use Rattle.model.specs.declared.store.Store.{Store}

abbrev pub words_of : Store → List ℕ
words_of s = s.words.items

-- as the last call had to leave them
abbrev pub kept_of : Store → List ℕ
kept_of s = s.kept.items

-- as the history left them
abbrev pub honest_of : Store → List ℕ
honest_of s = s.honest.items
