-- `register_words` meets its contract: the layout's length, for settings within their limits.
use Rattle.register.specs.ExportLaws.{words_within}
use Rattle.register.proofs.register_words.Goals as goal

pub words-requires : goal.words-requires
words-requires c = words_within c.within.ensures c.if-within.true
