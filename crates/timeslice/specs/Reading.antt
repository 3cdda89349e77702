-- WHAT THE PARTS OF A LOOK-BACK READ, in the words of its definition: the reader that the store is.
use Rattle.calls.specs.Walk.{Reader}
use Rattle.calls.specs.LookBack.{reader}
use Rattle.timeslice.specs.declared.past.Past.{Past}

abbrev pub reader_of : Past → Reader
reader_of p = reader p.opened.store.now
