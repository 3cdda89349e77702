-- `head::write_cursor` meets its contract: one write after the other.
use Rattle.layout.specs.Cursor.{store_cursor}
use Rattle.layout.specs.Ran.{then}
use Rattle.layout.proofs.head.write_cursor.Goals as goal

pub returns : goal.returns
unfolding store_cursor
returns c = then c.write.ensures (then c.write-2.ensures (then c.write-3.ensures (then c.write-4.ensures c.write-5.ensures)))
