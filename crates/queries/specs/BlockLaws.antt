-- The block that the code is handed is the reader's.
use Rattle.std.specs.Prelude.{◌≡◌, List, ℕ}
use Rattle.std.proofs.Common.{◌∙◌}
use Rattle.layout.specs.declared.settings.Settings.{Settings}
use Rattle.layout.specs.declared.head.Head.{Head}
use Rattle.layout.specs.Parts.{block_word}
use Rattle.layout.specs.PartsLaws.{BlockPart}
use Rattle.layout.specs.Head.{head_of}
use Rattle.layout.specs.OnWords.{Held}
use Rattle.calls.specs.LookBack.{reader}
use Rattle.queries.specs.Readable.{Blocks}

pub blocks-of : {ws : List ℕ} {h : Head} → h ≡ head_of ws → Held h.settings ws → Blocks ws h.settings
blocks-of e k = record { is = rw e; held = k }

pub part_is : {ws : List ℕ} {s : Settings} {number : ℕ} {block : List ℕ} → Blocks ws s → BlockPart s ws number block → block ≡ (reader ws).block number
unfolding reader
part_is r p = p.is ∙ rw r.is

pub block_is : {ws : List ℕ} {h : Head} {number : ℕ} {block : List ℕ} → h ≡ head_of ws → Held h.settings ws
    → BlockPart h.settings ws number block → block ≡ (reader ws).block number
block_is e k p = part_is (blocks-of e k) p

-- so a word of the one is the other's
pub word_is : {block it : List ℕ} (j : ℕ) {w : ℕ} → block ≡ it → w ≡ block_word block j → w ≡ block_word it j
word_is j is e = e ∙ rw is
