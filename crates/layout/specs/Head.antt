-- THE HEAD (document 01, "The lent store", and refusals 2 and 3): its 16 words as one value.
use Rattle.std.specs.Prelude.{Bool, cond, not, ◌&&◌, ◌||◌, List, [], ◌∷◌, ◌++◌, ℕ, ◌+◌, ◌*◌, ◌-◌, eqb, ltb, leb, length, get_or, drop, replicate}
use Rattle.layout.specs.declared.settings.Settings.{Settings}
use Rattle.layout.specs.declared.head.Cursor.{Cursor}
use Rattle.layout.specs.declared.head.Head.{Head}
use Rattle.layout.specs.Sizes.{OPEN, mark, head_len, layout_len}
use Rattle.layout.specs.Fields.{head_mark, head_block, head_useful, head_blocks, head_tags, head_opened, head_clock, head_fill, head_child, head_right, head_spare}
use Rattle.layout.specs.RefusalNumbers.{SHORT_HEAD, HEAD}
use Rattle.layout.specs.Settings.{in_limits}

-- the head that a start leaves: no block is opened, and the clock is 0
abbrev pub fresh_head : Settings → Head
fresh_head s = record { settings = s; cursor = record { opened = 0; clock = 0; fill = 0; child = 0; right = 0 } }

-- the head moves on: its settings stay
abbrev pub onward : Head → Cursor → Head
onward h c = record { settings = h.settings; cursor = c }

-- the head that the words hold
unfoldable pub head_of : List ℕ → Head
head_of ws = record {
  settings = record { block = get_or ws head_block 0; useful = get_or ws head_useful 0; blocks = get_or ws head_blocks 0; tags = get_or ws head_tags 0 };
  cursor = record {
    opened = get_or ws head_opened 0;
    clock = get_or ws head_clock 0;
    fill = get_or ws head_fill 0;
    child = get_or ws head_child 0;
    right = get_or ws head_right 0;
  };
}

-- the words that hold a head
unfoldable pub head_words : Head → List ℕ
head_words h =
    mark ∷ h.settings.block ∷ h.settings.useful ∷ h.settings.blocks ∷ h.settings.tags
    ∷ h.cursor.opened ∷ h.cursor.clock ∷ h.cursor.fill ∷ h.cursor.child ∷ h.cursor.right
    ∷ 0 ∷ 0 ∷ 0 ∷ 0 ∷ 0 ∷ 0 ∷ []

unfoldable pub with_head : Head → List ℕ → List ℕ
with_head h ws = head_words h ++ drop head_len ws

-- the layout filled with zeros; words beyond it are untouched
unfoldable pub cleared : Settings → List ℕ → List ℕ
cleared s ws = replicate (layout_len s) 0 ++ drop (layout_len s) ws

-- records in block N: 1 to b, and 0 for N = 0
abbrev pub fill_fits : Head → Bool
fill_fits h = cond (eqb h.cursor.opened 0) (eqb h.cursor.fill 0) (leb 1 h.cursor.fill && leb h.cursor.fill h.settings.block)

-- the last six words are zero
abbrev pub spare_zero : List ℕ → Bool
spare_zero ws =
    eqb (get_or ws head_spare 0) 0 && (eqb (get_or ws (head_spare + 1) 0) 0 && (eqb (get_or ws (head_spare + 2) 0) 0
    && (eqb (get_or ws (head_spare + 3) 0) 0 && (eqb (get_or ws (head_spare + 4) 0) 0 && eqb (get_or ws (head_spare + 5) 0) 0))))

-- refusal 3 of these words: another mark, settings outside limits, N above B, clock OPEN, one of the last six words not zero, or a wrong fill
unfoldable pub bad_head : List ℕ → Bool
bad_head ws =
    let h = head_of ws in
    not (eqb (get_or ws head_mark 0) mark) || not (in_limits h.settings) || ltb h.settings.blocks h.cursor.opened
    || eqb h.cursor.clock OPEN || not (spare_zero ws) || not (fill_fits h)

-- refusal 2 where there is no head, 3 for a bad one, else 0
unfoldable pub head_refusal : List ℕ → ℕ
head_refusal ws = cond (ltb (length ws) head_len) SHORT_HEAD (cond (bad_head ws) HEAD 0)

-- records placed: 0 for N = 0, else (N − 1) × b + fill
unfoldable pub placed : Head → ℕ
placed h = cond (eqb h.cursor.opened 0) 0 ((h.cursor.opened - 1) * h.settings.block + h.cursor.fill)
