-- THE STORES OF THE EDGES, word by word, and how an edge is written: a store, the words changed in it by their names,
-- the call, what it gives. Some of these words no history leaves ("these rules act on the words, also on words that no
-- history left").
use Rattle.std.specs.Prelude.{◌≡◌, true, List, [], ◌∷◌, ◌++◌, ℕ, ◌-◌, length, replicate}
use Rattle.layout.specs.declared.settings.Settings.{Settings}
use Rattle.layout.specs.declared.head.Cursor.{Cursor}
use Rattle.layout.specs.declared.address.Address.{Address}
use Rattle.layout.specs.declared.address.Address.TheVariants.{Head}
use Rattle.layout.specs.Sizes.{OPEN, head_len, level_len}
use Rattle.layout.specs.Fields.{head_blocks, head_fill}
use Rattle.layout.specs.Settings.{settings_of}
use Rattle.layout.specs.Head.{head_of, head_words, fresh_head}
use Rattle.layout.specs.Words.{write_word}
use Rattle.calls.specs.Calls.{Call, Set, Clear, Refused, accepted}
use Rattle.calls.specs.Step.{step}
use Rattle.calls.specs.Claims.{NotStart}

-- ---- what a call gives
-- it is turned away with n, so n is the first refusal that applies
abbrev pub Refuses : ℕ → List ℕ → Call → Type 0
Refuses n ws c = (step ws c).answer ≡ Refused n

abbrev pub Passes : List ℕ → Call → Type 0
Passes ws c = accepted (step ws c).answer ≡ true

-- every call but a start is turned away with n, whatever its arguments
pub record AllRefuse (n : ℕ) (ws : List ℕ) : Type 0 where
  pub given : (c : Call) → NotStart c → Refuses n ws c

-- ---- a store with words changed: store ▹ address ≔ value ▹ address ≔ value ..
infixl 15 ◌▹◌
infixl 16 ◌≔◌
pub record Changed : Type 0 where
  pub address : Address
  pub value : ℕ

abbrev pub ◌≔◌ : Address → ℕ → Changed
◌≔◌ a v = record { address = a; value = v }

abbrev pub ◌▹◌ : List ℕ → Changed → List ℕ
◌▹◌ ws c = write_word (head_of ws).settings ws c.address c.value

-- ---- a store by its parts
-- a level of the index with these entries
abbrev pub level : ℕ → List ℕ → List ℕ
level l times = times ++ replicate (level_len l - length times) 0

-- head; on the lowest level the opening times of blocks 1, 2, .. (up to 16), on both others the first, 1; directory;
-- blocks
abbrev pub store_of : Settings → Cursor → List ℕ → List ℕ → List ℕ → List ℕ
store_of s c times directory blocks =
    head_words (record { settings = s; cursor = c })
    ++ (level 0 times ++ (level 1 (1 ∷ []) ++ (level 2 (1 ∷ []) ++ (directory ++ blocks))))

-- N, clock, fill, last child and right of block 0
abbrev pub cursor_of : ℕ → ℕ → ℕ → ℕ → ℕ → Cursor
cursor_of opened clock fill child right = record { opened = opened; clock = clock; fill = fill; child = child; right = right }

-- ---- the stores, their settings, N, fill and clock unlike one another as far as can be

-- b = 5, q = 2, B = 7, D = 6: the head alone as a start leaves it, and with all 4,621 words of its layout
abbrev pub settings : Settings
settings = settings_of 5 2 7 6

unfoldable pub head_only : List ℕ
head_only = head_words (fresh_head settings)

unfoldable pub fresh : List ℕ
fresh = head_words (fresh_head settings) ++ replicate 4605 0

-- Three open blocks in a row, the clock at 9. Tags 4 and 5 stand in slots 0 and 1 of block 1, tags 0 and 1 in slots 0
-- and 2 of block 2; tag 2 stands in slot 3 of block 3, the acceptor, and is its last record; tag 3 does not stand. A
-- block: opened, closed, up, left, last child, right, standing bits low and high; then its records: tag, reading,
-- from, to, since.
unfoldable pub three : List ℕ
three = store_of settings (cursor_of 3 9 4 0 1) (1 ∷ 2 ∷ 3 ∷ []) (6 ∷ 8 ∷ 14 ∷ 0 ∷ 1 ∷ 2 ∷ [])
    (1 ∷ OPEN ∷ 0 ∷ 0 ∷ 0 ∷ 2 ∷ 3 ∷ 0
    ∷ 4 ∷ 10 ∷ 1 ∷ OPEN ∷ 1
    ∷ 5 ∷ 11 ∷ 1 ∷ OPEN ∷ 1
    ∷ 0 ∷ 12 ∷ 1 ∷ 2 ∷ 1
    ∷ 1 ∷ 13 ∷ 1 ∷ 2 ∷ 1
    ∷ 3 ∷ 14 ∷ 1 ∷ 2 ∷ 1
    ∷ 2 ∷ OPEN ∷ 1 ∷ 0 ∷ 0 ∷ 3 ∷ 5 ∷ 0
    ∷ 0 ∷ 15 ∷ 2 ∷ OPEN ∷ 2
    ∷ 2 ∷ 16 ∷ 2 ∷ 3 ∷ 2
    ∷ 1 ∷ 17 ∷ 2 ∷ OPEN ∷ 2
    ∷ 3 ∷ 18 ∷ 2 ∷ 2 ∷ 2
    ∷ 3 ∷ 19 ∷ 2 ∷ 3 ∷ 2
    ∷ 3 ∷ OPEN ∷ 2 ∷ 0 ∷ 0 ∷ 0 ∷ 8 ∷ 0
    ∷ 3 ∷ 20 ∷ 3 ∷ 4 ∷ 3
    ∷ 3 ∷ 21 ∷ 4 ∷ 5 ∷ 4
    ∷ 3 ∷ 22 ∷ 5 ∷ 6 ∷ 5
    ∷ 2 ∷ 23 ∷ 9 ∷ OPEN ∷ 9
    ∷ replicate 137 0)

-- the calls that leave it, from a fresh register
abbrev pub to_three : List Call
to_three =
    Set 1 4 10 ∷ Set 1 5 11 ∷ Set 1 0 12 ∷ Set 1 1 13 ∷ Set 1 3 14 ∷ Clear 2 0 ∷ Clear 2 1 ∷ Clear 2 3
    ∷ Set 2 0 15 ∷ Set 2 2 16 ∷ Set 2 1 17 ∷ Set 2 3 18 ∷ Clear 2 3 ∷ Set 2 3 19 ∷ Clear 3 2 ∷ Clear 3 3
    ∷ Set 3 3 20 ∷ Clear 4 3 ∷ Set 4 3 21 ∷ Clear 5 3 ∷ Set 5 3 22 ∷ Clear 6 3 ∷ Set 9 2 23 ∷ []

-- the same with a full acceptor, whose fifth record has ended; and so with no further block (N = B)
abbrev pub brim : List ℕ
brim = three ▹ Head head_fill ≔ 5

abbrev pub out : List ℕ
out = brim ▹ Head head_blocks ≔ 3

-- b = 33, q = 2, B = D = 3, the clock at 9. Tags 0 and 1 stand in slots 0 and 1 of block 1; block 2, the acceptor, is
-- full, and tag 2 stands in its last slot, 32, whose bit is the lowest of the high word.
unfoldable pub wide : List ℕ
wide = store_of (settings_of 33 2 3 3) (cursor_of 2 9 33 0 1) (1 ∷ 2 ∷ []) (1 ∷ 2 ∷ 66 ∷ [])
    ((1 ∷ OPEN ∷ 0 ∷ 0 ∷ 0 ∷ 2 ∷ 3 ∷ 0 ∷ 0 ∷ 10 ∷ 1 ∷ OPEN ∷ 1 ∷ 1 ∷ 11 ∷ 1 ∷ OPEN ∷ 1 ∷ replicate 155 0)
    ++ (2 ∷ OPEN ∷ 1 ∷ 0 ∷ 0 ∷ 0 ∷ 0 ∷ 1 ∷ replicate 160 0)
    ++ (2 ∷ 12 ∷ 2 ∷ OPEN ∷ 2 ∷ replicate 173 0))

-- b = 6, q = 3, B = 3, D = 4, the clock at 9. Tags 0, 1 and 2 stand in block 1; block 2, the acceptor, has four
-- records, of which that in slot 2 stands, for tag 3.
unfoldable pub six : List ℕ
six = store_of (settings_of 6 3 3 4) (cursor_of 2 9 4 0 1) (1 ∷ 2 ∷ []) (1 ∷ 2 ∷ 3 ∷ 9 ∷ [])
    (1 ∷ OPEN ∷ 0 ∷ 0 ∷ 0 ∷ 2 ∷ 7 ∷ 0
    ∷ 0 ∷ 10 ∷ 1 ∷ OPEN ∷ 1
    ∷ 1 ∷ 11 ∷ 1 ∷ OPEN ∷ 1
    ∷ 2 ∷ 12 ∷ 1 ∷ OPEN ∷ 1
    ∷ 3 ∷ 13 ∷ 1 ∷ 1 ∷ 1
    ∷ 3 ∷ 14 ∷ 1 ∷ 1 ∷ 1
    ∷ 3 ∷ 15 ∷ 1 ∷ 2 ∷ 1
    ∷ 2 ∷ OPEN ∷ 1 ∷ 0 ∷ 0 ∷ 0 ∷ 4 ∷ 0
    ∷ 3 ∷ 16 ∷ 2 ∷ 3 ∷ 2
    ∷ 3 ∷ 17 ∷ 3 ∷ 4 ∷ 3
    ∷ 3 ∷ 18 ∷ 4 ∷ OPEN ∷ 4
    ∷ replicate 53 0)

-- b = 2, q = 1, B = 8, D = 3, the clock at 9. Blocks 2 and 6 are open; 1, 3, 4 and 5 closed at 9. At 8 the path is 6,
-- 2: between them lies 4, with last child 5 and left 3; block 0's last child is 1. No record stands.
unfoldable pub tree : List ℕ
tree = store_of (settings_of 2 1 8 3) (cursor_of 6 9 1 1 2) (1 ∷ 2 ∷ 3 ∷ 4 ∷ 5 ∷ 6 ∷ []) (0 ∷ 0 ∷ 0 ∷ [])
    ((1 ∷ 9 ∷ 0 ∷ 0 ∷ 0 ∷ 2 ∷ replicate 12 0)
    ++ (2 ∷ OPEN ∷ 0 ∷ 0 ∷ 4 ∷ 6 ∷ replicate 12 0)
    ++ (3 ∷ 9 ∷ 2 ∷ 0 ∷ 0 ∷ 4 ∷ replicate 12 0)
    ++ (4 ∷ 9 ∷ 2 ∷ 3 ∷ 5 ∷ 6 ∷ replicate 12 0)
    ++ (5 ∷ 9 ∷ 4 ∷ 0 ∷ 0 ∷ 6 ∷ replicate 12 0)
    ++ (6 ∷ OPEN ∷ 2 ∷ 0 ∷ 0 ∷ 0 ∷ replicate 48 0))

-- b = 2, q = 1, B = N = n, D = 1, the clock at 9, as many words as the layout has, all behind the head 0: n blocks that
-- were opened and closed at 0
unfoldable pub many : ℕ → ℕ → List ℕ
many n words =
    head_words (record { settings = settings_of 2 1 n 1; cursor = cursor_of n 9 1 0 1 }) ++ replicate (words - head_len) 0
