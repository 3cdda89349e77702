-- The words of the head, of a block's head and of a record, by name: the second part of an address.
use Rattle.std.specs.Prelude.{ℕ}

-- `Head j`: mark, b, q, B, D, N, clock, fill, last child of block 0, right of block 0; six zeros from the last on
abbrev pub head_mark : ℕ
head_mark = 0

abbrev pub head_block : ℕ
head_block = 1

abbrev pub head_useful : ℕ
head_useful = 2

abbrev pub head_blocks : ℕ
head_blocks = 3

abbrev pub head_tags : ℕ
head_tags = 4

abbrev pub head_opened : ℕ
head_opened = 5

abbrev pub head_clock : ℕ
head_clock = 6

abbrev pub head_fill : ℕ
head_fill = 7

abbrev pub head_child : ℕ
head_child = 8

abbrev pub head_right : ℕ
head_right = 9

abbrev pub head_spare : ℕ
head_spare = 10

-- `Field n j`: the seconds and links of block n
abbrev pub opened_word : ℕ
opened_word = 0

abbrev pub closed_word : ℕ
closed_word = 1

abbrev pub up_word : ℕ
up_word = 2

abbrev pub left_word : ℕ
left_word = 3

abbrev pub child_word : ℕ
child_word = 4

abbrev pub right_word : ℕ
right_word = 5

-- `Slot n k i`: the record of slot k
abbrev pub tag_word : ℕ
tag_word = 0

abbrev pub reading_word : ℕ
reading_word = 1

abbrev pub from_word : ℕ
from_word = 2

abbrev pub to_word : ℕ
to_word = 3

abbrev pub since_word : ℕ
since_word = 4
