-- ONE CALL on any words: its answer, and all lent words as it leaves them, refused calls too.
use Rattle.std.specs.Prelude.{cond, List, [], ◌∷◌, ℕ, eqb, length}
use Rattle.layout.specs.declared.settings.Settings.{Settings}
use Rattle.layout.specs.declared.head.Cursor.{Cursor}
use Rattle.layout.specs.Memory.{Memory}
use Rattle.layout.specs.Program.{Prog, run}
use Rattle.layout.specs.Head.{fresh_head, head_of, with_head, cleared}
use Rattle.layout.specs.OnWords.{over}
use Rattle.calls.specs.Calls.{Query, LookBack, Window, Call, Start, Set, Clear, Update, Advance, Ask, Answer, Done, Refused, QueryReply, Reply}
use Rattle.calls.specs.Placing.{set_program, clear_program, update_program, advance_program}
use Rattle.calls.specs.Refusals.{Test, refusal, start_tests, time_tests, set_tests, clear_tests, look_back_tests}
use Rattle.calls.specs.LookBack.{look_at, is_unsound, look_back}
use Rattle.calls.specs.Window.{window_tests, window}

-- a call that is lent the store only: accepted if no test applies, else refused with all words as before
abbrev pub reply : List Test → List ℕ → Answer → List ℕ → Reply
reply tests ws answer after =
    cond (eqb (refusal tests) 0)
    (record { answer = answer; store = after; lent = [] })
    (record { answer = Refused (refusal tests); store = ws; lent = [] })

-- ---- start: the layout filled with zeros, then the head
unfoldable pub start : List ℕ → Settings → Reply
start ws s = reply (start_tests s ws) ws (Done (fresh_head s)) (with_head (fresh_head s) (cleared s ws))

-- ---- a change or clock move: its program on the words, and the next head
abbrev pub words_read : List ℕ → Memory
words_read ws = (over (head_of ws).settings).read ws

abbrev pub change : List Test → List ℕ → Prog Cursor → Reply
change tests ws p =
    let left = run (over (head_of ws).settings) p ws in
    reply tests ws (Done (record { settings = (head_of ws).settings; cursor = left.0 })) left.1

unfoldable pub set : List ℕ → ℕ → ℕ → ℕ → Reply
set ws s tag reading = let h = head_of ws in change (set_tests ws (words_read ws) s tag) ws (set_program h.settings h.cursor s tag reading)

unfoldable pub clear : List ℕ → ℕ → ℕ → Reply
clear ws s tag = let h = head_of ws in change (clear_tests 0 ws (words_read ws) s tag) ws (clear_program h.settings h.cursor s tag)

unfoldable pub update : List ℕ → ℕ → ℕ → ℕ → Reply
update ws s tag reading =
    let h = head_of ws in
    change (clear_tests 1 ws (words_read ws) s tag) ws (update_program h.settings h.cursor s tag reading)

unfoldable pub advance : List ℕ → ℕ → Reply
advance ws s = let h = head_of ws in change (time_tests ws s []) ws (advance_program h.settings h.cursor s)

-- ---- a query: what it answers, and its buffers after it
abbrev pub answer_to : List ℕ → Query → QueryReply
answer_to ws (LookBack t rows list) = let r = look_back ws t rows list in record { answer = r.answer; lent = r.rows ∷ r.list ∷ [] }
answer_to ws (Window first last rows) = window ws first last rows

-- its refusals on these words, in order
abbrev pub query_tests : List ℕ → Query → List Test
query_tests ws (LookBack t rows list) = look_back_tests ws t (length rows) (length list) (is_unsound (look_at ws t))
query_tests ws (Window first last rows) = window_tests ws first last (length rows)

-- ---- any call; a query leaves the store as it is
abbrev pub step : List ℕ → Call → Reply
step ws (Start s) = start ws s
step ws (Set s tag reading) = set ws s tag reading
step ws (Clear s tag) = clear ws s tag
step ws (Update s tag reading) = update ws s tag reading
step ws (Advance s) = advance ws s
step ws (Ask q) = record { answer = (answer_to ws q).answer; store = ws; lent = (answer_to ws q).lent }

-- the refusals of a call on these words, in order
abbrev pub tests_of : List ℕ → Call → List Test
tests_of ws (Start s) = start_tests s ws
tests_of ws (Set s tag reading) = set_tests ws (words_read ws) s tag
tests_of ws (Clear s tag) = clear_tests 0 ws (words_read ws) s tag
tests_of ws (Update s tag reading) = clear_tests 1 ws (words_read ws) s tag
tests_of ws (Advance s) = time_tests ws s []
tests_of ws (Ask q) = query_tests ws q
