-- Lines handed to a sink: one line that was printed, some after others, and all of them by a count.
use Rattle.std.specs.Prelude.{◌≡◌, List, [], ◌++◌, ℕ, ◌+◌, ◌≤◌, ◌<◌, ◌-◌, ℤ, length, get_or, drop}
use Rattle.std.proofs.Common.{arith, add-one, drop_of_length-le, drop-cons}
use Rattle.console_run.specs.Console.{Told, said_lines}
use Rattle.console_run.specs.Feed.{next_number}
use Rattle.console_run.specs.PrintLaws.{line_count, said_count}
use Rattle.console_io.specs.declared.sink.Sink.{Sink}
use Rattle.console_io.specs.declared.sink.Sink.TheVariants.{Compare, Pick}
use Rattle.console_io.specs.Sinks.{Emitted, written, equal, other, late, picked, Sent, none, next, FirstDifference, unasked, whole, short, found, uncompared}

-- ---- one line

-- (By constructor where the words of the sink are taken as they are; a descriptor that is written anew is the same by an equation.)
module _ {a : Sink} {line : List ℕ} where
  pub emit_equal : {fd same : ℤ} {n m : ℕ} → a ≡ Compare fd n → same ≡ fd → m ≡ next_number n → Emitted line a (Compare same m)
  emit_equal {fd} {same} {n} e g f = rw (e, g, f) (equal fd n)

  pub emit_picked : {fd same : ℤ} {n m : ℕ} → a ≡ Pick fd n → same ≡ fd → m ≡ n - 1 → Emitted line a (Pick same m)
  emit_picked {fd} {same} {n} e g f = rw (e, g, f) (picked fd n)

pub ruleset emits = (written, emit_equal, other, late, emit_picked)

pub ruleset differences = (unasked, whole, short, found, uncompared)

-- The same line by another name.
pub emit_as : {a b : Sink} {line same : List ℕ} → same ≡ line → Emitted same a b → Emitted line a b
emit_as e h = rw (← e) h

-- Some lines, then others.
pub sent_on : {a b c : Sink} {l m : List (List ℕ)} → Sent a l b → Sent b m c → Sent a (l ++ m) c
sent_on none t = t
sent_on (next e s) t = next e (sent_on s t)

-- The first i lines are handed on, and the rest is left.
pub record SentTo (a : Sink) (lines : List (List ℕ)) (i : ℕ) (b : Sink) : Type 0 where
  pub within : i ≤ length lines
  pub rest : (c : Sink) → Sent b (drop i lines) c → Sent a lines c

module _ {a b : Sink} {lines : List (List ℕ)} {i : ℕ} (t : SentTo a lines i b) where
  pub sent_next : {c : Sink} → i < length lines → Emitted (get_or lines i []) b c → SentTo a lines (i + 1) c
  sent_next {c} h e = record {
    within = omega arith;
    rest = λ d s. t.rest d (rw (drop-cons lines i [] h) (next e (rw (add-one i) at s)));
  }

  pub sent_whole : length lines ≤ i → Sent a lines b
  sent_whole h = t.rest b (rw (drop_of_length-le lines h) none)

-- What is said is handed on line by line, by the count of its lines.
module _ {a b : Sink} (said : Told) (number : ℕ) (rows : List ℕ) {n i : ℕ} (e : n ≡ line_count said)
    (t : SentTo a (said_lines said number rows) i b) where
  pub said_next : {c : Sink} → i < n → Emitted (get_or (said_lines said number rows) i []) b c → SentTo a (said_lines said number rows) (i + 1) c
  said_next h f = sent_next t (omega (arith, e, said_count said number rows)) f

  pub said_whole : n ≤ i → Sent a (said_lines said number rows) b
  said_whole h = sent_whole t (omega (arith, e, said_count said number rows))
