-- A session step by step: a byte, bytes by a count, a chunk, chunk after chunk, and the whole run. Rests on the lines' laws of console_run.
use Rattle.std.specs.Prelude.{◌≡◌, Bool, true, false, List, [], ◌∷◌, ◌++◌, ℕ, ◌+◌, ◌≤◌, ◌<◌, length, get_or, drop}
use Rattle.std.proofs.Common.{sym, ◌∙◌, arith, add-one, drop_of_length-le, drop-cons}
use Rattle.console_text.specs.Output.{output_names}
use Rattle.console_run.specs.declared.feed.Console.{Console}
use Rattle.console_run.specs.declared.feed.Step.{Step}
use Rattle.console_run.specs.Console.{Lent, Told, told, said_lines, missing, blank}
use Rattle.console_run.specs.Feed.{stepped, begun, last_taken, is_over, state, finish_lines, run_lines}
use Rattle.console_run.specs.FeedLaws.{all_none, all_over, all_more, in_chunks, lines_none, lines_over, lines_more, prints_output}
use Rattle.console_run.specs.SaidLaws.{lines_in_chunks}
use Rattle.console_io.specs.declared.sink.Sink.{Sink}
use Rattle.console_io.specs.Sinks.{Sent, none, next}
use Rattle.console_io.specs.SinkLaws.{sent_on}
use Rattle.console_io.specs.Session.{Running, Begins, FedByte, FedBytes, FedRead, ReadSome, ReadAll, Ran}

-- ---- bytes

-- No byte.
pub fed_nothing : (s : Running) → FedBytes [] s s
fed_nothing s = record { reached = sym (all_none s.state); sent = rw (lines_none s.state) none }

-- Once the run is over no byte changes anything.
pub fed_over : (s : Running) (input : List ℕ) → is_over s.state.console.stage ≡ true → FedBytes input s s
fed_over s input e = record { reached = sym (all_over s.state input e); sent = rw (lines_over s.state input e) none }

-- A byte, then more.
pub fed_more : {s t u : Running} {x : ℕ} {more : List ℕ} → is_over s.state.console.stage ≡ false → FedByte x s t → FedBytes more t u
    → FedBytes (x ∷ more) s u
fed_more {s} {t} {u} {x} {more} o f g = record {
  reached = g.reached ∙ rw f.reached (sym (all_more s.state x more o));
  sent = rw (lines_more s.state x more o) (sent_on f.sent (rw f.reached at g.sent));
}

-- Some bytes, then others.
pub fed_on : {s t u : Running} {input more : List ℕ} → FedBytes input s t → FedBytes more t u → FedBytes (input ++ more) s u
fed_on {s} {t} {u} {input} {more} f g = record {
  reached = g.reached ∙ rw f.reached (in_chunks s.state input more);
  sent = rw (lines_in_chunks s.state input more) (sent_on f.sent (rw f.reached at g.sent));
}

-- The first i bytes are fed, and the rest is left.
pub record FedTo (s : Running) (input : List ℕ) (i : ℕ) (t : Running) : Type 0 where
  pub within : i ≤ length input
  pub rest : (u : Running) → FedBytes (drop i input) t u → FedBytes input s u

module _ {s t : Running} {input : List ℕ} {i : ℕ} (f : FedTo s input i t) where
  pub to_over : is_over t.state.console.stage ≡ true → FedBytes input s t
  to_over e = f.rest t (fed_over t (drop i input) e)

  pub to_whole : length input ≤ i → FedBytes input s t
  to_whole h = f.rest t (rw (drop_of_length-le input h) (fed_nothing t))

  pub to_next : {u : Running} → i < length input → is_over t.state.console.stage ≡ false → FedByte (get_or input i 0) t u
      → FedTo s input (i + 1) u
  to_next {u} h o b = record {
    within = omega arith;
    rest = λ v g. f.rest v (rw (drop-cons input i 0 h) (fed_more o b (rw (add-one i) at g)));
  }

-- ---- reads

-- The same bytes by another name.
pub fed_as : {s t : Running} {input same : List ℕ} → input ≡ same → FedBytes same s t → FedBytes input s t
fed_as e f = rw e f

pub read_none : (s : Running) → ReadAll s s
read_none s = record { input = []; fed = fed_nothing s }

pub read_more : {s t u : Running} {got : ℕ} {chunk : List ℕ} {more : Bool} → ReadAll s t → FedRead got chunk t more u → ReadAll s u
read_more {chunk} r f = record { input = r.input ++ _; fed = fed_on r.fed f.fed }

-- A read by what it answered, and one after the others, whatever it answered.
pub read_as : {s t : Running} {got : ℕ} {chunk : List ℕ} {more : Bool} → FedRead got chunk s more t → ReadSome chunk s more t
read_as {got} f = record { got = got; fed = f }

pub read_next : {s t u : Running} {chunk : List ℕ} {more : Bool} → ReadAll s t → ReadSome chunk t more u → ReadAll s u
read_next r f = read_more r f.fed

-- ---- the whole run

-- At the end of the input: what the last line says, then a missing one.
pub finished : (c : Console) (words : Lent) (r : Step) {after : Console} {left : Lent} {last : Told} {a b d : Sink}
    → stepped r after left ≡ last_taken c words → Sent a (said_lines (told r.said) r.number left.rows) b
    → last ≡ missing after.stage → Sent b (said_lines last after.number left.rows) d
    → Sent a (finish_lines (state c words)) d
unfolding finish_lines
finished c words r e s f t = rw (← e) (sent_on s (rw f at t))

-- The names line, the bytes read, and the end of the input.
pub ran : {a d : Sink} {s t : Running} → Begins a s → ReadAll s t → Sent t.sink (finish_lines t.state) d → Ran a d
unfolding run_lines
ran n r f = record {
  input = r.input;
  lines = output_names ∷ run_lines (state begun blank) r.input;
  sent = next n.sent (sent_on (rw n.begins at r.fed.sent) (rw (r.fed.reached, n.begins) at f));
  output = prints_output r.input;
}
