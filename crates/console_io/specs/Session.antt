-- A RUN OVER READERS, in relations: a session before and after some bytes that were fed, after a read, after every read, and a whole run.
-- What the operating system read or wrote no contract can say: the input is the bytes that the reads left in their buffer, the output the lines
-- that were handed to `emit`.
use Rattle.std.specs.Prelude.{◌≡◌, Bool, not, eqb, List, ℕ, ◌+◌, ◌<◌, min, length, take}
use Rattle.console_text.specs.Output.{output_names}
use Rattle.console_run.specs.Console.{lent, blank, joined, console_output}
use Rattle.console_run.specs.Feed.{begun, count_most, ConsoleState, state, after_byte, fed, fed_all, step_lines, fed_lines}
use Rattle.console_io.specs.declared.sink.Sink.{Sink}
use Rattle.console_io.specs.declared.Session.{Session}
use Rattle.console_io.specs.Sinks.{Emitted, Sent}

-- A session: the console's state, and where its lines go.
pub record Running : Type 0 where
  pub state : ConsoleState
  pub sink : Sink

abbrev pub running : Session → Running
running s = record { state = state s.console (lent s.store s.rows s.list); sink = s.sink }

-- Before the first byte: the names line was handed on.
pub record Begins (before : Sink) (after : Running) : Type 0 where
  pub begins : after.state ≡ state begun blank
  pub sent : Emitted output_names before after.sink

-- One byte was fed, and the lines of its step were handed on.
pub record FedByte (x : ℕ) (before after : Running) : Type 0 where
  pub reached : after.state ≡ after_byte before.state x
  pub sent : Sent before.sink (step_lines (fed before.state.console before.state.lent x)) after.sink

-- These bytes were fed in order until the run was over, and the lines of each step were handed on.
pub record FedBytes (input : List ℕ) (before after : Running) : Type 0 where
  pub reached : after.state ≡ fed_all before.state input
  pub sent : Sent before.sink (fed_lines before.state input) after.sink

-- A read answered `got`: the bytes that it left at the start of the chunk were fed, all of them; the input goes on if it left any.
pub record FedRead (got : ℕ) (chunk : List ℕ) (before : Running) (more : Bool) (after : Running) : Type 0 where
  pub fed : FedBytes (take (min got (length chunk)) chunk) before after
  pub goes_on : more ≡ not (eqb (min got (length chunk)) 0)

-- One read into the chunk, whatever it answered: what is fed is what this chunk holds after it.
pub record ReadSome (chunk : List ℕ) (before : Running) (more : Bool) (after : Running) : Type 0 where
  pub got : ℕ
  pub fed : FedRead got chunk before more after

-- All reads: there are bytes that were fed, in order. (That they are the chunks of the reads, one after another, is read off `read_all`.)
pub record ReadAll (before after : Running) : Type 0 where
  pub input : List ℕ
  pub fed : FedBytes input before after

-- A WHOLE RUN: there are input bytes for which the lines handed on are the console's output. (That these are the bytes read is read off `read_all`; 64 bits
-- count the lines; that bytes left unread once the run is over would change nothing is `unread` of console_run.)
pub record Ran (before after : Sink) : Type 0 where
  pub input : List ℕ
  pub lines : List (List ℕ)
  pub sent : Sent before lines after
  pub output : 1 + length input < count_most → joined lines ≡ console_output input
