-- `look` meets its contract: what search and path come to is the walk's answer.
use Rattle.std.proofs.Common.{ap, refl}
use Rattle.queries.specs.UnsoundLaws.{unsound_is}
use Rattle.timeslice.specs.AnswerLaws.{start_of, slices_nowhere, path_reach, slices_unsound, slices_whole, slices_none}
use Rattle.timeslice.proofs.past.Past.look.Goals as goal
use Rattle.timeslice.proofs.past.Past.look.Goals.{in-Some+in_ok-counts-in-Some, in-None}

pub returns-in_err-found : goal.returns-in_err-found
returns-in_err-found c = rw (unsound_is c.from_residual.ensures.0) (slices_nowhere c.args.self.now c.search.ensures c.in_err-found.was)

pub path-requires : goal.path-requires
path-requires c = path_reach c.args.self.now c.search.ensures c.in_ok-found.was c.requires (ap start_of c.in-Some.is)

pub returns-in_err-counts-in-Some : goal.returns-in_err-counts-in-Some
returns-in_err-counts-in-Some c =
    rw (unsound_is c.from_residual-in_err-counts-in-Some.ensures.0)
    (slices_unsound c.args.self.now c.search.ensures c.in_ok-found.was c.requires (ap start_of c.in-Some.is) c.path.ensures c.in_err-counts-in-Some.was)

pub returns : goal.returns
returns c =
    elim c.match-found.branch [
      | in-Some+in_ok-counts-in-Some w ↦
          rw (w.rows-is, w.list-is, w.counts-is)
          (slices_whole c.args.self.now c.search.ensures c.in_ok-found.was c.requires (ap start_of w.in-Some.is) w.path.ensures w.in_ok-counts-in-Some.was)
      | in-None w ↦
          rw (w.rows-is, w.list-is, w.counts-is)
          (slices_none c.args.self.now c.search.ensures c.in_ok-found.was c.requires (ap start_of w.in-None.is) refl)
    ]
