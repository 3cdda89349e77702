use Rattle.std.proofs.Common.{arith}
use Rattle.model.proofs.buffer.marked.Goals as goal

pub returns : goal.returns
returns g c = λ place h.
    let long = c.from_fn.ensures.items.long in
    let at = c.from_fn.ensures.items.at place 0 (omega arith) in at.2.met
