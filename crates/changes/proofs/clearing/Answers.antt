-- `clearing` meets its contract: turned away it leaves all words, else those of its program.
use Rattle.layout.specs.declared.head.Head.{Head}
use Rattle.layout.specs.Head.{head_of}
use Rattle.layout.specs.RefusalLaws.{err_kept}
use Rattle.placing.specs.Steps.{clearing_program}
use Rattle.decisions.specs.Verdict.{more}
use Rattle.changes.specs.Replied.{clearing}
use Rattle.changes.specs.ReplyLaws.{turned_away, carried_out, clearing_able, clearing_listed}
use Rattle.changes.proofs.clearing.Goals as goal

pub returns-in_err-found : goal.returns-in_err-found
unfolding clearing
returns-in_err-found c =
    let a = c.args in let h = head_of a.store.now in
    rw (err_kept c.from_residual.ensures.1) (turned_away (clearing_program h.settings h.cursor a.second a.tag a.reading) (rw c.is_some-renews.ensures at c.in_err-found.ensures))

pub clearing_program-next-requires : goal.clearing_program-next-requires
clearing_program-next-requires c =
    let a = c.args in
    record {
      able = clearing_able a.second a.tag a.reading (rw c.is_some-renews.ensures at c.in_ok-found.ensures);
      listed = clearing_listed a.second a.tag (more c.is_some-renews.result) c.in_ok-found.ensures;
    }

pub returns : goal.returns
unfolding clearing
returns c =
    let a = c.args in
    carried_out (λ (x : Head). clearing_program x.settings x.cursor a.second a.tag a.reading)
    (rw c.is_some-renews.ensures at c.in_ok-found.ensures) c.clearing_program-next.ensures
