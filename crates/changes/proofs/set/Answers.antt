-- `set` meets its contract: turned away it leaves all words, else those of its program.
use Rattle.layout.specs.declared.head.Head.{Head}
use Rattle.layout.specs.Head.{head_of}
use Rattle.layout.specs.RefusalLaws.{err_kept}
use Rattle.calls.specs.Placing.{set_program}
use Rattle.calls.specs.Step.{set}
use Rattle.changes.specs.ReplyLaws.{turned_away, carried_out, set_able}
use Rattle.changes.proofs.set.Goals as goal

pub returns-in_err-found : goal.returns-in_err-found
unfolding set
returns-in_err-found c =
    let a = c.args in let h = head_of a.store.now in
    rw (err_kept c.from_residual.ensures.1) (turned_away (set_program h.settings h.cursor a.second a.tag a.reading) c.in_err-found.ensures)

pub set_program-next-requires : goal.set_program-next-requires
set_program-next-requires c = let a = c.args in set_able a.second _ _ _ c.in_ok-found.ensures

pub returns : goal.returns
unfolding set
returns c =
    let a = c.args in
    carried_out (λ (x : Head). set_program x.settings x.cursor a.second a.tag a.reading) c.in_ok-found.ensures c.set_program-next.ensures
