-- `advance` meets its contract: turned away it leaves all words, else those of its program.
use Rattle.layout.specs.declared.head.Head.{Head}
use Rattle.layout.specs.Head.{head_of}
use Rattle.layout.specs.RefusalLaws.{err_kept}
use Rattle.calls.specs.Placing.{advance_program}
use Rattle.calls.specs.Step.{advance}
use Rattle.changes.specs.ReplyLaws.{turned_away, carried_out, advance_able}
use Rattle.changes.proofs.advance.Goals as goal

pub returns-in_err-found : goal.returns-in_err-found
unfolding advance
returns-in_err-found c =
    let a = c.args in let h = head_of a.store.now in
    rw (err_kept c.from_residual.ensures.1) (turned_away (advance_program h.settings h.cursor a.second) c.in_err-found.ensures)

pub advance_program-next-requires : goal.advance_program-next-requires
advance_program-next-requires c = advance_able c.args.second _ c.in_ok-found.ensures

pub returns : goal.returns
unfolding advance
returns c =
    let a = c.args in
    carried_out (λ (x : Head). advance_program x.settings x.cursor a.second) c.in_ok-found.ensures c.advance_program-next.ensures
