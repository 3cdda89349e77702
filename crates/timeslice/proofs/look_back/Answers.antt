-- `look_back` meets its contract: refusals 2, 3 and 4 are the store's, 5 to 11 its own tests', 12 the walk's.
use Rattle.layout.specs.RefusalLaws.{err_kept}
use Rattle.timeslice.specs.AnswerLaws.{store_refused, slice_refused, slice_answers}
use Rattle.timeslice.proofs.look_back.Goals as goal

pub returns-in_err-opened : goal.returns-in_err-opened
returns-in_err-opened c = rw (err_kept c.from_residual.ensures.1) (store_refused _ _ _ _ c.in_err-opened.ensures)

pub returns-in_err-test : goal.returns-in_err-test
returns-in_err-test c = rw (err_kept c.from_residual-in_err-test.ensures.1) (slice_refused c.in_ok-opened.ensures _ c.in_err-test.ensures)

pub returns : goal.returns
returns c = slice_answers c.in_ok-opened.ensures _ c.in_ok-test.ensures c.answer.ensures
