-- `answer` meets its contract: what was seen, or refusal 12 with both buffers zero.
use Rattle.timeslice.specs.AnswerLaws.{answer_whole, answer_broken}
use Rattle.timeslice.proofs.past.Past.answer.Goals as goal

pub returns-in-Ok : goal.returns-in-Ok
returns-in-Ok c = answer_whole c.look.ensures c.in-Ok.is

pub returns-in-Err : goal.returns-in-Err
returns-in-Err c =
    answer_broken c.look.ensures c.in-Err.is c.look.auto.rows c.look.auto.list c.zero_all.ensures c.zero_all-in-Err.ensures
