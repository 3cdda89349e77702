-- The rules by which the check follows a function's program: what a step asks, and what it leaves.
use Rattle.layout.specs.Ran.{then, done, taken, passed}
use Rattle.layout.specs.Moved.{after, onto, stays, moves, if_taken, if_passed}
use Rattle.placing.proofs.JudgeLaws.{judge_straight, judge_anew}

pub ruleset follows = (then, done, taken, passed, after, onto, stays, moves, if_taken, if_passed, judge_straight, judge_anew)
