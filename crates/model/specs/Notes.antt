-- WHAT IS NOTED: a call is begun, and something did not agree. (What is printed of it, no clause says.)
use Rattle.model.specs.declared.notes.Notes.{Notes}
use Rattle.model.specs.Answers.{one_more}

-- The next call runs.
abbrev pub begun : Notes → Notes
begun n = record n { call = one_more n.call }

-- One more mismatch.
abbrev pub noted : Notes → Notes
noted n = record n { mismatches = one_more n.mismatches }
