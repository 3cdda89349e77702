-- The trees of closed blocks, the row of open ones, the index, and runs of a program
pub mod Row
pub mod RunLaws
pub mod Times
-- Records, their directory and log, the standing bits, and what the parts of a change do to all of these
pub mod Records
pub mod Timeline
pub mod Marks
pub mod Effects
-- The invariant, in the middle of a change too
pub mod State
pub mod Moving
-- The block book, and the book that a store shows
pub mod BookLaws
pub mod Layers
pub mod Counting
pub mod BookOf
pub mod BookParts
-- The changes, and the register at rest
pub mod Rolling
pub mod Changing
pub mod Rest
-- The closed words along a change, on any memory
pub mod Closed
pub mod Foretelling
-- Refusal 12 has no case on a register at rest
pub mod Sound
-- The plain log
pub mod MemberLaws
pub mod LogLaws
pub mod SoFar
pub mod RecordRows
pub mod EnoughRows
-- The look-back, over any reader
pub mod FoundWalk
pub mod Listed
pub mod SearchLaws
pub mod Right
pub mod Passes
pub mod ViewClaims
pub mod StoreAlike
-- Words that hold a memory, and every call on any words
pub mod TestLaws
pub mod Stored
pub mod Fresh
pub mod OneChange
pub mod EveryCall
pub mod EveryQuery
pub mod EveryLookBack
-- The window, on any words
pub mod Latest
pub mod WindowRows
pub mod ReadRecords
pub mod EveryWindow
pub mod AnyCall
-- Words after a history, and the theorems
pub mod LookReady
pub mod Honest
pub mod HonestView
pub mod HonestWindow
pub mod WindowClaims
pub mod HonestStep
pub mod ByAccount
pub mod Meanings
pub mod Whole
