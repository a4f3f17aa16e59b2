-- The sheet's table of refusals: cause and number. "A number that any request adds joins document 01's table."
use Rattle.std.specs.Prelude.{ℕ}
use Rattle.record.specs.declared.Refusal.{Refusal}
use Rattle.record.specs.declared.Refusal.TheVariants.{Count, RoomSize, Overlap, Uncovered, FourMeet, LabelOutside, LabelTwice, BarredPattern, NoKind, ShortBody, BytesAfter, MissingRun, SeveralRuns, SpareBit, ShortOutput, PositionOutside, SamePosition, TextForm, NotSlicing, NameTwice, TooLong, BeyondBook, OtherSummary, OtherLength, ZeroSize, BrokenRelation, EmptyGroup, BadMove, OnlyRoom, NotCounted}

abbrev pub number_of : Refusal → ℕ
-- room or label list of 0 or over 255 entries
number_of Count = 1
-- room with right ≤ left or top ≤ bottom
number_of RoomSize = 2
-- two rooms share a unit square
number_of Overlap = 3
-- a unit square of the outline is in no room
number_of Uncovered = 4
-- four rooms meet at a point
number_of FourMeet = 5
-- label outside 1 to n
number_of LabelOutside = 6
-- label occurs twice
number_of LabelTwice = 7
-- barred pattern
number_of BarredPattern = 8
-- record empty or kind 0
number_of NoKind = 9
-- body shorter than its kind fixes
number_of ShortBody = 10
-- bytes after the body
number_of BytesAfter = 11
-- a triple needs a run that is missing
number_of MissingRun = 12
-- more than one run at the end
number_of SeveralRuns = 13
-- spare bit is 1
number_of SpareBit = 14
-- an output slice too short
number_of ShortOutput = 15
-- asked position outside 1 to n
number_of PositionOutside = 16
-- the two asked positions equal, or a position in both groups (M-109)
number_of SamePosition = 17
-- a text that breaks the form or is longer than 4,096 bytes (M-100)
number_of TextForm = 18
-- a plan that is not slicing (M-103)
number_of NotSlicing = 19
-- one nonzero name on two rooms (M-106)
number_of NameTwice = 20
-- a used part of a book that is or would become longer than 65,535 bytes (M-107), or a trace of over 65,535 bytes (M-111)
number_of TooLong = 21
-- a used length beyond the lent slice or a place beyond the used length (M-107)
number_of BeyondBook = 22
-- a summary that is not the book's (M-107)
number_of OtherSummary = 23
-- a list whose length is not n (M-108)
number_of OtherLength = 24
-- a size of 0 (M-108)
number_of ZeroSize = 25
-- a placing that breaks a relation (M-108)
number_of BrokenRelation = 26
-- an empty group (M-109)
number_of EmptyGroup = 27
-- a move of an unknown kind, without its body or with a triple above 7 (M-111)
number_of BadMove = 28
-- the only room is taken away (M-111)
number_of OnlyRoom = 29
-- a number of rooms that is 0 or above 17, whose plans are not counted (M-112)
number_of NotCounted = 30
