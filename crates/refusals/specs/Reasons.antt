-- The reasons of refusals, each with its number.
-- Assumes nothing.
use Rattle.std.specs.Prelude.{ℕ}
use Rattle.refusals.specs.declared.Reason.{Reason}
use Rattle.refusals.specs.declared.Reason.TheVariants as reason

abbrev pub number_of : Reason → ℕ
number_of reason.NotXmf = 1
number_of reason.BadVersion = 2
number_of reason.CutShort = 3
number_of reason.BadNumber = 4
number_of reason.WrongLength = 5
number_of reason.BadType = 6
number_of reason.BadTree = 7
number_of reason.BadNode = 8
number_of reason.TooDeep = 9
number_of reason.NoRowLeft = 10
number_of reason.BadContents = 11
number_of reason.BadUnpacker = 12
number_of reason.BadReference = 13
number_of reason.BadFolder = 14
number_of reason.BytesLeft = 15
number_of reason.BadTarget = 16
number_of reason.TooLarge = 17
number_of reason.NoSuchRow = 18
number_of reason.EndsAtFolder = 19
number_of reason.EndsAtUri = 20
number_of reason.TooManyHops = 21
number_of reason.NoRoom = 22
number_of reason.NoSuchItem = 23
number_of reason.BadDetached = 24
number_of reason.BadDescription = 25
number_of reason.BadText = 26
number_of reason.NoSuchCard = 27
number_of reason.NoFreeCard = 28
number_of reason.AlreadyThere = 29
number_of reason.SheetTooLong = 30
number_of reason.BadSheet = 31
number_of reason.TooManyFiles = 32
number_of reason.NotATag = 33
number_of reason.BadTag = 34
number_of reason.Unsynchronised = 35
number_of reason.RefersElsewhere = 36
number_of reason.NotATitle = 37
number_of reason.ResultTooLarge = 38
number_of reason.DamagedShelf = 39
