-- The numbers of the reasons for which a call is sent back, and the reasons in words.
use Rattle.std.specs.Prelude.{ℕ, List, Some, None, Option, codes}
use Rattle.keys.specs.declared.refusal.Refusal.{Refusal}
use Rattle.keys.specs.declared.refusal.Refusal.TheVariants.{StationCount, LedgerLimit, NestSize, LineSize, ShortTable, NoSuchStation, NotFree, StillFree, AlreadyReady, StillWaiting, LedgerFull, NoSpace, StationsBusy, OutOfRange, ShortList, NoMemory}

-- want of memory is no fault of the caller's, and has no number
abbrev pub number : Refusal → Option ℕ
number StationCount = Some 1
number LedgerLimit = Some 2
number NestSize = Some 3
number LineSize = Some 4
number ShortTable = Some 5
number NoSuchStation = Some 6
number NotFree = Some 7
number StillFree = Some 8
number AlreadyReady = Some 9
number StillWaiting = Some 10
number LedgerFull = Some 11
number NoSpace = Some 12
number StationsBusy = Some 13
number OutOfRange = Some 14
number ShortList = Some 15
number NoMemory = None

abbrev pub reason_text : Refusal → List ℕ
reason_text StationCount = codes "the number of stations is not 1 to 16"
reason_text LedgerLimit = codes "the number of ledger lines is not 1 to 1024"
reason_text NestSize = codes "the number of nodes for keys is not 1 to 512"
reason_text LineSize = codes "the number of nodes for elements is not 1 to 512"
reason_text ShortTable = codes "a table or a ledger is too short"
reason_text NoSuchStation = codes "there is no such station"
reason_text NotFree = codes "the station is not free"
reason_text StillFree = codes "the station is free"
reason_text AlreadyReady = codes "the station is ready"
reason_text StillWaiting = codes "the station still waits"
reason_text LedgerFull = codes "the ledger is full"
reason_text NoSpace = codes "the board has no space"
reason_text StationsBusy = codes "a station is still at work"
reason_text OutOfRange = codes "a number is out of its range"
reason_text ShortList = codes "the list is too short"
reason_text NoMemory = codes "memory is lacking"
