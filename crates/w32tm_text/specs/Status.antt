-- Exit codes, and the lines on standard error.
use Rattle.std.specs.Prelude.{ℕ, List, [], ◌∷◌, ◌++◌, codes, decimal}
use Rattle.dc_sign.specs.declared.outcome.Refusal.{Refusal}
use Rattle.dc_sign.specs.declared.outcome.Refusal.TheVariants.{BadLength, BadVersion, BadMode, UnknownAccount, NoOldKey}
use Rattle.w32tm_text.specs.declared.status.Status.{Status}
use Rattle.w32tm_text.specs.declared.status.Status.TheVariants.{Done, BadWords, BadConfig, BadCapture, ReadFault, WriteFault, DiskFault, BadKeeper, StampsSpent, ClockFault, EntropyFault, NoPartner, NotResynced, PeerRefused, BadRequest, NoMemory}

-- the exit code of each status
abbrev pub code_of : Status → ℕ
code_of Done = 0
code_of BadWords = 1
code_of (BadConfig line) = 2
code_of (BadCapture at) = 3
code_of ReadFault = 4
code_of WriteFault = 5
code_of DiskFault = 6
code_of BadKeeper = 7
code_of StampsSpent = 8
code_of ClockFault = 9
code_of EntropyFault = 10
code_of NoPartner = 11
code_of (NotResynced result) = 12
code_of PeerRefused = 13
code_of (BadRequest reason) = 14
code_of NoMemory = 15

-- the name of each reason for a refusal
abbrev pub name_of : Refusal → List ℕ
name_of BadLength = codes "BadLength"
name_of BadVersion = codes "BadVersion"
name_of BadMode = codes "BadMode"
name_of UnknownAccount = codes "UnknownAccount"
name_of NoOldKey = codes "NoOldKey"

-- the line of each status, with its line feed; what was done has none
abbrev pub line_of : Status → List ℕ
line_of Done = []
line_of BadWords = codes "w32tm: bad words" ++ 10 ∷ []
line_of (BadConfig line) = codes "w32tm: bad settings at line " ++ decimal line ++ 10 ∷ []
line_of (BadCapture at) = codes "w32tm: bad capture at byte " ++ decimal at ++ 10 ∷ []
line_of ReadFault = codes "w32tm: read fault" ++ 10 ∷ []
line_of WriteFault = codes "w32tm: write fault" ++ 10 ∷ []
line_of DiskFault = codes "w32tm: disk fault" ++ 10 ∷ []
line_of BadKeeper = codes "w32tm: bad keeper" ++ 10 ∷ []
line_of StampsSpent = codes "w32tm: stamps spent" ++ 10 ∷ []
line_of ClockFault = codes "w32tm: clock fault" ++ 10 ∷ []
line_of EntropyFault = codes "w32tm: entropy fault" ++ 10 ∷ []
line_of NoPartner = codes "w32tm: no partner" ++ 10 ∷ []
line_of (NotResynced result) = codes "w32tm: not resynced, result " ++ decimal result ++ 10 ∷ []
line_of PeerRefused = codes "w32tm: peer refused" ++ 10 ∷ []
line_of (BadRequest reason) = codes "w32tm: bad request, " ++ name_of reason ++ 10 ∷ []
line_of NoMemory = codes "w32tm: no memory" ++ 10 ∷ []
