-- The lines of the report, each with its line feed.
use Rattle.std.specs.Prelude.{ℕ, Bool, true, false, List, [], ◌∷◌, ◌++◌, codes, decimal}
use Rattle.std.specs.Fmt.{signed_decimal}
use Rattle.monitor_run.specs.declared.finding.Finding.{Finding}
use Rattle.monitor_run.specs.declared.finding.Finding.TheVariants.{Answered, Wrong}
use Rattle.monitor_run.specs.declared.finding.Word.{Word}
use Rattle.monitor_run.specs.declared.finding.Word.TheVariants.{NoAnswer, BadLength, BadSource, BadMode, BadStratum, NoRequest, BadTimes}

-- the word of an error, as a line has it
abbrev pub word_text : Word → List ℕ
word_text NoAnswer = codes "NoAnswer"
word_text BadLength = codes "BadLength"
word_text BadSource = codes "BadSource"
word_text BadMode = codes "BadMode"
word_text BadStratum = codes "BadStratum"
word_text NoRequest = codes "NoRequest"
word_text BadTimes = codes "BadTimes"

-- the line of a computer with this name, of which this was found
abbrev pub line_of : List ℕ → Finding → List ℕ
line_of name (Answered offset delay stratum) =
    name ++ codes " offset=" ++ signed_decimal offset ++ codes " delay=" ++ signed_decimal delay
    ++ codes " stratum=" ++ decimal stratum ++ 10 ∷ []
line_of name (Wrong word) = name ++ codes " error=" ++ word_text word ++ 10 ∷ []

-- whether a line has no error
abbrev pub is_answered : Finding → Bool
is_answered (Answered offset delay stratum) = true
is_answered (Wrong word) = false

-- the last line: how many computers were asked, and how many of their lines have no error
abbrev pub computers_line : (computers answered : ℕ) → List ℕ
computers_line computers answered = codes "total computers=" ++ decimal computers ++ codes " answered=" ++ decimal answered ++ 10 ∷ []
