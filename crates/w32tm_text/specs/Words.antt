-- The grammar of the words of the command line, as a relation between a command and its spelling.
use Rattle.std.specs.Prelude.{◌≡◌, ◌<◌, ◌≤◌, ◌^◌, ℕ, Bool, List, ◌∷◌, ◌++◌, length, map, codes, decimal, Option, Some, None, Ok, String, string_bytes}
use Rattle.std.specs.declared.alloc.Global.{Global}
use Rattle.hex.specs.Hex.{decode_of}
use Rattle.key_book.specs.declared.account.Account.{Account}
use Rattle.key_book.specs.AccountText.{SpellsKey}
use Rattle.w32tm_text.specs.declared.words.Action.{Action}
use Rattle.w32tm_text.specs.declared.words.Action.TheVariants.{Sign, Show, Dc, Member, Monitor, Replay, Resync, QuerySource, QueryBits, Simulate, Service}
use Rattle.w32tm_text.specs.declared.words.Command.{Command}
use Rattle.w32tm_text.specs.Options.{SpellOptions}

-- the bytes of the words
abbrev pub texts : List (String Global) → List (List ℕ)
texts words = map string_bytes words

-- what stands between the parts of a word
abbrev pub colon : ℕ
colon = 58

-- `KEY` where there is no previous key, and `KEY:PREVIOUS` where there is one
abbrev pub SpellsKeys : List ℕ → Option (List ℕ) → List ℕ → Type 0
SpellsKeys current None text = SpellsKey current text
SpellsKeys current (Some previous) text =
    (first : List ℕ) × (second : List ℕ) × (text ≡ first ++ colon ∷ second)
    × SpellsKey current first × SpellsKey previous second

-- `RID:KEY` or `RID:KEY:PREVIOUS`: RID is a decimal of 32 bits without sign or leading zero, and a key is 32
-- hexadecimal digits in either case
pub record SpellsAccount (account : Account) (text : List ℕ) : Type 0 where
  pub fits : account.rid < 2 ^ 32
  pub keys : List ℕ
  pub written : text ≡ decimal account.rid ++ colon ∷ keys
  pub keys_spelled : SpellsKeys account.current account.previous keys

-- `/sign:` and an account
pub record SpellsSign (account : Account) (word : List ℕ) : Type 0 where
  pub text : List ℕ
  pub written : word ≡ codes "/sign:" ++ text
  pub spelled : SpellsAccount account text

-- at most 256 bytes, each of them two hexadecimal digits in either case
pub record SpellsDatagram (bytes digits : List ℕ) : Type 0 where
  pub within : length bytes ≤ 256
  pub spelled : decode_of digits ≡ Ok bytes

-- `/show:` and the digits of a datagram
pub record SpellsShow (bytes word : List ℕ) : Type 0 where
  pub digits : List ℕ
  pub written : word ≡ codes "/show:" ++ digits
  pub spelled : SpellsDatagram bytes digits

-- the name of a command and the number of its turns, a decimal of 1 to 1,000,000
pub record SpellsTurns (name : List ℕ) (turns : ℕ) (word : List ℕ) : Type 0 where
  pub some : 1 ≤ turns
  pub most : turns ≤ 1000000
  pub written : word ≡ name ++ decimal turns

-- `/service:` and the number of sessions, a decimal of 1 to 10,000
pub record SpellsService (sessions : ℕ) (word : List ℕ) : Type 0 where
  pub some : 1 ≤ sessions
  pub most : sessions ≤ 10000
  pub written : word ≡ codes "/service:" ++ decimal sessions

-- `SEED:N`: a decimal of 32 bits, and a decimal of 1 to 100,000
pub record SpellsScript (seed operations : ℕ) (text : List ℕ) : Type 0 where
  pub fits : seed < 2 ^ 32
  pub some : 1 ≤ operations
  pub most : operations ≤ 100000
  pub written : text ≡ decimal seed ++ colon ∷ decimal operations

-- `/simulate:`, and the seed and the number of operations of a script
pub record SpellsSimulate (seed operations : ℕ) (word : List ℕ) : Type 0 where
  pub text : List ℕ
  pub written : word ≡ codes "/simulate:" ++ text
  pub spelled : SpellsScript seed operations text

-- The first word says what is to be done. Where commands have one first word, they differ in what they require.
abbrev pub SpellsAction : Action → List ℕ → Type 0
SpellsAction (Sign account) word = SpellsSign account word
SpellsAction (Show bytes) word = SpellsShow bytes word
SpellsAction (Dc turns) word = SpellsTurns (codes "/dc:") turns word
SpellsAction (Member turns) word = SpellsTurns (codes "/member:") turns word
SpellsAction Monitor word = word ≡ codes "/monitor"
SpellsAction Replay word = word ≡ codes "/replay"
SpellsAction (Resync wait rediscover) word = word ≡ codes "/resync"
SpellsAction QuerySource word = word ≡ codes "/query"
SpellsAction QueryBits word = word ≡ codes "/query"
SpellsAction (Simulate seed operations) word = SpellsSimulate seed operations word
SpellsAction (Service sessions) word = SpellsService sessions word

-- the words are those of the command: the first says what is to be done, and the options stand behind it
pub record SpellsCommand (c : Command) (words : List (List ℕ)) : Type 0 where
  pub first : List ℕ
  pub rest : List (List ℕ)
  pub are : words ≡ first ∷ rest
  pub action : SpellsAction c.action first
  pub options : SpellOptions c words

-- the words spell a command with this action
pub record IsCommand (action : Action) (words : List (List ℕ)) : Type 0 where
  pub command : Command
  pub is : command.action ≡ action
  pub spelled : SpellsCommand command words

-- the words spell `/sign` for an account
abbrev pub IsSign : Account → List (List ℕ) → Type 0
IsSign account words = IsCommand (Sign account) words

-- the words spell `/show` for these bytes
abbrev pub IsShow : List ℕ → List (List ℕ) → Type 0
IsShow bytes words = IsCommand (Show bytes) words

-- the words spell `/dc` for so many turns
abbrev pub IsDc : ℕ → List (List ℕ) → Type 0
IsDc turns words = IsCommand (Dc turns) words

-- the words spell `/member` for so many turns
abbrev pub IsMember : ℕ → List (List ℕ) → Type 0
IsMember turns words = IsCommand (Member turns) words

-- the words spell `/monitor`
abbrev pub IsMonitor : List (List ℕ) → Type 0
IsMonitor words = IsCommand Monitor words

-- the words spell `/replay`
abbrev pub IsReplay : List (List ℕ) → Type 0
IsReplay words = IsCommand Replay words

-- the words spell `/resync`, with a wait for its result or not, and with a rediscovery or not
abbrev pub IsResync : Bool → Bool → List (List ℕ) → Type 0
IsResync wait rediscover words = IsCommand (Resync wait rediscover) words

-- the words spell `/query /source`
abbrev pub IsQuerySource : List (List ℕ) → Type 0
IsQuerySource words = IsCommand QuerySource words

-- the words spell `/query /bits`
abbrev pub IsQueryBits : List (List ℕ) → Type 0
IsQueryBits words = IsCommand QueryBits words

-- the words spell `/simulate` with this seed, for so many operations
abbrev pub IsSimulate : ℕ → ℕ → List (List ℕ) → Type 0
IsSimulate seed operations words = IsCommand (Simulate seed operations) words

-- the words spell `/service` for so many sessions
abbrev pub IsService : ℕ → List (List ℕ) → Type 0
IsService sessions words = IsCommand (Service sessions) words

-- the words spell no command
abbrev pub SpellNothing : List (List ℕ) → Type 0
SpellNothing words = (c : Command) → SpellsCommand c words → ⊥
