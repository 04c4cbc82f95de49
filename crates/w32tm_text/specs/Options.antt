-- The options of a command: which ones it requires and allows, and where they stand in the words.
--
-- Places are counted from 0, with the first word, which is the command.
use Rattle.std.specs.Prelude.{◌≡◌, ◌≢◌, ◌<◌, ◌≤◌, ◌⊎◌, ℕ, Bool, true, false, List, [], ◌++◌, length, codes, slice_get, Option, Some, None}
use Rattle.edge_traits.specs.declared.datagram.Addr.{Addr}
use Rattle.text_grammar.specs.Address.{SpellsAddress, SpellsPort, SpellsSocketAddress}
use Rattle.w32tm_text.specs.declared.options.OptionName.{OptionName}
use Rattle.w32tm_text.specs.declared.options.OptionName.TheVariants.{Config, Keeper, Capture, Port, Clock, RpcPort, Computer, NoWait, Rediscover, Source, Bits}
use Rattle.w32tm_text.specs.declared.options.Rule.{Rule}
use Rattle.w32tm_text.specs.declared.options.Rule.TheVariants.{Required, Allowed, Refused}
use Rattle.w32tm_text.specs.declared.words.Action.{Action}
use Rattle.w32tm_text.specs.declared.words.Action.TheVariants.{Dc, Member, Monitor, Replay, Resync, QuerySource, QueryBits, Simulate, Service}
use Rattle.w32tm_text.specs.declared.words.Command.{Command}

-- how the words that give an option begin
abbrev pub name_text : OptionName → List ℕ
name_text Config = codes "/config:"
name_text Keeper = codes "/keeper:"
name_text Capture = codes "/capture:"
name_text Port = codes "/port:"
name_text Clock = codes "/clock:"
name_text RpcPort = codes "/rpcport:"
name_text Computer = codes "/computer:"
name_text NoWait = codes "/nowait"
name_text Rediscover = codes "/rediscover"
name_text Source = codes "/source"
name_text Bits = codes "/bits"

-- whether nothing stands behind that beginning
abbrev pub is_bare : OptionName → Bool
is_bare NoWait = true
is_bare Rediscover = true
is_bare Source = true
is_bare Bits = true
is_bare _ = false

-- Which options each command requires and which it allows besides; all others are refused. A call that doesn't wait
-- requires the option that says so, and one that waits refuses it; so it is with a rediscovery, and with what is asked
-- for by `/query`.
abbrev pub rule_of : Action → OptionName → Rule
rule_of (Dc turns) Config = Required
rule_of (Dc turns) Port = Allowed
rule_of (Member turns) Config = Required
rule_of (Member turns) Keeper = Required
rule_of (Member turns) Capture = Allowed
rule_of (Member turns) Port = Allowed
rule_of (Member turns) Clock = Allowed
rule_of Monitor Config = Required
rule_of Monitor Port = Allowed
rule_of Replay Config = Required
rule_of Replay Capture = Allowed
rule_of (Resync wait rediscover) Computer = Allowed
rule_of (Resync false rediscover) NoWait = Required
rule_of (Resync wait true) Rediscover = Required
rule_of QuerySource Source = Required
rule_of QuerySource Computer = Allowed
rule_of QueryBits Bits = Required
rule_of QueryBits Computer = Allowed
rule_of (Simulate seed operations) Capture = Allowed
rule_of (Service sessions) Config = Required
rule_of (Service sessions) Keeper = Required
rule_of (Service sessions) Capture = Allowed
rule_of (Service sessions) Port = Allowed
rule_of (Service sessions) Clock = Allowed
rule_of (Service sessions) RpcPort = Allowed
rule_of _ _ = Refused

-- the word gives the option: its name, and then this value, which is empty where the name is all
pub record Gives (name : OptionName) (word value : List ℕ) : Type 0 where
  pub written : word ≡ name_text name ++ value
  pub bare : is_bare name ≡ true → value ≡ []

-- the word at this place, behind the first one, gives the option with this value
pub record GivesAt (name : OptionName) (words : List (List ℕ)) (place : ℕ) (value : List ℕ) : Type 0 where
  pub behind : 1 ≤ place
  pub word : List ℕ
  pub there : slice_get words place ≡ Some word
  pub gives : Gives name word value

-- no word behind the first gives the option
abbrev pub IsMissing : OptionName → List (List ℕ) → Type 0
IsMissing name words = (place : ℕ) (value : List ℕ) → GivesAt name words place value → ⊥

-- at most one word gives the option
pub record IsSingle (name : OptionName) (words : List (List ℕ)) : Type 0 where
  pub one : (a b : ℕ) (x y : List ℕ) → GivesAt name words a x → GivesAt name words b y → a ≡ b

-- in which word the path of an option stands: none gives it, or the one at that place, and the path is any text that
-- isn't empty
abbrev pub SpellsPlace : OptionName → List (List ℕ) → Option ℕ → Type 0
SpellsPlace name words None = IsMissing name words
SpellsPlace name words (Some place) = (path : List ℕ) × (0 < length path) × GivesAt name words place path

-- which number an option gives: no word gives one, or one does, a decimal of 1 to 65,535
abbrev pub SpellsPortOption : OptionName → List (List ℕ) → Option ℕ → Type 0
SpellsPortOption name words None = IsMissing name words
SpellsPortOption name words (Some port) = (place : ℕ) × (digits : List ℕ) × SpellsPort port digits × GivesAt name words place digits

-- `ADDRESS`, with the port 49,152
pub record SpellsHost (addr : Addr) (text : List ℕ) : Type 0 where
  pub ip : SpellsAddress addr.ip text
  pub port : addr.port ≡ 49152

-- `ADDRESS` or `ADDRESS:PORT`
abbrev pub SpellsTarget : Addr → List ℕ → Type 0
SpellsTarget addr text = SpellsHost addr text ⊎ SpellsSocketAddress addr.ip addr.port text

-- the service of the own machine, 127.0.0.1:49152
abbrev pub own_service : Addr
own_service = record { ip = 2130706433; port = 49152 }

-- a word names the service that is called
pub record NamesTarget (addr : Addr) (words : List (List ℕ)) : Type 0 where
  pub place : ℕ
  pub text : List ℕ
  pub gives : GivesAt Computer words place text
  pub spelled : SpellsTarget addr text

-- none does, and the one of the own machine is called
pub record NamesNoTarget (addr : Addr) (words : List (List ℕ)) : Type 0 where
  pub missing : IsMissing Computer words
  pub own : addr ≡ own_service

-- the service that is called
abbrev pub SpellsTargetOption : Addr → List (List ℕ) → Type 0
SpellsTargetOption addr words = NamesTarget addr words ⊎ NamesNoTarget addr words

-- the word gives an option that the command doesn't refuse
pub record GivesOneOf (action : Action) (word : List ℕ) : Type 0 where
  pub name : OptionName
  pub value : List ℕ
  pub has : rule_of action name ≢ Refused
  pub gives : Gives name word value

-- the words behind the first are options of the command, each at most once, in any order, and say what it holds; those
-- that it requires are there
pub record SpellOptions (c : Command) (words : List (List ℕ)) : Type 0 where
  pub config : SpellsPlace Config words c.config
  pub keeper : SpellsPlace Keeper words c.keeper
  pub capture : SpellsPlace Capture words c.capture
  pub port : SpellsPortOption Port words c.port
  pub clock : SpellsPlace Clock words c.clock
  pub rpc_port : SpellsPortOption RpcPort words c.rpc_port
  pub computer : SpellsTargetOption c.computer words
  pub all : (place : ℕ) (word : List ℕ) → 1 ≤ place → slice_get words place ≡ Some word → GivesOneOf c.action word
  pub once : (name : OptionName) → IsSingle name words
  pub required : (name : OptionName) → rule_of c.action name ≡ Required → ¬ IsMissing name words
