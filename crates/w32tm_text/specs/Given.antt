-- What the words behind the first say of a command, part by part.
use Rattle.std.specs.Prelude.{◌≡◌, ◌≢◌, ◌≤◌, ℕ, List, Bool, true, false, Some, ⊤, slice_get}
use Rattle.w32tm_text.specs.declared.options.OptionName.{OptionName}
use Rattle.w32tm_text.specs.declared.options.OptionName.TheVariants.{NoWait, Rediscover, Source}
use Rattle.w32tm_text.specs.declared.options.Rule.TheVariants.{Required, Refused}
use Rattle.w32tm_text.specs.declared.words.Action.{Action}
use Rattle.w32tm_text.specs.declared.words.Action.TheVariants.{Resync, QuerySource, QueryBits}
use Rattle.w32tm_text.specs.Options.{Gives, GivesOneOf, IsMissing, IsSingle, rule_of}

-- whether some word gives the option
abbrev pub IsFlag : OptionName → List (List ℕ) → Bool → Type 0
IsFlag name words true = ¬ IsMissing name words
IsFlag name words false = IsMissing name words

-- the word gives this option, and the command has it
pub record TakesOption (action : Action) (word : List ℕ) (name : OptionName) : Type 0 where
  pub value : List ℕ
  pub has : rule_of action name ≢ Refused
  pub gives : Gives name word value

-- each word behind the first gives an option that the command has
abbrev pub AreOptions : Action → List (List ℕ) → Type 0
AreOptions action words = (place : ℕ) (word : List ℕ) → 1 ≤ place → slice_get words place ≡ Some word → GivesOneOf action word

-- no option is given twice, and each that the command requires is given
pub record IsComplete (action : Action) (words : List (List ℕ)) (name : OptionName) : Type 0 where
  pub single : IsSingle name words
  pub required : rule_of action name ≡ Required → ¬ IsMissing name words

abbrev pub AreComplete : Action → List (List ℕ) → Type 0
AreComplete action words = (name : OptionName) → IsComplete action words name

-- and whether none does
abbrev pub IsAbsent : OptionName → List (List ℕ) → Bool → Type 0
IsAbsent name words true = IsMissing name words
IsAbsent name words false = ¬ IsMissing name words

-- the options that say which command of several with one first word it is
abbrev pub SpellsFlags : Action → List (List ℕ) → Type 0
SpellsFlags (Resync wait rediscover) words = IsAbsent NoWait words wait × IsFlag Rediscover words rediscover
SpellsFlags QuerySource words = ¬ IsMissing Source words
SpellsFlags QueryBits words = IsMissing Source words
SpellsFlags _ words = ⊤
