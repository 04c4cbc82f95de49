-- What the options of a command that aren't named by its first word say of it.
use Rattle.std.proofs.Common.{◌≡◌, ℕ, List, ◌++◌, cond, get_or, true, false, refl, sym, ap, ◌∙◌}
use Rattle.std.specs.Prelude.{◌==◌}
use Rattle.w32tm_text.specs.declared.options.OptionName.{OptionName}
use Rattle.w32tm_text.specs.declared.options.OptionName.TheVariants.{Config, Keeper, Capture, Port, Clock, RpcPort, Computer, NoWait, Rediscover, Source, Bits}
use Rattle.w32tm_text.specs.declared.options.Rule.TheVariants.{Required, Refused}
use Rattle.w32tm_text.specs.declared.words.Action.{Action}
use Rattle.w32tm_text.specs.declared.words.Action.TheVariants.{Resync, QuerySource, QueryBits}
use Rattle.w32tm_text.specs.declared.words.Command.{Command}
use Rattle.w32tm_text.specs.Given.{AreOptions, SpellsFlags}
use Rattle.w32tm_text.specs.Options.{Gives, IsMissing, SpellOptions, name_text, rule_of}

-- which option a word gives, by its first letters
abbrev option_of : List ℕ → OptionName
option_of word =
    cond (get_or word 1 0 == 107) Keeper
    (cond (get_or word 1 0 == 112) Port
    (cond (get_or word 1 0 == 110) NoWait
    (cond (get_or word 1 0 == 114) (cond (get_or word 2 0 == 112) RpcPort Rediscover)
    (cond (get_or word 1 0 == 115) Source
    (cond (get_or word 1 0 == 98) Bits
    (cond (get_or word 2 0 == 97) Capture
    (cond (get_or word 2 0 == 108) Clock
    (cond (get_or word 3 0 == 110) Config Computer))))))))

of_name : (name : OptionName) (value : List ℕ) → option_of (name_text name ++ value) ≡ name
of_name Config value = refl
of_name Keeper value = refl
of_name Capture value = refl
of_name Port value = refl
of_name Clock value = refl
of_name RpcPort value = refl
of_name Computer value = refl
of_name NoWait value = refl
of_name Rediscover value = refl
of_name Source value = refl
of_name Bits value = refl

-- a word gives one option
one_name : (a b : OptionName) (word x y : List ℕ) → Gives a word x → Gives b word y → a ≡ b
one_name a b word x y first second = sym (of_name a x) ∙ ap option_of (sym first.written ∙ second.written) ∙ of_name b y

-- no word gives an option that the command refuses
missing : (action : Action) (words : List (List ℕ)) (name : OptionName) → rule_of action name ≡ Refused → AreOptions action words → IsMissing name words
missing action words name refused all place value gives =
    let one = all place gives.word gives.behind gives.there in
    one.has (ap (rule_of action) (one_name one.name name gives.word one.value value one.gives gives.gives) ∙ refused)

flags_by : (action : Action) (words : List (List ℕ)) → ((name : OptionName) → rule_of action name ≡ Required → ¬ IsMissing name words) → AreOptions action words
    → SpellsFlags action words
flags_by (Resync true true) words must all = (missing (Resync true true) words NoWait refl all, must Rediscover refl)
flags_by (Resync true false) words must all = (missing (Resync true false) words NoWait refl all, missing (Resync true false) words Rediscover refl all)
flags_by (Resync false true) words must all = (must NoWait refl, must Rediscover refl)
flags_by (Resync false false) words must all = (must NoWait refl, missing (Resync false false) words Rediscover refl all)
flags_by QuerySource words must all = must Source refl
flags_by QueryBits words must all = missing QueryBits words Source refl all
flags_by _ words must all = tt

-- the options of a command say which it is
pub flags_of : (c : Command) (words : List (List ℕ)) → SpellOptions c words → SpellsFlags c.action words
flags_of c words spelled = flags_by c.action words spelled.required spelled.all
