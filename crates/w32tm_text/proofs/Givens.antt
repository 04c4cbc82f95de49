-- What the words of a command give, one place further, and by all of them.
use Rattle.std.proofs.Common.{◌≡◌, ◌+◌, ◌<◌, ◌≤◌, ℕ, inl, inr, List, [], ◌∷◌, length, get_or, Bool, true, false, Option, Some, None, IsTrue, IfSome, IfNone, refl, sym, ap, subst, ◌∙◌, arith}
use Rattle.std.specs.Prelude.{slice_get, option_map, String, string_bytes, not, is_some, HoldsAt, slice_index_or, MatchBool}
use Rattle.std.specs.List.{AllWithin}
use Rattle.std.specs.declared.alloc.Global.{Global}
use denote.Ref.{Bor}
use Rattle.std.proofs.lemmas.Bool.{cases_lt}
use Rattle.std.proofs.lemmas.List.{append_cancel_left, length-map}
use Rattle.std.proofs.lemmas.Option.{same_Some, slice_get-map, slice_get_read, slice_get_within}
use Rattle.edge_traits.specs.declared.datagram.Addr.{Addr}
use Rattle.w32tm_text.specs.declared.options.OptionName.{OptionName}
use Rattle.w32tm_text.specs.declared.options.OptionName.TheVariants.{Config, Keeper, Capture, Port, Clock, RpcPort, Computer, NoWait, Rediscover, Source, Bits}
use Rattle.w32tm_text.specs.declared.words.Action.{Action}
use Rattle.w32tm_text.specs.declared.words.Command.{Command}
use Rattle.w32tm_text.specs.Given.{AreOptions, IsFlag}
use Rattle.w32tm_text.specs.Options.{Gives, GivesAt, GivesOneOf, IsSingle, SpellsPlace, SpellsTarget, SpellsTargetOption, name_text}
use Rattle.w32tm_text.specs.Words.{texts}

-- the bytes of a word
pub word_at : (words : List (String Global)) (n : ℕ) (word : String Global) → n < length words → word ≡ get_or words n word → slice_get (texts words) n ≡ Some (string_bytes word)
word_at words n word below is = slice_get-map string_bytes words n ∙ ap (option_map string_bytes) (slice_get_read words (length words) n word refl below is)

-- there are as many texts as words
pub texts_len : (words : List (String Global)) → length (texts words) ≡ length words
texts_len words = length-map words string_bytes

-- no word from one place up to another gives the option
abbrev pub NoneBetween : OptionName → List (List ℕ) → ℕ → ℕ → Type 0
NoneBetween name words from n = (place : ℕ) (value : List ℕ) → from ≤ place → place < n → GivesAt name words place value → ⊥

pub none_yet : (name : OptionName) (words : List (List ℕ)) (from : ℕ) → NoneBetween name words from from
none_yet name words from place value behind below gives = omega arith

-- nor does the next one
pub none_more : (name : OptionName) (words : List (List ℕ)) (from n : ℕ) (word : List ℕ) → slice_get words n ≡ Some word
    → ((value : List ℕ) → Gives name word value → ⊥) → NoneBetween name words from n → NoneBetween name words from (n + 1)
none_more name words from n word is none before place value behind below gives = elim (cases_lt place n) [
  | inl earlier ↦ before place value behind earlier gives
  | inr late ↦
      let at : place ≡ n = omega arith in
      let same : gives.word ≡ word = same_Some _ _ (sym gives.there ∙ ap (slice_get words) at ∙ is) in
      none value (subst (λ (w : List ℕ). Gives name w value) same gives.gives)
]

-- no word from a place on gives the option, where none up to the last one does
pub none_left : (name : OptionName) (words : List (List ℕ)) (from n : ℕ) → length words ≤ n → NoneBetween name words from n
    → (place : ℕ) (value : List ℕ) → from ≤ place → GivesAt name words place value → ⊥
none_left name words from n all before place value behind gives =
    let few = slice_get_within words place _ gives.there in
    before place value behind (omega (arith, few)) gives

-- each word below a place, behind the first, gives an option that the command has
abbrev pub AreBelow : Action → List (List ℕ) → ℕ → Type 0
AreBelow action words n = (place : ℕ) (word : List ℕ) → 1 ≤ place → place < n → slice_get words place ≡ Some word → GivesOneOf action word

pub none_below : (action : Action) (words : List (List ℕ)) → AreBelow action words 1
none_below action words place word behind below is = absurd (omega arith)

pub one_below : (action : Action) (words : List (List ℕ)) (n : ℕ) (here : List ℕ) → slice_get words n ≡ Some here → GivesOneOf action here
    → AreBelow action words n → AreBelow action words (n + 1)
one_below action words n here at gives before place word behind below is = elim (cases_lt place n) [
  | inl earlier ↦ before place word behind earlier is
  | inr late ↦
      let same : place ≡ n = omega arith in
      subst (GivesOneOf action) (same_Some _ _ (sym at ∙ ap (slice_get words) (sym same) ∙ is)) gives
]

pub all_below : (action : Action) (words : List (List ℕ)) (n : ℕ) → length words ≤ n → AreBelow action words n → AreOptions action words
all_below action words n all before place word behind is =
    let few = slice_get_within words place word is in
    before place word behind (omega (arith, few)) is

-- whether a word gives the option, by the first that does
pub flag_is : (name : OptionName) (words : List (List ℕ)) (first : Option (ℕ × Bor (List ℕ))) (given : Bool) → given ≡ is_some first
    → IfSome first (λ f. GivesAt name words f.0 f.1.now) → IfNone first ((place : ℕ) (value : List ℕ) → 1 ≤ place → GivesAt name words place value → ⊥)
    → IsFlag name words given
flag_is name words None given is some none = subst (IsFlag name words) (sym is) (λ place value gives. none place value gives.behind gives)
flag_is name words (Some f) given is some none = subst (IsFlag name words) (sym is) (λ missing. missing f.0 f.1.now some)

-- whether one word alone gives the option: none does after the first
pub single_is : (name : OptionName) (words : List (List ℕ)) (first : ℕ) (text : List ℕ) (next : Option (ℕ × Bor (List ℕ))) (alone : Bool)
    → is_some next ≡ not alone → GivesAt name words first text → NoneBetween name words 1 first → IfSome next (λ f. first + 1 ≤ f.0)
    → IfSome next (λ f. GivesAt name words f.0 f.1.now) → IfNone next ((place : ℕ) (value : List ℕ) → first + 1 ≤ place → GivesAt name words place value → ⊥)
    → (IsTrue alone → IsSingle name words) × (IsSingle name words → IsTrue alone)
single_is name words first text None true is gives before after some none = (λ yes. record { one = one }, λ single. refl)
  where
    at_first : (place : ℕ) (value : List ℕ) → GivesAt name words place value → place ≡ first
    at_first place value here = elim (cases_lt place first) [
      | inl earlier ↦ absurd (before place value here.behind earlier here)
      | inr late ↦ elim (cases_lt first place) [
        | inl later ↦ absurd (none place value (omega arith) here)
        | inr same ↦ omega arith
      ]
    ]

    one : (a b : ℕ) (x y : List ℕ) → GivesAt name words a x → GivesAt name words b y → a ≡ b
    one a b x y here there = at_first a x here ∙ sym (at_first b y there)
single_is name words first text None false is gives before after some none = absurd (let no : false ≡ true = is in cc)
single_is name words first text (Some f) true is gives before after some none = absurd (let no : true ≡ false = is in cc)
single_is name words first text (Some f) false is gives before after some none =
    (λ no. absurd (let wrong : false ≡ true = no in cc), λ single. absurd (let same = single.one first f.0 text f.1.now gives some in omega (arith, same, after)))

-- one value stands behind the name
value_same : (name : OptionName) (words : List (List ℕ)) (a b : ℕ) (x y : List ℕ) → IsSingle name words → GivesAt name words a x → GivesAt name words b y → x ≡ y
value_same name words a b x y single first second =
    let at = single.one a b x y first second in
    let same : first.word ≡ second.word = same_Some _ _ (sym first.there ∙ ap (slice_get words) at ∙ second.there) in
    append_cancel_left (name_text name) x y (sym first.gives.written ∙ same ∙ second.gives.written)

-- a path that is spelled stands in the one word that gives it, and isn't empty
pub path_is : (name : OptionName) (words : List (List ℕ)) (first : ℕ) (text : List ℕ) (place : Option ℕ) → GivesAt name words first text → IsSingle name words
    → SpellsPlace name words place → (Some first ≡ place) × (0 < length text)
path_is name words first text None gives single missing = absurd (missing first text gives)
path_is name words first text (Some p) gives single (path, some, there) = (
  ap Some (single.one first p text path gives there),
  subst (λ (t : List ℕ). 0 < length t) (value_same name words p first path text single there gives) some,
)

-- the one word that gives a service spells it
pub target_named : (words : List (List ℕ)) (place : ℕ) (text : List ℕ) (addr : Addr) → IsSingle Computer words → GivesAt Computer words place text
    → SpellsTargetOption addr words → SpellsTarget addr text
target_named words place text addr single gives spells = elim spells [
  | inl named ↦ subst (SpellsTarget addr) (value_same Computer words named.place place named.text text single named.gives gives) named.spelled
  | inr unnamed ↦ absurd (unnamed.missing place text gives)
]

-- the command of these parts
pub command_is : (d : Command) (action : Action) (config keeper capture port clock rpc_port : Option ℕ) (computer : Addr) → d.action ≡ action → Some config ≡ Some d.config
    → Some keeper ≡ Some d.keeper → Some capture ≡ Some d.capture → Some port ≡ Some d.port → Some clock ≡ Some d.clock → Some rpc_port ≡ Some d.rpc_port → Some computer ≡ Some d.computer
    → ◌≡◌ {A = Option Command}
    (Some record { action = action; config = config; keeper = keeper; capture = capture; port = port; clock = clock; rpc_port = rpc_port; computer = computer }) (Some d)
command_is d action config keeper capture port clock rpc_port computer a b c e f g r h =
    let same = sym a in
    let at_config = same_Some _ _ b in
    let at_keeper = same_Some _ _ c in
    let at_capture = same_Some _ _ e in
    let at_port = same_Some _ _ f in
    let at_clock = same_Some _ _ g in
    let at_rpc_port = same_Some _ _ r in
    let at_computer = same_Some _ _ h in
    λ k. Some record {
      action = same k;
      config = at_config k;
      keeper = at_keeper k;
      capture = at_capture k;
      port = at_port k;
      clock = at_clock k;
      rpc_port = at_rpc_port k;
      computer = at_computer k;
    }

-- all options
abbrev pub names : List OptionName
names = Config ∷ Keeper ∷ Capture ∷ Port ∷ Clock ∷ RpcPort ∷ Computer ∷ NoWait ∷ Rediscover ∷ Source ∷ Bits ∷ []

-- what holds at all places holds of each option
pub of_each : (P : OptionName → Type 0) → AllWithin P names 0 (length names) → (name : OptionName) → P name
of_each P all Config = all 0 Config (omega arith) (omega arith)
of_each P all Keeper = all 1 Config (omega arith) (omega arith)
of_each P all Capture = all 2 Config (omega arith) (omega arith)
of_each P all Port = all 3 Config (omega arith) (omega arith)
of_each P all Clock = all 4 Config (omega arith) (omega arith)
of_each P all RpcPort = all 5 Config (omega arith) (omega arith)
of_each P all Computer = all 6 Config (omega arith) (omega arith)
of_each P all NoWait = all 7 Config (omega arith) (omega arith)
of_each P all Rediscover = all 8 Config (omega arith) (omega arith)
of_each P all Source = all 9 Config (omega arith) (omega arith)
of_each P all Bits = all 10 Config (omega arith) (omega arith)

-- whether something holds of all options, by the answers for each
pub all_decided : (P : OptionName → Type 0) (r : Bool)
    → MatchBool r (AllWithin P names 0 (length names)) ((k : ℕ) × (k < length names) × HoldsAt (λ name. P name → ⊥) names k)
    → (IsTrue r → (name : OptionName) → P name) × (((name : OptionName) → P name) → IsTrue r)
all_decided P true all = (λ yes. of_each P all, λ each. refl)
all_decided P false (k, below, fails) = (λ yes. absurd (let wrong : false ≡ true = yes in cc), λ each. absurd (fails Config (each _)))

-- whether it holds of one of them
pub any_decided : (P : OptionName → Type 0) (r : Bool)
    → MatchBool r ((k : ℕ) × (k < length names) × HoldsAt P names k) (AllWithin (λ name. P name → ⊥) names 0 (length names))
    → (IsTrue r → (name : OptionName) × P name) × ((name : OptionName) → P name → IsTrue r)
any_decided P true (k, below, holds) = (λ yes. (slice_index_or names k Config, holds Config), λ name here. refl)
any_decided P false none = (λ yes. absurd (let wrong : false ≡ true = yes in cc), λ name here. absurd (of_each (λ n. P n → ⊥) none name here))
