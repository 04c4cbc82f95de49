-- The parts of the words of a command.
use Rattle.std.proofs.Common.{◌≡◌, ◌≢◌, ◌<◌, ◌≤◌, ℕ, List, [], ◌∷◌, ◌++◌, length, take, get_or, Option, Some, None, Ok, MatchOption, IfSome, IsSomeAnd, refl, sym, ◌∙◌, ap, subst, arith}
use Rattle.std.specs.Prelude.{codes}
use denote.Ref.{Bor}
use Rattle.std.proofs.lemmas.List.{take_all}
use Rattle.hex.specs.Hex.{decode_of}
use Rattle.hex.proofs.HexLemmas.{decode_of-ok, decode_of-same}
use Rattle.text_grammar.specs.Bytes.{HasNo}
use Rattle.text_grammar.proofs.Cuts.{one_cut, is_there}
use Rattle.text_grammar.proofs.Keys.{key_no_colon}
use Rattle.key_book.specs.declared.account.Account.{Account}
use Rattle.key_book.specs.AccountText.{SpellsKey}
use Rattle.key_book.proofs.AccountLines.{account_is as same_account}
use Rattle.w32tm_text.specs.declared.words.Action.{Action}
use Rattle.w32tm_text.specs.declared.words.Action.TheVariants.{Sign, Show, Dc, Member, Monitor, Replay, Resync, QuerySource, QueryBits, Simulate, Service}
use Rattle.w32tm_text.specs.Words.{SpellsAccount, SpellsAction, SpellsDatagram, SpellsKeys, colon}

-- the keys that a text with a colon spells, cut there
pub record AreKeysAt (current : List ℕ) (previous : Option (List ℕ)) (first second : List ℕ) : Type 0 where
  pub old : List ℕ
  pub is : previous ≡ Some old
  pub current_spelled : SpellsKey current first
  pub old_spelled : SpellsKey old second

pub keys_at : (current : List ℕ) (previous : Option (List ℕ)) (text first second : List ℕ)
    → text ≡ first ++ colon ∷ second → HasNo colon first → SpellsKeys current previous text → AreKeysAt current previous first second
keys_at current None text first second cut none spells =
    let no_colon = key_no_colon text current spells.spelled in
    absurd (is_there colon first second (rw cut at no_colon))
keys_at current (Some old) text first second cut none spells =
    let no_colon = key_no_colon spells.0 current spells.3.spelled in
    let one = one_cut colon first second spells.0 spells.1 none no_colon (sym cut ∙ spells.2) in
    record {
      old = old;
      is = refl;
      current_spelled = rw (sym one.0) at spells.3;
      old_spelled = rw (sym one.1) at spells.4;
    }

-- what stands behind a name, where the word begins with it
pub stripped : (word name : List ℕ) (r : Option (Bor (List ℕ))) → MatchOption r ((rest : List ℕ) → word ≢ name ++ rest) (λ x. word ≡ name ++ x.now) → IfSome r (λ x. word ≡ name ++ x.now)
stripped word name None cases = tt
stripped word name (Some x) cases = cases

-- one name has one rest behind it
same_rest : (name x y : List ℕ) → name ++ x ≡ name ++ y → x ≡ y
same_rest [] x y same = same
same_rest (c ∷ name) x y same = let rest : name ++ x ≡ name ++ y = cc in same_rest name x y rest

pub stripped_found : (word name : List ℕ) (r : Option (Bor (List ℕ))) → MatchOption r ((rest : List ℕ) → word ≢ name ++ rest) (λ x. word ≡ name ++ x.now)
    → (text : List ℕ) → word ≡ name ++ text → IsSomeAnd r (λ x. x.now ≡ text)
stripped_found word name None cases text is = absurd (cases text is)
stripped_found word name (Some x) cases text is = same_rest name x.now text (sym cases ∙ is)

-- an account by its parts
pub account_is : (account : Account) (rid : ℕ) (current : List ℕ) (previous : Option (List ℕ)) → Some rid ≡ Some account.rid
    → ◌≡◌ {A = Option (List ℕ × Option (List ℕ))} (Some (current, previous)) (Some (account.current, account.previous))
    → Some record { rid = rid; current = current; previous = previous } ≡ Some account
account_is account rid current previous same_rid same_keys = same_account account rid current previous same_rid same_keys

-- at most 512 digits spell at most 256 bytes, which are all kept
pub all_kept : (digits bytes : List ℕ) → length digits ≤ 512 → decode_of digits ≡ Ok bytes → take 256 bytes ≡ bytes
all_kept digits bytes short decodes =
    let long = (decode_of-ok digits bytes decodes).2 in
    take_all 256 bytes (omega (arith, long))

pub datagram_is : (digits bytes kept : List ℕ) → length digits ≤ 512 → decode_of digits ≡ Ok bytes → kept ≡ take 256 bytes → SpellsDatagram kept digits
datagram_is digits bytes kept short decodes is =
    let all = is ∙ all_kept digits bytes short decodes in
    let long = (decode_of-ok digits bytes decodes).2 in
    record { within = omega (arith, ap length all, long); spelled = decodes ∙ ap Ok (sym all) }

-- digits spell one datagram
pub one_datagram : (digits one other : List ℕ) → SpellsDatagram one digits → SpellsDatagram other digits → one ≡ other
one_datagram digits one other first second = decode_of-same digits one other first.spelled second.spelled

-- more digits spell none
pub too_many_digits : (digits bytes : List ℕ) → 512 < length digits → SpellsDatagram bytes digits → ⊥
too_many_digits digits bytes long spells =
    let twice = (decode_of-ok digits bytes spells.spelled).2 in
    let within = spells.within in
    omega (arith, twice)

-- a word that begins with `/sign:` spells no other command
pub is_sign : (word text : List ℕ) (action : Action) → word ≡ codes "/sign:" ++ text → SpellsAction action word
    → (account : Account) × (action ≡ Sign account) × SpellsAccount account text
is_sign word text (Sign account) begins spells =
    (account, refl, subst (SpellsAccount account) (same_rest (codes "/sign:") spells.text text (sym spells.written ∙ begins)) spells.spelled)
is_sign word text (Show bytes) begins spells =
    let differ : 105 ≡ 104 = ap (λ (l : List ℕ). get_or l 2 0) (sym begins ∙ spells.written) in
    absurd (omega (arith, differ))
is_sign word text (Dc turns) begins spells =
    let differ : 115 ≡ 100 = ap (λ (l : List ℕ). get_or l 1 0) (sym begins ∙ spells.written) in
    absurd (omega (arith, differ))
is_sign word text (Member turns) begins spells =
    let differ : 115 ≡ 109 = ap (λ (l : List ℕ). get_or l 1 0) (sym begins ∙ spells.written) in
    absurd (omega (arith, differ))
is_sign word text Monitor begins spells =
    let differ : 115 ≡ 109 = ap (λ (l : List ℕ). get_or l 1 0) (sym begins ∙ spells) in
    absurd (omega (arith, differ))
is_sign word text Replay begins spells =
    let differ : 115 ≡ 114 = ap (λ (l : List ℕ). get_or l 1 0) (sym begins ∙ spells) in
    absurd (omega (arith, differ))
is_sign word text (Resync wait rediscover) begins spells =
    let differ : 115 ≡ 114 = ap (λ (l : List ℕ). get_or l 1 0) (sym begins ∙ spells) in
    absurd (omega (arith, differ))
is_sign word text QuerySource begins spells =
    let differ : 115 ≡ 113 = ap (λ (l : List ℕ). get_or l 1 0) (sym begins ∙ spells) in
    absurd (omega (arith, differ))
is_sign word text QueryBits begins spells =
    let differ : 115 ≡ 113 = ap (λ (l : List ℕ). get_or l 1 0) (sym begins ∙ spells) in
    absurd (omega (arith, differ))
is_sign word text (Simulate seed operations) begins spells =
    let differ : 103 ≡ 109 = ap (λ (l : List ℕ). get_or l 3 0) (sym begins ∙ spells.written) in
    absurd (omega (arith, differ))
is_sign word text (Service sessions) begins spells =
    let differ : 105 ≡ 101 = ap (λ (l : List ℕ). get_or l 2 0) (sym begins ∙ spells.written) in
    absurd (omega (arith, differ))
