-- The parts of an account line.
use Rattle.std.proofs.Common.{◌≡◌, ℕ, List, ◌∷◌, ◌++◌, Option, Some, None, refl, sym, ◌∙◌, ap}
use Rattle.std.specs.Prelude.{IfSome}
use Rattle.hex.proofs.HexLemmas.{decode_of-ok}
use Rattle.text_grammar.specs.Bytes.{HasNo}
use Rattle.text_grammar.proofs.Cuts.{one_cut, is_there}
use Rattle.text_grammar.proofs.Keys.{key_no_blank}
use Rattle.key_book.specs.declared.account.Account.{Account}
use Rattle.key_book.specs.Book.{IsKey, IsAccount}
use Rattle.key_book.specs.AccountText.{SpellsKey, SpellsKeys, SpellsAccount}

-- the keys that a text with a blank spells, cut there
pub record AreKeysAt (current : List ℕ) (previous : Option (List ℕ)) (first second : List ℕ) : Type 0 where
  pub old : List ℕ
  pub is : previous ≡ Some old
  pub current_spelled : SpellsKey current first
  pub old_spelled : SpellsKey old second

pub keys_at : (current : List ℕ) (previous : Option (List ℕ)) (text first second : List ℕ)
    → text ≡ first ++ 32 ∷ second → HasNo 32 first → SpellsKeys current previous text → AreKeysAt current previous first second
keys_at current None text first second cut none spells =
    let no_blank = key_no_blank text current spells.spelled in
    absurd (is_there 32 first second (rw cut at no_blank))
keys_at current (Some old) text first second cut none spells =
    let no_blank = key_no_blank spells.0 current spells.3.spelled in
    let one = one_cut 32 first second spells.0 spells.1 none no_blank (sym cut ∙ spells.2) in
    record {
      old = old;
      is = refl;
      current_spelled = rw (sym one.0) at spells.3;
      old_spelled = rw (sym one.1) at spells.4;
    }

-- the account of these parts
pub account_is : (account : Account) (rid : ℕ) (current : List ℕ) (previous : Option (List ℕ)) → Some rid ≡ Some account.rid
    → ◌≡◌ {A = Option (List ℕ × Option (List ℕ))} (Some (current, previous)) (Some (account.current, account.previous))
    → Some record { rid = rid; current = current; previous = previous } ≡ Some account
account_is account rid current previous same_rid same_keys =
    let r : rid ≡ account.rid = cc in
    let both : ◌≡◌ {A = List ℕ × Option (List ℕ)} (current, previous) (account.current, account.previous) = cc in
    let c = ap (λ (p : List ℕ × Option (List ℕ)). p.0) both in
    let p = ap (λ (p : List ℕ × Option (List ℕ)). p.1) both in
    λ i. Some record { rid = r i; current = c i; previous = p i }

-- what spells a key spells bytes
key_fits : (key digits : List ℕ) → SpellsKey key digits → IsKey key
key_fits key digits spells = record { long = spells.long; bytes = (decode_of-ok digits key spells.spelled).3 }

keys_fit : (current : List ℕ) (previous : Option (List ℕ)) (text : List ℕ) → SpellsKeys current previous text → IsKey current × IfSome previous IsKey
keys_fit current None text spells = (key_fits current text spells, tt)
keys_fit current (Some old) text spells = (key_fits current spells.0 spells.3, key_fits old spells.1 spells.4)

-- what a line spells fits an account
pub account_fits : (account : Account) (line : List ℕ) → SpellsAccount account line → IsAccount account
account_fits account line spells =
    let keys = keys_fit account.current account.previous spells.keys spells.keys_spelled in
    record { rid = spells.fits; current = keys.0; previous = keys.1 }
