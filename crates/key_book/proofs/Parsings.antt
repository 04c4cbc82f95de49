-- One answer is true of a text of accounts.
use Rattle.std.proofs.Common.{◌≡◌, ◌≢◌, ◌<◌, ◌+◌, ◌^◌, ℕ, List, ◌∷◌, drop, decimal, Option, Some, None, Result, Ok, Err, refl, sym, ◌∙◌, ap, arith, ◌⊎◌, inl, inr}
use Rattle.std.specs.List.{Any}
use Rattle.std.proofs.lemmas.Fmt.{decimal_injective}
use Rattle.hex.proofs.HexLemmas.{decode_of-same}
use Rattle.text_grammar.specs.Lines.{SpellsNothing, SaysAgain}
use Rattle.text_grammar.proofs.Cuts.{one_cut, is_there}
use Rattle.text_grammar.proofs.Decimals.{no_blank}
use Rattle.text_grammar.proofs.Keys.{key_no_blank}
use Rattle.text_grammar.proofs.Forms.{SaysOne, Verdict, good, bad_line, again, Judges, one_verdict}
use Rattle.text_grammar.proofs.Progress.{HasRead, read_other, read_next, read_bad, some_verdict}
use Rattle.key_book.specs.declared.account.Account.{Account}
use Rattle.key_book.specs.declared.fault.BookFault.{BookFault}
use Rattle.key_book.specs.declared.fault.BookFault.TheVariants.{BadLine, TwiceRid, NoMemory}
use Rattle.key_book.specs.AccountBook.{NoneHas}
use Rattle.key_book.specs.AccountText.{SpellsKey, SpellsKeys, SpellsAccount, account_text}
use Rattle.key_book.specs.Parsing.{IsAnswer, Takes}
use Rattle.key_book.proofs.AccountLines.{keys_at}

-- digits spell one key
one_key : (a b digits : List ℕ) → SpellsKey a digits → SpellsKey b digits → a ≡ b
one_key a b digits p q = decode_of-same digits a b p.spelled q.spelled

-- a text spells one current key, and one previous key or none
pub record AreSameKeys (a : List ℕ) (old_a : Option (List ℕ)) (b : List ℕ) (old_b : Option (List ℕ)) : Type 0 where
  pub current : a ≡ b
  pub previous : old_a ≡ old_b

one_pair : (a : List ℕ) (old_a : Option (List ℕ)) (b : List ℕ) (old_b : Option (List ℕ)) (text : List ℕ)
    → SpellsKeys a old_a text → SpellsKeys b old_b text → AreSameKeys a old_a b old_b
one_pair a None b None text p q = record { current = one_key a b text p q; previous = refl }
one_pair a (Some old_a) b old_b text p q =
    let keys = keys_at b old_b text p.0 p.1 p.2 (key_no_blank p.0 a p.3.spelled) q in
    record {
      current = one_key a b p.0 p.3 keys.current_spelled;
      previous = ap Some (one_key old_a keys.old p.1 p.4 keys.old_spelled) ∙ sym keys.is;
    }
one_pair a None b (Some old_b) text p q =
    let no_blank = key_no_blank text a p.spelled in
    absurd (is_there 32 q.0 q.1 (rw q.2 at no_blank))

-- a line spells one account
pub one_account : (a b : Account) (line : List ℕ) → SpellsAccount a line → SpellsAccount b line → a ≡ b
one_account a b line p q =
    let rest = ap (λ (l : List ℕ). drop 8 l) (sym p.words ∙ q.words) in
    let small_a : a.rid < 2 ^ 64 = omega (arith, p.fits) in
    let small_b : b.rid < 2 ^ 64 = omega (arith, q.fits) in
    let parts = one_cut 32 (decimal a.rid) p.keys (decimal b.rid) q.keys (no_blank a.rid small_a) (no_blank b.rid small_b) rest in
    let rid = decimal_injective a.rid b.rid small_a small_b parts.0 in
    let spelled = rw parts.1 at p.keys_spelled in
    let keys = one_pair a.current a.previous b.current b.previous q.keys spelled q.keys_spelled in
    λ i. record { rid = rid i; current = keys.current i; previous = keys.previous i }

says_one : SaysOne account_text
says_one = record { one = one_account }

-- the answer of a verdict
abbrev answer_of : Verdict Account → Result (List Account) BookFault
answer_of (good accounts) = Ok accounts
answer_of (bad_line n) = Err (BadLine n)
answer_of (again n) = Err (TwiceRid n)

-- where two answers are true of a text, they are one, unless one of them is want of memory
pub exact_from : (lines : List (List ℕ)) (r answer : Result (List Account) BookFault)
    → IsAnswer lines r → IsAnswer lines answer → answer ≢ Err NoMemory → (r ≡ answer) ⊎ (r ≡ Err NoMemory)
exact_from lines r (Err NoMemory) p q some = absurd (some refl)
exact_from lines (Err NoMemory) answer p q some = inr refl
exact_from lines (Ok a) (Ok b) p q some = inl (ap answer_of (one_verdict account_text says_one lines (good a) (good b) p q))
exact_from lines (Ok a) (Err (BadLine m)) p q some = inl (ap answer_of (one_verdict account_text says_one lines (good a) (bad_line m) p q))
exact_from lines (Ok a) (Err (TwiceRid m)) p q some = inl (ap answer_of (one_verdict account_text says_one lines (good a) (again m) p q))
exact_from lines (Err (BadLine n)) (Ok b) p q some = inl (ap answer_of (one_verdict account_text says_one lines (bad_line n) (good b) p q))
exact_from lines (Err (BadLine n)) (Err (BadLine m)) p q some = inl (ap answer_of (one_verdict account_text says_one lines (bad_line n) (bad_line m) p q))
exact_from lines (Err (BadLine n)) (Err (TwiceRid m)) p q some = inl (ap answer_of (one_verdict account_text says_one lines (bad_line n) (again m) p q))
exact_from lines (Err (TwiceRid n)) (Ok b) p q some = inl (ap answer_of (one_verdict account_text says_one lines (again n) (good b) p q))
exact_from lines (Err (TwiceRid n)) (Err (BadLine m)) p q some = inl (ap answer_of (one_verdict account_text says_one lines (again n) (bad_line m) p q))
exact_from lines (Err (TwiceRid n)) (Err (TwiceRid m)) p q some = inl (ap answer_of (one_verdict account_text says_one lines (again n) (again m) p q))

-- any two answers other than want of memory are one
pub one_answer : (lines : List (List ℕ)) (answer other : Result (List Account) BookFault) → IsAnswer lines answer → IsAnswer lines other
    → answer ≢ Err NoMemory → other ≢ Err NoMemory → answer ≡ other
one_answer lines answer other p q some more = elim (exact_from lines answer other p q more) [ inl same ↦ same | inr none ↦ absurd (some none) ]

-- no lines are without an answer
pub some_answer : (lines : List (List ℕ)) → ((answer : Result (List Account) BookFault) → IsAnswer lines answer → answer ≡ Err NoMemory) → ⊥
some_answer lines none = some_verdict account_text lines judged
  where
    judged : (v : Verdict Account) → Judges account_text lines v → ⊥
    judged (good accounts) says = absurd (let no = none (Ok accounts) says in cc)
    judged (bad_line n) bad = absurd (let no = none (Err (BadLine n)) bad in cc)
    judged (again n) bad = absurd (let no = none (Err (TwiceRid n)) bad in cc)

-- no account before it has the number of a new one
none_again : (accounts : List Account) (account : Account) → NoneHas accounts account.rid → Any (λ (a : Account). a.rid ≡ account.rid) accounts → ⊥
none_again accounts account fresh any =
    let other = fresh any.0 any.1 any.2 in
    let differs = rw any.3 at other in
    differs any.4

-- a line that is taken is read
pub read_more : (lines : List (List ℕ)) (n : ℕ) (line : List ℕ) (left : List (List ℕ)) (old new : List Account) (done : Unit {0})
    → HasRead account_text lines n old (line ∷ left) → Takes (n + 1) line old new (Ok done) → HasRead account_text lines (n + 1) new left
read_more lines n line left old new done read takes =
    elim takes [
      | inl other ↦ rw other.1 (read_other account_text lines n old line left read other.0)
      | inr next ↦ rw next.2 (read_next account_text lines n old line left next.0 read next.1.seen next.1.spelled (none_again old next.0 next.1.fresh))
    ]

-- a line that is not taken is the first bad one
pub bad_answer : (lines : List (List ℕ)) (n : ℕ) (line : List ℕ) (left : List (List ℕ)) (old new : List Account) (fault : BookFault)
    → HasRead account_text lines n old (line ∷ left) → Takes (n + 1) line old new (Err fault) → IsAnswer lines (Err fault)
bad_answer lines n line left old new (BadLine m) read takes = rw takes.0 (read_bad account_text (SpellsNothing account_text) lines n old line left read takes.1)
bad_answer lines n line left old new (TwiceRid m) read takes = rw takes.0 (read_bad account_text (SaysAgain account_text) lines n old line left read takes.1)
bad_answer lines n line left old new NoMemory read takes = tt
