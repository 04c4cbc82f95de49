-- One answer is true of a text of computers.
use Rattle.std.proofs.Common.{◌≡◌, ◌≢◌, ◌+◌, ℕ, Bool, true, false, List, ◌∷◌, drop, Option, Some, Result, Ok, Err, refl, sym, ◌∙◌, ap, arith, ◌⊎◌, inl, inr}
use Rattle.text_grammar.specs.Lines.{SpellsNothing, SaysAgain}
use Rattle.text_grammar.proofs.Cuts.{one_cut}
use Rattle.text_grammar.proofs.Dotted.{one_socket_address, socket_no_blank}
use Rattle.text_grammar.proofs.Naming.{name_no_blank}
use Rattle.text_grammar.proofs.Forms.{SaysOne, Verdict, good, bad_line, again, Judges, one_verdict}
use Rattle.text_grammar.proofs.Progress.{HasRead, read_other, read_next, read_bad, some_verdict}
use Rattle.partner_pick.specs.declared.entry.Entry.{Entry}
use Rattle.partner_pick.specs.declared.fault.DirFault.{DirFault}
use Rattle.partner_pick.specs.declared.fault.DirFault.TheVariants.{BadLine, TwiceName, NoMemory}
use Rattle.partner_pick.specs.ComputerText.{SpellsEntry, computer_text, flag_byte, flags_text}
use Rattle.partner_pick.specs.Parsing.{IsAnswer, Takes}

-- a byte says one thing of a flag
pub one_flag : (letter : ℕ) (a b : Bool) → letter ≢ 45 → flag_byte letter a ≡ flag_byte letter b → a ≡ b
one_flag letter true true other same = refl
one_flag letter true false other same = absurd (other same)
one_flag letter false true other same = absurd (other (sym same))
one_flag letter false false other same = refl

-- two entries are one where their parts are
pub same_entry : (a b : Entry) → a.name ≡ b.name → a.addr.ip ≡ b.addr.ip → a.addr.port ≡ b.addr.port → a.in_site ≡ b.in_site
    → a.reliable ≡ b.reliable → a.parent ≡ b.parent → a.pdc ≡ b.pdc → a ≡ b
same_entry a b name ip port site reliable parent pdc =
    λ i. record {
      name = name i;
      addr = record { ip = ip i; port = port i };
      in_site = site i;
      reliable = reliable i;
      parent = parent i;
      pdc = pdc i;
    }

-- the entry of these parts
pub entry_is : (entry : Entry) (name : List ℕ) (ip port : ℕ) (site reliable parent pdc : Bool) → name ≡ entry.name
    → ◌≡◌ {A = Option (ℕ × ℕ)} (Some (ip, port)) (Some (entry.addr.ip, entry.addr.port))
    → ◌≡◌ {A = Option (Bool × Bool × Bool × Bool)} (Some (site, reliable, parent, pdc)) (Some (entry.in_site, entry.reliable, entry.parent, entry.pdc))
    → Some record { name = name; addr = record { ip = ip; port = port }; in_site = site; reliable = reliable; parent = parent; pdc = pdc } ≡ Some entry
entry_is entry name ip port site reliable parent pdc same_name same_addr same_flags =
    let addr : ◌≡◌ {A = ℕ × ℕ} (ip, port) (entry.addr.ip, entry.addr.port) = cc in
    let flags : ◌≡◌ {A = Bool × Bool × Bool × Bool} (site, reliable, parent, pdc) (entry.in_site, entry.reliable, entry.parent, entry.pdc) = cc in
    let i = ap (λ (x : ℕ × ℕ). x.0) addr in
    let p = ap (λ (x : ℕ × ℕ). x.1) addr in
    let s = ap (λ (x : Bool × Bool × Bool × Bool). x.0) flags in
    let r = ap (λ (x : Bool × Bool × Bool × Bool). x.1) flags in
    let d = ap (λ (x : Bool × Bool × Bool × Bool). x.2) flags in
    let e = ap (λ (x : Bool × Bool × Bool × Bool). x.3) flags in
    λ j. Some record {
      name = same_name j;
      addr = record { ip = i j; port = p j };
      in_site = s j;
      reliable = r j;
      parent = d j;
      pdc = e j;
    }

-- a line spells one entry
pub one_entry : (a b : Entry) (line : List ℕ) → SpellsEntry a line → SpellsEntry b line → a ≡ b
one_entry a b line p q =
    let rest = ap (λ (l : List ℕ). drop 9 l) (sym p.words ∙ q.words) in
    let first = one_cut 32 a.name _ b.name _ (name_no_blank a.name p.named) (name_no_blank b.name q.named) rest in
    let second = one_cut 32 p.address p.flags q.address q.flags (socket_no_blank _ _ _ p.address_spelled) (socket_no_blank _ _ _ q.address_spelled) first.1 in
    let addr = one_socket_address _ _ _ _ q.address (rw second.0 at p.address_spelled) q.address_spelled in
    let flags : flags_text a.in_site a.reliable a.parent a.pdc ≡ flags_text b.in_site b.reliable b.parent b.pdc = sym p.flags_are ∙ second.1 ∙ q.flags_are in
    let s : flag_byte 83 a.in_site ≡ flag_byte 83 b.in_site = cc in
    let r : flag_byte 82 a.reliable ≡ flag_byte 82 b.reliable = cc in
    let d : flag_byte 80 a.parent ≡ flag_byte 80 b.parent = cc in
    let e : flag_byte 69 a.pdc ≡ flag_byte 69 b.pdc = cc in
    same_entry a b first.0 addr.0 addr.1
    (one_flag 83 _ _ (λ h. absurd (omega (arith, h))) s)
    (one_flag 82 _ _ (λ h. absurd (omega (arith, h))) r)
    (one_flag 80 _ _ (λ h. absurd (omega (arith, h))) d)
    (one_flag 69 _ _ (λ h. absurd (omega (arith, h))) e)

says_one : SaysOne computer_text
says_one = record { one = one_entry }

-- the answer of a verdict
abbrev answer_of : Verdict Entry → Result (List Entry) DirFault
answer_of (good entries) = Ok entries
answer_of (bad_line n) = Err (BadLine n)
answer_of (again n) = Err (TwiceName n)

-- where two answers are true of a text, they are one, unless one of them is want of memory
pub exact_from : (lines : List (List ℕ)) (r answer : Result (List Entry) DirFault)
    → IsAnswer lines r → IsAnswer lines answer → answer ≢ Err NoMemory → (r ≡ answer) ⊎ (r ≡ Err NoMemory)
exact_from lines r (Err NoMemory) p q some = absurd (some refl)
exact_from lines (Err NoMemory) answer p q some = inr refl
exact_from lines (Ok a) (Ok b) p q some = inl (ap answer_of (one_verdict computer_text says_one lines (good a) (good b) p q))
exact_from lines (Ok a) (Err (BadLine m)) p q some = inl (ap answer_of (one_verdict computer_text says_one lines (good a) (bad_line m) p q))
exact_from lines (Ok a) (Err (TwiceName m)) p q some = inl (ap answer_of (one_verdict computer_text says_one lines (good a) (again m) p q))
exact_from lines (Err (BadLine n)) (Ok b) p q some = inl (ap answer_of (one_verdict computer_text says_one lines (bad_line n) (good b) p q))
exact_from lines (Err (BadLine n)) (Err (BadLine m)) p q some = inl (ap answer_of (one_verdict computer_text says_one lines (bad_line n) (bad_line m) p q))
exact_from lines (Err (BadLine n)) (Err (TwiceName m)) p q some = inl (ap answer_of (one_verdict computer_text says_one lines (bad_line n) (again m) p q))
exact_from lines (Err (TwiceName n)) (Ok b) p q some = inl (ap answer_of (one_verdict computer_text says_one lines (again n) (good b) p q))
exact_from lines (Err (TwiceName n)) (Err (BadLine m)) p q some = inl (ap answer_of (one_verdict computer_text says_one lines (again n) (bad_line m) p q))
exact_from lines (Err (TwiceName n)) (Err (TwiceName m)) p q some = inl (ap answer_of (one_verdict computer_text says_one lines (again n) (again m) p q))

-- any two answers other than want of memory are one
pub one_answer : (lines : List (List ℕ)) (answer other : Result (List Entry) DirFault) → IsAnswer lines answer → IsAnswer lines other
    → answer ≢ Err NoMemory → other ≢ Err NoMemory → answer ≡ other
one_answer lines answer other p q some more = elim (exact_from lines answer other p q more) [ inl same ↦ same | inr none ↦ absurd (some none) ]

-- no lines are without an answer
pub some_answer : (lines : List (List ℕ)) → ((answer : Result (List Entry) DirFault) → IsAnswer lines answer → answer ≡ Err NoMemory) → ⊥
some_answer lines none = some_verdict computer_text lines judged
  where
    judged : (v : Verdict Entry) → Judges computer_text lines v → ⊥
    judged (good entries) says = absurd (let no = none (Ok entries) says in cc)
    judged (bad_line n) bad = absurd (let no = none (Err (BadLine n)) bad in cc)
    judged (again n) bad = absurd (let no = none (Err (TwiceName n)) bad in cc)

-- a line that is taken is read
pub read_more : (lines : List (List ℕ)) (n : ℕ) (line : List ℕ) (left : List (List ℕ)) (old new : List Entry) (done : Unit {0})
    → HasRead computer_text lines n old (line ∷ left) → Takes (n + 1) line old new (Ok done) → HasRead computer_text lines (n + 1) new left
read_more lines n line left old new done read takes =
    elim takes [
      | inl other ↦ rw other.1 (read_other computer_text lines n old line left read other.0)
      | inr next ↦ rw next.2 (read_next computer_text lines n old line left next.0 read next.1.seen next.1.spelled next.1.fresh)
    ]

-- a line that is not taken is the first bad one
pub bad_answer : (lines : List (List ℕ)) (n : ℕ) (line : List ℕ) (left : List (List ℕ)) (old new : List Entry) (fault : DirFault)
    → HasRead computer_text lines n old (line ∷ left) → Takes (n + 1) line old new (Err fault) → IsAnswer lines (Err fault)
bad_answer lines n line left old new (BadLine m) read takes = rw takes.0 (read_bad computer_text (SpellsNothing computer_text) lines n old line left read takes.1)
bad_answer lines n line left old new (TwiceName m) read takes = rw takes.0 (read_bad computer_text (SaysAgain computer_text) lines n old line left read takes.1)
bad_answer lines n line left old new NoMemory read takes = tt
