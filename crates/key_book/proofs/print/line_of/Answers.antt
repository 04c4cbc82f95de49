use Rattle.std.proofs.Common.{◌≡◌, ◌++◌, ◌∷◌, ℕ, List, decimal, Result, Ok, Err, IfOk, ◌∙◌, ap}
use Rattle.std.specs.Prelude.{codes, String}
use Rattle.std.specs.String.{string_bytes}
use Rattle.std.specs.declared.alloc.Global.{Global}
use Rattle.hex.specs.Hex.{encode_lower}
use Rattle.key_book.specs.AccountText.{account_line, previous_digits}
use Rattle.key_book.proofs.print.line_of.Goals as goal

-- a text that was written is the same text
same_text : {E : Type 0} (r : Result (String Global) E) (bs cs : List ℕ) → IfOk r (λ s. string_bytes s ≡ bs) → bs ≡ cs → IfOk r (λ s. string_bytes s ≡ cs)
same_text (Ok s) bs cs written same = written ∙ same
same_text (Err e) bs cs written same = tt

pub returns : goal.returns
returns c =
    let account = c.args.account.now in
    let current = string_bytes c.in_ok-current.current in
    let previous = string_bytes c.in_ok-previous.previous in
    let digits = encode_lower account.current in
    let more = previous_digits account.previous in
    let keys : current ++ previous ≡ digits ++ more = rw (c.in_ok-current.ensures, c.in_ok-previous.ensures) in
    same_text c.format.result (codes "account " ++ decimal account.rid ++ 32 ∷ (current ++ previous)) (account_line account) c.format.ensures.ok
    (ap (λ k. codes "account " ++ decimal account.rid ++ 32 ∷ k) keys)
