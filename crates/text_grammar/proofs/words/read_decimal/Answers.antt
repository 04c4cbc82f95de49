use Rattle.std.proofs.Common.{◌≡◌, ap, sym, subst, ◌∙◌, arith, decimal}
use Rattle.std.specs.Result.{result_ok}
use Rattle.std.specs.Str.{IsUtf8}
use Rattle.std.proofs.lemmas.Fmt.{parse-decimal}
use Rattle.text_grammar.specs.Decimal.{BeginsAsDecimal}
use Rattle.text_grammar.proofs.Decimals.{decimal_begins, plain_decimal, some_of_ok, IsUtf8-decimal}
use Rattle.text_grammar.proofs.words.read_decimal.Goals as goal

-- the one spelling of a number begins as it may
pub returns-then-not-begins_as_decimal-clause-found : goal.returns-then-not-begins_as_decimal-clause-found
returns-then-not-begins_as_decimal-clause-found c n small is =
    let begins = subst BeginsAsDecimal (sym is) (decimal_begins n (omega (arith, small))) in
    let yes = c.begins_as_decimal.ensures.1 begins in
    let no = c.if-not-begins_as_decimal.true in
    absurd (cc (yes, no))

-- and it is UTF-8
pub returns-in_err-utf8_of-clause-found : goal.returns-in_err-utf8_of-clause-found
returns-in_err-utf8_of-clause-found c n small is =
    let utf8 = subst IsUtf8 (sym is) (IsUtf8-decimal n (omega (arith, small))) in
    absurd (cc (c.in_err-utf8_of.ensures.found utf8))

pub returns-clause-read : goal.returns-clause-read
returns-clause-read c =
    let text = c.args.text.now in
    let same = c.in_ok-utf8_of.ensures.same in
    let begins : BeginsAsDecimal text = c.begins_as_decimal.ensures.0 (cc) in
    let parses = rw same at c.parse.ensures.value.0 in
    rw c.ok.ensures.value (some_of_ok c.parse.result (λ n. text ≡ decimal n) (plain_decimal text c.parse.result begins parses))

pub returns-clause-found : goal.returns-clause-found
returns-clause-found c n small is =
    let parsed = parse-decimal 32 n _ c.parse.result small (omega (arith, small)) (c.in_ok-utf8_of.ensures.same ∙ is) c.parse.ensures.value.0 in
    c.ok.ensures.value ∙ ap result_ok parsed
