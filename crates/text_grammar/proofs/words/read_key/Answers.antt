use Rattle.std.proofs.Common.{◌≡◌, ◌*◌, length, ◌∙◌, ap, arith}
use Rattle.std.specs.Result.{result_ok}
use Rattle.hex.proofs.HexLemmas.{decode_of-ok, decode_sized-twice}
use Rattle.text_grammar.proofs.words.read_key.Goals as goal

-- a text that decodes to 16 bytes has 32 digits
pub returns-clause-found : goal.returns-clause-found
returns-clause-found c k long decodes =
    let text = c.args.text.now in
    let twice : length text ≡ 2 * 16 = omega (arith, (decode_of-ok text k decodes).2, long) in
    c.ok.ensures.value ∙ ap result_ok (c.from_hex.ensures ∙ decode_sized-twice text 16 twice ∙ decodes)
