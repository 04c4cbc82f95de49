use Rattle.std.proofs.Common.{◌≡◌, ◌∷◌, ◌++◌, ℕ, List, drop, sym, ◌∙◌, ap}
use Rattle.text_grammar.proofs.Dotted.{socket_no_blank}
use Rattle.text_grammar.proofs.Naming.{name_no_blank}
use Rattle.partner_pick.specs.declared.entry.Entry.{Entry}
use Rattle.partner_pick.specs.ComputerText.{SpellsEntry}
use Rattle.partner_pick.proofs.Parsings.{entry_is}
use Rattle.partner_pick.proofs.line.read_entry.Goals as goal

-- what stands behind the first word of an entry's line
rest_of : (entry : Entry) (line rest : List ℕ) (spells : SpellsEntry entry line) → rest ≡ drop 9 line
    → rest ≡ entry.name ++ 32 ∷ (spells.address ++ 32 ∷ spells.flags)
rest_of entry line rest spells is = is ∙ ap (λ (l : List ℕ). drop 9 l) spells.words

pub returns-in_err-address-clause-found : goal.returns-in_err-address-clause-found
returns-in_err-address-clause-found c entry spells =
    let rest = rest_of entry c.args.line.now _ spells c.in_ok-strip_prefix.ensures.cases.1 in
    let first = c.in_ok-name.ensures.found entry.name _ (name_no_blank entry.name spells.named) rest in
    absurd (c.in_err-address.ensures.found spells.address spells.flags (socket_no_blank _ _ _ spells.address_spelled) first.1)

pub returns-in_err-ip-clause-found : goal.returns-in_err-ip-clause-found
returns-in_err-ip-clause-found c entry spells =
    let rest = rest_of entry c.args.line.now _ spells c.in_ok-strip_prefix.ensures.cases.1 in
    let first = c.in_ok-name.ensures.found entry.name _ (name_no_blank entry.name spells.named) rest in
    let second = c.in_ok-address.ensures.found spells.address spells.flags (socket_no_blank _ _ _ spells.address_spelled) first.1 in
    let wrong = c.in_err-ip.ensures.found entry.addr.ip entry.addr.port (rw second.0 spells.address_spelled) in
    absurd cc

pub returns-in_err-in_site-clause-found : goal.returns-in_err-in_site-clause-found
returns-in_err-in_site-clause-found c entry spells =
    let rest = rest_of entry c.args.line.now _ spells c.in_ok-strip_prefix.ensures.cases.1 in
    let first = c.in_ok-name.ensures.found entry.name _ (name_no_blank entry.name spells.named) rest in
    let second = c.in_ok-address.ensures.found spells.address spells.flags (socket_no_blank _ _ _ spells.address_spelled) first.1 in
    let wrong = c.in_err-in_site.ensures.found entry.in_site entry.reliable entry.parent entry.pdc (second.1 ∙ spells.flags_are) in
    absurd cc

pub returns-clause-found : goal.returns-clause-found
returns-clause-found c entry spells =
    let rest = rest_of entry c.args.line.now _ spells c.in_ok-strip_prefix.ensures.cases.1 in
    let first = c.in_ok-name.ensures.found entry.name _ (name_no_blank entry.name spells.named) rest in
    let second = c.in_ok-address.ensures.found spells.address spells.flags (socket_no_blank _ _ _ spells.address_spelled) first.1 in
    let flags = c.in_ok-in_site.ensures.found entry.in_site entry.reliable entry.parent entry.pdc (second.1 ∙ spells.flags_are) in
    let address = c.in_ok-ip.ensures.found entry.addr.ip entry.addr.port (rw second.0 spells.address_spelled) in
    let written = c.in_ok-name-2.ensures.read.written in
    entry_is entry _ _ _ _ _ _ _ (sym written ∙ first.0) address flags
