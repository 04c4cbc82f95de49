use Rattle.std.proofs.Common.{◌≡◌, ◌∷◌, ◌++◌, [], ℕ, List, sym, ◌∙◌, ap, subst}
use Rattle.std.specs.Map.{values_of}
use Rattle.key_book.specs.declared.account.Account.{Account}
use Rattle.key_book.specs.AccountBook.{NoneHas}
use Rattle.key_book.proofs.Keyed.{IsKept, grown, kept_more, values_more}
use Rattle.key_book.proofs.book.Book.add.Goals as goal

pub invariant_of-self-2 : goal.invariant_of-self-2
invariant_of-self-2 c =
    let entries = c.self.inside.accounts.entries in
    let account = c.args.account in
    let none : NoneHas (values_of entries) account.rid = subst (λ (l : List Account). NoneHas l account.rid) (sym c.self.view_is) c.requires.fresh in
    let more = c.in_ok-insert.ensures.entries ∙ grown c.self.inside.accounts account c.self.invariant.1 none in
    subst IsKept (sym more) (kept_more entries account c.self.invariant c.requires.fits none)

pub returns-clause-ok : goal.returns-clause-ok
returns-clause-ok c =
    let entries = c.self.inside.accounts.entries in
    let account = c.args.account in
    let none : NoneHas (values_of entries) account.rid = subst (λ (l : List Account). NoneHas l account.rid) (sym c.self.view_is) c.requires.fresh in
    let more = c.in_ok-insert.ensures.entries ∙ grown c.self.inside.accounts account c.self.invariant.1 none in
    ap (λ (es : List (ℕ × Account)). values_of es) more
    ∙ values_more entries account.rid account
    ∙ ap (λ (l : List Account). l ++ account ∷ []) c.self.view_is
