use Rattle.std.proofs.Common.{Option, sym, subst, ◌↔◌, IfSome, IsNone}
use Rattle.std.specs.Prelude.{◌≡◌, Contains}
use Rattle.key_book.specs.declared.account.Account.{Account}
use Rattle.key_book.specs.AccountBook.{NoneHas}
use Rattle.key_book.proofs.Finding.{found, missing}
use Rattle.key_book.proofs.book.BookKeys.find.Goals as goal

pub returns-clause-found : goal.returns-clause-found
returns-clause-found c =
    let accounts = c.args.self.now in
    let rid = c.args.rid in
    let P : Option Account → Type 0 = λ o. IfSome o (λ (account : Account). Contains accounts account × (account.rid ≡ rid)) in
    subst P (sym c.at.ensures) (found accounts rid)

pub returns-clause-missing : goal.returns-clause-missing
returns-clause-missing c =
    let accounts = c.args.self.now in
    let rid = c.args.rid in
    let P : Option Account → Type 0 = λ o. IsNone o ↔ NoneHas accounts rid in
    subst P (sym c.at.ensures) (missing accounts rid)
