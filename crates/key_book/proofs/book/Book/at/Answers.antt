use Rattle.std.proofs.Common.{List, ◌∙◌, ap}
use Rattle.key_book.specs.declared.account.Account.{Account}
use Rattle.key_book.specs.AccountBook.{account_of}
use Rattle.key_book.proofs.Keyed.{looked_up}
use Rattle.key_book.proofs.book.Book.at.Goals as goal

pub returns : goal.returns
returns c =
    let rid = c.args.rid in
    c.copied.ensures
    ∙ c.get.ensures.value
    ∙ looked_up c.self.inside.accounts.entries rid c.self.invariant.1
    ∙ ap (λ (l : List Account). account_of l rid) c.self.view_is
