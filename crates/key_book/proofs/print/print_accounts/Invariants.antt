use Rattle.std.proofs.Common.{◌≡◌, take}
use Rattle.key_book.specs.AccountText.{printed}
use Rattle.key_book.proofs.print.print_accounts.Given as goal

-- the lines of the accounts up to here
abbrev pub invariant-loop-account : goal.invariant-loop-account
invariant-loop-account l = l.text.items ≡ printed (take l.account-index l.accounts)
