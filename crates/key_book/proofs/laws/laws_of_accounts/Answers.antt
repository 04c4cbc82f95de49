use Rattle.key_book.proofs.Parsings.{one_answer, some_answer}
use Rattle.key_book.proofs.laws.laws_of_accounts.Goals as goal

pub returns : goal.returns
returns c = record { one_answer = one_answer; some_answer = some_answer }
