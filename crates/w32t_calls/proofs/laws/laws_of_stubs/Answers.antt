use Rattle.w32t_calls.proofs.Answered.{name_answered, one_name, word_answered}
use Rattle.w32t_calls.proofs.laws.laws_of_stubs.Goals as goal

pub returns-clause-synced : goal.returns-clause-synced
returns-clause-synced c = λ place result fits. word_answered place result fits

pub returns-clause-bits : goal.returns-clause-bits
returns-clause-bits c = λ place bits fits. word_answered place bits fits

pub returns-clause-source : goal.returns-clause-source
returns-clause-source c = λ name least most printed. name_answered name least most printed

pub returns-clause-one_name : goal.returns-clause-one_name
returns-clause-one_name c = λ name other stub first next. one_name name other stub first next
