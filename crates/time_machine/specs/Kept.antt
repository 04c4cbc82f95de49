-- What a member keeps of the words that stand at the end of a history.
use Rattle.time_machine.specs.declared.conf.Conf.{Conf}
use Rattle.time_machine.specs.Words.{Words}
use Rattle.time_machine.specs.Verdict.{present_partner}

-- of the changes of partner, the place in rank of the present partner alone
abbrev pub kept : Conf → Words → Words
kept conf w = record w { changes = present_partner conf w }
