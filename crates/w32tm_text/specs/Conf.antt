-- What a member is set to by its settings.
use Rattle.std.specs.Prelude.{◌≡◌, ◌<◌, ℕ, List, length, map, Option, Some, option_map, slice_get}
use Rattle.edge_traits.specs.declared.datagram.Addr.{Addr}
use Rattle.key_book.specs.AccountBook.{account_of}
use Rattle.partner_pick.specs.declared.entry.Entry.{Entry}
use Rattle.partner_pick.specs.Ranking.{IsCandidateAt, IsRanked}
use Rattle.time_machine.specs.declared.conf.Conf.{Conf}
use Rattle.w32t_settings.specs.declared.settings.Settings.{Settings}

-- the address of the computer at a place of a directory
abbrev pub address_at : List Entry → ℕ → Option Addr
address_at entries place = option_map (λ (e : Entry). e.addr) (slice_get entries place)

-- No computer of the directory is a candidate for this one's role.
abbrev pub HasNoCandidate : Settings → Type 0
HasNoCandidate s = (place : ℕ) → ¬ IsCandidateAt s.role s.name s.directory place

-- Some computer of the directory is one.
abbrev pub HasCandidate : Settings → Type 0
HasCandidate s = (place : ℕ) × IsCandidateAt s.role s.name s.directory place

-- the addresses of the candidates, each once, in rank
pub record ArePartners (s : Settings) (addresses : List Addr) : Type 0 where
  pub places : List ℕ
  pub ranked : IsRanked s.role s.name s.directory places
  pub addressed : map (address_at s.directory) places ≡ map Some addresses

-- What a member is set to by settings: their kind of messages, the account of Rid, their limits, and the candidates of
-- their directory, of which there is one at least.
pub record IsConfOf (s : Settings) (conf : Conf) : Type 0 where
  pub kind : conf.kind ≡ s.kind
  pub account : account_of s.book s.rid ≡ Some conf.account
  pub limits : conf.limits ≡ s.limits
  pub partners : ArePartners s conf.partners
  pub some : 0 < length conf.partners
