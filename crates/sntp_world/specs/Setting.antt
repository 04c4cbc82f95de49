-- What the world is made of: one account, a member with it, and a controller with a book of it alone.
use native.Mathlib.Bridge.{IsLe, le_by_compare}
use Rattle.std.specs.Prelude.{ℕ, ◌+◌, ◌*◌, ◌<◌, ◌≤◌, ◌^◌, List, [], ◌∷◌, None, ℤ, pos}
use Rattle.edge_traits.specs.declared.datagram.Addr.{Addr}
use Rattle.ms_auth.specs.declared.packet.Kind.TheVariants.{Short}
use Rattle.key_book.specs.declared.account.Account.{Account}
use Rattle.phase_rule.specs.declared.limits.Limits.{Limits}
use Rattle.time_machine.specs.declared.conf.Conf.{Conf}

-- the RID of the account
abbrev pub world_rid : ℕ
world_rid = 1103

-- its key, 00 01 .. 0F
abbrev pub world_key : List ℕ
world_key = 0 ∷ 1 ∷ 2 ∷ 3 ∷ 4 ∷ 5 ∷ 6 ∷ 7 ∷ 8 ∷ 9 ∷ 10 ∷ 11 ∷ 12 ∷ 13 ∷ 14 ∷ 15 ∷ []

abbrev pub world_account : Account
world_account = record { rid = world_rid; current = world_key; previous = None }

-- the controller's address, 10.0.0.1:123, from which each packet reaches the member
abbrev pub controller_addr : Addr
controller_addr = record { ip = 10 * 2 ^ 24 + 1; port = 123 }

-- the limits are in order, and the RID fits a short message
pub least_below : 0 ≤ 4
unfolding IsLe
least_below = le_by_compare 0 4 tt

pub greatest_below : 4 ≤ 17
unfolding IsLe
greatest_below = le_by_compare 4 17 tt

pub rid_below : 1103 < 2147483648
unfolding IsLe
rid_below = le_by_compare 1104 2147483648 tt

-- corrections up to two days, steps above 300 seconds, and a request each 1 to 16 seconds
abbrev pub world_limits : Limits
world_limits = record {
  max_pos = 172800;
  max_neg = 172800;
  max_allowed = 300;
  min_poll = 0;
  max_poll = 4;
  ordered = least_below;
  bounded = greatest_below;
}

-- how the member is set: short messages, and one partner
abbrev pub world_conf : Conf
world_conf = record {
  kind = Short;
  account = world_account;
  limits = world_limits;
  partners = controller_addr ∷ [];
  short_rid = λ short. rid_below;
}

-- the member's reading at first, which is 1 January 2020, and the controller's, which is three seconds ahead
abbrev pub first_reading : ℤ
first_reading = pos 132223104000000000

abbrev pub first_controller : ℤ
first_controller = pos 132223104030000000
