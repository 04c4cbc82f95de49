-- The world to which nothing has happened but its member's first Life.
use Rattle.std.proofs.Common.{◌≡◌, List, [], ◌∷◌, Some, None, subst, ap, arith, refl}
use Rattle.capture_fmt.specs.declared.event.Event.{Event}
use Rattle.capture_fmt.specs.declared.event.Event.TheVariants.{Life}
use Rattle.time_machine.specs.Growing.{MayFollow}
use Rattle.time_machine.specs.Machine.{told}
use Rattle.time_machine.specs.Words.{Words, words}
use Rattle.sntp_core.specs.declared.member.Member.{Member}
use Rattle.sntp_core.specs.Standing.{StandsForHistory, conf_of, words_of}
use Rattle.sntp_world.specs.declared.packet.Packet.{Packet}
use Rattle.sntp_world.specs.Setting.{first_controller, first_reading, world_conf}
use Rattle.sntp_world.specs.State.{first_state}
use Rattle.sntp_world.specs.Standing.{Kept, StandsForOps}

-- the first Life may come
pub new_follows : (m : Member) → StandsForHistory m [] → MayFollow (conf_of m) (words_of m) (Life first_reading 0)
unfolding words told
new_follows m s = let e : (words_of m).greatest ≡ 0 = ap (λ (w : Words). w.greatest) s.keeps in omega arith

-- what a world keeps at first
abbrev pub first_kept : Member → List Packet → Kept
first_kept m packets = record {
  member = m;
  clocks = record { member = first_reading; controller = first_controller; uneven = 0 };
  packets = packets;
  slack = None;
}

pub first_stands : (m : Member) (e : Event) (packets : List Packet) → conf_of m ≡ world_conf → e ≡ Life first_reading 0 → StandsForHistory m (e ∷ []) → packets ≡ []
    → StandsForOps (first_kept m packets) []
first_stands m e packets conf is s none = record {
  state = first_state;
  after = refl;
  keeps = record { conf = conf; member = subst (λ (d : Event). StandsForHistory m (d ∷ [])) is s; clocks = refl; packets = none; slack = refl };
}

pub first_mark : (m : Member) (e : Event) → e ≡ Life first_reading 0 → StandsForHistory m (e ∷ []) → (words_of m).mark ≡ Some 0
unfolding words told
first_mark m e is s = let k = (subst (λ (d : Event). StandsForHistory m (d ∷ [])) is s).keeps in ap (λ (w : Words). w.mark) k

pub first_sent : (m : Member) (e : Event) → e ≡ Life first_reading 0 → StandsForHistory m (e ∷ []) → (words_of m).sent ≡ 0
unfolding words told
first_sent m e is s = let k = (subst (λ (d : Event). StandsForHistory m (d ∷ [])) is s).keeps in ap (λ (w : Words). w.sent) k
