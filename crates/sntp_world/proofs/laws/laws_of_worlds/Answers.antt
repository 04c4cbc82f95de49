use Rattle.std.proofs.Common.{◌≡◌, ◌<◌, ◌^◌, ℕ, List, [], ◌∷◌, length, arith}
use Rattle.ms_auth.specs.declared.packet.Kind.{Kind}
use Rattle.ms_auth.specs.declared.packet.Kind.TheVariants.{Short, Extended}
use Rattle.ms_auth.specs.Fields.{kind_length}
use Rattle.time_machine.specs.Machine.{told}
use Rattle.time_machine.proofs.Open.{open_at}
use Rattle.sntp_world.specs.declared.packet.Packet.{Packet}
use Rattle.sntp_world.specs.Accuracy.{AreReplies, LawOfAccuracy, LawOfNearness, LawOfReplies, LawOfRunning, LawOfStamps}
use Rattle.sntp_world.specs.Laws.{IsPacketOf, LawOfClocks, LawOfHistories, LawOfOneEffect, LawOfOneWorld, LawOfPackets, LawOfRequests}
use Rattle.sntp_world.specs.Setting.{world_conf}
use Rattle.sntp_world.specs.Simulation.{LawOfOneRun}
use Rattle.sntp_world.proofs.Cases.{lives_always}
use Rattle.sntp_world.proofs.Stamps.{stamps_always}
use Rattle.sntp_world.proofs.Made.{AreMade, made_always}
use Rattle.sntp_world.proofs.OneWorld.{one_led, one_run, one_world}
use Rattle.sntp_world.proofs.Ongoing.{ongoing_always}
use Rattle.sntp_world.proofs.Accurate.{accurate_near}
use Rattle.sntp_world.proofs.Nearness.{near_little}
use Rattle.sntp_world.proofs.Packets.{packets_always}
use Rattle.sntp_world.proofs.Requests.{requests_always}
use Rattle.sntp_world.proofs.laws.laws_of_worlds.Goals as goal

histories : LawOfHistories
histories ops w is = let lives = lives_always ops w is in (lives.grows, lives.mark)

clocks : LawOfClocks
clocks ops w is = (packets_always ops w is).clocks

packets : LawOfPackets
packets ops w p is sent = let sound = (packets_always ops w is).sound p sent in (sound.member, sound.controller, sound.uneven_then)

requests : LawOfRequests
requests ops w r is o =
    let there = (requests_always ops w is).there r ((open_at world_conf (told world_conf w.history) r).0 o) in (
      λ (fits : r.word < 2 ^ 32).
          let found = there.there fits in
          (found.packet, record { sent = found.sent; asks = found.asks; stamp = found.stamp }),
      λ (p : Packet) (of : IsPacketOf w r p). there.only p of.sent of.asks of.stamp,
    )

stamps : LawOfStamps
stamps ops w is = (stamps_always ops w is).stamped.rise

-- a message with a digest is more than a header
no_header : (kind : Kind) (n : ℕ) → n ≡ kind_length kind → n ≡ 48 → ⊥
no_header Short n is same = omega (arith, is, same)
no_header Extended n is same = omega (arith, is, same)

are_replies : (ps : List Packet) → AreMade ps → AreReplies ps
are_replies [] are = tt
are_replies (p ∷ ps) are = (
  λ goes signed. are.0 goes (λ (short : length p.bytes ≡ 48). no_header signed.kind (length p.bytes) signed.size short),
  are_replies ps are.1,
)

replies : LawOfReplies
replies ops w is = are_replies w.packets (made_always ops w is).made

running : LawOfRunning
running ops w r p is o of =
    ((ongoing_always ops w is).ongoing r p ((open_at world_conf (told world_conf w.history) r).0 o) of.sent of.asks of.stamp).runs

accuracy : LawOfAccuracy
accuracy ops w is near = (accurate_near ops w near is).bounds

nearness : LawOfNearness
nearness ops w is few = near_little ops w is few

world : LawOfOneWorld
world ops one other first next = one_world ops one other first next

effect : LawOfOneEffect
effect ops w op x y now later is first next = (one_led op w x y now later (stamps_always ops w is) first next).0

run : LawOfOneRun
run seed n captured recorded printed written first next = one_run seed n captured recorded printed written first next

pub returns : goal.returns
returns c = record { histories = histories; clocks = clocks; packets = packets; requests = requests; stamps = stamps; replies = replies; running = running; accuracy = accuracy; nearness = nearness; one_world = world; one_effect = effect; one_run = run }
