-- What a world keeps, where its clocks stay near each other.
use Rattle.std.proofs.Common.{List, ◌∷◌, Result, Ok, Err, IfOk, OnOk}
use Rattle.sntp_world.specs.declared.due.Due.{Due}
use Rattle.sntp_world.specs.declared.op.Effect.{Effect}
use Rattle.sntp_world.specs.declared.op.NoMemory.{NoMemory}
use Rattle.sntp_world.specs.declared.op.Op.{Op}
use Rattle.sntp_world.specs.Accuracy.{IsNotNegative, KeepsBounds}
use Rattle.sntp_world.specs.Due.{Does, IsDue}
use Rattle.sntp_world.specs.Standing.{Keeps, Kept, StandsForOps}
use Rattle.sntp_world.specs.State.{State}
use Rattle.sntp_world.specs.Steps.{StayNear, WorldAfter}
use Rattle.sntp_world.proofs.Accurate.{accurate_near, accurate_next}
use Rattle.sntp_world.proofs.Nearness.{not_negative}

-- its least slack isn't negative
pub kept_not_negative : (k : Kept) (ops : List Op) → StandsForOps k ops → StayNear ops → IsNotNegative k.slack
kept_not_negative k ops stands near =
    not_negative stands.state.corrections k.slack stands.keeps.slack (accurate_near ops stands.state near stands.after).bounds

-- nor after one operation more
keeps_bounds : (k : Kept) (op : Op) (ops : List Op) → StayNear ops → StandsForOps k (op ∷ ops) → KeepsBounds (op ∷ ops) k
keeps_bounds k op ops near stands = record {
  bounds = λ (w : State) (is : WorldAfter (op ∷ ops) w) (keeps : Keeps k w). (accurate_next op ops w near is).bounds;
  not_negative = not_negative stands.state.corrections k.slack stands.keeps.slack (accurate_next op ops stands.state near stands.after).bounds;
}

pub step_bounds : (r : Result Effect NoMemory) (k now : Kept) (op : Op) (due : Due) (ops : List Op) → ((w : State) → Keeps k w → IsDue op due w)
    → IfOk r (λ effect. Does k due effect now) → StandsForOps k ops → StayNear ops → OnOk r (KeepsBounds (op ∷ ops) now)
step_bounds (Ok effect) k now op due ops is done stands near =
    let did = done stands.state stands.keeps in
    keeps_bounds now op ops near (record {
      state = did.0;
      after = (stands.state, effect, stands.after, (is stands.state stands.keeps).carries_out effect did.0 did.1);
      keeps = did.2;
    })
step_bounds (Err e) k now op due ops is done stands near = tt
