-- A run for whose turns there are counts enough.
use Rattle.std.proofs.Common.{◌≡◌, ◌⊎◌, inl, inr, ◌+◌, ◌≤◌, ℕ, List, [], ◌++◌, reverse, Option, Some, IfSome, refl, ◌∙◌, ap, subst, arith}
use Rattle.std.proofs.lemmas.List.{append-nil}
use Rattle.capture_fmt.specs.declared.event.Event.{Event}
use Rattle.slot_disk.specs.Told.{DiskTold}
use Rattle.stamp_keep.specs.Image.{mark_of_image}
use Rattle.stamp_keep.specs.Keep.{IsLoadable}
use Rattle.stamp_keep.specs.Slots.{HasOtherVersion}
use Rattle.time_machine.specs.declared.conf.Conf.{Conf}
use Rattle.time_machine.specs.Machine.{told}
use Rattle.run_deeds.specs.declared.life_end.LifeEnd.{LifeEnd}
use Rattle.run_deeds.specs.declared.life_end.Why.{Why}
use Rattle.run_deeds.specs.declared.life_end.Why.TheVariants.{Done, BadVersion, StampsSpent}
use Rattle.run_deeds.specs.Deeds.{Ending, Whole, NoRecord, NoLine, IsWhole, missing_in}
use Rattle.edge_seen.specs.Seen.{Seen}
use Rattle.run_deeds.specs.Devices.{LifeEndsBy, NoneRose, faults_of}
use Rattle.run_deeds.specs.Lives.{KeptBy, Lives}
use Rattle.member_run.proofs.Ahead.{run_ahead}
use Rattle.member_run.proofs.Blocks.{sends_in}
use Rattle.member_run.proofs.Causes.{none_blamed}
use Rattle.member_run.proofs.Ordered.{followed_none}

pub none_missing : (ending : Ending) → IsWhole ending → missing_in ending ≡ []
none_missing Whole whole = refl
none_missing (NoRecord event front) whole = absurd whole
none_missing (NoLine deed front) whole = refl

-- a run that was short of a count had fewer counts than turns
pub had_few : (conf : Conf) (turns : ℕ) (entry exit : DiskTold) (before now : Seen) (end : LifeEnd) (content : List ℕ) → Lives conf turns entry exit before now end
    → end.why ≡ StampsSpent → entry.content ≡ Some content → mark_of_image content + turns ≤ 4294967232 → ⊥
had_few conf turns entry exit before now end content l spent disk fits =
    let ends = subst (λ (w : Why). LifeEndsBy w l.woven.ending l.woven.need (faults_of before) (faults_of now)) spent l.ended.ends in
    let given : l.woven.events ++ missing_in l.woven.ending ≡ l.woven.events = ap (λ (es : List Event). l.woven.events ++ es) (none_missing l.woven.ending ends.0) ∙ append-nil l.woven.events in
    let P : List Event → Type 0 = λ (es : List Event). 1 + sends_in conf es ≤ turns in
    let ahead : P (reverse l.woven.events) = subst P (followed_none (l.woven.events ++ missing_in l.woven.ending) ∙ ap reverse given) (run_ahead l.woven.weaves ends.1) in
    let mark : l.stood.mark ≡ mark_of_image content = subst (λ (o : Option (List ℕ)). IfSome o (λ c. l.stood.mark ≡ mark_of_image c)) disk l.stood_for in
    let kept = subst (λ (w : Why). KeptBy w l.stood l.woven.events (told conf (reverse l.woven.events)) entry exit) spent l.kept.kept in
    omega (arith, mark, fits, ahead, kept.2)

-- a run that found another version found no disk that can be loaded
had_version : (conf : Conf) (turns : ℕ) (entry exit : DiskTold) (before now : Seen) (end : LifeEnd) (content : List ℕ) → Lives conf turns entry exit before now end
    → end.why ≡ BadVersion → entry.content ≡ Some content → IsLoadable content → ⊥
had_version conf turns entry exit before now end content l version disk loadable =
    let kept = subst (λ (w : Why). KeptBy w l.stood l.woven.events (told conf (reverse l.woven.events)) entry exit) version l.kept.kept in
    loadable (subst (λ (o : Option (List ℕ)). IfSome o HasOtherVersion) disk kept.1)

else_done : {A B C : Type 0} → (B → ⊥) → (C → ⊥) → A ⊎ B ⊎ C → A
else_done version spent (inl done) = done
else_done version spent (inr (inl other)) = absurd (version other)
else_done version spent (inr (inr short)) = absurd (spent short)

-- where no call failed, a run of a disk of this version whose counts suffice is done
pub done_within : (conf : Conf) (turns : ℕ) (entry exit : DiskTold) (before now : Seen) (end : LifeEnd) → Lives conf turns entry exit before now end → (content : List ℕ)
    → entry.content ≡ Some content → IsLoadable content → mark_of_image content + turns ≤ 4294967232 → NoneRose (faults_of before) (faults_of now) → end.why ≡ Done
done_within conf turns entry exit before now end l content disk loadable fits none =
    else_done (λ version. had_version conf turns entry exit before now end content l version disk loadable)
    (λ spent. had_few conf turns entry exit before now end content l spent disk fits)
    (none_blamed end.why l.woven.ending l.woven.need (faults_of before) (faults_of now) l.ended.ends none)
