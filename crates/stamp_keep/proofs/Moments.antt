-- How a run of disk calls goes on.
use Rattle.std.proofs.Common.{◌≡◌, inl, inr, ⊎_elim, ℕ, ◌+◌, ◌-◌, ◌^◌, ◌≤◌, ◌<◌, List, Option, Some, None, IfSome, OnOk, Result, Ok, Err, refl, sym, ◌∙◌, arith}
use Rattle.slot_disk.specs.Told.{DiskTold, IsDisk}
use Rattle.slot_disk.specs.Calls.{Elapses, IsSynced, IsUnchanged, LeavesOnly}
use Rattle.stamp_keep.specs.Keep.{LeavesFromFirst}
use Rattle.stamp_keep.specs.Steps.{IsContent}

-- before the first call
pub started : (old : DiskTold) (P : List ℕ → Type 0) → IsDisk old → ((c : List ℕ) → old.may_leave c → P c) → LeavesOnly old old P
started old P disk here = record { later = omega arith; tells = refl; each = λ c left. here c (disk.only_now c left); before = λ t c le left. inl left }

-- one call more, after which a crash leaves what has P
pub goes_on : {old mid new : DiskTold} {P : List ℕ → Type 0} → LeavesOnly old mid P → Elapses mid new → ((c : List ℕ) → new.may_leave c → P c) → LeavesOnly old new P
goes_on {old = old} so_far call here = record {
  later = omega (arith, so_far.later, call.time.later);
  tells = call.tells ∙ so_far.tells;
  each = λ c left. ⊎_elim (so_far.each c) (here c) (call.nothing_else old.time c so_far.later left);
  before = λ t c le left. ⊎_elim (so_far.before t c le) (λ now. inr (here c now)) (call.nothing_else t c (omega (arith, le, so_far.later)) left);
}

-- a run of calls and then another, each with what a crash leaves in it
pub and_then : {old mid new : DiskTold} {P Q R : List ℕ → Type 0} → LeavesOnly old mid P → LeavesOnly mid new Q → ((c : List ℕ) → P c → R c) → ((c : List ℕ) → Q c → R c) → LeavesOnly old new R
and_then {old = old} first second from_first from_second = record {
  later = omega (arith, first.later, second.later);
  tells = second.tells ∙ first.tells;
  each = λ c left. ⊎_elim (λ was. from_first c (first.each c was)) (from_second c) (second.before old.time c first.later left);
  before = λ t c le left. ⊎_elim (λ was. ⊎_elim (λ had. inl had) (λ p. inr (from_first c p)) (first.before t c le was)) (λ q. inr (from_second c q)) (second.before t c (omega (arith, le, first.later)) left);
}

-- the same run, with less said of what it leaves
pub weaker : {old new : DiskTold} {P R : List ℕ → Type 0} → LeavesOnly old new P → ((c : List ℕ) → P c → R c) → LeavesOnly old new R
weaker run from = record {
  later = run.later;
  tells = run.tells;
  each = λ c left. from c (run.each c left);
  before = λ t c le left. ⊎_elim (λ had. inl had) (λ p. inr (from c p)) (run.before t c le left);
}

-- what a clause of a success gives
pub on_ok : {T E P R : Type 0} (r : Result T E) → OnOk r P → (P → R) → OnOk r R
on_ok (Ok x) p gives = gives p
on_ok (Err e) p gives = tt

-- what two clauses of one success give together
pub on_ok_both : {T E P Q R : Type 0} (r : Result T E) → OnOk r P → OnOk r Q → (P → Q → R) → OnOk r R
on_ok_both (Ok x) p q both = both p q
on_ok_both (Err e) p q both = tt

-- one call alone
pub one_call : (old new : DiskTold) (P : List ℕ → Type 0) → Elapses old new → LeavesFromFirst old new P
one_call old new P call = record { each = λ room calls c left. absurd (omega (arith, calls, call.time.once)) }

is_content : (content : Option (List ℕ)) (c : List ℕ) → content ≡ Some c → IfSome content (λ d. c ≡ d)
is_content (Some d) c is = cc
is_content None c is = tt

-- a sync that is done, and then a read
pub sync_then_read : (old mid new : DiskTold) → IsDisk mid → Elapses old mid → mid.content ≡ old.content → IsSynced mid → Elapses mid new → IsUnchanged mid new → LeavesFromFirst old new (IsContent old)
sync_then_read old mid new disk sync same synced read stays = record { each = stands }
  where
    stands : old.time < 2 ^ 64 - 2 → old.time + 2 ≤ new.time → (c : List ℕ) → new.left_since (old.time + 1) c → IsContent old c
    stands room calls c left =
        let now : mid.time ≡ old.time + 1 = sync.time.counted (omega arith) in
        let was = ⊎_elim (λ had. disk.only_now c (rw now had)) (λ left. stays.was c left) (read.nothing_else (old.time + 1) c (omega (arith, now)) left) in
        record { same = is_content old.content c (sym same ∙ synced.reads c was) }
