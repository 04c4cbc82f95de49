-- What a wire tells of the session that was opened last, through its writes and reads.
use Rattle.std.proofs.Common.{◌≡◌, inl, inr, ℕ, ◌≤◌, true, false, List, [], ◌∷◌, ◌++◌, length, take, Option, Some, None, refl, sym, ◌∙◌, ap, arith, subst}
use Rattle.std.proofs.lemmas.List.{append-nil}
use Rattle.std.proofs.lemmas.Option.{none-some, same_Some}
use Rattle.base_specs.specs.Told.{Grew, LastChanged, LastTold}
use Rattle.base_specs.proofs.Telling.{last_changed_behind}
use Rattle.edge_traits.specs.Wire.{Entry, Session, NoMore, Failed, FailsToWrite, SessionChanged, SessionTold, TakesOf, WireTook, Written, WritesTo, with_front, with_write}
use Rattle.rpc_pdu.specs.Fill.{IsAtEnd, TakesThenFails, WireFailed}
use Rattle.rpc_pdu.proofs.Wires.{nothing_left}

-- a session of which these bytes were taken, of which these are left, and to which this was written
abbrev pub held : List ℕ → List ℕ → List Written → SessionTold
held taken left writes = record { taken = taken; left = left; writes = writes; read_failed = false; write_failed = false }

-- Of what was told before, this session is told one more; or the wire has fallen silent.
pub data Stands (before now : Option (List Entry)) (session : SessionTold) : Type 0 where
  Silent : now ≡ None → Stands before now session
  Told : (old : List Entry) → before ≡ Some old → now ≡ Some (old ++ Session session ∷ []) → Stands before now session

pub stands_of : (before now : Option (List Entry)) (session : SessionTold) → Grew before now (Session session ∷ []) → Stands before now session
stands_of before None session grew = Silent refl
stands_of None (Some new) session grew = absurd grew
stands_of (Some old) (Some new) session grew = Told old refl (ap Some grew)

pub grew_of : (before now : Option (List Entry)) (session : SessionTold) → Stands before now session → Grew before now (Session session ∷ [])
grew_of before now session (Silent is) = subst (λ (n : Option (List Entry)). Grew before n (Session session ∷ [])) (sym is) tt
grew_of before now session (Told old was is) =
    subst (λ (b : Option (List Entry)). Grew b now (Session session ∷ [])) (sym was)
    (subst (λ (n : Option (List Entry)). Grew (Some old) n (Session session ∷ [])) (sym is) refl)

-- ---- One change

still_silent : (f : Entry → Entry → Type 0) (told now : Option (List Entry)) → told ≡ None → LastTold f told now → now ≡ None
still_silent f None None is changed = refl
still_silent f None (Some new) is changed = absurd changed
still_silent f (Some list) now is changed = absurd (none-some _ (sym is))

changed_entry : (f : SessionTold → SessionTold → Type 0) (old : List Entry) (session : SessionTold) (last : Entry) (new : List Entry)
    → new ≡ old ++ last ∷ [] → SessionChanged f (Session session) last → (after : SessionTold) × (Some new ≡ Some (old ++ Session after ∷ [])) × f session after
changed_entry f old session (Session after) new is changed = (after, ap Some is, changed)
changed_entry f old session NoMore new is changed = absurd changed
changed_entry f old session Failed new is changed = absurd changed

changed_session : (f : SessionTold → SessionTold → Type 0) (old : List Entry) (session : SessionTold) (told now : Option (List Entry))
    → told ≡ Some (old ++ Session session ∷ []) → LastTold (SessionChanged f) told now → (after : SessionTold) × (now ≡ Some (old ++ Session after ∷ [])) × f session after
changed_session f old session None now is changed = absurd (none-some _ is)
changed_session f old session (Some list) None is changed = absurd changed
changed_session f old session (Some list) (Some new) is changed =
    let one : LastChanged (SessionChanged f) (old ++ Session session ∷ []) new = subst (λ (l : List Entry). LastChanged (SessionChanged f) l new) (same_Some _ _ is) changed in
    let last = last_changed_behind (SessionChanged f) [] old (Session session) new one in
    changed_entry f old session last.0 new last.1 last.2

-- the session said otherwise
as_told : (old : List Entry) (session other : SessionTold) (now : Option (List Entry)) → now ≡ Some (old ++ Session session ∷ []) → session ≡ other
    → now ≡ Some (old ++ Session other ∷ [])
as_told old session other now is same = is ∙ ap (λ (s : SessionTold). Some (old ++ Session s ∷ [])) same

-- ---- Writes and reads

pub wrote : (piece : List ℕ) (before told now : Option (List Entry)) (session : SessionTold) → Stands before told session
    → LastTold (SessionChanged (WritesTo piece)) told now → Stands before now (with_write piece session)
wrote piece before told now session (Silent is) changed = Silent (still_silent (SessionChanged (WritesTo piece)) told now is changed)
wrote piece before told now session (Told old was is) changed =
    let c = changed_session (WritesTo piece) old session told now is changed in
    Told old was (as_told old c.0 (with_write piece session) now c.1 c.2)

pub write_failed : (piece : List ℕ) (before told now : Option (List Entry)) (session : SessionTold) → Stands before told session
    → LastTold (SessionChanged (FailsToWrite piece)) told now
    → (n : ℕ) × (n ≤ length piece) × Stands before now (record (with_front (take n piece) session) { write_failed = true })
write_failed piece before told now session (Silent is) changed =
    (0, omega arith, Silent (still_silent (SessionChanged (FailsToWrite piece)) told now is changed))
write_failed piece before told now session (Told old was is) changed =
    let c = changed_session (FailsToWrite piece) old session told now is changed in
    (c.2.0, c.2.1, Told old was (as_told old c.0 _ now c.1 c.2.2))

-- The bytes were taken, and so many are left; where the wire is at the end, none.
pub took : (bytes taken left : List ℕ) (writes : List Written) (before told now : Option (List Entry)) → Stands before told (held taken left writes)
    → WireTook bytes told now
    → (rest : List ℕ) × Stands before now (held (taken ++ bytes) rest writes) × (IsAtEnd true now → rest ≡ [])
took bytes taken left writes before told now (Silent is) (inl none) = ([], Silent (none.1 ∙ is), λ ended. refl)
took bytes taken left writes before told now (Silent is) (inr changed) =
    ([], Silent (still_silent (SessionChanged (TakesOf bytes)) told now is changed), λ ended. refl)
took bytes taken left writes before told now (Told old was is) (inl none) =
    let same : held taken left writes ≡ held (taken ++ bytes) left writes =
    ap (λ (l : List ℕ). held l left writes) (sym (append-nil taken) ∙ ap (λ (l : List ℕ). taken ++ l) (sym none.0)) in
    let here = as_told old (held taken left writes) (held (taken ++ bytes) left writes) now (none.1 ∙ is) same in
    (left, Told old was here, λ ended. nothing_left true old (held (taken ++ bytes) left writes) now refl here ended)
took bytes taken left writes before told now (Told old was is) (inr changed) =
    let c = changed_session (TakesOf bytes) old (held taken left writes) told now is changed in
    let after : SessionTold = c.0 in
    let here = as_told old after (held (taken ++ bytes) after.left writes) now c.1 c.2.1 in
    (after.left, Told old was here, λ ended. nothing_left true old (held (taken ++ bytes) after.left writes) now refl here ended)

pub read_failed : (bytes taken left : List ℕ) (writes : List Written) (before told now : Option (List Entry)) → Stands before told (held taken left writes)
    → WireFailed bytes told now
    → (rest : List ℕ) × Stands before now (record (held (taken ++ bytes) rest writes) { read_failed = true })
read_failed bytes taken left writes before told now (Silent is) changed =
    ([], Silent (still_silent (SessionChanged (TakesThenFails bytes)) told now is changed))
read_failed bytes taken left writes before told now (Told old was is) changed =
    let c = changed_session (TakesThenFails bytes) old (held taken left writes) told now is changed in
    let after : SessionTold = c.0 in
    (after.left, Told old was (as_told old after (record (held (taken ++ bytes) after.left writes) { read_failed = true }) now c.1 c.2.1))
