-- What a wire tells of bytes that were taken of its open session.
use Rattle.std.proofs.Common.{◌≡◌, inl, inr, ℕ, Bool, true, false, List, [], ◌∷◌, ◌++◌, Option, Some, None, refl, sym, ◌∙◌, ap, append_assoc, subst}
use Rattle.std.specs.Prelude.{⊤}
use Rattle.std.proofs.lemmas.List.{append-nil}
use Rattle.std.proofs.lemmas.Option.{none-some, same_Some}
use Rattle.base_specs.specs.Told.{LastIs, LastChanged, LastTold}
use Rattle.base_specs.proofs.Telling.{last_changed_behind}
use Rattle.edge_traits.specs.declared.sink.Put.{Put}
use Rattle.edge_traits.specs.declared.sink.Put.TheVariants as write
use Rattle.edge_traits.specs.Wire.{Entry, Session, NoMore, Failed, FailsToTake, FailsToWrite, SessionChanged, SessionIs, SessionTold, TakesOf, WireTook, WireWrites, WritesTo}
use Rattle.edge_traits.proofs.Wires.{open_session_more, wire_took_more}
use Rattle.rpc_pdu.specs.Fill.{IsAtEnd, OpensNone, TakesThenFails, WireFailed}

-- the last entry changed so, and therefore so
last_told_as : {A : Type 0} (f h : A → A → Type 0) → ((x y : A) → f x y → h x y) → (old new : Option (List A)) → LastTold f old new → LastTold h old new
last_told_as f h so None None told = tt
last_told_as f h so None (Some new) told = told
last_told_as f h so (Some old) None told = told
last_told_as f h so (Some old) (Some new) told = record {
  earlier = told.earlier;
  before = told.before;
  now = told.now;
  was = told.was;
  is = told.is;
  changed = so told.before told.now told.changed;
}

session_as : (f h : SessionTold → SessionTold → Type 0) → ((x y : SessionTold) → f x y → h x y) → (x y : Entry) → SessionChanged f x y → SessionChanged h x y
session_as f h so (Session x) (Session y) told = so x y told
session_as f h so (Session x) NoMore told = told
session_as f h so (Session x) Failed told = told
session_as f h so NoMore y told = told
session_as f h so Failed y told = told

-- bytes were taken, and then a read failed
fails_behind : (xs : List ℕ) (x y z : SessionTold) → TakesOf xs x y → FailsToTake y z → TakesThenFails xs x z
fails_behind xs x y z first next =
    let left : z.left ≡ y.left = ap (λ (s : SessionTold). s.left) next in (
      first.0 ∙ ap (λ (l : List ℕ). xs ++ l) (sym left),
      next ∙ ap (λ (s : SessionTold). record s { read_failed = true }) first.1
          ∙ ap (λ (l : List ℕ). record x { taken = x.taken ++ xs; left = l; read_failed = true }) (sym left),
    )

takes_nothing : (x : SessionTold) → TakesOf [] x x
takes_nothing x = (refl, ap (λ (l : List ℕ). record x { taken = l }) (sym (append-nil x.taken)))

fails_at_once : (x z : SessionTold) → FailsToTake x z → TakesThenFails [] x z
fails_at_once x z next = fails_behind [] x x z (takes_nothing x) next

pub took_then_failed : (old mid new : Option (List Entry)) (xs : List ℕ) → WireTook xs old mid → LastTold (SessionChanged FailsToTake) mid new → WireFailed xs old new
took_then_failed old mid new xs (inr first) next = open_session_more _ _ _ (fails_behind xs) old mid new first next
took_then_failed old mid new xs (inl none) next =
    subst (λ (l : List ℕ). WireFailed l old new) (sym none.0)
    (subst (λ (told : Option (List Entry)). WireFailed [] told new) none.1
    (last_told_as _ _ (session_as _ _ fails_at_once) mid new next))

-- bytes were taken, then more, and then a read failed
fails_later : (xs ys : List ℕ) (x y z : SessionTold) → TakesOf xs x y → TakesThenFails ys y z → TakesThenFails (xs ++ ys) x z
fails_later xs ys x y z first next = (
  first.0 ∙ ap (λ (l : List ℕ). xs ++ l) next.0 ∙ sym (append_assoc xs ys z.left),
  next.1 ∙ ap (λ (s : SessionTold). record s { taken = s.taken ++ ys; left = z.left; read_failed = true }) first.1
      ∙ ap (λ (l : List ℕ). record x { taken = l; left = z.left; read_failed = true }) (append_assoc x.taken xs ys),
)

pub failed_more : (old mid new : Option (List Entry)) (xs ys : List ℕ) → WireTook xs old mid → WireFailed ys mid new → WireFailed (xs ++ ys) old new
failed_more old mid new xs ys (inr first) next = open_session_more _ _ _ (fails_later xs ys) old mid new first next
failed_more old mid new xs ys (inl none) next =
    subst (λ (l : List ℕ). WireFailed (l ++ ys) old new) (sym none.0)
    (subst (λ (told : Option (List Entry)). WireFailed ys told new) none.1 next)

-- bytes were taken, and then more
pub took_both : (old mid new : Option (List Entry)) (xs ys : List ℕ) → WireTook xs old mid → WireTook ys mid new → WireTook (xs ++ ys) old new
took_both old mid new xs ys first (inr next) = wire_took_more old mid new xs ys first next
took_both old mid new xs ys first (inl none) =
    subst (λ (l : List ℕ). WireTook l old new) (sym (ap (λ (l : List ℕ). xs ++ l) none.0 ∙ append-nil xs))
    (subst (λ (told : Option (List Entry)). WireTook xs old told) (sym none.1) first)

-- the last of the entries is such a one
pub last_is : (such : Entry → Type 0) (earlier : List Entry) (last : Entry) → LastIs such (Some (earlier ++ last ∷ [])) → such last
last_is such earlier last is =
    let list : List Entry = earlier ++ last ∷ [] in
    let same : LastChanged (λ x y. such x) list list = record {
      earlier = is.0;
      before = is.1;
      now = is.1;
      was = is.2;
      is = is.2;
      changed = is.3;
    } in
    (last_changed_behind (λ x y. such x) [] earlier last list same).2

-- The session from which bytes were taken, as it is told now.
pub record Behind (earlier : List Entry) (before : SessionTold) (taken : List ℕ) (now : Option (List Entry)) : Type 0 where
  pub after : SessionTold
  pub told : now ≡ Some (earlier ++ Session after ∷ [])
  pub cut : before.left ≡ taken ++ after.left
  pub more : after.taken ≡ before.taken ++ taken

opened_session : (f : SessionTold → SessionTold → Type 0) (earlier : List Entry) (before : SessionTold) (last : Entry) (new : List Entry)
    → new ≡ earlier ++ last ∷ [] → SessionChanged f (Session before) last → (after : SessionTold) × (Some new ≡ Some (earlier ++ Session after ∷ [])) × f before after
opened_session f earlier before (Session after) new is changed = (after, ap Some is, changed)
opened_session f earlier before NoMore new is changed = absurd changed
opened_session f earlier before Failed new is changed = absurd changed

changed_session : (f : SessionTold → SessionTold → Type 0) (earlier : List Entry) (before : SessionTold) (told now : Option (List Entry))
    → told ≡ Some (earlier ++ Session before ∷ []) → LastTold (SessionChanged f) told now → (after : SessionTold) × (now ≡ Some (earlier ++ Session after ∷ [])) × f before after
changed_session f earlier before None now is changed = absurd (none-some _ is)
changed_session f earlier before (Some list) None is changed = absurd changed
changed_session f earlier before (Some list) (Some new) is changed =
    let one : LastChanged (SessionChanged f) (earlier ++ Session before ∷ []) new = subst (λ (l : List Entry). LastChanged (SessionChanged f) l new) (same_Some _ _ is) changed in
    let last = last_changed_behind (SessionChanged f) [] earlier (Session before) new one in
    opened_session f earlier before last.0 new last.1 last.2

pub session_behind : (earlier : List Entry) (before : SessionTold) (taken : List ℕ) (told now : Option (List Entry))
    → told ≡ Some (earlier ++ Session before ∷ []) → WireTook taken told now → Behind earlier before taken now
session_behind earlier before taken told now is (inl none) = record {
  after = before;
  told = none.1 ∙ is;
  cut = ap (λ (l : List ℕ). l ++ before.left) (sym none.0);
  more = sym (append-nil before.taken) ∙ ap (λ (l : List ℕ). before.taken ++ l) (sym none.0);
}
session_behind earlier before taken told now is (inr took) =
    let session = changed_session (TakesOf taken) earlier before told now is took in
    record { after = session.0; told = session.1; cut = session.2.0; more = ap (λ (s : SessionTold). s.taken) session.2.1 }

-- the same where a read failed behind the bytes
pub session_failed : (earlier : List Entry) (before : SessionTold) (taken : List ℕ) (told now : Option (List Entry))
    → told ≡ Some (earlier ++ Session before ∷ []) → WireFailed taken told now
    → (after : SessionTold) × (now ≡ Some (earlier ++ Session after ∷ [])) × (after.read_failed ≡ true)
session_failed earlier before taken told now is failed =
    let session = changed_session (TakesThenFails taken) earlier before told now is failed in
    (session.0, session.1, ap (λ (s : SessionTold). s.read_failed) session.2.1)

-- at the end of the open session nothing is left of it
pub nothing_left : (is_open : Bool) (earlier : List Entry) (session : SessionTold) (now : Option (List Entry))
    → is_open ≡ true → now ≡ Some (earlier ++ Session session ∷ []) → IsAtEnd is_open now → session.left ≡ []
nothing_left is_open earlier session now is told ended =
    last_is (SessionIs (λ s. s.left ≡ [])) earlier (Session session)
    (subst (λ (t : Option (List Entry)). LastIs (SessionIs (λ s. s.left ≡ [])) t) told (ended is))

-- what takes bytes or writes them opens no session
session_stays : (f : SessionTold → SessionTold → Type 0) (old new : Option (List Entry)) → LastTold (SessionChanged f) old new → LastTold (λ before now. ⊤) old new
session_stays f old new changed = last_told_as (SessionChanged f) (λ before now. ⊤) (λ x y is. tt) old new changed

pub took_opens_none : (taken : List ℕ) (old new : Option (List Entry)) → WireTook taken old new → OpensNone old new
took_opens_none taken old new (inl none) = inl none.1
took_opens_none taken old new (inr took) = inr (session_stays (TakesOf taken) old new took)

pub failed_opens_none : (taken : List ℕ) (old new : Option (List Entry)) → WireFailed taken old new → OpensNone old new
failed_opens_none taken old new failed = inr (session_stays (TakesThenFails taken) old new failed)

pub wrote_opens_none : (piece : List ℕ) (old new : Option (List Entry)) → LastTold (SessionChanged (WritesTo piece)) old new → OpensNone old new
wrote_opens_none piece old new wrote = inr (session_stays (WritesTo piece) old new wrote)

pub write_failed_opens_none : (piece : List ℕ) (is_open : Bool) (old new : Option (List Entry))
    → (is_open ≡ true → LastTold (SessionChanged (FailsToWrite piece)) old new) × (is_open ≡ false → new ≡ old) → OpensNone old new
write_failed_opens_none piece true old new failed = inr (session_stays (FailsToWrite piece) old new (failed.0 refl))
write_failed_opens_none piece false old new failed = inl (failed.1 refl)

pub writes_open_none : (put : Put) (piece : List ℕ) (is_open : Bool) (old new : Option (List Entry)) → WireWrites put is_open piece old new → OpensNone old new
writes_open_none write.Done piece is_open old new wrote = wrote_opens_none piece old new wrote.1
writes_open_none write.Failed piece is_open old new failed = write_failed_opens_none piece is_open old new failed
