-- What a wire tells of its open session, as it is told before and after a call.
use Rattle.std.proofs.Common.{◌≡◌, inl, inr, ℕ, true, List, [], ◌∷◌, ◌++◌, Option, Some, None, refl, sym, ◌∙◌, ap, subst}
use Rattle.std.proofs.lemmas.List.{append-nil}
use Rattle.std.proofs.lemmas.Option.{none-some, same_Some}
use Rattle.base_specs.specs.Told.{LastIs, LastChanged, LastTold}
use Rattle.base_specs.proofs.Telling.{last_changed_behind}
use Rattle.edge_traits.specs.Wire.{Entry, Session, NoMore, Failed, SessionChanged, SessionIs, SessionTold, TakesOf, WireTook}
use Rattle.rpc_pdu.specs.Fill.{IsAtEnd}
use Rattle.rpc_pdu.proofs.Wires.{last_is}

-- the session as it is told now, which changed so
pub record Seen (f : SessionTold → SessionTold → Type 0) (earlier : List Entry) (before : SessionTold) (now : Option (List Entry)) : Type 0 where
  pub after : SessionTold
  pub told : now ≡ Some (earlier ++ Session after ∷ [])
  pub changed : f before after

opened_session : (f : SessionTold → SessionTold → Type 0) (earlier : List Entry) (before : SessionTold) (last : Entry) (new : List Entry)
    → new ≡ earlier ++ last ∷ [] → SessionChanged f (Session before) last → Seen f earlier before (Some new)
opened_session f earlier before (Session after) new is changed = record { after = after; told = ap Some is; changed = changed }
opened_session f earlier before NoMore new is changed = absurd changed
opened_session f earlier before Failed new is changed = absurd changed

pub changed_seen : (f : SessionTold → SessionTold → Type 0) (earlier : List Entry) (before : SessionTold) (told now : Option (List Entry))
    → told ≡ Some (earlier ++ Session before ∷ []) → LastTold (SessionChanged f) told now → Seen f earlier before now
changed_seen f earlier before None now is changed = absurd (none-some _ is)
changed_seen f earlier before (Some list) None is changed = absurd changed
changed_seen f earlier before (Some list) (Some new) is changed =
    let one : LastChanged (SessionChanged f) (earlier ++ Session before ∷ []) new = subst (λ (l : List Entry). LastChanged (SessionChanged f) l new) (same_Some _ _ is) changed in
    let last = last_changed_behind (SessionChanged f) [] earlier (Session before) new one in
    opened_session f earlier before last.0 new last.1 last.2

takes_nothing : (x : SessionTold) → TakesOf [] x x
takes_nothing x = (refl, ap (λ (l : List ℕ). record x { taken = l }) (sym (append-nil x.taken)))

pub took_seen : (taken : List ℕ) (earlier : List Entry) (before : SessionTold) (told now : Option (List Entry))
    → told ≡ Some (earlier ++ Session before ∷ []) → WireTook taken told now → Seen (TakesOf taken) earlier before now
took_seen taken earlier before told now is (inl none) = record {
  after = before;
  told = none.1 ∙ is;
  changed = subst (λ (l : List ℕ). TakesOf l before before) (sym none.0) (takes_nothing before);
}
took_seen taken earlier before told now is (inr took) = changed_seen (TakesOf taken) earlier before told now is took

-- a wire that doesn't tell doesn't begin to
pub silent : (f : SessionTold → SessionTold → Type 0) (now : Option (List Entry)) → LastTold (SessionChanged f) None now → now ≡ None
silent f None told = refl
silent f (Some new) told = absurd told

pub silent_took : (taken : List ℕ) (now : Option (List Entry)) → WireTook taken None now → now ≡ None
silent_took taken None took = refl
silent_took taken (Some new) (inl none) = none.1
silent_took taken (Some new) (inr took) = absurd took

-- the last entry changed so
pub last_changed : (f : SessionTold → SessionTold → Type 0) (earlier : List Entry) (before : SessionTold) (told now : Option (List Entry))
    → told ≡ Some (earlier ++ Session before ∷ []) → Seen f earlier before now → LastTold (SessionChanged f) told now
last_changed f earlier before told now is seen =
    subst (λ (t : Option (List Entry)). LastTold (SessionChanged f) t now) (sym is)
    (subst (λ (n : Option (List Entry)). LastTold (SessionChanged f) (Some (earlier ++ Session before ∷ [])) n) (sym seen.told) (record {
      earlier = earlier;
      before = Session before;
      now = Session seen.after;
      was = refl;
      is = refl;
      changed = seen.changed;
    }))

pub last_session : (such : SessionTold → Type 0) (earlier : List Entry) (session : SessionTold) (now : Option (List Entry))
    → now ≡ Some (earlier ++ Session session ∷ []) → such session → LastIs (SessionIs such) now
last_session such earlier session now is holds =
    subst (λ (told : Option (List Entry)). LastIs (SessionIs such) told) (sym is) (earlier, Session session, refl, holds)

pub session_of_last : (such : SessionTold → Type 0) (earlier : List Entry) (session : SessionTold) (now : Option (List Entry))
    → now ≡ Some (earlier ++ Session session ∷ []) → LastIs (SessionIs such) now → such session
session_of_last such earlier session now is last =
    last_is (SessionIs such) earlier (Session session) (subst (λ (t : Option (List Entry)). LastIs (SessionIs such) t) is last)

-- The session that a wire tells last, or none where the wire doesn't tell.
pub data Opened (such : SessionTold → Type 0) (told : Option (List Entry)) : Type 0 where
  untold : told ≡ None → Opened such told
  known : (earlier : List Entry) (one : SessionTold) → told ≡ Some (earlier ++ Session one ∷ []) → such one → Opened such told

opened_entry : (such : SessionTold → Type 0) (earlier : List Entry) (last : Entry) (told : Option (List Entry))
    → told ≡ Some (earlier ++ last ∷ []) → SessionIs such last → Opened such told
opened_entry such earlier (Session one) told is holds = known earlier one is holds
opened_entry such earlier NoMore told is holds = absurd holds
opened_entry such earlier Failed told is holds = absurd holds

pub opened : (such : SessionTold → Type 0) (told : Option (List Entry)) → LastIs (SessionIs such) told → Opened such told
opened such None last = untold refl
opened such (Some list) last = opened_entry such last.0 last.1 (Some list) (ap Some last.2) last.3

-- where the open session is at its end, nothing is left
pub nothing_left : (earlier : List Entry) (session : SessionTold) (now : Option (List Entry))
    → now ≡ Some (earlier ++ Session session ∷ []) → IsAtEnd true now → session.left ≡ []
nothing_left earlier session now is ended = session_of_last (λ s. s.left ≡ []) earlier session now is (ended refl)

-- what changed so changed otherwise too
session_as : (f h : SessionTold → SessionTold → Type 0) → ((x y : SessionTold) → f x y → h x y) → (x y : Entry) → SessionChanged f x y → SessionChanged h x y
session_as f h so (Session x) (Session y) told = so x y told
session_as f h so (Session x) NoMore told = told
session_as f h so (Session x) Failed told = told
session_as f h so NoMore y told = told
session_as f h so Failed y told = told

pub last_changed_as : (f h : SessionTold → SessionTold → Type 0) → ((x y : SessionTold) → f x y → h x y) → (old new : Option (List Entry))
    → LastTold (SessionChanged f) old new → LastTold (SessionChanged h) old new
last_changed_as f h so None None told = tt
last_changed_as f h so None (Some new) told = told
last_changed_as f h so (Some old) None told = told
last_changed_as f h so (Some old) (Some new) told = record {
  earlier = told.earlier;
  before = told.before;
  now = told.now;
  was = told.was;
  is = told.is;
  changed = session_as f h so told.before told.now told.changed;
}
