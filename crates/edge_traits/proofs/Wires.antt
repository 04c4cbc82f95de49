-- What a wire tells over several calls.
use Rattle.std.proofs.Common.{◌≡◌, inl, inr, ℕ, List, [], ◌++◌, Option, refl, sym, ◌∙◌, ap, append_assoc, subst}
use Rattle.base_specs.specs.Told.{LastTold}
use Rattle.base_specs.proofs.Telling.{last_told_more}
use Rattle.edge_traits.specs.Wire.{Entry, Session, NoMore, Failed, SessionChanged, SessionTold, TakesOf, WireTook}

-- a session changed, and then again
pub session_more : (f g h : SessionTold → SessionTold → Type 0) → ((x y z : SessionTold) → f x y → g y z → h x z)
    → (x y z : Entry) → SessionChanged f x y → SessionChanged g y z → SessionChanged h x z
session_more f g h both (Session x) (Session y) (Session z) first next = both x y z first next
session_more f g h both (Session x) (Session y) NoMore first next = next
session_more f g h both (Session x) (Session y) Failed first next = next
session_more f g h both (Session x) NoMore z first next = absurd first
session_more f g h both (Session x) Failed z first next = absurd first
session_more f g h both NoMore y z first next = absurd first
session_more f g h both Failed y z first next = absurd first

-- the open session changed, and then again
pub open_session_more : (f g h : SessionTold → SessionTold → Type 0) → ((x y z : SessionTold) → f x y → g y z → h x z)
    → (old mid new : Option (List Entry)) → LastTold (SessionChanged f) old mid → LastTold (SessionChanged g) mid new → LastTold (SessionChanged h) old new
open_session_more f g h both old mid new first next = last_told_more _ _ _ old mid new (session_more f g h both) first next

-- bytes that were taken one after the other; what was taken and what is left make up the same bytes
pub takes_more : (xs ys : List ℕ) (x y z : SessionTold) → TakesOf xs x y → TakesOf ys y z → TakesOf (xs ++ ys) x z
takes_more xs ys x y z first next = (
  first.0 ∙ ap (λ (l : List ℕ). xs ++ l) next.0 ∙ sym (append_assoc xs ys z.left),
  next.1 ∙ ap (λ (s : SessionTold). record s { taken = s.taken ++ ys; left = z.left }) first.1
      ∙ ap (λ (l : List ℕ). record x { taken = l; left = z.left }) (append_assoc x.taken xs ys),
)

pub takes_same : (bytes : List ℕ) (before now : SessionTold) → TakesOf bytes before now → now.taken ++ now.left ≡ before.taken ++ before.left
takes_same bytes before now took =
    ap (λ (s : SessionTold). s.taken ++ now.left) took.1 ∙ append_assoc before.taken bytes now.left ∙ ap (λ (l : List ℕ). before.taken ++ l) (sym took.0)

pub wire_took_none : (told : Option (List Entry)) → WireTook [] told told
wire_took_none told = inl (refl, refl)

-- bytes that several reads took one after the other
pub wire_took_more : (old mid new : Option (List Entry)) (xs ys : List ℕ) → WireTook xs old mid → LastTold (SessionChanged (TakesOf ys)) mid new → WireTook (xs ++ ys) old new
wire_took_more old mid new xs ys (inr first) next = inr (open_session_more _ _ _ (takes_more xs ys) old mid new first next)
wire_took_more old mid new xs ys (inl none) next =
    inr (subst (λ (l : List ℕ). LastTold (SessionChanged (TakesOf (l ++ ys))) old new) (sym none.0)
    (subst (λ (told : Option (List Entry)). LastTold (SessionChanged (TakesOf ys)) told new) none.1 next))
