-- What a wire in memory tells of its sessions.
use Rattle.std.proofs.Common.{◌≡◌, ℕ, ◌+◌, true, false, if◌then◌else◌, List, [], ◌∷◌, ◌++◌, length, nat_lt, Option, Some, None, refl, subst, sym, ap, ◌∙◌, arith}
use Rattle.std.proofs.lemmas.List.{append-nil}
use Rattle.std.specs.Option.{option_map, option_to_list}
use Rattle.edge_traits.specs.declared.wire.Opened.{Opened}
use Rattle.edge_traits.specs.declared.wire.Opened.TheVariants as opened
use Rattle.edge_traits.specs.Wire.{fresh, is_session, Entry, Opens, Session, NoMore, Failed, SessionTold}
use Rattle.edge_io.specs.SessionScript.{IsFresh, SessionScript}
use Rattle.edge_io.specs.WireScript.{begun, entries_of, first_session, open_answer, opened_in, closed_up, told_as, told_of, with_answer, with_room, IsCounted, WireScript}

-- one more answer, and what it opened
pub opened_in-session : (answers : List Opened) → opened_in (answers ++ opened.Session ∷ []) ≡ opened_in answers + 1
unfolding opened_in
opened_in-session [] = refl
opened_in-session (opened.Session ∷ answers) = ap (λ (n : ℕ). n + 1) (opened_in-session answers)
opened_in-session (opened.NoMore ∷ answers) = opened_in-session answers
opened_in-session (opened.Failed ∷ answers) = opened_in-session answers

pub opened_in-other : (answers : List Opened) (answer : Opened) → is_session answer ≡ false → opened_in (answers ++ answer ∷ []) ≡ opened_in answers
unfolding opened_in
opened_in-other [] opened.Session other = absurd (cc other)
opened_in-other [] opened.NoMore other = refl
opened_in-other [] opened.Failed other = refl
opened_in-other (opened.Session ∷ answers) answer other = ap (λ (n : ℕ). n + 1) (opened_in-other answers answer other)
opened_in-other (opened.NoMore ∷ answers) answer other = opened_in-other answers answer other
opened_in-other (opened.Failed ∷ answers) answer other = opened_in-other answers answer other

-- one more session was opened, and one more was closed
entries_of-session : (answers : List Opened) (closed : List SessionScript) (session : SessionScript) → opened_in answers ≡ length closed
    → entries_of (answers ++ opened.Session ∷ []) (closed ++ session ∷ []) ≡ entries_of answers closed ++ Session session.told ∷ []
unfolding opened_in entries_of
entries_of-session [] [] session counted = refl
entries_of-session [] (first ∷ closed) session counted = absurd (omega (arith, counted))
entries_of-session (opened.Session ∷ answers) [] session counted = absurd (omega (arith, counted))
entries_of-session (opened.Session ∷ answers) (first ∷ closed) session counted =
    ap (λ (l : List Entry). Session first.told ∷ l) (entries_of-session answers closed session (omega (arith, counted)))
entries_of-session (opened.NoMore ∷ answers) closed session counted =
    ap (λ (l : List Entry). NoMore ∷ l) (entries_of-session answers closed session counted)
entries_of-session (opened.Failed ∷ answers) closed session counted =
    ap (λ (l : List Entry). Failed ∷ l) (entries_of-session answers closed session counted)

-- one more answer that opened no session
entries_of-no_more : (answers : List Opened) (closed : List SessionScript) → opened_in answers ≡ length closed
    → entries_of (answers ++ opened.NoMore ∷ []) closed ≡ entries_of answers closed ++ NoMore ∷ []
unfolding opened_in entries_of
entries_of-no_more [] closed counted = refl
entries_of-no_more (opened.Session ∷ answers) [] counted = absurd (omega (arith, counted))
entries_of-no_more (opened.Session ∷ answers) (first ∷ closed) counted =
    ap (λ (l : List Entry). Session first.told ∷ l) (entries_of-no_more answers closed (omega (arith, counted)))
entries_of-no_more (opened.NoMore ∷ answers) closed counted = ap (λ (l : List Entry). NoMore ∷ l) (entries_of-no_more answers closed counted)
entries_of-no_more (opened.Failed ∷ answers) closed counted = ap (λ (l : List Entry). Failed ∷ l) (entries_of-no_more answers closed counted)

entries_of-failed : (answers : List Opened) (closed : List SessionScript) → opened_in answers ≡ length closed
    → entries_of (answers ++ opened.Failed ∷ []) closed ≡ entries_of answers closed ++ Failed ∷ []
unfolding opened_in entries_of
entries_of-failed [] closed counted = refl
entries_of-failed (opened.Session ∷ answers) [] counted = absurd (omega (arith, counted))
entries_of-failed (opened.Session ∷ answers) (first ∷ closed) counted =
    ap (λ (l : List Entry). Session first.told ∷ l) (entries_of-failed answers closed (omega (arith, counted)))
entries_of-failed (opened.NoMore ∷ answers) closed counted = ap (λ (l : List Entry). NoMore ∷ l) (entries_of-failed answers closed counted)
entries_of-failed (opened.Failed ∷ answers) closed counted = ap (λ (l : List Entry). Failed ∷ l) (entries_of-failed answers closed counted)

-- where the open session is closed, the wire tells what it told
pub told_closed : (earlier : Option (List Opened)) (closed : List SessionScript) (current : Option SessionScript) → IsCounted earlier closed
    → told_as (option_map (λ answers. answers ++ open_answer current) earlier) (closed ++ option_to_list current) None ≡ told_as earlier closed current
told_closed None closed current counted = refl
told_closed (Some answers) closed None counted =
    ap (λ (l : List Entry). Some (l ++ [])) (ap (λ (l : List Opened). entries_of l (closed ++ [])) (append-nil answers) ∙ ap (entries_of answers) (append-nil closed))
told_closed (Some answers) closed (Some session) counted =
    ap Some (append-nil _ ∙ entries_of-session answers closed session counted)

-- the next session is one more entry
pub told_begun : (room : ℕ) (earlier : Option (List Opened)) (closed : List SessionScript) (session : SessionScript) → IsFresh session
    → Opens opened.Session (told_as earlier closed None) (told_as (with_room room earlier) closed (Some session))
told_begun room None closed session fresh_told = (session.told.left, tt)
told_begun room (Some answers) closed session fresh_told =
    elim (nat_lt (length answers) room) as (λ b. Opens opened.Session (told_as (Some answers) closed None) (told_as (if b then Some answers else None) closed (Some session))) [
      | true ↦ (session.told.left, ap (λ (t : SessionTold). entries_of answers closed ++ Session t ∷ []) fresh_told ∙ ap (λ (l : List Entry). l ++ Session (fresh session.told.left) ∷ []) (sym (append-nil (entries_of answers closed))))
      | false ↦ (session.told.left, tt)
    ]

entries_kept : (answers : List Opened) (closed : List SessionScript) (answer : Opened) → is_session answer ≡ false → opened_in answers ≡ length closed
    → Opens answer (Some (entries_of answers closed ++ [])) (Some (entries_of (answers ++ answer ∷ []) closed ++ []))
entries_kept answers closed opened.Session other counted = absurd (cc other)
entries_kept answers closed opened.NoMore other counted =
    append-nil _ ∙ entries_of-no_more answers closed counted ∙ ap (λ (l : List Entry). l ++ NoMore ∷ []) (sym (append-nil (entries_of answers closed)))
entries_kept answers closed opened.Failed other counted =
    append-nil _ ∙ entries_of-failed answers closed counted ∙ ap (λ (l : List Entry). l ++ Failed ∷ []) (sym (append-nil (entries_of answers closed)))

nothing_told : (answer : Opened) (old : Option (List Entry)) → Opens answer old None
nothing_told opened.Session old = ([], tt)
nothing_told opened.NoMore old = tt
nothing_told opened.Failed old = tt

-- an answer that opened no session is one more entry
pub told_kept : (room : ℕ) (answer : Opened) (earlier : Option (List Opened)) (closed : List SessionScript) → is_session answer ≡ false → IsCounted earlier closed
    → Opens answer (told_as earlier closed None) (told_as (with_answer room answer earlier) closed None)
told_kept room answer None closed other counted = nothing_told answer None
told_kept room answer (Some answers) closed other counted =
    elim (nat_lt (length answers) room) as (λ b. Opens answer (told_as (Some answers) closed None) (told_as (option_map (λ l. l ++ answer ∷ []) (if b then Some answers else None)) closed None)) [
      | true ↦ entries_kept answers closed answer other counted
      | false ↦ nothing_told answer _
    ]

-- the wire whose open session is closed tells what it told
pub closes : (was now : WireScript) → was ≡ now → IsCounted was.earlier was.closed → told_of (closed_up now) ≡ told_of now
closes was now same counted = subst (λ (w : WireScript). told_of (closed_up w) ≡ told_of w) same (told_closed was.earlier was.closed was.current counted)

-- the wire whose answer opened no session tells one more entry
pub keeps : (was now : WireScript) (answer : Opened) → was ≡ now → now.current ≡ None → is_session answer ≡ false → IsCounted was.earlier was.closed
    → Opens answer (told_of now) (told_of (record now { earlier = with_answer now.room answer now.earlier }))
keeps was now answer same none other counted =
    let counted_now : IsCounted now.earlier now.closed = subst (λ (w : WireScript). IsCounted w.earlier w.closed) same counted in
    subst (λ (c : Option SessionScript). Opens answer (told_as now.earlier now.closed c) (told_as (with_answer now.room answer now.earlier) now.closed c)) (sym none)
    (told_kept now.room answer now.earlier now.closed other counted_now)

-- the wire that opened the next session tells one more entry
pub begins : (was now : WireScript) (session : SessionScript) → was.current ≡ None → now ≡ begun was → first_session was.waiting ≡ Some session → IsFresh session
    → Opens opened.Session (told_of was) (told_of now)
begins was now session none is first fresh_told =
    subst (λ (w : WireScript). Opens opened.Session (told_of was) (told_of w)) (sym is)
    (subst (λ (c : Option SessionScript). Opens opened.Session (told_as was.earlier was.closed c) (told_as (with_room was.room was.earlier) was.closed (first_session was.waiting))) (sym none)
    (subst (λ (c : Option SessionScript). Opens opened.Session (told_as was.earlier was.closed None) (told_as (with_room was.room was.earlier) was.closed c)) (sym first)
    (told_begun was.room was.earlier was.closed session fresh_told)))
