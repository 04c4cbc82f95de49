-- What a read behind the bytes held adds to them.
use Rattle.std.proofs.Common.{◌≡◌, ℕ, ◌+◌, ◌<◌, ◌≤◌, List, ◌++◌, length, take, drop, Option, sym, ◌∙◌, ap, subst, arith, length-append, length-take-le, take-append-drop, take-take}
use Rattle.std.proofs.lemmas.List.{drop-take}
use Rattle.base_specs.specs.Told.{Took, IsUsedUp}
use Rattle.edge_traits.specs.declared.source.Take.{Take}
use Rattle.edge_traits.specs.declared.source.Take.TheVariants as read
use Rattle.edge_traits.specs.Source.{Gives}
use Rattle.capture_fmt.specs.Gather.{Fills}

-- a front, and so many bytes behind it
take_both : (len n : ℕ) (bytes : List ℕ) → take (len + n) bytes ≡ take len bytes ++ take n (drop len bytes)
take_both len n bytes =
    sym (take-append-drop len (take (len + n) bytes))
    ∙ ap (λ (l : List ℕ). l ++ drop len (take (len + n) bytes)) (take-take len (len + n) bytes (omega arith))
    ∙ ap (λ (l : List ℕ). take len bytes ++ l) (drop-take len n bytes)

-- how many bytes are held after a read, by its answer
abbrev pub held_after : ℕ → Take → ℕ
held_after len (read.Bytes n) = len + n
held_after len read.End = len
held_after len read.Failed = len

fills_by :
    (taken : Take) (old bytes : List ℕ) (len to : ℕ) (left now : Option (List ℕ))
    → take len bytes ≡ old → to ≡ held_after len taken → Gives taken (drop len bytes) left now → Fills taken old (take to bytes) left now
fills_by (read.Bytes n) old bytes len to left now front is gives =
    let whole : take to bytes ≡ old ++ take n (drop len bytes) =
    ap (λ (k : ℕ). take k bytes) is ∙ take_both len n bytes ∙ ap (λ (l : List ℕ). l ++ take n (drop len bytes)) front in
    let more : length (take n (drop len bytes)) ≡ n = length-take-le n (drop len bytes) gives.1 in (
      omega (arith, ap length whole, length-append old (take n (drop len bytes)), more, gives.0),
      record { taken = take n (drop len bytes); took = gives.2; held = whole },
    )
fills_by read.End old bytes len to left now front is gives = (ap (λ (k : ℕ). take k bytes) is ∙ front, gives.0, gives.1)
fills_by read.Failed old bytes len to left now front is gives = (ap (λ (k : ℕ). take k bytes) is ∙ front, gives)

-- the bytes held stay, and those that a read gave stand behind them
pub fills :
    (answer taken : Take) (old bytes : List ℕ) (len to : ℕ) (left now : Option (List ℕ))
    → answer ≡ taken → take len bytes ≡ old → to ≡ held_after len taken → Gives taken (drop len bytes) left now → Fills answer old (take to bytes) left now
fills answer taken old bytes len to left now same front is gives =
    subst (λ (t : Take). Fills t old (take to bytes) left now) (sym same) (fills_by taken old bytes len to left now front is gives)
