-- What several writes to a sink come to, of which the last one may have failed.
use Rattle.std.proofs.Common.{◌≡◌, ℕ, ◌+◌, List, ◌++◌, length, take, Option, arith, subst, sym, length-append}
use Rattle.std.proofs.Math.Seq.{take-append-add}
use Rattle.std.proofs.lemmas.List.{take-append-le}
use Rattle.base_specs.specs.Told.{Added}
use Rattle.base_specs.proofs.Telling.{added_more}
use Rattle.edge_traits.specs.declared.sink.Put.{Put}
use Rattle.edge_traits.specs.declared.sink.Put.TheVariants as write
use Rattle.edge_traits.specs.Sink.{Writes}

-- a part was written, and then the next one, or a front of it
pub writes_next : (put : Put) (a b : List ℕ) (old mid new : Option (List ℕ))
    → Added old mid a → Writes put b mid new → Writes put (a ++ b) old new
writes_next write.Done a b old mid new first next = added_more old mid new a b first next
writes_next write.Failed a b old mid new first next =
    let n = next.0 in (
      length a + n,
      omega (arith, length-append a b, next.1),
      subst (Added old new) (sym (take-append-add a b n)) (added_more old mid new a (take n b) first next.2),
    )

-- a front of the first part alone was written
pub writes_front : (a b : List ℕ) (old new : Option (List ℕ))
    → Writes write.Failed a old new → Writes write.Failed (a ++ b) old new
writes_front a b old new first =
    let n = first.0 in (
      n,
      omega (arith, length-append a b, first.1),
      subst (Added old new) (sym (take-append-le n a b first.1)) first.2,
    )

-- the same of bytes that are said otherwise
pub writes_as : (put : Put) (a b : List ℕ) (old new : Option (List ℕ)) → a ≡ b → Writes put a old new → Writes put b old new
writes_as put a b old new is writes = subst (λ (p : List ℕ). Writes put p old new) is writes
