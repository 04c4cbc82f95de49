-- What was done one after the other.
use Rattle.std.proofs.Common.{◌≡◌, ℕ, List, [], ◌∷◌, ◌++◌, Option, sym, ◌∙◌, ap, subst}
use Rattle.std.specs.List.{flat_map}
use Rattle.std.proofs.lemmas.Grind.{flat_map-append}
use Rattle.std.proofs.lemmas.List.{append-nil}
use Rattle.base_specs.specs.Counts.{FailsTimes}
use Rattle.base_specs.proofs.Counting.{fails_more, fails_none}
use Rattle.base_specs.proofs.Telling.{added_more, added_none, grew_more, grew_none}
use Rattle.edge_traits.proofs.Clocks.{gave_more, gave_none}
use Rattle.edge_traits.proofs.Links.{failed_calls-append}
use Rattle.edge_seen.specs.Seen.{Seen}
use Rattle.monitor_run.specs.Asking.{Asked, Deed, Did, deed_of, deeds_of, no_deed, then}

-- nothing was done
pub did_nothing : (now : Seen) → Did no_deed now now
did_nothing now = record {
  told = grew_none now.link;
  read = gave_none now.clock;
  drew = added_none now.words;
  link_failed = fails_none now.link_faults;
}

-- a write is none of the deeds
pub did_beside : (deed : Deed) (before now : Seen) (written : Option (List ℕ)) (write_faults : ℕ) → Did deed before now
    → Did deed before (record now { written = written; write_faults = write_faults })
did_beside deed before now written write_faults did = record { told = did.told; read = did.read; drew = did.drew; link_failed = did.link_failed }

-- one deed behind another
pub did_more : (first next : Deed) (before mid now : Seen) → Did first before mid → Did next mid now → Did (then first next) before now
did_more first next before mid now one other =
    let Failed : ℕ → Type 0 = λ (n : ℕ). FailsTimes n before.link_faults now.link_faults in
    record {
      told = grew_more before.link mid.link now.link first.link next.link one.told other.told;
      read = gave_more before.clock mid.clock now.clock first.readings next.readings one.read other.read;
      drew = added_more before.words mid.words now.words first.words next.words one.drew other.drew;
      link_failed = subst Failed (sym (failed_calls-append first.link next.link))
          (fails_more _ _ before.link_faults mid.link_faults now.link_faults one.link_failed other.link_failed);
    }

behind_last : {A : Type 0} (f : Asked → List A) (asked : List Asked) (one : Asked) → flat_map f asked ++ f one ≡ flat_map f (asked ++ one ∷ [])
behind_last f asked one = sym (flat_map-append f asked (one ∷ []) ∙ ap (λ (l : List _). flat_map f asked ++ l) (append-nil (f one)))

-- one entry more was asked
pub deeds_more : (asked : List Asked) (one : Asked) → then (deeds_of asked) (deed_of one.entry.addr one.ask) ≡ deeds_of (asked ++ one ∷ [])
deeds_more asked one =
    let readings = behind_last (λ (a : Asked). (deed_of a.entry.addr a.ask).readings) asked one in
    let words = behind_last (λ (a : Asked). (deed_of a.entry.addr a.ask).words) asked one in
    let link = behind_last (λ (a : Asked). (deed_of a.entry.addr a.ask).link) asked one in
    λ i. record { readings = readings i; words = words i; link = link i }
