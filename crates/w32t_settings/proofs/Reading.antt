-- How far a settings text is read.
use Rattle.std.proofs.Common.{◌≡◌, ◌<◌, ◌≤◌, ◌+◌, ℕ, List, [], ◌∷◌, ◌++◌, length, Ok, Err, refl, sym, ◌∙◌, ap, arith, inl, inr}
use Rattle.std.specs.Prelude.{not, Option, Some, None, IfSome, IsNone, ok_or}
use Rattle.std.proofs.Common.{append-nil}
use Rattle.std.specs.Str.Lines.{lines}
use Rattle.text_grammar.specs.Lines.{Say}
use Rattle.text_grammar.proofs.Progress.{HasRead, read_none, read_other, read_next, read_bad, read_all}
use Rattle.w32t_settings.specs.declared.draft.Draft.{Draft}
use Rattle.w32t_settings.specs.declared.settings.SettingsFault.{SettingsFault}
use Rattle.w32t_settings.specs.declared.settings.SettingsFault.TheVariants.{BadConfig, NoMemory}
use Rattle.w32t_settings.specs.SettingText.{Item, settings_text}
use Rattle.w32t_settings.specs.declared.settings.Settings.{Settings}
use Rattle.w32t_settings.specs.Values.{AreSettings, IsBadWhole}
use Rattle.w32t_settings.specs.Answer.{IsBadLine, IsAnswer}
use Rattle.w32t_settings.proofs.Counting.{last_line}
use Rattle.w32t_settings.proofs.Exact.{bad_or_said, has_bad_line}
use Rattle.w32t_settings.specs.Progress.{Holds, Takes}

-- the first n lines are read, and what they said is kept
pub record HasKept (all : List (List ℕ)) (n : ℕ) (left : List (List ℕ)) (draft : Draft) : Type 0 where
  pub items : List Item
  pub read : HasRead settings_text all n items left
  pub holds : Holds items draft

pub kept_none : (all : List (List ℕ)) (draft : Draft) → Holds [] draft → HasKept all 0 all draft
kept_none all draft holds = record { items = []; read = read_none settings_text all; holds = holds }

-- one line more is kept
pub kept_more : (all : List (List ℕ)) (n : ℕ) (line : List ℕ) (left : List (List ℕ)) (old new : Draft) (done : Unit {0})
    → (k : HasKept all n (line ∷ left) old) → Takes (n + 1) line k.items new (Ok done) → HasKept all (n + 1) left new
kept_more all n line left old new done k takes =
    elim takes [
      | inl skipped ↦ record { items = k.items; read = read_other settings_text all n k.items line left k.read (ap not skipped.0); holds = skipped.1 }
      | inr next ↦ record {
        items = k.items ++ next.item ∷ [];
        read = read_next settings_text all n k.items line left next.item k.read (ap not next.seen) next.spelled next.fresh;
        holds = next.holds;
      }
    ]

-- a line that isn't kept is the least bad one
pub bad_answer : (text : List ℕ) (n : ℕ) (line : List ℕ) (left : List (List ℕ)) (old new : Draft) (fault : SettingsFault)
    → length text ≤ 16777217 → (k : HasKept (lines text) n (line ∷ left) old) → Takes (n + 1) line k.items new (Err fault) → IsAnswer text (Err fault)
bad_answer text n line left old new (BadConfig m) most k takes =
    inl (has_bad_line text m most (rw takes.0 (read_bad settings_text IsBadLine (lines text) n k.items line left k.read takes.1)))
bad_answer text n line left old new NoMemory most k takes = tt

-- all lines are read: what they say is kept, and n is their number
pub record KeptAll (text : List ℕ) (n : ℕ) (draft : Draft) : Type 0 where
  pub items : List Item
  pub said : Say settings_text (lines text) items
  pub holds : Holds items draft
  pub number : n ≡ length (lines text)

pub kept_all : (text : List ℕ) (n : ℕ) (draft : Draft) → HasKept (lines text) n [] draft → KeptAll text n draft
kept_all text n draft k = record {
  items = k.items;
  said = read_all settings_text (lines text) n k.items k.read;
  holds = k.holds;
  number = k.read.number ∙ ap length (sym (k.read.parts ∙ append-nil k.read.done));
}

-- a text that is too long, of good lines
pub long_answer : (text : List ℕ) (n : ℕ) (draft : Draft) → length text ≤ 16777217 → 16777216 < length text → HasKept (lines text) n [] draft
    → IsAnswer text (Err (BadConfig n))
long_answer text n draft most long k =
    let all = kept_all text n draft k in
    inr (inl record {
      long = long;
      stands = all.number ∙ last_line text 16777216 (omega arith);
      before = λ m earlier bad. bad_or_said text m all.items most bad all.said;
    })

-- a text that isn't, of good lines
pub end_answer : (text : List ℕ) (n : ℕ) (draft : Draft) → (all : KeptAll text n draft) → length text ≤ 16777216 → (o : Option Settings)
    → IfSome o (AreSettings all.items) → (IsNone o → IsBadWhole all.items) → IsAnswer text (ok_or o (BadConfig (n + 1)))
end_answer text n draft all fits (Some s) are whole = record { items = all.items; good = record { fits = fits; said = all.said }; are = are }
end_answer text n draft all fits None are whole =
    inr (inr record {
      items = all.items;
      good = record { fits = fits; said = all.said };
      whole = whole refl;
      number = ap (λ (k : ℕ). k + 1) all.number;
    })
