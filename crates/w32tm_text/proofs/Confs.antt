-- Settings say one thing that a member is set to.
use Rattle.std.proofs.Common.{◌≡◌, ◌<◌, ◌^◌, ℕ, zero, suc, List, [], ◌∷◌, length, map, Contains, Option, Some, sym, ◌∙◌, ap, arith, refl, is_some, IfNone, None, true, false, slice_get}
use Rattle.std.specs.Coded.{le_prop}
use mathlib.Core.HLevel.{is_prop→PathP, →_prop}
use Rattle.edge_traits.specs.declared.datagram.Addr.{Addr}
use Rattle.ms_auth.specs.declared.packet.Kind.TheVariants.{Short}
use Rattle.partner_pick.specs.declared.entry.Entry.{Entry}
use Rattle.partner_pick.specs.declared.entry.Role.{Role}
use Rattle.partner_pick.specs.Ranking.{IsCandidateAt, IsRanked}
use Rattle.time_machine.specs.declared.conf.Conf.{Conf}
use Rattle.w32t_settings.specs.declared.settings.Settings.{Settings}
use Rattle.w32tm_text.specs.Conf.{ArePartners, HasNoCandidate, IsConfOf, address_at}

-- a candidate stands in the directory
pub stands_within : (role : Role) (own : List ℕ) (entries : List Entry) (place : ℕ) → IsCandidateAt role own entries place → place < length entries
stands_within role own [] place candidate = absurd candidate
stands_within role own (e ∷ es) zero candidate = omega arith
stands_within role own (e ∷ es) (suc place) candidate =
    let within = stands_within role own es place candidate in
    omega arith

some_is : {X : Type 0} (x y : X) → Some x ≡ Some y → x ≡ y
some_is x y same = cc

-- lists of values that are there are one where the values are
all_there : {X : Type 0} (xs ys : List X) → map Some xs ≡ map Some ys → xs ≡ ys
all_there [] [] same = cc
all_there [] (y ∷ ys) same = absurd (cc same)
all_there (x ∷ xs) [] same = absurd (cc same)
all_there (x ∷ xs) (y ∷ ys) same =
    let rest = all_there xs ys (cc same) in
    cc (same, rest)

-- a directory has one ranked list
abbrev pub HasOneRanking : Settings → Type 0
HasOneRanking s =
    (places others : List ℕ) → IsRanked s.role s.name s.directory places → IsRanked s.role s.name s.directory others → others ≡ places

pub one_conf : (s : Settings) (a b : Conf) → HasOneRanking s → IsConfOf s a → IsConfOf s b → a ≡ b
one_conf s a b one p q =
    let kind : a.kind ≡ b.kind = p.kind ∙ sym q.kind in
    let account = some_is a.account b.account (sym p.account ∙ q.account) in
    let limits : a.limits ≡ b.limits = p.limits ∙ sym q.limits in
    let places = one q.partners.places p.partners.places q.partners.ranked p.partners.ranked in
    let partners = all_there a.partners b.partners
    (sym p.partners.addressed ∙ (ap (λ (l : List ℕ). map (address_at s.directory) l) places ∙ q.partners.addressed)) in
    λ i. record {
      kind = kind i;
      account = account i;
      limits = limits i;
      partners = partners i;
      short_rid = is_prop→PathP (λ j. kind j ≡ Short → (account j).rid < 2 ^ 31) (λ j. →_prop le_prop) a.short_rid b.short_rid i;
    }

-- as many values stand in the one list as in the other, so a place stands there where an address does
first_place : {X : Type 0} (f : ℕ → Option X) (places : List ℕ) (addresses : List X) → map f places ≡ map Some addresses
    → 0 < length addresses → (place : ℕ) × Contains places place
first_place f (place ∷ places) addresses same some = (place, (0, omega arith, refl))
first_place f [] (a ∷ addresses) same some = absurd (cc same)
first_place f [] [] same some = absurd (omega (arith, some))

-- settings without a candidate say nothing
pub no_conf : (s : Settings) (conf : Conf) → HasNoCandidate s → IsConfOf s conf → ⊥
no_conf s conf none is =
    let first = first_place (address_at s.directory) is.partners.places conf.partners is.partners.addressed is.some in
    none first.0 ((is.partners.ranked.candidates first.0).0 first.1)

-- what holds where there is no value holds where none is found
pub none_there : {X : Type 0} (o : Option X) (P : Type 0) → IfNone o P → is_some o ≡ false → P
none_there None P holds lacks = holds
none_there (Some x) P holds lacks = absurd (cc lacks)

-- there is an address at least where there is a first of the ranked places
pub some_partner : (s : Settings) (first : Option ℕ) (addresses : List Addr) → is_some first ≡ true
    → ((places : List ℕ) → IsRanked s.role s.name s.directory places → first ≡ slice_get places 0)
    → ArePartners s addresses → 0 < length addresses
some_partner s first addresses found is_first partners =
    some_there partners.places addresses (is_first partners.places partners.ranked) partners.addressed
  where
    some_there : (places : List ℕ) (all : List Addr) → first ≡ slice_get places 0 → map (address_at s.directory) places ≡ map Some all → 0 < length all
    some_there places (a ∷ all) front same = omega arith
    some_there (place ∷ places) [] front same = absurd (cc same)
    some_there [] [] front same = absurd (cc (front, found))
