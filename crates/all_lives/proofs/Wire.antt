-- The timestamps of requests, as the link has them.
use Rattle.std.proofs.Common.{◌≡◌, ◌+◌, ◌<◌, ◌≤◌, ◌^◌, ℕ, List, [], ◌∷◌, ◌++◌, length, map, replicate, Bool, true, false, if◌then◌else◌, Option, Some, None, refl, sym, ap, subst, ◌∙◌, arith, append_assoc}
use Rattle.std.specs.Prelude.{◌||◌, IfSome}
use Rattle.std.specs.List.{AllByRecursion}
use Rattle.std.proofs.lemmas.List.{append-nil, map-append}
use Rattle.byte_codec.specs.Numbers.{number_of, word_at, word_bytes}
use Rattle.byte_codec.proofs.Numbers.{length-number_bytes, number_of-number_bytes}
use Rattle.byte_codec.proofs.Parts.{longer, part_before, part_behind}
use Rattle.edge_traits.specs.declared.datagram.Addr.{Addr}
use Rattle.edge_traits.specs.declared.link.Tried.{Tried}
use Rattle.edge_traits.specs.Link.{sends_among}
use Rattle.capture_fmt.specs.declared.event.Event.{Event}
use Rattle.capture_fmt.specs.declared.event.Event.TheVariants.{Life, Tick, Resync, Arrive}
use Rattle.ms_auth.specs.declared.packet.Kind.{Kind}
use Rattle.ms_auth.specs.Request.{request_bytes, request_tail_bytes}
use Rattle.ntp_wire.specs.declared.stamp.Stamp.{Stamp}
use Rattle.ntp_wire.specs.Fields.{transmit_of}
use Rattle.slot_disk.specs.Told.{DiskTold}
use Rattle.time_machine.specs.declared.conf.Conf.{Conf}
use Rattle.time_machine.specs.declared.outcome.Outcome.{Outcome}
use Rattle.time_machine.specs.declared.outcome.Outcome.TheVariants.{Sent, Idle}
use Rattle.time_machine.specs.declared.outcome.Request.{Request}
use Rattle.time_machine.specs.Entries.{gather}
use Rattle.time_machine.specs.Events.{History, is_reset}
use Rattle.time_machine.specs.Growing.{Grows, MayFollow}
use Rattle.time_machine.specs.Laws.{CountsRise}
use Rattle.time_machine.specs.Machine.{Posted, count_at, is_change, is_due, outcome_by, poll_field, posted_by, request_as, requests_of, stamp_at, told}
use Rattle.time_machine.specs.Told.{Told, request_of, request_sent}
use Rattle.time_machine.specs.Words.{Words, all_sent, some_of, words}
use Rattle.time_machine.proofs.After.{verdict_cases}
use Rattle.run_deeds.specs.Weaving.{posted_of}
use Rattle.all_lives.specs.Runs.{AreSuccessive, Run, all_told, all_tried, history_of, seconds_of}
use Rattle.all_lives.specs.Laws.{LawOfStamps, Rise}
use Rattle.all_lives.proofs.Entries.{sent_join}
use Rattle.all_lives.proofs.Chains.{chain_counts}

-- ---- The bytes of a request

-- a word behind a front
word_within : (place : ℕ) (front after : List ℕ) (n : ℕ) → length front ≡ place → n < 2 ^ 32 → word_at place (front ++ (word_bytes n ++ after)) ≡ n
word_within place front after n long fits =
    ap (word_at place) (sym (append_assoc front (word_bytes n) after))
    ∙ ap number_of (part_before place 4 (front ++ word_bytes n) after (omega (arith, longer place 4 front (word_bytes n) long (length-number_bytes 4 n))))
    ∙ ap number_of (part_behind place 4 front (word_bytes n) long (length-number_bytes 4 n))
    ∙ number_of-number_bytes 4 n fits

front : ℕ → List ℕ
front poll = 0xDB ∷ 0 ∷ poll ∷ 0xE9 ∷ replicate 36 0

spelled : (kind : Kind) (rid poll : ℕ) (s : Stamp) → request_bytes kind rid poll s ≡ front poll ++ (word_bytes s.seconds ++ (word_bytes s.fraction ++ request_tail_bytes kind rid))
unfolding front
spelled kind rid poll s = ap (λ (l : List ℕ). front poll ++ l) (append_assoc (word_bytes s.seconds) (word_bytes s.fraction) (request_tail_bytes kind rid))

front_long : (poll : ℕ) → length (front poll) ≡ 40
unfolding front
front_long poll = refl

seconds_sent : (kind : Kind) (rid poll : ℕ) (s : Stamp) → s.seconds < 2 ^ 32 → (transmit_of (request_bytes kind rid poll s)).seconds ≡ s.seconds
seconds_sent kind rid poll s fits =
    ap (word_at 40) (spelled kind rid poll s) ∙ word_within 40 (front poll) (word_bytes s.fraction ++ request_tail_bytes kind rid) s.seconds (front_long poll) fits

-- ---- The requests of a history

abbrev second_by : Posted → ℕ
second_by p = (transmit_of p.bytes).seconds

-- what an outcome sends has the count of its request
abbrev Same : Event → Outcome → Type 0
Same e o = map second_by (posted_by o) ≡ map (λ r. r.count) (some_of (request_sent e o))

same_request : (conf : Conf) (w : Words) (resets changes : Bool) (word : ℕ) (e : Event) → count_at w < 2 ^ 32 → Same e (request_as conf w resets changes word)
same_request conf w resets changes word e fits =
    ap (λ (n : ℕ). n ∷ []) (seconds_sent conf.kind conf.account.rid (poll_field conf w (resets || changes)) (stamp_at w word) fits)

same_if : (due : Bool) (e : Event) (o : Outcome) → Same e o → Same e (if due then o else Idle)
same_if true e o same = same
same_if false e o same = refl

same_here : (conf : Conf) (w : Words) (e : Event) → MayFollow conf w e → Same e (outcome_by conf w e)
same_here conf w (Life now mark) may = refl
same_here conf w (Tick now word) may =
    let room = may.1 in
    same_if (is_due w now) (Tick now word) _ (same_request conf w (is_reset (Tick now word)) (is_change w (Tick now word)) word (Tick now word) (omega (arith, room)))
same_here conf w (Resync now word flags) may =
    let room = may.1 in
    same_request conf w (is_reset (Resync now word flags)) (is_change w (Resync now word flags)) word (Resync now word flags) (omega (arith, room))
same_here conf w (Arrive now from bytes) may =
    verdict_cases (λ o. Same (Arrive now from bytes) o) (λ reason. refl) conf w now from bytes (λ r e offset how. refl)

posted_seconds : (conf : Conf) (history : History) → Grows conf history → map second_by (requests_of conf history) ≡ map (λ (r : Request). r.count) (all_sent (told conf history))
unfolding told requests_of Grows
posted_seconds conf [] g = refl
posted_seconds conf (e ∷ history) g =
    let before = told conf history in
    let o = outcome_by conf (words conf before) e in
    map-append second_by (gather (λ t. posted_by t.outcome) before) (posted_by o)
    ∙ ap (λ (l : List ℕ). l ++ map second_by (posted_by o)) (posted_seconds conf history g.0)
    ∙ ap (λ (l : List ℕ). map (λ (r : Request). r.count) (all_sent before) ++ l) (same_here conf (words conf before) e g.1)
    ∙ sym (map-append (λ (r : Request). r.count) (all_sent before) (some_of (request_sent e o)))

-- ---- Lists that rise

rise_push : (xs : List ℕ) (n : ℕ) → Rise xs → AllByRecursion (λ m. m < n) xs → Rise (xs ++ n ∷ [])
rise_push [] n rise below = (tt, tt)
rise_push (x ∷ xs) n rise below = (push_above x xs n rise.0 below.0, rise_push xs n rise.1 below.1)
  where
    push_above : (x : ℕ) (xs : List ℕ) (n : ℕ) → AllByRecursion (λ m. x < m) xs → x < n → AllByRecursion (λ m. x < m) (xs ++ n ∷ [])
    push_above x [] n all here = (here, tt)
    push_above x (y ∷ ys) n all here = (all.0, push_above x ys n all.1 here)

counts_below : (n : ℕ) (xs : List Request) → AllByRecursion (λ r. r.count < n) xs → AllByRecursion (λ m. m < n) (map (λ (r : Request). r.count) xs)
counts_below n [] all = tt
counts_below n (x ∷ xs) all = (all.0, counts_below n xs all.1)

rise_with : (o : Option Request) (xs : List Request) → Rise (map (λ (r : Request). r.count) xs) → IfSome o (λ r. AllByRecursion (λ e. e.count < r.count) xs)
    → Rise (map (λ (r : Request). r.count) (xs ++ some_of o))
rise_with None xs rise above = rw (append-nil xs) rise
rise_with (Some r) xs rise above =
    rw (map-append (λ (r : Request). r.count) xs (r ∷ [])) (rise_push (map (λ (r : Request). r.count) xs) r.count rise (counts_below r.count xs above))

rise_all : (before : List Told) → CountsRise before → Rise (map (λ (r : Request). r.count) (all_sent before))
rise_all [] rise = tt
rise_all (t ∷ before) rise = rise_with (request_of t) (all_sent before) (rise_all before rise.1) rise.0

-- ---- All runs

tried_seconds : (xs : List Tried) → map seconds_of xs ≡ map second_by (map posted_of xs)
tried_seconds [] = refl
tried_seconds (x ∷ xs) = ap (λ (l : List ℕ). seconds_of x ∷ l) (tried_seconds xs)

module _ {D : Type 0} {tells : D → DiskTold} where
  run_seconds : (run : Run tells) → map seconds_of (sends_among run.woven.given.link) ≡ map (λ (r : Request). r.count) (all_sent (told run.conf (history_of run)))
  run_seconds run =
      tried_seconds (sends_among run.woven.given.link) ∙ ap (map second_by) run.effects.requests ∙ posted_seconds run.conf (history_of run) run.woven.grows

  all_seconds : (runs : List (Run tells)) → map seconds_of (all_tried runs) ≡ map (λ (r : Request). r.count) (all_sent (all_told runs))
  all_seconds [] = refl
  all_seconds (run ∷ earlier) =
      map-append seconds_of (all_tried earlier) (sends_among run.woven.given.link)
      ∙ ap (λ (l : List ℕ). l ++ map seconds_of (sends_among run.woven.given.link)) (all_seconds earlier)
      ∙ ap (λ (l : List ℕ). map (λ (r : Request). r.count) (all_sent (all_told earlier)) ++ l) (run_seconds run)
      ∙ sym (map-append (λ (r : Request). r.count) (all_sent (all_told earlier)) (all_sent (told run.conf (history_of run))))
      ∙ ap (map (λ (r : Request). r.count)) (sym (sent_join (told run.conf (history_of run)) (all_told earlier)))

  pub chain_stamps : LawOfStamps tells
  chain_stamps runs s = subst Rise (sym (all_seconds runs)) (rise_all (all_told runs) (chain_counts runs s))
