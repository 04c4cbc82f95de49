-- Runs on one disk: what each leaves covers all counts that were sent so far.
use Rattle.std.proofs.Common.{◌≡◌, ◌≢◌, ◌≤◌, ◌<◌, inl, inr, ℕ, ℤ, List, [], ◌∷◌, ◌++◌, Option, Some, refl, sym, ap, subst, ◌∙◌, arith}
use Rattle.std.specs.Prelude.{IfSome, ⊤}
use Rattle.std.specs.List.{AllByRecursion, Contains}
use Rattle.edge_traits.specs.declared.datagram.Addr.{Addr}
use Rattle.ntp_wire.specs.Fields.{originate_of}
use Rattle.capture_fmt.specs.declared.event.Event.{Event}
use Rattle.slot_disk.specs.Told.{DiskTold}
use Rattle.stamp_keep.specs.Image.{mark_of_image}
use Rattle.time_machine.specs.declared.conf.Conf.{Conf}
use Rattle.time_machine.specs.declared.outcome.Request.{Request}
use Rattle.time_machine.specs.Entries.{gather}
use Rattle.time_machine.specs.Events.{History}
use Rattle.time_machine.specs.Growing.{Grows}
use Rattle.time_machine.specs.Laws.{AnswersNone, CountsRise, MarksAtLeast, MovesOnce}
use Rattle.time_machine.specs.Machine.{told, outcomes, requests_of, moves_of}
use Rattle.time_machine.specs.Report.{report_of}
use Rattle.time_machine.specs.Told.{Told}
use Rattle.time_machine.specs.Words.{words, all_sent, greatest_count}
use Rattle.time_machine.proofs.Answered.{all_have}
use Rattle.time_machine.proofs.Counting.{counts_rise}
use Rattle.time_machine.proofs.Earlier.{below_refused}
use Rattle.time_machine.proofs.Joins.{histories_join, told_join}
use Rattle.time_machine.proofs.Lists.{all_split, all_weaken}
use Rattle.time_machine.proofs.Positions.{greatest_at}
use Rattle.run_deeds.specs.Deeds.{missing_in}
use Rattle.run_deeds.specs.Marks.{StandsNoLess}
use Rattle.run_deeds.specs.Weaving.{Need, Turns, Calls, Start, WordFor, ReceiptNow, ReadingFor, CallWord, Round, RoundReading, Act}
use Rattle.all_lives.specs.Runs.{AreSuccessive, Finds, HaveConf, IsOfRun, MayFind, Run, all_told, history_of, joined_history}
use Rattle.all_lives.specs.Laws.{Joins, LawOfCounts, LawOfEarlier, LawOfJoined, LawOfMoves}
use Rattle.all_lives.proofs.Entries.{IsBehindLife, LivesAt, MovedAll, SentAll, all_join, all_reversed, counts_join, grows_before, last_mark, marks_at_least, moved_has, moves_join, sent_both, sent_parts, start_marks}

read_mark : (mark : ℕ) (told_content : Option (List ℕ)) (content : List ℕ) → IfSome told_content (λ c. mark ≡ mark_of_image c) → told_content ≡ Some content → mark ≡ mark_of_image content
read_mark mark told_content content stood is = subst (λ (o : Option (List ℕ)). IfSome o (λ c. mark ≡ mark_of_image c)) is stood

behind : (need : Need) → IsOfRun need → IsBehindLife need
behind (Turns left) is = tt
behind (Calls left) is = tt
behind (Start stood next) is = absurd is
behind (WordFor left now) is = tt
behind (ReceiptNow left) is = tt
behind (ReadingFor left from bytes) is = tt
behind (CallWord call now left) is = tt
behind (Round receipts left) is = tt
behind (RoundReading receipts from bytes left) is = tt
behind (Act outcome later) is = absurd is

greatest_low : (conf : Conf) (before : List Told) (mark : ℕ) → SentAll (λ n. n ≤ mark) before → greatest_count before ≤ mark
unfolding words
greatest_low conf before mark low = (greatest_at conf before mark).1 low

module _ {D : Type 0} {tells : D → DiskTold} where
  earlier_ones : (run : Run tells) (earlier : List (Run tells)) → AreSuccessive (run ∷ earlier) → AreSuccessive earlier
  earlier_ones run [] s = tt
  earlier_ones run (before ∷ older) s = s.1

  -- an image that the next run may find stands for at least each count that the run has sent, and for no less than an image
  -- at its entry
  own_covers : (run : Run tells) (image : List ℕ) → MayFind run image
      → SentAll (λ n. n ≤ mark_of_image image) (told run.conf (history_of run)) × StandsNoLess (tells run.entry) image
  own_covers run image (inl left) = (run.kept.marks.covered image left, run.kept.marks.least.least image left)
  own_covers run image (inr (failed, room, left)) = (run.kept.stopped failed).each room image left

  -- and for at least each count that an earlier run has sent
  left_covers : (run : Run tells) (earlier : List (Run tells)) → AreSuccessive (run ∷ earlier)
      → (image : List ℕ) → MayFind run image → SentAll (λ n. n ≤ mark_of_image image) (all_told (run ∷ earlier))
  left_covers run [] s image left =
      sent_both (λ n. n ≤ mark_of_image image) (told run.conf (history_of run)) [] (own_covers run image left).0 tt
  left_covers run (before ∷ older) s image left =
      let own = own_covers run image left in
      let was = own.1.0 in
      let low = left_covers before older s.1 was (s.0.images was own.1.1) in
      let rest = all_weaken (λ (r : Request). r.count ≤ mark_of_image was) (λ r. r.count ≤ mark_of_image image) (λ r k. omega (arith, k, own.1.2)) (all_sent (all_told (before ∷ older))) low in
      sent_both (λ n. n ≤ mark_of_image image) (told run.conf (history_of run)) (all_told (before ∷ older)) own.0 rest

  -- so the mark with which a run begins is at least each count that an earlier run has sent
  entry_covers : (run : Run tells) (earlier : List (Run tells)) → AreSuccessive (run ∷ earlier) → SentAll (λ n. n ≤ run.stood.mark) (all_told earlier)
  entry_covers run [] s = tt
  entry_covers run (before ∷ older) s =
      let finds = s.0 in
      let same = read_mark run.stood.mark (tells run.entry).content finds.content run.stood_for finds.read in
      subst (λ (m : ℕ). SentAll (λ n. n ≤ m) (all_told (before ∷ older))) (sym same) (left_covers before older s.1 finds.content finds.was_left)

  pub chain_counts : LawOfCounts tells
  chain_counts [] s = tt
  chain_counts (run ∷ earlier) s =
      counts_join run.stood.mark (told run.conf (history_of run)) (all_told earlier)
      (counts_rise run.conf (history_of run) run.woven.grows) (chain_counts earlier (earlier_ones run earlier s))
      run.kept.marks.above (entry_covers run earlier s)

  all_moved : (P : ℕ → Type 0) (runs : List (Run tells)) → SentAll P (all_told runs) → MovedAll P (all_told runs)
  all_moved P [] a = tt
  all_moved P (run ∷ earlier) a =
      let parts = sent_parts P (told run.conf (history_of run)) (all_told earlier) a in
      all_join _ (told run.conf (history_of run)) (all_told earlier) (moved_has P run.conf (history_of run) parts.0) (all_moved P earlier parts.1)

  pub chain_moves : LawOfMoves tells
  chain_moves [] s = tt
  chain_moves (run ∷ earlier) s =
      moves_join run.stood.mark (told run.conf (history_of run)) (all_told earlier)
      run.effects.once (chain_moves earlier (earlier_ones run earlier s))
      (moved_has (λ n. run.stood.mark < n) run.conf (history_of run) run.kept.marks.above)
      (all_moved (λ n. n ≤ run.stood.mark) earlier (entry_covers run earlier s))

  -- each Life of a run has its mark
  lives_at : (run : Run tells) → AllByRecursion (LivesAt run.stood.mark) (history_of run)
  lives_at run =
      let all = start_marks (behind run.next run.of_run) run.woven.weaves in
      all_reversed (LivesAt run.stood.mark) run.woven.events (all_split (LivesAt run.stood.mark) run.woven.events (missing_in run.woven.ending) all).0

  pub chain_earlier : LawOfEarlier tells
  chain_earlier run earlier s later before place some now from bytes r sent answers =
      let lives = (all_split (LivesAt run.stood.mark) later before (subst (AllByRecursion (LivesAt run.stood.mark)) place (lives_at run))).1 in
      let grows = grows_before run.conf later before (subst (Grows run.conf) place run.woven.grows) in
      let low = all_have (λ q. q.count ≤ run.stood.mark) (all_sent (all_told earlier)) r (entry_covers run earlier s) sent in
      below_refused run.conf before now from bytes run.stood.mark (last_mark run.conf run.stood.mark before lives grows some) (omega (arith, low, answers))

  -- ---- Runs under the same settings

  no_runs : (conf : Conf) → Joins {tells = tells} conf []
  unfolding told outcomes requests_of moves_of report_of Grows
  no_runs conf = record { told_so = refl; grows = tt; outcomes_are = refl; requests = refl; moves = refl; report = refl }

  pub chain_joins : LawOfJoined tells
  chain_joins conf [] s same = no_runs conf
  chain_joins conf (run ∷ earlier) s same =
      let rest = chain_joins conf earlier (earlier_ones run earlier s) same.1 in
      let grows : Grows conf (history_of run) = subst (λ (c : Conf). Grows c (history_of run)) same.0 run.woven.grows in
      let low = greatest_low conf (told conf (joined_history earlier)) run.stood.mark
      (subst (SentAll (λ n. n ≤ run.stood.mark)) (sym rest.told_so) (entry_covers run earlier s)) in
      let marks = marks_at_least (greatest_count (told conf (joined_history earlier))) run.stood.mark (history_of run) low (lives_at run) in
      let law = histories_join conf (history_of run) (joined_history earlier) rest.grows grows marks in
      let own : told conf (history_of run) ≡ told run.conf (history_of run) = ap (λ (c : Conf). told c (history_of run)) (sym same.0) in
      record {
        told_so = told_join conf (history_of run) (joined_history earlier) grows ∙ ap (λ (l : List Told). l ++ told conf (joined_history earlier)) own ∙ ap (λ (l : List Told). told run.conf (history_of run) ++ l) rest.told_so;
        grows = law.0;
        outcomes_are = law.1 ∙ ap (λ l. l ++ outcomes conf (history_of run)) rest.outcomes_are;
        requests = law.2 ∙ ap (λ l. l ++ requests_of conf (history_of run)) rest.requests;
        moves = law.3 ∙ ap (λ l. l ++ moves_of conf (history_of run)) rest.moves;
        report = law.4 ∙ ap (λ l. l ++ report_of conf (history_of run)) rest.report;
      }
