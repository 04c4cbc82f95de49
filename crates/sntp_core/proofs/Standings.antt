-- What a member keeps stands for its history, event by event.
use Rattle.std.proofs.Common.{◌≡◌, List, [], ◌∷◌, None, refl, sym, ◌∙◌, subst}
use Rattle.std.proofs.Math.Nat.{zero-mod}
use Rattle.capture_fmt.specs.declared.event.Event.{Event}
use Rattle.time_machine.specs.declared.outcome.Request.{Request}
use Rattle.time_machine.specs.declared.conf.Conf.{Conf}
use Rattle.time_machine.specs.Events.{History}
use Rattle.time_machine.specs.Words.{Words, words}
use Rattle.time_machine.specs.Machine.{told, outcome_by, outcome_at}
use Rattle.time_machine.specs.Growing.{MayFollow, Grows}
use Rattle.time_machine.specs.After.{after}
use Rattle.time_machine.specs.Kept.{kept}
use Rattle.time_machine.proofs.After.{same_words, words_after, outcome_kept, may_follow_kept, coe_by}
use Rattle.sntp_core.specs.declared.member.Member.{Member}
use Rattle.sntp_core.specs.Standing.{conf_of, words_of, StandsForHistory, LawOfFollowing}

pub new_words : (conf : Conf) (open_requests : List Request) → open_requests ≡ [] →
    ◌≡◌ {A = Words} (record { mark = None; sent = 0; greatest = 0; base = None; poll = conf.limits.min_poll; changes = 0; open_requests = open_requests; source = None })
    (kept conf (words conf (told conf [])))
unfolding words told
new_words conf open_requests e = same_words refl refl (sym (zero-mod _)) e refl

pub stands_new : (m : Member) → words_of m ≡ kept (conf_of m) (words (conf_of m) (told (conf_of m) [])) → StandsForHistory m []
unfolding Grows
stands_new m e = record { grows = tt; keeps = e }

pub answer_stands : (m : Member) (history : History) (e : Event) → StandsForHistory m history → outcome_by (conf_of m) (words_of m) e ≡ outcome_at (conf_of m) history e
unfolding outcome_at
answer_stands m history e s = rw s.keeps (outcome_kept (conf_of m) (words (conf_of m) (told (conf_of m) history)) e)

pub follows_stands : (m : Member) (history : History) (e : Event) → StandsForHistory m history → MayFollow (conf_of m) (words_of m) e → Grows (conf_of m) (e ∷ history)
unfolding Grows
follows_stands m history e s f = (s.grows, coe_by (may_follow_kept (conf_of m) (words (conf_of m) (told (conf_of m) history)) e) (rw s.keeps at f))

pub stands_follows : (m : Member) (history : History) (e : Event) → StandsForHistory m history → Grows (conf_of m) (e ∷ history) → MayFollow (conf_of m) (words_of m) e
unfolding Grows
stands_follows m history e s g = rw s.keeps (coe_by (sym (may_follow_kept (conf_of m) (words (conf_of m) (told (conf_of m) history)) e)) g.1)

pub follows_grows : LawOfFollowing
follows_grows m history e s = (λ f. follows_stands m history e s f, λ g. stands_follows m history e s g)

pub stands_step : (m m' : Member) (history : History) (e : Event) → StandsForHistory m history → MayFollow (conf_of m) (words_of m) e →
    (conf_of m') ≡ (conf_of m) → words_of m' ≡ after (conf_of m) (words_of m) e → StandsForHistory m' (e ∷ history)
unfolding told
stands_step m m' history e s f ec ew =
    record {
      grows = subst (λ conf. Grows conf (e ∷ history)) (sym ec) (follows_stands m history e s f);
      keeps = subst (λ conf. words_of m' ≡ kept conf (words conf (told conf (e ∷ history)))) (sym ec)
          (ew ∙ (rw s.keeps (sym (words_after (conf_of m) (told (conf_of m) history) e))));
    }
