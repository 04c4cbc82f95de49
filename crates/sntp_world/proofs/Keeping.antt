-- What is known of a state by what a world keeps of it.
use Rattle.std.proofs.Common.{◌≡◌, ℕ, List, reverse, ap, subst, sym, ◌∙◌}
use Rattle.std.specs.Prelude.{IsSome}
use Rattle.std.proofs.lemmas.List.{reverse-reverse}
use Rattle.capture_fmt.specs.declared.event.Event.{Event}
use Rattle.time_machine.specs.declared.conf.Conf.{Conf}
use Rattle.time_machine.specs.declared.outcome.Request.{Request}
use Rattle.time_machine.specs.Growing.{Grows, MayFollow}
use Rattle.time_machine.specs.Kept.{kept}
use Rattle.time_machine.specs.Machine.{told}
use Rattle.time_machine.specs.Words.{Words, words}
use Rattle.time_machine.proofs.After.{coe_by, may_follow_kept}
use Rattle.sntp_core.specs.Standing.{conf_of, words_of}
use Rattle.sntp_world.specs.declared.moment.Moment.{Moment}
use Rattle.sntp_world.specs.declared.packet.Packet.{Packet}
use Rattle.sntp_world.specs.Setting.{world_conf}
use Rattle.sntp_world.specs.State.{State}
use Rattle.sntp_world.specs.Standing.{IsReached, Keeps, Kept}
use Rattle.sntp_world.specs.Steps.{words_in}
use Rattle.sntp_world.proofs.Cases.{lives_always}
use Rattle.sntp_world.specs.Laws.{AreClocks}
use Rattle.sntp_world.proofs.Histories.{Lives}
use Rattle.sntp_world.proofs.Packets.{AreSound}
use Rattle.sntp_world.proofs.Requests.{AreThere, HasRequests, requests_always}

-- the words that it keeps
pub kept_words : (k : Kept) (w : State) → Keeps k w → words_of k.member ≡ kept world_conf (words_in w)
kept_words k w keeps =
    subst (λ (conf : Conf). words_of k.member ≡ kept conf (words conf (told conf w.history))) keeps.conf keeps.member.keeps

pub kept_packets : (k : Kept) (w : State) → Keeps k w → w.packets ≡ reverse k.packets
kept_packets k w keeps = sym (ap reverse keeps.packets ∙ reverse-reverse w.packets)

-- two states of which it keeps the same
same_words : (k : Kept) (s w : State) → Keeps k s → Keeps k w → kept world_conf (words_in s) ≡ kept world_conf (words_in w)
same_words k s w one other = sym (kept_words k s one) ∙ kept_words k w other

same_packets : (k : Kept) (s w : State) → Keeps k s → Keeps k w → s.packets ≡ w.packets
same_packets k s w one other = kept_packets k s one ∙ sym (kept_packets k w other)

same_clocks : (k : Kept) (s w : State) → Keeps k s → Keeps k w → s.now ≡ w.now
same_clocks k s w one other = sym one.clocks ∙ other.clocks

moved : (s w : State) → s.now ≡ w.now → s.packets ≡ w.packets → kept world_conf (words_in s) ≡ kept world_conf (words_in w) → HasRequests s → HasRequests w
moved s w now packets words has =
    let greatest : (words_in s).greatest ≡ (words_in w).greatest = ap (λ (v : Words). v.greatest) words in
    let opened : (words_in s).open_requests ≡ (words_in w).open_requests = ap (λ (v : Words). v.open_requests) words in
    let sound = subst (λ (at : Moment). AreSound at.uneven (words_in s).greatest s.packets) now has.packets.sound in
    let sound_on = subst (λ (g : ℕ). AreSound w.now.uneven g s.packets) greatest sound in
    let there = subst (λ (ps : List Packet). AreThere ps (words_in s).open_requests) packets has.there in
    record {
      packets = record {
        clocks = subst AreClocks now has.packets.clocks;
        sound = subst (λ (ps : List Packet). AreSound w.now.uneven (words_in w).greatest ps) packets sound_on;
      };
      there = subst (λ (rs : List Request). AreThere w.packets rs) opened there;
    }

-- what holds of each world holds of each state of which a world keeps this
pub kept_has : (k : Kept) (w : State) → IsReached k → Keeps k w → HasRequests w
kept_has k w reached keeps =
    let s = reached.stands.state in
    let one = reached.stands.keeps in
    moved s w (same_clocks k s w one keeps) (same_packets k s w one keeps) (same_words k s w one keeps)
    (requests_always reached.ops s reached.stands.after)

pub kept_lives : (k : Kept) (w : State) → IsReached k → Keeps k w → Lives w
kept_lives k w reached keeps =
    let s = reached.stands.state in
    let lives = lives_always reached.ops s reached.stands.after in
    record {
      grows = subst (λ (conf : Conf). Grows conf w.history) keeps.conf keeps.member.grows;
      mark = subst (λ (v : Words). IsSome v.mark) (same_words k s w reached.stands.keeps keeps) lives.mark;
    }

-- the clocks of a world
pub reached_clocks : (k : Kept) → IsReached k → AreClocks k.clocks
reached_clocks k reached = subst AreClocks (sym reached.stands.keeps.clocks) (requests_always reached.ops reached.stands.state reached.stands.after).packets.clocks

-- ---- What may follow

follows_at : (k : Kept) (w : State) (e : Event) → Keeps k w → MayFollow (conf_of k.member) (words_of k.member) e ≡ MayFollow world_conf (words_in w) e
follows_at k w e keeps =
    ap (λ (conf : Conf). MayFollow conf (words_of k.member) e) keeps.conf
    ∙ ap (λ (v : Words). MayFollow world_conf v e) (kept_words k w keeps)
    ∙ may_follow_kept world_conf (words_in w) e

pub follows_kept : (k : Kept) (w : State) (e : Event) → Keeps k w → MayFollow (conf_of k.member) (words_of k.member) e → MayFollow world_conf (words_in w) e
follows_kept k w e keeps follows = coe_by (sym (follows_at k w e keeps)) follows

pub kept_follows : (k : Kept) (w : State) (e : Event) → Keeps k w → MayFollow world_conf (words_in w) e → MayFollow (conf_of k.member) (words_of k.member) e
kept_follows k w e keeps follows = coe_by (follows_at k w e keeps) follows
