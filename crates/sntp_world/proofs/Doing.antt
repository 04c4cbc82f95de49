-- Doing what is due keeps the world's state.
use Rattle.std.proofs.Common.{◌≡◌, ℕ, Bool, true, false, List, [], ◌∷◌, ◌++◌, Option, Some, None, reverse, ap, refl, subst, sym, ◌∙◌, arith, ℤ, if◌then◌else◌}
use Rattle.std.specs.Prelude.{◌+ℤ◌, ◌≤ℤ◌, int_lt, All}
use Rattle.std.proofs.lemmas.List.{reverse-append}
use Rattle.std.proofs.lemmas.List.Elements.{All-cons, All-nil, Contains-append_right}
use Rattle.capture_fmt.specs.declared.event.Event.{Event}
use Rattle.capture_fmt.specs.declared.event.Event.TheVariants.{Life, Tick, Resync, Arrive}
use Rattle.dc_sign.specs.declared.info.ServerInfo.{ServerInfo}
use Rattle.dc_sign.specs.declared.outcome.Answer.{Answer}
use Rattle.dc_sign.specs.declared.outcome.Answer.TheVariants as answer
use Rattle.dc_sign.specs.Info.{IsLocalInfo}
use Rattle.dc_sign.specs.Reply.{Answers}
use Rattle.time_machine.specs.declared.conf.Conf.{Conf}
use Rattle.time_machine.specs.declared.outcome.How.{How}
use Rattle.time_machine.specs.declared.outcome.Outcome.{Outcome}
use Rattle.time_machine.specs.declared.outcome.Outcome.TheVariants.{Started, Idle, Sent, Moved, Refused}
use Rattle.time_machine.specs.declared.outcome.Reason.{Reason}
use Rattle.edge_traits.specs.declared.datagram.Addr.{Addr}
use Rattle.time_machine.specs.Events.{History}
use Rattle.time_machine.specs.Machine.{outcome_at}
use Rattle.sntp_core.specs.declared.member.Member.{Member}
use Rattle.sntp_core.specs.Standing.{StandsForHistory, conf_of}
use Rattle.sntp_world.specs.declared.due.Due.{Due}
use Rattle.sntp_world.specs.declared.due.Due.TheVariants as due
use Rattle.sntp_world.specs.declared.moment.Moment.{Moment}
use Rattle.sntp_world.specs.declared.op.Effect.{Effect}
use Rattle.sntp_world.specs.declared.op.Effect.TheVariants as effect
use Rattle.sntp_world.specs.declared.packet.Destination.TheVariants as to
use Rattle.sntp_world.specs.declared.packet.Packet.{Packet}
use Rattle.sntp_world.specs.Due.{Does, IsDoneBy, IsDueBy, IsSlackBy, least_of, reply_of}
use Rattle.sntp_world.specs.Setting.{world_account, world_conf}
use Rattle.sntp_world.specs.Standing.{IsReached, Keeps, Kept}
use Rattle.sntp_world.specs.State.{Correction, IsLeastSlack, State, slack_of}
use Rattle.sntp_world.specs.Steps.{IsAnsweredBy, Leaves, Takes, correction_by, nearest_reading, packets_after}
use Rattle.sntp_world.proofs.Dues.{kept_in}

-- what is done carries an operation out, so the world is reached again
pub reached_after : (k now : Kept) (d : Due) (e : Effect) → IsReached k → IsDueBy k d → Does k d e now → IsReached now
reached_after k now d e reached is does =
    let s = reached.stands.state in
    let done = does s reached.stands.keeps in
    record {
      ops = is.op ∷ reached.ops;
      stands = record {
        state = done.0;
        after = (s, e, reached.stands.after, (is.is s reached.stands.keeps).carries_out e done.0 done.1);
        keeps = done.2;
      };
    }

-- ---- Nothing, and time

pub does_nothing : (k : Kept) → Does k due.Nothing effect.Skipped k
does_nothing k w keeps = (_, (refl, refl), record { conf = keeps.conf; member = keeps.member; clocks = keeps.clocks; packets = keeps.packets; slack = keeps.slack })

pub does_time : (k : Kept) (at : Moment) → Does k (due.Time at) effect.Passed (record k { clocks = at })
does_time k at w keeps = (_, (refl, refl), record { conf = keeps.conf; member = keeps.member; clocks = refl; packets = keeps.packets; slack = keeps.slack })

pub time_by : (k same : Kept) (d : Due) (at : Moment) → k ≡ same → d ≡ due.Time at → Does same d effect.Passed (record k { clocks = at })
time_by k same d at is is_time =
    let Done : Kept → Due → Type 0 = λ (x : Kept) (y : Due). Does x y effect.Passed (record k { clocks = at }) in
    subst (Done same) (sym is_time) (subst (λ (x : Kept). Done x (due.Time at)) is (does_time k at))

-- ---- An answer

answered_packets : (w : State) (given : Answer) → reply_of given ≡ None → packets_after w given ≡ w.packets
answered_packets w (answer.Signed reply) none = absurd (let no : ⊥ = cc in no)
answered_packets w (answer.Plain reply) none = absurd (let no : ⊥ = cc in no)
answered_packets w (answer.Refused reason) none = refl

more_packets : (w : State) (given : Answer) (bytes : List ℕ) → reply_of given ≡ Some bytes → packets_after w given ≡ record { to = to.Member; bytes = bytes; at = w.now } ∷ w.packets
more_packets w (answer.Signed reply) bytes is = let same : reply ≡ bytes = cc in ap (λ (l : List ℕ). record { to = to.Member; bytes = l; at = w.now } ∷ w.packets) same
more_packets w (answer.Plain reply) bytes is = let same : reply ≡ bytes = cc in ap (λ (l : List ℕ). record { to = to.Member; bytes = l; at = w.now } ∷ w.packets) same
more_packets w (answer.Refused reason) bytes is = absurd (let no : ⊥ = cc in no)

-- the order of sending, and the last one first
pushed : (xs ys : List Packet) (p : Packet) → xs ≡ reverse ys → xs ++ p ∷ [] ≡ reverse (p ∷ ys)
pushed xs ys p same = ap (λ (l : List Packet). l ++ p ∷ []) same ∙ sym (reverse-append (p ∷ []) ys)

pub does_refuse : (k : Kept) (info : ServerInfo) (request : List ℕ) (given : Answer) → IsLocalInfo k.clocks.controller info
    → Answers (world_account ∷ []) info request k.clocks.controller k.clocks.controller given → reply_of given ≡ None
    → Does k (due.Answer request) (effect.Answered given) k
does_refuse k info request given local answers none w keeps =
    let same = ap (λ (m : Moment). m.controller) keeps.clocks in (
      record w { packets = packets_after w given },
      record {
        info = info;
        local = subst (λ (t : ℤ). IsLocalInfo t info) same local;
        answer = given;
        answers = subst (λ (t : ℤ). Answers (world_account ∷ []) info request t t given) same answers;
        effect_is = refl;
        now_is = refl;
      },
      record {
        conf = keeps.conf;
        member = keeps.member;
        clocks = keeps.clocks;
        packets = keeps.packets ∙ ap reverse (sym (answered_packets w given none));
        slack = keeps.slack;
      },
    )

pub does_answer : (k : Kept) (info : ServerInfo) (request bytes : List ℕ) (given : Answer) (packets : List Packet) → IsLocalInfo k.clocks.controller info
    → Answers (world_account ∷ []) info request k.clocks.controller k.clocks.controller given → reply_of given ≡ Some bytes
    → packets ≡ k.packets ++ record { to = to.Member; bytes = bytes; at = k.clocks } ∷ [] → Does k (due.Answer request) (effect.Answered given) (record k { packets = packets })
does_answer k info request bytes given packets local answers some all w keeps =
    let same = ap (λ (m : Moment). m.controller) keeps.clocks in
    let at : k.packets ++ record { to = to.Member; bytes = bytes; at = k.clocks } ∷ [] ≡ k.packets ++ record { to = to.Member; bytes = bytes; at = w.now } ∷ [] =
    ap (λ (m : Moment). k.packets ++ record { to = to.Member; bytes = bytes; at = m } ∷ []) keeps.clocks in (
      record w { packets = packets_after w given },
      record {
        info = info;
        local = subst (λ (t : ℤ). IsLocalInfo t info) same local;
        answer = given;
        answers = subst (λ (t : ℤ). Answers (world_account ∷ []) info request t t given) same answers;
        effect_is = refl;
        now_is = refl;
      },
      record {
        conf = keeps.conf;
        member = keeps.member;
        clocks = keeps.clocks;
        packets = all ∙ at ∙ pushed k.packets w.packets _ keeps.packets ∙ ap reverse (sym (more_packets w given bytes some));
        slack = keeps.slack;
      },
    )

-- both, as they are seen by the world's value
pub refused_by : (k same : Kept) (info : ServerInfo) (request slice : List ℕ) (given : Answer) (now : ℤ) → k ≡ same → slice ≡ request → now ≡ k.clocks.controller
    → IsLocalInfo now info → Answers (world_account ∷ []) info slice now now given → reply_of given ≡ None → Does same (due.Answer request) (effect.Answered given) same
refused_by k same info request slice given now is whole at local answers none =
    let local_at = subst (λ (t : ℤ). IsLocalInfo t info) at local in
    let answers_at = subst (λ (t : ℤ). Answers (world_account ∷ []) info slice t t given) at answers in
    let answers_to = subst (λ (l : List ℕ). Answers (world_account ∷ []) info l k.clocks.controller k.clocks.controller given) whole answers_at in
    subst (λ (x : Kept). Does x (due.Answer request) (effect.Answered given) x) is (does_refuse k info request given local_at answers_to none)

pub answered_by : (k same : Kept) (info : ServerInfo) (request slice bytes : List ℕ) (given : Answer) (packets : List Packet) (now : ℤ) → k ≡ same → slice ≡ request
    → now ≡ k.clocks.controller → IsLocalInfo now info → Answers (world_account ∷ []) info slice now now given → reply_of given ≡ Some bytes
    → packets ≡ k.packets ++ record { to = to.Member; bytes = bytes; at = k.clocks } ∷ []
    → Does same (due.Answer request) (effect.Answered given) (record k { packets = packets })
answered_by k same info request slice bytes given packets now is whole at local answers some all =
    let local_at = subst (λ (t : ℤ). IsLocalInfo t info) at local in
    let answers_at = subst (λ (t : ℤ). Answers (world_account ∷ []) info slice t t given) at answers in
    let answers_to = subst (λ (l : List ℕ). Answers (world_account ∷ []) info l k.clocks.controller k.clocks.controller given) whole answers_at in
    subst (λ (x : Kept). Does x (due.Answer request) (effect.Answered given) (record k { packets = packets })) is
    (does_answer k info request bytes given packets local_at answers_to some all)

-- ---- An event

-- the member has taken an event
pub record HasStepped (m : Member) (e : Event) (o : Outcome) (now : Member) : Type 0 where
  pub conf : conf_of now ≡ conf_of m
  pub answer : (history : History) → StandsForHistory m history → o ≡ outcome_at (conf_of m) history e
  pub stands : (history : History) → StandsForHistory m history → StandsForHistory now (e ∷ history)

pub outcome_is : (k : Kept) (w : State) (e : Event) (o : Outcome) (now : Member) → Keeps k w → HasStepped k.member e o now → o ≡ outcome_at world_conf w.history e
outcome_is k w e o now keeps stepped = stepped.answer w.history keeps.member ∙ ap (λ (conf : Conf). outcome_at conf w.history e) keeps.conf

takes : (k : Kept) (w : State) (e : Event) (o : Outcome) (now : Member) (after : State) → Keeps k w → HasStepped k.member e o now → Leaves w e o after
    → Takes e w (effect.Stepped o) after
takes k w e o now after keeps stepped leaves =
    let same = outcome_is k w e o now keeps stepped in
    (ap effect.Stepped same, subst (λ (x : Outcome). Leaves w e x after) same leaves)

does_quiet : (k : Kept) (e : Event) (o : Outcome) (now : Member) → HasStepped k.member e o now
    → ((w : State) → Leaves w e o (record w { history = e ∷ w.history })) → Does k (due.Take e) (effect.Stepped o) (record k { member = now })
does_quiet k e o now stepped leaves w keeps = (
  record w { history = e ∷ w.history },
  takes k w e o now _ keeps stepped (leaves w),
  record { conf = stepped.conf ∙ keeps.conf; member = stepped.stands w.history keeps.member; clocks = keeps.clocks; packets = keeps.packets; slack = keeps.slack },
)

pub does_start : (k : Kept) (e : Event) (mark : ℕ) (now : Member) → HasStepped k.member e (Started mark) now → Does k (due.Take e) (effect.Stepped (Started mark)) (record k { member = now })
does_start k e mark now stepped = does_quiet k e (Started mark) now stepped (λ w. refl)

pub does_idle : (k : Kept) (e : Event) (now : Member) → HasStepped k.member e Idle now → Does k (due.Take e) (effect.Stepped Idle) (record k { member = now })
does_idle k e now stepped = does_quiet k e Idle now stepped (λ w. refl)

pub does_refused : (k : Kept) (e : Event) (reason : Reason) (now : Member) → HasStepped k.member e (Refused reason) now → Does k (due.Take e) (effect.Stepped (Refused reason)) (record k { member = now })
does_refused k e reason now stepped = does_quiet k e (Refused reason) now stepped (λ w. refl)

pub does_send : (k : Kept) (e : Event) (addr : Addr) (count : ℕ) (bytes : List ℕ) (now : Member) (packets : List Packet) → HasStepped k.member e (Sent addr count bytes) now
    → packets ≡ k.packets ++ record { to = to.Controller; bytes = bytes; at = k.clocks } ∷ []
    → Does k (due.Take e) (effect.Stepped (Sent addr count bytes)) (record k { member = now; packets = packets })
does_send k e addr count bytes now packets stepped all w keeps =
    let at : k.packets ++ record { to = to.Controller; bytes = bytes; at = k.clocks } ∷ [] ≡ k.packets ++ record { to = to.Controller; bytes = bytes; at = w.now } ∷ [] =
    ap (λ (m : Moment). k.packets ++ record { to = to.Controller; bytes = bytes; at = m } ∷ []) keeps.clocks in (
      record w { history = e ∷ w.history; packets = record { to = to.Controller; bytes = bytes; at = w.now } ∷ w.packets },
      takes k w e (Sent addr count bytes) now _ keeps stepped refl,
      record {
        conf = stepped.conf ∙ keeps.conf;
        member = stepped.stands w.history keeps.member;
        clocks = keeps.clocks;
        packets = all ∙ at ∙ pushed k.packets w.packets _ keeps.packets;
        slack = keeps.slack;
      },
    )

-- ---- A correction

-- the least slack after one more correction
least_by : (cs : List Correction) (l : ℤ) (c : Correction) (b : Bool) → int_lt l (slack_of c) ≡ b → IsLeastSlack cs (Some l)
    → IsLeastSlack (c ∷ cs) (Some (if b then l else slack_of c))
least_by cs l c true is least =
    let within = least.0 in (
      (within.0, Contains-append_right (c ∷ []) cs within.0 within.1, within.2),
      All-cons (λ (d : Correction). l ≤ℤ slack_of d) c cs (grind arith) least.1,
    )
least_by cs l c false is least = (
  (c, (0, omega arith, refl), refl),
  All-cons (λ (d : Correction). slack_of c ≤ℤ slack_of d) c cs (grind arith) (λ k d h. let each = least.1 k d h in grind arith),
)

pub least_more : (cs : List Correction) (o : Option ℤ) (c : Correction) (slack : ℤ) → slack ≡ slack_of c → IsLeastSlack cs o → IsLeastSlack (c ∷ cs) (Some (least_of o slack))
least_more cs None c slack same none =
    subst (λ (s : ℤ). IsLeastSlack (c ∷ cs) (Some s)) (sym same) (
      (c, (0, omega arith, refl), refl),
      All-cons (λ (d : Correction). slack_of c ≤ℤ slack_of d) c cs (grind arith)
          (subst (λ (l : List Correction). All (λ (d : Correction). slack_of c ≤ℤ slack_of d) l) (sym none) (All-nil (λ (d : Correction). slack_of c ≤ℤ slack_of d))),
    )
least_more cs (Some l) c slack same least =
    subst (λ (s : ℤ). IsLeastSlack (c ∷ cs) (Some (if int_lt l s then l else s))) (sym same) (least_by cs l c (int_lt l (slack_of c)) refl least)

-- what a correction leaves
does_move_at : (k : Kept) (w : State) (at : ℤ) (from : Addr) (reply : List ℕ) (count : ℕ) (offset slack : ℤ) (how : How) (now : Member) → Keeps k w
    → HasStepped k.member (Arrive at from reply) (Moved count offset how) now → IsSlackBy k.packets k.clocks (Arrive at from reply) offset slack
    → (after : State) × IsDoneBy (due.Take (Arrive at from reply)) w (effect.Stepped (Moved count offset how)) after
    × Keeps (record k { member = now; clocks = record k.clocks { member = nearest_reading (k.clocks.member +ℤ offset) }; slack = Some (least_of k.slack slack) }) after
does_move_at k w at from reply count offset slack how now keeps stepped by =
    let request = by.0 in
    let same : slack ≡ slack_of (correction_by w.now reply offset request) = by.4 ∙ ap (λ (m : Moment). slack_of (correction_by m reply offset request)) keeps.clocks in
    let answered : IsAnsweredBy w reply request = record { sent = kept_in k w request keeps by.1; asks = by.2; answered = by.3 } in
    let after : State = record w {
      history = Arrive at from reply ∷ w.history;
      now = record w.now { member = nearest_reading (w.now.member +ℤ offset) };
      corrections = correction_by w.now reply offset request ∷ w.corrections;
    } in (
      after,
      takes k w (Arrive at from reply) (Moved count offset how) now after keeps stepped (request, answered, refl),
      record {
        conf = stepped.conf ∙ keeps.conf;
        member = stepped.stands w.history keeps.member;
        clocks = ap (λ (m : Moment). record m { member = nearest_reading (m.member +ℤ offset) }) keeps.clocks;
        packets = keeps.packets;
        slack = least_more w.corrections k.slack (correction_by w.now reply offset request) slack same keeps.slack;
      },
    )

pub does_move : (k : Kept) (e : Event) (count : ℕ) (offset slack : ℤ) (how : How) (now : Member) → HasStepped k.member e (Moved count offset how) now
    → IsSlackBy k.packets k.clocks e offset slack
    → Does k (due.Take e) (effect.Stepped (Moved count offset how))
    (record k { member = now; clocks = record k.clocks { member = nearest_reading (k.clocks.member +ℤ offset) }; slack = Some (least_of k.slack slack) })
does_move k (Arrive at from reply) count offset slack how now stepped by w keeps = does_move_at k w at from reply count offset slack how now keeps stepped by
does_move k (Life at mark) count offset slack how now stepped by w keeps = absurd by
does_move k (Tick at word) count offset slack how now stepped by w keeps = absurd by
does_move k (Resync at word flags) count offset slack how now stepped by w keeps = absurd by
