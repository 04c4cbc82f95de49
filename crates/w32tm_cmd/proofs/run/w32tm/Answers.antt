use Rattle.std.proofs.Common.{◌≡◌, inr, refl}
use Rattle.w32tm_text.specs.declared.words.Action.{Action}
use Rattle.w32tm_text.specs.declared.words.Action.TheVariants.{Sign, Show, Dc, Member, Monitor, Replay, Resync, QuerySource, QueryBits, Simulate, Service}
use Rattle.w32tm_cmd.proofs.Commands.{is_read, same_action}
use Rattle.w32tm_cmd.proofs.Showing as showing
use Rattle.w32tm_cmd.proofs.Signing as signing
use Rattle.w32tm_cmd.proofs.Simulating as simulating
use Rattle.w32tm_cmd.proofs.run.w32tm.Goals as goal

-- words that spell a command are read
pub returns-in-Err-clause-bad_words : goal.returns-in-Err-clause-bad_words
returns-in-Err-clause-bad_words g c =
    (λ is command spells. let wrong = c.in-Err.ensures.found command spells in cc wrong, λ nothing. refl)

pub returns-in-Err-clause-sign : goal.returns-in-Err-clause-sign
returns-in-Err-clause-sign g c account is_sign = absurd (is_read (Sign account) _ _ is_sign c.in-Err.ensures.found)

pub returns-in-Err-clause-show : goal.returns-in-Err-clause-show
returns-in-Err-clause-show g c bytes is_show = absurd (is_read (Show bytes) _ _ is_show c.in-Err.ensures.found)

pub returns-in-Err-clause-dc : goal.returns-in-Err-clause-dc
returns-in-Err-clause-dc g c turns is_dc = absurd (is_read (Dc turns) _ _ is_dc c.in-Err.ensures.found)

pub returns-in-Err-clause-dc_touches : goal.returns-in-Err-clause-dc_touches
returns-in-Err-clause-dc_touches g c turns is_dc = absurd (is_read (Dc turns) _ _ is_dc c.in-Err.ensures.found)

pub returns-in-Err-clause-member : goal.returns-in-Err-clause-member
returns-in-Err-clause-member g c turns is_member = absurd (is_read (Member turns) _ _ is_member c.in-Err.ensures.found)

pub returns-in-Err-clause-member_touches : goal.returns-in-Err-clause-member_touches
returns-in-Err-clause-member_touches g c turns is_member = absurd (is_read (Member turns) _ _ is_member c.in-Err.ensures.found)

pub returns-in-Err-clause-monitor : goal.returns-in-Err-clause-monitor
returns-in-Err-clause-monitor g c is_monitor = absurd (is_read Monitor _ _ is_monitor c.in-Err.ensures.found)

pub returns-in-Err-clause-monitor_touches : goal.returns-in-Err-clause-monitor_touches
returns-in-Err-clause-monitor_touches g c is_monitor = absurd (is_read Monitor _ _ is_monitor c.in-Err.ensures.found)

pub returns-in-Err-clause-replay : goal.returns-in-Err-clause-replay
returns-in-Err-clause-replay g c is_replay = absurd (is_read Replay _ _ is_replay c.in-Err.ensures.found)

pub returns-in-Err-clause-replay_touches : goal.returns-in-Err-clause-replay_touches
returns-in-Err-clause-replay_touches g c is_replay = absurd (is_read Replay _ _ is_replay c.in-Err.ensures.found)

pub returns-in-Err-clause-resync : goal.returns-in-Err-clause-resync
returns-in-Err-clause-resync g c wait rediscover is_resync = absurd (is_read (Resync wait rediscover) _ _ is_resync c.in-Err.ensures.found)

pub returns-in-Err-clause-resync_touches : goal.returns-in-Err-clause-resync_touches
returns-in-Err-clause-resync_touches g c wait rediscover is_resync = absurd (is_read (Resync wait rediscover) _ _ is_resync c.in-Err.ensures.found)

pub returns-in-Err-clause-query_source : goal.returns-in-Err-clause-query_source
returns-in-Err-clause-query_source g c is_query = absurd (is_read QuerySource _ _ is_query c.in-Err.ensures.found)

pub returns-in-Err-clause-query_source_touches : goal.returns-in-Err-clause-query_source_touches
returns-in-Err-clause-query_source_touches g c is_query = absurd (is_read QuerySource _ _ is_query c.in-Err.ensures.found)

pub returns-in-Err-clause-query_bits : goal.returns-in-Err-clause-query_bits
returns-in-Err-clause-query_bits g c is_query = absurd (is_read QueryBits _ _ is_query c.in-Err.ensures.found)

pub returns-in-Err-clause-query_bits_touches : goal.returns-in-Err-clause-query_bits_touches
returns-in-Err-clause-query_bits_touches g c is_query = absurd (is_read QueryBits _ _ is_query c.in-Err.ensures.found)

pub returns-in-Err-clause-simulate : goal.returns-in-Err-clause-simulate
returns-in-Err-clause-simulate g c seed operations is_simulate = absurd (is_read (Simulate seed operations) _ _ is_simulate c.in-Err.ensures.found)

pub returns-in-Err-clause-simulate_touches : goal.returns-in-Err-clause-simulate_touches
returns-in-Err-clause-simulate_touches g c seed operations is_simulate = absurd (is_read (Simulate seed operations) _ _ is_simulate c.in-Err.ensures.found)

pub returns-in-Err-clause-service : goal.returns-in-Err-clause-service
returns-in-Err-clause-service g c sessions is_service = absurd (is_read (Service sessions) _ _ is_service c.in-Err.ensures.found)

pub returns-in-Err-clause-service_touches : goal.returns-in-Err-clause-service_touches
returns-in-Err-clause-service_touches g c sessions is_service = absurd (is_read (Service sessions) _ _ is_service c.in-Err.ensures.found)

-- `/sign` was carried out for the account of the words
pub returns-in-Sign-clause-sign : goal.returns-in-Sign-clause-sign
returns-in-Sign-clause-sign g c account is_sign =
    let action = same_action (Sign account) _ c.in-Ok.command is_sign c.in-Ok.ensures.found in
    let same : c.in-Sign.account ≡ account = cc (action, c.in-Sign.is) in
    signing.promises account _ _ c.sign_request.result (rw same at c.sign_request.ensures.sign)

-- and `/show` for the bytes of the words
pub returns-in-Show-clause-show : goal.returns-in-Show-clause-show
returns-in-Show-clause-show g c bytes is_show =
    let action = same_action (Show bytes) _ c.in-Ok.command is_show c.in-Ok.ensures.found in
    let slice = c.as_slice.ensures.bytes in
    let same : c.as_slice.result.now ≡ bytes = cc (action, c.in-Show.is, slice) in
    showing.promises bytes _ _ c.show_message.result (rw same at c.show_message.ensures.show)

-- `/member` for the turns of the words
pub returns-in-Member-clause-member : goal.returns-in-Member-clause-member
returns-in-Member-clause-member g c turns is_member =
    let action = same_action (Member turns) _ c.in-Ok.command is_member c.in-Ok.ensures.found in
    let same : c.in-Member.turns ≡ turns = cc (action, c.in-Member.is) in
    rw same at c.keep_clock.ensures.member

-- `/dc` for the turns of the words
pub returns-in-Dc-clause-dc : goal.returns-in-Dc-clause-dc
returns-in-Dc-clause-dc g c turns is_dc =
    let action = same_action (Dc turns) _ c.in-Ok.command is_dc c.in-Ok.ensures.found in
    let same : c.in-Dc.turns ≡ turns = cc (action, c.in-Dc.is) in
    rw same at c.serve_requests.ensures.dc

-- `/resync` with the options of the words
pub returns-in-Resync-clause-resync : goal.returns-in-Resync-clause-resync
returns-in-Resync-clause-resync g c wait rediscover is_resync =
    let action = same_action (Resync wait rediscover) _ c.in-Ok.command is_resync c.in-Ok.ensures.found in
    let waits : c.in-Resync.wait ≡ wait = cc (action, c.in-Resync.is) in
    let looks : c.in-Resync.rediscover ≡ rediscover = cc (action, c.in-Resync.is) in
    rw (waits, looks) at (rw c.sync_call.ensures at c.ask_computer.ensures.ask)

-- each of the two is no command of the other
pub returns-in-QuerySource-clause-query_bits : goal.returns-in-QuerySource-clause-query_bits
returns-in-QuerySource-clause-query_bits g c is_bits =
    let action = same_action QueryBits _ c.in-Ok.command is_bits c.in-Ok.ensures.found in
    let wrong : ◌≡◌ {A = Action} QuerySource QueryBits = cc (action, c.in-QuerySource.is) in
    absurd (cc wrong)

pub returns-in-QueryBits-clause-query_source : goal.returns-in-QueryBits-clause-query_source
returns-in-QueryBits-clause-query_source g c is_source =
    let action = same_action QuerySource _ c.in-Ok.command is_source c.in-Ok.ensures.found in
    let wrong : ◌≡◌ {A = Action} QuerySource QueryBits = cc (action, c.in-QueryBits.is) in
    absurd (cc wrong)

-- `/simulate` for the seed and the operations of the words
pub returns-in-Simulate-clause-simulate : goal.returns-in-Simulate-clause-simulate
returns-in-Simulate-clause-simulate g c seed operations is_simulate =
    let action = same_action (Simulate seed operations) _ c.in-Ok.command is_simulate c.in-Ok.ensures.found in
    let seeds : c.in-Simulate.seed ≡ seed = cc (action, c.in-Simulate.is) in
    let counts : c.in-Simulate.operations ≡ operations = cc (action, c.in-Simulate.is) in
    simulating.promises seed operations _ _ c.simulate_world.result (rw (seeds, counts) at c.simulate_world.ensures.simulate)

-- `/service` for the sessions of the words
pub returns-in-Service-clause-service : goal.returns-in-Service-clause-service
returns-in-Service-clause-service g c sessions is_service =
    let action = same_action (Service sessions) _ c.in-Ok.command is_service c.in-Ok.ensures.found in
    let same : c.in-Service.sessions ≡ sessions = cc (action, c.in-Service.is) in
    rw same at c.serve_calls.ensures.service

-- its causes are in its own clause
pub returns-in-Service-clause-causes : goal.returns-in-Service-clause-causes
returns-in-Service-clause-causes g c none =
    absurd (none (inr (c.in-Service.sessions, record { command = c.in-Ok.command; is = c.in-Service.is; spelled = c.in-Ok.ensures.read })))
