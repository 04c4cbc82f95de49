use Rattle.std.proofs.Common.{arith}
use Rattle.stamp_keep.proofs.Contents.{left_content, reads_image, shut_content}
use Rattle.stamp_keep.proofs.Loading.{closed_fits, shut_fits, shut_moments}
use Rattle.stamp_keep.proofs.Moments.{on_ok, on_ok_both}
use Rattle.stamp_keep.proofs.keeper.Keeper.shut_target.Goals as goal

pub returns-then-image-at-clause-moments : goal.returns-then-image-at-clause-moments
returns-then-image-at-clause-moments g c =
    let is_open = rw (c.at.ensures) at c.if-image-at.true in
    let run = rw (c.at-then-image-at.ensures) at c.write_and_sync.ensures.moments.run in
    shut_moments c.args.self.now c.args.image.now _ c.requires.remembers c.requires.ours c.requires.only (g.D.Disk.is_disk _) _ is_open run

pub returns-then-image-at-clause-fits : goal.returns-then-image-at-clause-fits
returns-then-image-at-clause-fits g c =
    let is_open = rw (c.at.ensures) at c.if-image-at.true in
    let written = rw (c.at-then-image-at.ensures) at c.write_and_sync.ensures.written in
    on_ok_both c.write_and_sync.result written c.write_and_sync.ensures.durable (shut_fits c.args.self.now c.args.image.now _ c.requires.remembers c.requires.ours c.requires.only (g.D.Disk.is_disk c.args.disk.now) _ (g.D.Disk.is_disk c.write_and_sync.new.disk) is_open)

pub returns-else-image-at-clause-fits : goal.returns-else-image-at-clause-fits
returns-else-image-at-clause-fits g c =
    closed_fits c.args.self.now c.args.image.now _ c.requires.remembers c.requires.ours c.requires.only (g.D.Disk.is_disk _) (λ e. c.if-image-at.false (rw c.at.ensures e))

pub returns-then-image-at-clause-written : goal.returns-then-image-at-clause-written
returns-then-image-at-clause-written g c =
    let is_open = rw (c.at.ensures) at c.if-image-at.true in
    let written = rw (c.at-then-image-at.ensures) at c.write_and_sync.ensures.written in
    let reads = reads_image c.args.image.now _ (g.D.Disk.is_disk c.args.disk.now) c.requires.only in
    on_ok c.write_and_sync.result written (shut_content c.args.self.now.target c.args.image.now _ _ reads is_open)

pub returns-else-image-at-clause-written : goal.returns-else-image-at-clause-written
returns-else-image-at-clause-written g c =
    left_content c.args.self.now.target c.args.image.now _ (reads_image c.args.image.now _ (g.D.Disk.is_disk _) c.requires.only) (λ e. c.if-image-at.false (rw c.at.ensures e))

pub returns-then-image-at-clause-made : goal.returns-then-image-at-clause-made
returns-then-image-at-clause-made g c =
    let is_open = rw (c.at.ensures) at c.if-image-at.true in
    on_ok c.write_and_sync.result c.write_and_sync.ensures.made (λ made. record { left = λ shut. absurd (shut is_open); closed = λ e. made })

pub returns-else-image-at-clause-made : goal.returns-else-image-at-clause-made
returns-else-image-at-clause-made g c =
    record { left = λ shut room. omega arith; closed = λ e. absurd (c.if-image-at.false (rw c.at.ensures e)) }
