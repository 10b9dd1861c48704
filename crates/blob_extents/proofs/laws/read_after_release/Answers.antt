use Rattle.std.proofs.Common.{◌≡◌, sym, subst}
use Rattle.extent_space.specs.Room.{Apart}
use Rattle.blob_extents.specs.Bytes.{IsSafe}
use Rattle.blob_extents.specs.States.{kept_extent, pin_extent, staging_extent}
use Rattle.blob_extents.specs.Uses.{IsInUse}
use Rattle.blob_extents.proofs.Places.{in_use_still, now_pinned}
use Rattle.blob_extents.proofs.WhatIsRead.{safe_rests}
use Rattle.blob_extents.proofs.laws.read_after_release.Goals as goal

pub release-requires : goal.release-requires
release-requires g c = in_use_still c.args.blobs.now c.pin.new.self (kept_extent c.args.kept) c.in-Ok.ensures.room c.requires.in_use

pub returns-clause-bytes : goal.returns-clause-bytes
returns-clause-bytes g c m i safe reads =
    let e = kept_extent c.args.kept in
    let pinned = in_use_still c.args.blobs.now c.pin.new.self e c.in-Ok.ensures.room c.requires.in_use in
    let held = c.release.ensures.held (now_pinned c.args.blobs.now.pinned c.pin.new.self.pinned e c.in-Ok.ensures.pinned) in
    let apart : Apart (staging_extent c.in-Ok-begin.staging) e = c.in-Ok-begin.ensures.apart e (in_use_still c.pin.new.self c.release.new.self e held.0 pinned) in
    let pushed : IsSafe (g.D.Disk.state c.push.new.disk) e m = c.in-Ok-push.ensures.others e m apart safe in
    let sealed : IsSafe (g.D.Disk.state c.seal.new.disk) e m = safe_rests (g.D.Disk.state c.push.new.disk) (g.D.Disk.state c.seal.new.disk) e m c.in-Ok-seal.ensures.rests pushed in
    let to = c.in-Ok-push.ensures.outside_read i reads in
    let here = subst (λ x. IsSafe (g.D.Disk.state c.seal.new.disk) x m) (sym c.in-Ok.ensures.extent) sealed in
    c.in-Ok-read.ensures.bytes m here to.0 (c.in-Ok-seal.ensures.rests.reads to.0 to.1)

pub returns-clause-safe : goal.returns-clause-safe
returns-clause-safe g c m safe =
    let e = kept_extent c.args.kept in
    let pinned = in_use_still c.args.blobs.now c.pin.new.self e c.in-Ok.ensures.room c.requires.in_use in
    let held = c.release.ensures.held (now_pinned c.args.blobs.now.pinned c.pin.new.self.pinned e c.in-Ok.ensures.pinned) in
    let apart : Apart (staging_extent c.in-Ok-begin.staging) e = c.in-Ok-begin.ensures.apart e (in_use_still c.pin.new.self c.release.new.self e held.0 pinned) in
    let pushed : IsSafe (g.D.Disk.state c.push.new.disk) e m = c.in-Ok-push.ensures.others e m apart safe in
    let sealed = safe_rests (g.D.Disk.state c.push.new.disk) (g.D.Disk.state c.seal.new.disk) e m c.in-Ok-seal.ensures.rests pushed in
    safe_rests (g.D.Disk.state c.seal.new.disk) (g.D.Disk.state c.read.new.disk) e m c.in-Ok-read.ensures.rests sealed
