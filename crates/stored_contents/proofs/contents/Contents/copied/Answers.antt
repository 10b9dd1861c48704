use Rattle.std.proofs.Common.{[], Some, Option}
use Rattle.outside_traits.specs.Causes.{Rose}
use Rattle.stored_contents.specs.declared.uploads.Whole.{Whole}
use Rattle.stored_contents.specs.Causes.{IsCause}
use Rattle.stored_contents.proofs.Faults.{any_told, rose_since, told_any}
use Rattle.stored_contents.proofs.Copying.{is_copied}
use Rattle.stored_contents.proofs.Spared.{spares_rest_more}
use Rattle.stored_contents.proofs.Updates.{updated_here}
use Rattle.stored_contents.proofs.contents.Contents.copied.Goals as goal

pub returns-in-Ok-clause-room : goal.returns-in-Ok-clause-room
returns-in-Ok-clause-room g c owned room =
    c.in-Ok.ensures.room owned (c.in_ok-end_reading.ensures.room owned (c.in_default-copy_all.ensures.room owned (c.in_default.ensures.room owned room)))

pub returns-in-Ok-clause-held : goal.returns-in-Ok-clause-held
returns-in-Ok-clause-held g c h held size =
    let begun = c.in_default.ensures.held h held in
    let came = c.in_default-copy_all.ensures.held _ begun size (updated_here h.came c.args.c (Some (record { len = c.args.len; bytes = [] }))) in
    let ended = c.in_ok-end_reading.ensures.held _ came in
    is_copied c.seal.new.self (g.D.Disk.state c.seal.new.disk) h c.args.c c.args.len size c.in-Ok.whole (c.in-Ok.ensures.held _ ended)

pub returns-in-Err-copy_all-clause-spares : goal.returns-in-Err-copy_all-clause-spares
returns-in-Err-copy_all-clause-spares g c owned room = c.copy_all.ensures.spares owned (c.in_default.ensures.room owned room)

pub returns-in_err-end_reading-clause-spares : goal.returns-in_err-end_reading-clause-spares
returns-in_err-end_reading-clause-spares g c owned room = c.copy_all.ensures.spares owned (c.in_default.ensures.room owned room)

pub returns-in-Ok-clause-spares : goal.returns-in-Ok-clause-spares
returns-in-Ok-clause-spares g c owned room =
    spares_rest_more owned (g.D.Disk.state c.args.disk.now) (g.D.Disk.state c.copy_all.new.disk) (g.D.Disk.state c.seal.new.disk)
    (c.copy_all.ensures.spares owned (c.in_default.ensures.room owned room)) c.seal.ensures.rests

pub returns-in-Err-seal-clause-spares : goal.returns-in-Err-seal-clause-spares
returns-in-Err-seal-clause-spares g c owned room =
    spares_rest_more owned (g.D.Disk.state c.args.disk.now) (g.D.Disk.state c.copy_all.new.disk) (g.D.Disk.state c.seal.new.disk)
    (c.copy_all.ensures.spares owned (c.in_default.ensures.room owned room)) c.seal.ensures.rests

pub returns-in-Err-clause-cause : goal.returns-in-Err-clause-cause
returns-in-Err-clause-cause g c =
    let before = g.D.Disk.faults c.args.disk.now in
    any_told (Option Whole) c.no_room.result (IsCause before before) (c.no_room.ensures before before)

pub returns-in-Err-copy_all-clause-cause : goal.returns-in-Err-copy_all-clause-cause
returns-in-Err-copy_all-clause-cause g c =
    let before = g.D.Disk.faults c.args.disk.now in
    let now = g.D.Disk.faults c.copy_all.new.disk in
    any_told (Option Whole) c.disk_fault.result (IsCause before now)
    (c.disk_fault.ensures before now (told_any c.copy_all.result c.in-Err-copy_all.error (λ _. Rose before now) (λ _. Rose before now) (λ f is. is) c.in-Err-copy_all.is c.copy_all.ensures.cause))

pub returns-in-Err-seal-clause-cause : goal.returns-in-Err-seal-clause-cause
returns-in-Err-seal-clause-cause g c =
    let before = g.D.Disk.faults c.args.disk.now in
    let between = g.D.Disk.faults c.copy_all.new.disk in
    let now = g.D.Disk.faults c.seal.new.disk in
    any_told (Option Whole) c.disk_fault-in-Err-seal.result (IsCause before now)
    (c.disk_fault-in-Err-seal.ensures before now (told_any c.seal.result c.in-Err-seal.error (λ _. Rose between now) (λ _. Rose before now) (λ f is. rose_since before between now c.copy_all.ensures.later is) c.in-Err-seal.is c.seal.ensures.cause))
