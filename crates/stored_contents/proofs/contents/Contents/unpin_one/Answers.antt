use Rattle.std.proofs.lemmas.List.Elements.{All-contains_itself}
use Rattle.blob_extents.specs.States.{pin_extent}
use Rattle.stored_contents.proofs.Unpins.{unpins, still_whole}
use Rattle.stored_contents.proofs.contents.Contents.unpin_one.Goals as goal

pub returns-then-not-is_pinned-clause-released : goal.returns-then-not-is_pinned-clause-released
returns-then-not-is_pinned-clause-released c = All-contains_itself c.args.self.now.blobs.released

pub returns-then-not-is_in_use-clause-released : goal.returns-then-not-is_in_use-clause-released
returns-then-not-is_in_use-clause-released c = All-contains_itself c.args.self.now.blobs.released

pub returns-clause-ends : goal.returns-clause-ends
returns-clause-ends c pinned used =
    record {
      pinned = c.unpin.ensures.pinned;
      others = c.in_ok-unpin.ensures.others;
      went = unpins (pin_extent c.args.pin) c.args.self.now.blobs c.unpin.new.self c.in_ok-unpin.ensures.held c.in_ok-unpin.ensures.kept c.in_ok-unpin.ensures.back;
    }

pub returns-clause-released : goal.returns-clause-released
returns-clause-released c =
    still_whole (pin_extent c.args.pin) c.args.self.now.blobs c.unpin.new.self
    (unpins (pin_extent c.args.pin) c.args.self.now.blobs c.unpin.new.self c.in_ok-unpin.ensures.held c.in_ok-unpin.ensures.kept c.in_ok-unpin.ensures.back)
