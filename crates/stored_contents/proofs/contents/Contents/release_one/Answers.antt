use Rattle.stored_contents.proofs.Releasing.{releases_at}
use Rattle.stored_contents.proofs.contents.Contents.release_one.Goals as goal

pub returns-clause-releases : goal.returns-clause-releases
returns-clause-releases c used =
    releases_at c.args.extent _ c.args.self.now.blobs c.release.new.self c.in-Some.ensures.1 c.release.ensures.pinned c.in_ok-release.ensures.others
    c.in_ok-release.ensures.held c.in_ok-release.ensures.back
