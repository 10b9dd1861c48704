use Rattle.outside_traits.specs.Lists.{clock_ahead, words_ahead}
use Rattle.outside_traits.specs.Memory.{link_ahead, link_sent}
use Rattle.b2_server.proofs.Runs.{run_sends}
use Rattle.b2_server.proofs.run.serve_script.Goals as goal

pub returns : goal.returns
returns c =
    run_sends c.args.script.now c.in_ok-store.store (words_ahead c.in_ok-words.words) (clock_ahead c.in_ok-clock.clock) (link_ahead c.in_ok-link.link) (link_sent c.serve.new.link) c.in_ok-words.ensures c.in_ok-link.ensures.events c.in_ok-clock.ensures.readings
    c.in_ok-store.ensures c.in_ok-serve.ensures
