-- Every run has the statement.
use Rattle.std.proofs.Common.{ℕ, List}
use Rattle.b2_model.specs.State.{State}
use Rattle.served_world.specs.Replies.{Reads}
use Rattle.served_world.specs.World.{Turn, World, start, Run}
use Rattle.served_world.specs.Served.{IsServed}
use Rattle.served_world.proofs.Runs.{start_stands, run_stands, each_front}
use Rattle.served_world.proofs.Cuts.{run_cut, asks_in_order, asked_in_order}

pub served : (R : Reads) (M : State (List ℕ)) (words : List ℕ) (turns : List Turn) (w : World) → Run R (start M words) turns w → IsServed R M words w
served R M words turns w ran =
    let stands = run_stands R M words turns (start M words) w (start_stands R M words) ran in
    let cut = run_cut R M words turns w ran in
    record {
      machine = stands.0.machine_is;
      replies = stands.0.replies;
      sent = λ c. each_front R M words w c (w.conns c) (stands.1.each c);
      sent_before = stands.1.before;
      asked = λ c. asks_in_order w c (w.conns c) (cut.each c);
      asked_before = asked_in_order w.opened w.answered w.ended cut.before;
    }
