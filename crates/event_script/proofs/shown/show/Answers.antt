use Rattle.event_script.specs.Shown.{shown_bytes, shown_end}
use Rattle.event_script.proofs.Shows.{any_err, front_of_more, front_behind}
use Rattle.event_script.proofs.shown.show.Goals as goal

pub returns-in_err-show_bytes-clause-err : goal.returns-in_err-show_bytes-clause-err
returns-in_err-show_bytes-clause-err g c = any_err c.from_residual.result (front_of_more _ _ _ (shown_end c.args.send.now.conn c.args.send.now.last) (rw (c.get-conn.ensures, c.get.ensures) at c.in_err-show_bytes.ensures.err))

pub returns-in_err-show_end-clause-err : goal.returns-in_err-show_end-clause-err
returns-in_err-show_end-clause-err g c = any_err c.from_residual-in_err-show_end.result
    (front_behind _ _ _ (shown_bytes c.args.send.now.conn c.args.send.now.bytes) _ (rw (c.get-conn.ensures, c.get.ensures) at c.in_ok-show_bytes.ensures.ok) (rw c.get-conn.ensures at c.in_err-show_end.ensures.err))
