use Rattle.std.proofs.Common.{◌≡◌, List, None, subst, sym, ap}
use Rattle.b2_types.specs.declared.key.Flight.{Flight}
use Rattle.b2_model.specs.Lists.{put_by}
use Rattle.b2_model.specs.UploadSteps.{flight_of}
use Rattle.core_state.specs.declared.parts.Parts.{Parts}
use Rattle.core_state.proofs.UnderWay.{is_held, is_untaken, occupied}
use Rattle.core_state.proofs.state.Core.occupy.Goals as goal

pub take-requires-clause-stands : goal.take-requires-clause-stands
take-requires-clause-stands c = is_held c.self.inside.parts c.args.self c.args.t c.args.token.now c.args.upload c.self.view_is c.self.invariant c.requires.passes

pub take-requires-clause-free : goal.take-requires-clause-free
take-requires-clause-free c = is_untaken c.self.inside.parts c.args.self c.args.t c.args.token.now c.args.upload c.self.view_is c.self.invariant c.requires.passes

pub put-requires : goal.put-requires
put-requires c = record { free = subst (λ M. flight_of M c.args.conn ≡ None) (sym c.self.view_is) c.requires.free }

pub invariant_of-result : goal.invariant_of-result
invariant_of-result c =
    let p = c.self.inside.parts in
    let f : Flight = record { conn = c.args.conn; token = c.in_ok-text.text; upload = c.args.upload } in
    let with_flights : List Flight → Parts = λ fs. record p { now = c.args.t; tokens = c.take.new.tokens; flights = fs } in
    let flights : c.put.new.self ≡ put_by (λ g. g.conn) f p.flights = c.in_ok-put.ensures.ok in
    (occupied p (with_flights c.put.new.self) c.args.self c.args.t c.args.conn c.args.token.now c.args.upload f c.take.new.tokens c.self.view_is c.self.invariant c.requires.later c.requires.free c.requires.passes
    (ap {B = Flight} (λ text. record { conn = c.args.conn; token = text; upload = c.args.upload }) c.in_ok-text.ensures) c.take.ensures (ap with_flights flights)).whole

pub returns : goal.returns
returns c =
    let p = c.self.inside.parts in
    let f : Flight = record { conn = c.args.conn; token = c.in_ok-text.text; upload = c.args.upload } in
    let with_flights : List Flight → Parts = λ fs. record p { now = c.args.t; tokens = c.take.new.tokens; flights = fs } in
    let flights : c.put.new.self ≡ put_by (λ g. g.conn) f p.flights = c.in_ok-put.ensures.ok in
    (occupied p (with_flights c.put.new.self) c.args.self c.args.t c.args.conn c.args.token.now c.args.upload f c.take.new.tokens c.self.view_is c.self.invariant c.requires.later c.requires.free c.requires.passes
    (ap {B = Flight} (λ text. record { conn = c.args.conn; token = text; upload = c.args.upload }) c.in_ok-text.ensures) c.take.ensures (ap with_flights flights)).state
