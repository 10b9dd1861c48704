-- Which requests are answered: what bytes bring is of requests that are served.
use Rattle.std.proofs.Common.{◌≡◌, ◌<◌, ◌++◌, ℕ, nat_le, Bool, true, false, cond, List, [], ◌∷◌, length, take, drop, inl, inr, refl, sym, ap, ◌∙◌, subst, arith}
use Rattle.std.proofs.lemmas.Bool.{leb-true}
use Rattle.std.proofs.lemmas.List.{length-take}
use Rattle.std.specs.List.{AllByRecursion}
use Rattle.b2_types.specs.declared.answer.AnswerOf.{AnswerOf}
use Rattle.wire_forms.specs.declared.request.Request.{Request}
use Rattle.call_paths.specs.declared.routes.Route.{Route}
use Rattle.call_paths.specs.Path.{IsRouted}
use Rattle.http_edge.specs.declared.head.Head.{Head}
use Rattle.http_edge.specs.Length.{is_upload}
use Rattle.http_edge.specs.Reply.{reply_of}
use Rattle.http_edge.specs.declared.cut.Cut.TheVariants.{Head as HeadCut, NotYet, TooLong}
use Rattle.http_edge.specs.Received.{Received, unfinished, malformed, announced, whole, IsReceived, HasRequest}
use Rattle.http_edge.proofs.Receiving.{announced_has, whole_has}
use Rattle.conn_talk.specs.declared.act.Act.{Act}
use Rattle.conn_talk.specs.declared.act.Act.TheVariants as act
use Rattle.conn_talk.specs.Asked.{Asked, nothing, refused, begun, complete, head_of, IsAsked}
use Rattle.conn_talk.specs.Acts.{body_acts, acts_of, acts_after}
use Rattle.conn_talk.proofs.Once.{open_upload}
use Rattle.request_acts.specs.Answering.{IsServedHead, IsServedAct}

has_served : (before : ℕ) (bytes : List ℕ) (r : Request) (route : Route) → HasRequest bytes r route → IsServedHead (head_of before r route)
has_served before bytes r route (end, cut, (h, is_head, (routed, in_order), is)) =
    let P : Request → Type 0 = λ q. IsRouted q.method q.path route in subst P (sym is) routed

whole_served : (before : ℕ) (bytes : List ℕ) (head : Head) (body rest : List ℕ) → IsAsked before bytes (complete head body rest) → IsServedHead head
whole_served before bytes head body rest (r, route, received, is, after) = subst IsServedHead (sym is) (has_served before bytes r route (whole_has bytes body r route received))

begun_served : (before : ℕ) (bytes : List ℕ) (head : Head) (came : List ℕ) → IsAsked before bytes (begun head came) → IsServedHead head
begun_served before bytes head came (r, route, received, is, after) = subst IsServedHead (sym is) (has_served before bytes r route (announced_has bytes r route received))

-- ---- how long a body is

-- what a whole request says of its body
abbrev HasSize : Received → Type 0
HasSize unfinished = Unit {0}
HasSize (malformed kind) = Unit {0}
HasSize (announced r route) = Unit {0}
HasSize (whole r route body) = length body ≡ r.length

size_by : (r : Request) (route : Route) (rest : List ℕ) (fits uploads : Bool) → nat_le r.length (length rest) ≡ fits → HasSize (cond fits (whole r route (take r.length rest)) (cond uploads (announced r route) unfinished))
size_by r route rest true uploads fits =
    let low = leb-true r.length (length rest) fits in
    let size = length-take r.length rest in omega (arith, low, size)
size_by r route rest false true fits = tt
size_by r route rest false false fits = tt

has_size : (bytes : List ℕ) (received : Received) → IsReceived bytes received → HasSize received
has_size bytes received (NotYet, cut, same) = subst HasSize (sym same) tt
has_size bytes received (TooLong, cut, same) = subst HasSize (sym same) tt
has_size bytes received (HeadCut end, cut, inl (kind, fault, same)) = subst HasSize (sym same) tt
has_size bytes received (HeadCut end, cut, inr (r, route, is, same)) =
    let rest = drop end bytes in subst HasSize (sym same) (size_by r route rest (nat_le r.length (length rest)) (is_upload route.name) refl)

-- the body of a whole request is as long as its head says
pub body_size : (before : ℕ) (bytes : List ℕ) (head : Head) (body rest : List ℕ) → IsAsked before bytes (complete head body rest) → length body ≡ head.request.length
body_size before bytes head body rest (r, route, received, is, after) = has_size bytes (whole r route body) received ∙ ap (λ (h : Head). h.request.length) (sym is)

-- ---- acts of requests that are served

abbrev AllServed : List Act → Type 0
AllServed acts = AllByRecursion IsServedAct acts

body_served : (bytes : List ℕ) → AllServed (body_acts bytes)
body_served [] = record {}
body_served (b ∷ bytes) = (record {}, record {})

end_served : (bytes : List ℕ) → AllServed (body_acts bytes ++ act.End ∷ [])
end_served [] = (record {}, record {})
end_served (b ∷ bytes) = (record {}, (record {}, record {}))

complete_served : (head : Head) (body : List ℕ) (uploads : Bool) → is_upload head.route.name ≡ uploads → IsServedHead head → AllServed (cond uploads ((act.Begin head ∷ body_acts body) ++ act.End ∷ []) (act.Whole head body ∷ []))
complete_served head body true is served = ((served, is), end_served body)
complete_served head body false is served = (served, record {})

asked_served : (before : ℕ) (bytes : List ℕ) (new : Asked) → IsAsked before bytes new → AllServed (acts_of new)
asked_served before bytes nothing is = record {}
asked_served before bytes (refused kind) is = (refl, record {})
asked_served before bytes (begun head came) is = ((begun_served before bytes head came is, (open_upload before bytes head came is).upload), body_served came)
asked_served before bytes (complete head body rest) is = complete_served head body (is_upload head.route.name) refl (whole_served before bytes head body rest is)

pub acts_served : (before : ℕ) (bytes : List ℕ) (told new : Asked) → IsAsked before bytes new → AllServed (acts_after told new)
acts_served before bytes nothing new is = asked_served before bytes new is
acts_served before bytes (begun head came) nothing is = record {}
acts_served before bytes (begun head came) (refused kind) is = record {}
acts_served before bytes (begun head came) (begun same body) is = body_served (drop (length came) body)
acts_served before bytes (begun head came) (complete same body rest) is = end_served (drop (length came) body)
acts_served before bytes (refused kind) new is = record {}
acts_served before bytes (complete head body rest) new is = record {}

some_front : (x : ℕ) (xs : List ℕ) → 0 < length (x ∷ xs)
some_front x xs = omega arith

-- a reply is not empty
pub reply_some : (a : AnswerOf (List ℕ)) (stay : Bool) → 0 < length (reply_of a stay)
reply_some a stay = some_front 72 (drop 1 (reply_of a stay))
