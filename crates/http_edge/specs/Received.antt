-- What the bytes that came on a connection come to (RFC 9112, sections 2 and 6): a head is cut off and read,
-- and the body is the bytes after it. Bytes after the body do nothing.
use Rattle.std.specs.Prelude.{◌≡◌, ◌⊎◌, ℕ, nat_le, List, length, take, drop, if◌then◌else◌}
use Rattle.rule_table.specs.declared.fault.FaultKind.{FaultKind}
use Rattle.rule_table.specs.declared.fault.FaultKind.TheVariants.{LongHead}
use Rattle.wire_forms.specs.declared.request.Request.{Request}
use Rattle.call_paths.specs.declared.routes.Route.{Route}
use Rattle.http_edge.specs.declared.cut.Cut.{Cut}
use Rattle.http_edge.specs.declared.cut.Cut.TheVariants.{Head, NotYet, TooLong}
use Rattle.http_edge.specs.Cut.{IsCut}
use Rattle.http_edge.specs.Length.{is_upload}
use Rattle.http_edge.specs.Request.{IsRequest, IsHeadFault}

pub data Received : Type 0 where
  -- the head has not come whole, or the body of a request that is no upload
  unfinished : Received
  -- its form is refused
  malformed : FaultKind → Received
  -- the head of an upload, whose body has not come whole
  announced : Request → Route → Received
  -- a request, the call that it is for, and its body
  whole : Request → Route → List ℕ → Received

-- a request whose body has not come whole
abbrev pub without_body : Request → Route → Received
without_body r route = if is_upload route.name then announced r route else unfinished

-- its body among the bytes after the head
abbrev pub with_body : Request → Route → List ℕ → Received
with_body r route rest = if nat_le r.length (length rest) then whole r route (take r.length rest) else without_body r route

-- the bytes of the head are read, and these are the bytes after it
abbrev pub IsReadAs : List ℕ → List ℕ → Received → Type 0
IsReadAs bytes rest received =
    ((kind : FaultKind) × IsHeadFault bytes kind × (received ≡ malformed kind))
    ⊎ ((r : Request) × (route : Route) × IsRequest bytes r route × (received ≡ with_body r route rest))

-- how the bytes are cut
abbrev pub IsCutTo : List ℕ → Cut → Received → Type 0
IsCutTo bytes NotYet received = received ≡ unfinished
IsCutTo bytes TooLong received = received ≡ malformed LongHead
IsCutTo bytes (Head end) received = IsReadAs (take end bytes) (drop end bytes) received

abbrev pub IsReceived : List ℕ → Received → Type 0
IsReceived bytes received = (cut : Cut) × IsCut bytes cut × IsCutTo bytes cut received

-- the bytes begin with the whole head of this request
abbrev pub HasRequest : List ℕ → Request → Route → Type 0
HasRequest bytes r route = (end : ℕ) × IsCut bytes (Head end) × IsRequest (take end bytes) r route
