-- How bytes become one request: a head is read, routed and measured, in this order.
use Rattle.std.specs.Prelude.{◌≡◌, ℕ, true, false, List}
use Rattle.httparse.specs.Grammar.{RequestHead}
use Rattle.rule_table.specs.declared.fault.FaultKind.{FaultKind}
use Rattle.rule_table.specs.declared.fault.FaultKind.TheVariants.{BadHead, BadLength}
use Rattle.wire_forms.specs.declared.request.Request.{Request}
use Rattle.call_paths.specs.declared.routes.Route.{Route}
use Rattle.call_paths.specs.Path.{IsRouted, IsRouteFault}
use Rattle.http_edge.specs.Headers.{IsHead, HasHead, path_of, query_of, headers_of}
use Rattle.http_edge.specs.Length.{lengths, told_length, is_bad_length}
use Rattle.http_edge.specs.Stay.{asks_stay}

-- what the head says
abbrev pub request_of : RequestHead → Request
request_of h = record {
  method = h.method;
  path = path_of h;
  query = query_of h;
  headers = headers_of h;
  length = told_length (lengths (headers_of h));
  stay = asks_stay (headers_of h);
}

-- the head is that of a request for this call, and its length is in order
abbrev pub IsFor : RequestHead → Route → Type 0
IsFor h route = IsRouted h.method (path_of h) route × (is_bad_length route.name (headers_of h) ≡ false)

-- the bytes, all of them, are the head of this request for this call
abbrev pub IsRequest : List ℕ → Request → Route → Type 0
IsRequest bytes r route = (h : RequestHead) × IsHead bytes h × IsFor h route × (r ≡ request_of h)

-- the head is that of a request for some call, and its length is amiss
abbrev pub HasBadLength : RequestHead → Type 0
HasBadLength h = (route : Route) × IsRouted h.method (path_of h) route × (is_bad_length route.name (headers_of h) ≡ true)

-- why they are none
abbrev pub IsHeadFault : List ℕ → FaultKind → Type 0
IsHeadFault bytes BadHead = HasHead bytes → ⊥
IsHeadFault bytes BadLength = (h : RequestHead) × IsHead bytes h × HasBadLength h
IsHeadFault bytes other = (h : RequestHead) × IsHead bytes h × IsRouteFault h.method (path_of h) other
