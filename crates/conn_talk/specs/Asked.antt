-- What the joined bytes of a request ask for. The requests of a connection stand one after the other in its
-- bytes, and each begins at the byte after the body of the one before (RFC 9112, section 9.3).
use Rattle.std.specs.Prelude.{◌≡◌, ℕ, nat_lt, nat_le, Bool, false, ◌&&◌, List, [], ◌++◌, length, take, drop}
use Rattle.rule_table.specs.declared.fault.FaultKind.{FaultKind}
use Rattle.wire_forms.specs.declared.request.Request.{Request}
use Rattle.call_paths.specs.declared.routes.Route.{Route}
use Rattle.http_edge.specs.declared.cut.Cut.TheVariants.{Head as HeadCut}
use Rattle.http_edge.specs.declared.head.Head.{Head}
use Rattle.http_edge.specs.Cut.{IsCut}
use Rattle.http_edge.specs.Length.{is_upload}
use Rattle.http_edge.specs.Request.{IsRequest}
use Rattle.http_edge.specs.Received.{unfinished, malformed, announced, whole, IsReceived}

-- so many requests stand before the last one of a connection
abbrev pub last_request : ℕ
last_request = 999

-- the most bytes after a request that are held while its reply is pending
abbrev pub most_held : ℕ
most_held = 65536

pub data Asked : Type 0 where
  -- the head has not come whole, or the body of a request that is no upload
  nothing : Asked
  -- its form is refused
  refused : FaultKind → Asked
  -- the head of an upload, and the bytes of its body that came
  begun : Head → List ℕ → Asked
  -- the whole request, its body, and the bytes after it
  complete : Head → List ℕ → List ℕ → Asked

-- the request, before which so many stand on its connection: the last one does not stay
abbrev pub head_of : ℕ → Request → Route → Head
head_of before r route = record { request = record r { stay = r.stay && nat_lt before last_request }; route = route }

-- the bytes after the head
abbrev pub IsAfterHead : List ℕ → List ℕ → Type 0
IsAfterHead bytes rest = (end : ℕ) × IsCut bytes (HeadCut end) × (rest ≡ drop end bytes)

-- a whole head stands in front of the bytes, and these come after it
pub record IsRead (before : ℕ) (bytes : List ℕ) (head : Head) (rest : List ℕ) : Type 0 where
  pub end : ℕ
  pub asked : Request
  pub route : Route
  pub cut : IsCut bytes (HeadCut end)
  pub request : IsRequest (take end bytes) asked route
  pub head_is : head ≡ head_of before asked route
  pub rest_is : rest ≡ drop end bytes

abbrev pub IsAsked : ℕ → List ℕ → Asked → Type 0
IsAsked before bytes nothing = IsReceived bytes unfinished
IsAsked before bytes (refused kind) = IsReceived bytes (malformed kind)
IsAsked before bytes (begun head came) =
    (r : Request) × (route : Route) × IsReceived bytes (announced r route) × (head ≡ head_of before r route) × IsAfterHead bytes came
IsAsked before bytes (complete head body rest) =
    (r : Request) × (route : Route) × IsReceived bytes (whole r route body) × (head ≡ head_of before r route) × IsAfterHead bytes (body ++ rest)

-- the client asks for another request after this one
abbrev pub stay_of : Asked → Bool
stay_of nothing = false
stay_of (refused kind) = false
stay_of (begun head came) = head.request.stay
stay_of (complete head body rest) = head.request.stay

-- an upload began
abbrev pub is_begun : Asked → Bool
is_begun nothing = false
is_begun (refused kind) = false
is_begun (begun head came) = is_upload head.route.name
is_begun (complete head body rest) = is_upload head.route.name

-- the bytes after the request
abbrev pub rest_of : Asked → List ℕ
rest_of nothing = []
rest_of (refused kind) = []
rest_of (begun head came) = []
rest_of (complete head body rest) = rest

-- the request is whole, another one may come after its reply, and no more bytes are held than may be
abbrev pub goes_on : Asked → Bool
goes_on nothing = false
goes_on (refused kind) = false
goes_on (begun head came) = false
goes_on (complete head body rest) = head.request.stay && nat_le (length rest) most_held

-- more bytes come while the reply is pending: they stand after a whole request, and else they do nothing
abbrev pub with_more : Asked → List ℕ → Asked
with_more nothing more = nothing
with_more (refused kind) more = refused kind
with_more (begun head came) more = begun head came
with_more (complete head body rest) more = complete head body (rest ++ more)
