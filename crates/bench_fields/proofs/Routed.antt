-- The path of a request that was read is that of its route.
use Rattle.std.proofs.Common.{ℕ, List, sym, subst}
use Rattle.wire_forms.specs.declared.request.Request.{Request}
use Rattle.call_paths.specs.declared.routes.Route.{Route}
use Rattle.call_paths.specs.Path.{IsPath}
use Rattle.http_edge.specs.Request.{IsRequest}

pub routed : (bytes : List ℕ) (r : Request) (route : Route) → IsRequest bytes r route → IsPath r.path route
routed bytes r route (h, head, (is_for, fits), is) =
    let P : Request → Type 0 = λ q. IsPath q.path route in subst P (sym is) is_for.path_is
