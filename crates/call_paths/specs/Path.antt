-- The paths of calls (the B2 reference, "Calling the API"): which call a path names, and with which methods
-- it is called.
use Rattle.std.specs.Prelude.{◌≡◌, ◌≢◌, ◌||◌, ◌&&◌, ℕ, ◌^◌, ◌<◌, ◌≤◌, Bool, true, false, List, ◌∷◌, ◌++◌, All, codes, bytes_eq}
use Rattle.b2_base.specs.BucketId.{bucket_id}
use Rattle.b2_base.specs.FileId.{file_id}
use Rattle.rule_table.specs.Rows.{IsRow}
use Rattle.rule_table.specs.CallName.{call_names, call_place}
use Rattle.rule_table.specs.declared.call.CallName.{CallName}
use Rattle.rule_table.specs.declared.call.CallName.TheVariants.{AuthorizeAccount, CreateKey, DeleteKey, ListKeys, UploadFile, UploadPart, DownloadFileById, DownloadFileByName}
use Rattle.rule_table.specs.declared.fault.FaultKind.{FaultKind}
use Rattle.rule_table.specs.declared.fault.FaultKind.TheVariants.{NoCall, BadMethod}
use Rattle.b2_types.specs.declared.fault.Target.{Target}
use Rattle.b2_types.specs.declared.fault.Target.TheVariants.{Nothing, Bucket, File}
use Rattle.b2_types.specs.declared.kinds.ApiVersion.{ApiVersion}
use Rattle.b2_types.specs.declared.kinds.ApiVersion.TheVariants as version
use Rattle.call_paths.specs.declared.routes.Route.{Route}

-- ---- paths

-- in front of the name of a call
abbrev pub api_front : ApiVersion → List ℕ
api_front version.V3 = codes "/b2api/v3/"
api_front version.V4 = codes "/b2api/v4/"

abbrev pub upload_front : List ℕ
upload_front = codes "/b2api/v3/b2_upload_file/"

abbrev pub part_front : List ℕ
part_front = codes "/b2api/v3/b2_upload_part/"

abbrev pub download_front : List ℕ
download_front = codes "/file/"

-- version 3 has all calls, and version 4 paths of its own for those whose forms it changed
abbrev pub offers : ApiVersion → CallName → Bool
offers version.V3 name = true
offers version.V4 AuthorizeAccount = true
offers version.V4 CreateKey = true
offers version.V4 DeleteKey = true
offers version.V4 ListKeys = true
offers version.V4 other = false

-- the path is the call's name, after the version
abbrev pub IsNamePath : List ℕ → ApiVersion → CallName → Type 0
IsNamePath path version name = (text : List ℕ) × IsRow call_names (call_place name) text × (path ≡ api_front version ++ text)

-- the path of a download by name: the bucket's name, and after a slash the file's, with escapes
abbrev pub IsDownloadOf : List ℕ → List ℕ → List ℕ → Type 0
IsDownloadOf path bucket name = All (λ b. b ≢ 47) bucket × (path ≡ download_front ++ bucket ++ 47 ∷ name)

-- the path of a call and what it names: an upload names a bucket or a file by its id
abbrev pub IsPathOf : List ℕ → ApiVersion → Target → CallName → Type 0
IsPathOf path version target UploadFile = (bucket : ℕ) × (bucket < 2 ^ 32) × (target ≡ Bucket bucket) × (path ≡ upload_front ++ bucket_id bucket)
IsPathOf path version target UploadPart =
    (bucket : ℕ) × (file : ℕ) × (bucket < 2 ^ 32) × (file ≤ 9007199254740991) × (target ≡ File bucket file) × (path ≡ part_front ++ file_id bucket file)
IsPathOf path version target DownloadFileByName = (target ≡ Nothing) × ((bucket : List ℕ) × (name : List ℕ) × IsDownloadOf path bucket name)
IsPathOf path version target other = (target ≡ Nothing) × IsNamePath path version other

pub record IsPath (path : List ℕ) (route : Route) : Type 0 where
  pub offered : offers route.version route.name ≡ true
  pub is : IsPathOf path route.version route.target route.name

-- the call has a path of its name alone
abbrev pub has_name_path : CallName → Bool
has_name_path UploadFile = false
has_name_path UploadPart = false
has_name_path DownloadFileByName = false
has_name_path other = true

-- ---- routes by what they name

abbrev pub name_route : ApiVersion → CallName → Route
name_route version name = record { name = name; version = version; target = Nothing }

abbrev pub upload_route : ℕ → Route
upload_route bucket = record { name = UploadFile; version = version.V3; target = Bucket bucket }

abbrev pub part_route : ℕ → ℕ → Route
part_route bucket file = record { name = UploadPart; version = version.V3; target = File bucket file }

abbrev pub download_route : Route
download_route = record { name = DownloadFileByName; version = version.V3; target = Nothing }

-- ---- requests

-- GET for downloads, POST for the others; authorize takes both
abbrev pub takes : CallName → List ℕ → Bool
takes AuthorizeAccount method = bytes_eq method (codes "GET") || bytes_eq method (codes "POST")
takes DownloadFileById method = bytes_eq method (codes "GET")
takes DownloadFileByName method = bytes_eq method (codes "GET")
takes other method = bytes_eq method (codes "POST")

-- the calls that are served, by version and name
abbrev pub serves : ApiVersion → CallName → Bool
serves version.V3 AuthorizeAccount = true
serves version other = false

-- a request with this method and path is for this call
pub record IsRouted (method path : List ℕ) (route : Route) : Type 0 where
  pub path_is : IsPath path route
  pub served : serves route.version route.name ≡ true
  pub taken : takes route.name method ≡ true

-- why it is for none: a path that is no call's is told before a method that the call doesn't take
abbrev pub IsRouteFault : List ℕ → List ℕ → FaultKind → Type 0
IsRouteFault method path NoCall = (route : Route) → IsPath path route → serves route.version route.name ≡ false
IsRouteFault method path BadMethod = (route : Route) × IsPath path route × (serves route.version route.name ≡ true) × (takes route.name method ≡ false)
IsRouteFault method path other = ⊥
