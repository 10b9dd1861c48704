-- A request asks for one thing.
use Rattle.std.proofs.Common.{◌≡◌, inl, inr, ℕ, List, Option, None, Some, sym, ap, ◌∙◌, subst, refl}
use Rattle.std.specs.Str.{IsUtf8}
use Rattle.std.proofs.lemmas.Option.{none-some, same_Some}
use Rattle.http_header.specs.FieldValue.{FieldValue}
use Rattle.rule_table.specs.declared.call.CallName.{CallName}
use Rattle.rule_table.specs.declared.call.CallName.TheVariants as calls
use Rattle.b2_types.specs.declared.call.Call.{Call}
use Rattle.b2_types.specs.declared.call.Call.TheVariants as call
use Rattle.b2_types.specs.declared.call.Credentials.{Credentials}
use Rattle.b2_types.specs.declared.fault.Target.{Target}
use Rattle.b2_types.specs.declared.kinds.ApiVersion.{ApiVersion}
use Rattle.b2_types.specs.declared.upload.UploadCall.{UploadCall}
use Rattle.wire_forms.specs.Basic.{IsBasic}
use Rattle.wire_forms.specs.declared.request.Request.{Request}
use Rattle.call_paths.specs.declared.routes.Route.{Route}
use Rattle.call_paths.specs.Path.{IsPathOf, IsPath}
use Rattle.call_paths.proofs.Paths.{one_pair}
use Rattle.api_json.specs.Call.{GivesPair, HasCredentials}
use Rattle.api_json.proofs.Pairs as basic
use Rattle.call_fields.proofs.Once as bodies
use Rattle.head_fields.specs.Token.{authorization_of, IsTextOf, IsToken, IsQueryToken, IsDownloadToken}
use Rattle.head_fields.specs.Downloads.{IsEscaped, IsNamed, IsByName}
use Rattle.request_calls.specs.declared.asked.Asked.{Asked}
use Rattle.request_calls.specs.declared.asked.Asked.TheVariants as asked
use Rattle.request_calls.specs.declared.asked.Asking.{Asking}
use Rattle.request_calls.specs.Asked.{IsTokenOf, IsAuthorize, IsCallOf, IsUploadTo, IsAskedOf, IsAsking}
use Rattle.request_calls.proofs.Escapes.{Either, text_either, escaped_either}
use Rattle.request_calls.proofs.Uploads.{one_upload}

-- ---- tokens

one_text : (bytes a b : List ℕ) → IsTextOf bytes a → IsTextOf bytes b → a ≡ b
one_text bytes a b first second = by (text_either bytes)
  where
    by : Either (IsUtf8 bytes) → a ≡ b
    by (inl text) = first.0 text ∙ sym (second.0 text)
    by (inr none) = first.1 none ∙ sym (second.1 none)

one_value : (r : Request) (v w : FieldValue) → authorization_of r ≡ Some v → authorization_of r ≡ Some w → w ≡ v
one_value r v w first second = same_Some w v (sym second ∙ first)

one_token : (r : Request) (a b : Option (List ℕ)) → IsToken r a → IsToken r b → a ≡ b
one_token r None None first second = refl
one_token r None (Some b) first (value, is, text) = absurd (none-some value (sym first ∙ is))
one_token r (Some a) None (value, is, text) second = absurd (none-some value (sym second ∙ is))
one_token r (Some a) (Some b) (value, is, text) (other, also, told) =
    let P : FieldValue → Type 0 = λ v. IsTextOf v.bytes b in
    ap Some (one_text value.bytes a b text (subst P (one_value r value other is also) told))

header_or_query : (r : Request) (a : List ℕ) (b : Option (List ℕ)) → IsToken r (Some a) → IsQueryToken r b → ⊥
header_or_query r a b (value, is, text) query = none-some value (sym query.0 ∙ is)

one_download_token : (r : Request) (a b : Option (List ℕ)) → IsDownloadToken r a → IsDownloadToken r b → a ≡ b
one_download_token r None None first second = refl
one_download_token r None (Some b) first (inl header) = absurd (header_or_query r b None header first)
one_download_token r None (Some b) first (inr query) = first.1 ∙ sym query.1
one_download_token r (Some a) None (inl header) second = absurd (header_or_query r a None header second)
one_download_token r (Some a) None (inr query) second = query.1 ∙ sym second.1
one_download_token r (Some a) (Some b) (inl first) (inl second) = one_token r (Some a) (Some b) first second
one_download_token r (Some a) (Some b) (inl header) (inr query) = absurd (header_or_query r a (Some b) header query)
one_download_token r (Some a) (Some b) (inr query) (inl header) = absurd (header_or_query r b (Some a) header query)
one_download_token r (Some a) (Some b) (inr first) (inr second) = first.1 ∙ sym second.1

one_token_of : (name : CallName) (r : Request) (a b : Option (List ℕ)) → IsTokenOf name r a → IsTokenOf name r b → a ≡ b
one_token_of calls.AuthorizeAccount r a b first second = first ∙ sym second
one_token_of calls.DownloadFileById r a b first second = one_download_token r a b first second
one_token_of calls.DownloadFileByName r a b first second = one_download_token r a b first second
one_token_of other r a b first second = one_token r a b first second

-- ---- calls

one_given : (r : Request) (p q : Credentials) → GivesPair r p.id p.secret → GivesPair r q.id q.secret → Some p ≡ Some q
one_given r p q (value, is, gives) (other, also, told) =
    let P : FieldValue → Type 0 = λ v. IsBasic v.bytes q.id q.secret in
    let pair = basic.one_pair value.bytes p.id p.secret q.id q.secret gives (subst P (one_value r value other is also) told) in
    λ i. Some (record { id = pair.0 i; secret = pair.1 i })

one_credentials : (r : Request) (a b : Option Credentials) → HasCredentials r a → HasCredentials r b → a ≡ b
one_credentials r None None first second = refl
one_credentials r None (Some q) first second = absurd (first q.id q.secret second)
one_credentials r (Some p) None first second = absurd (second p.id p.secret first)
one_credentials r (Some p) (Some q) first second = one_given r p q first second

one_authorize : (version : ApiVersion) (r : Request) (c d : Call) → IsAuthorize version r c → IsAuthorize version r d → c ≡ d
one_authorize version r c d (credentials, has, is) (others, also, same) =
    is ∙ ap (λ k. call.AuthorizeAccount (record { version = version; credentials = k })) (one_credentials r credentials others has also) ∙ sym same

one_named : (r : Request) (bucket bytes : List ℕ) (c d : Call) → IsNamed r bucket bytes c → IsNamed r bucket bytes d → c ≡ d
one_named r bucket bytes c d first second = by (escaped_either bytes)
  where
    by : Either (IsEscaped bytes) → c ≡ d
    by (inl name) = first.0 name ∙ sym (second.0 name)
    by (inr none) = first.1 none ∙ sym (second.1 none)

one_by_name : (r : Request) (c d : Call) → IsByName r c → IsByName r d → c ≡ d
one_by_name r c d (bucket, bytes, text, cut, told, named) (other, more, word, also, says, is) =
    let parts = one_pair r.path other more bucket bytes also cut in
    let P : List ℕ → Type 0 = λ b. IsTextOf b word in
    let texts : word ≡ text = one_text bucket word text (subst P parts.0 says) told in
    let Q : List ℕ → Type 0 = λ t. IsNamed r t more d in
    let R : List ℕ → Type 0 = λ b. IsNamed r text b d in
    one_named r text bytes c d named (subst R parts.1 (subst Q texts is))

one_call_of : (name : CallName) (version : ApiVersion) (r : Request) (body : List ℕ) (c d : Call) → IsCallOf name version r body c → IsCallOf name version r body d → c ≡ d
one_call_of calls.AuthorizeAccount version r body c d first second = one_authorize version r c d first second
one_call_of calls.DownloadFileById version r body c d first second = first ∙ sym second
one_call_of calls.DownloadFileByName version r body c d first second = one_by_name r c d first second
one_call_of calls.UploadFile version r body c d first second = absurd first
one_call_of calls.UploadPart version r body c d first second = absurd first
one_call_of other version r body c d first second = bodies.one_call other version body c d first second

-- ---- a call or an upload

-- the path of a call that is no upload names nothing
call_or_upload : (path : List ℕ) (version : ApiVersion) (t : Target) (name : CallName) (r : Request) (body : List ℕ) (c : Call) (u : UploadCall)
    → IsPathOf path version t name → IsCallOf name version r body c → IsUploadTo t r u → ⊥
call_or_upload path version t calls.UploadFile r body c u is told begins = told
call_or_upload path version t calls.UploadPart r body c u is told begins = told
call_or_upload path version t calls.DownloadFileByName r body c u is told begins =
    let P : Target → Type 0 = λ t. IsUploadTo t r u in subst P is.0 begins
call_or_upload path version t other r body c u is told begins =
    let P : Target → Type 0 = λ t. IsUploadTo t r u in subst P is.0 begins

one_asked : (route : Route) (r : Request) (body : List ℕ) (a b : Asked) → IsPathOf r.path route.version route.target route.name → IsAskedOf route r body a → IsAskedOf route r body b → a ≡ b
one_asked route r body (asked.Call c) (asked.Call d) is first second = ap (λ x. asked.Call x) (one_call_of route.name route.version r body c d first second)
one_asked route r body (asked.Call c) (asked.Upload v) is first second = absurd (call_or_upload r.path route.version route.target route.name r body c v is first second)
one_asked route r body (asked.Upload u) (asked.Call d) is first second = absurd (call_or_upload r.path route.version route.target route.name r body d u is second first)
one_asked route r body (asked.Upload u) (asked.Upload v) is first second = ap (λ x. asked.Upload x) (one_upload route.target r u v first second)

pub one_asking : (route : Route) (r : Request) (body : List ℕ) (a b : Asking) → IsPath r.path route → IsAsking route r body a → IsAsking route r body b → a ≡ b
one_asking route r body a b path first second =
    let tokens = one_token_of route.name r a.token b.token first.0 second.0 in
    let things = one_asked route r body a.asked b.asked path.is first.1 second.1 in
    λ i. record { token = tokens i; asked = things i }
