-- The store that is served until stores are kept on a disk, and where the version machine is then.
use Rattle.std.specs.Prelude.{◌≡◌, ◌^◌, ℕ, List, [], None, Some, codes, map, drop, false}
use Rattle.sha2.specs.Sha256.{sha256}
use Rattle.b2_base.specs.declared.settings.Settings.{Settings}
use Rattle.outside_traits.specs.Lists.{words_ahead}
use Rattle.rule_table.specs.Cap.{cap_order}
use Rattle.rule_table.specs.CapSet.{set_of}
use Rattle.b2_types.specs.declared.kinds.ApiVersion.{ApiVersion}
use Rattle.b2_types.specs.declared.kinds.TokenKind.TheVariants as kind
use Rattle.b2_types.specs.declared.key.Grant.{Grant}
use Rattle.b2_types.specs.declared.shown.ShownAccount.{ShownAccount}
use Rattle.b2_model.specs.State.{State}
use Rattle.b2_model.specs.Kinds.{day, later}
use Rattle.b2_model.specs.Changes.{new_store, master_key}
use Rattle.b2_model.specs.AskKeys.{account_grant}
use Rattle.b2_model.specs.Ask.{at_moment, with_grant}
use Rattle.b2_model.specs.Plan.{new_token, no_serial}
use Rattle.b2_model.specs.Run.{with_restart, with_daily_pass}
use Rattle.auth_grants.specs.Tokens.{tokens}
use Rattle.auth_grants.specs.declared.held.Held.{Held}
use Rattle.auth_grants.specs.declared.grants.Terms.{Terms}
use Rattle.request_acts.specs.Answering.{Uploads, Contents}
use Rattle.b2_server.specs.declared.store.FirstStore.{FirstStore}

-- its settings
unfoldable pub fixed_store : Settings
fixed_store = record {
  account = codes "a1b2c3d4e5f6";
  secret_hash = sha256 (codes "mastersecret01");
  url = codes "http://127.0.0.1:8080";
  part_min = 10;
  last_version = 9007199254740991;
  area_end = 2 ^ 56;
}

-- a store that was made at 0 and opened once, and has given no token yet
abbrev pub opened_store : {C : Type 0} → Settings → State C
opened_store settings = with_restart (new_store settings 0) 0

-- a store that gave tokens since, and did nothing else
abbrev pub given_store : {C : Type 0} → Settings → ℕ → ℕ → ℕ → ℕ → List Grant → State C
given_store settings now kept pass_day serial grants =
    record (opened_store settings) { now = now; kept = kept; pass_day = pass_day; serial = serial; grants = grants }

-- a token on which no upload is under way
abbrev pub idle : Grant → Held
idle g = record { grant = g; flight = None }

-- the store is what the machine's state is, and these random words are left
pub record IsAt (s : FirstStore) (M : State (List ℕ)) (words : List ℕ) : Type 0 where
  pub kept : ℕ
  pub grants : List Grant
  pub state : M ≡ given_store s.settings s.moment kept s.pass_day s.tokens.serial grants
  pub held : s.tokens ≡ tokens s.tokens.serial (map idle grants)
  pub left : words ≡ words_ahead s.words

-- and no upload is under way, and no content is read
pub record IsQuiet (s : FirstStore) (M : State (List ℕ)) (words : List ℕ) (ups : Uploads) (outs : Contents) : Type 0 where
  pub at : IsAt s M words
  pub none : (c : ℕ) → ups c ≡ None
  pub unread : (c : ℕ) → outs c ≡ []

-- ---- what a step makes of the state. These words do not unfold by themselves.

-- a step begins at this moment: a pass stands before the first one of a day
unfoldable pub begun_at : State (List ℕ) → ℕ → State (List ℕ)
begun_at M t = at_moment (with_daily_pass M t) t

-- the master key is given a token
unfoldable pub granted : State (List ℕ) → ℕ → List ℕ → State (List ℕ)
granted M t words = with_grant (Some (account_grant M t words (master_key M.settings))) M

-- what an account token of the master key is given for
abbrev pub account_terms : ℕ → Terms
account_terms t = record { kind = kind.Account; key = 0; bucket = 0; file = 0; prefix = []; end = later t day }

-- the token of this text was given at this moment, and the store is where the machine is then
pub record IsGranted (t : ℕ) (M : State (List ℕ)) (words text : List ℕ) (s : FirstStore) : Type 0 where
  pub text_is : text ≡ new_token M words
  pub left : (no_serial M).fails ≡ false
  pub at : IsAt s (granted M t words) (drop 2 words)

-- what the master key is shown with its token
abbrev pub master_account : ApiVersion → Settings → List ℕ → ShownAccount
master_account version settings token = record {
  version = version;
  account = settings.account;
  token = token;
  url = settings.url;
  part_min = settings.part_min;
  caps = set_of cap_order;
  buckets = [];
  prefix = [];
  end = None;
}
