-- The state in memory, as the version machine has it.
use Rattle.std.specs.Prelude.{◌≡◌, ◌≤◌}
use Rattle.b2_base.specs.declared.extent.Extent.{Extent}
use Rattle.b2_base.specs.declared.numbers.TheConstants.{LAST_VERSION}
use Rattle.b2_model.specs.State.{State}
use Rattle.sound_states.specs.Sound.{IsSound}
use Rattle.auth_grants.specs.Tokens.{grants_of, tokens_of}
use Rattle.core_state.specs.declared.parts.Parts.{Parts}

-- the state that the parts are
abbrev pub state_of : Parts → State Extent
state_of p = record {
  settings = p.settings;
  now = p.now;
  kept = p.kept;
  pass_day = p.pass_day;
  boot = p.boot;
  serial = p.tokens.serial;
  next_bucket = p.next_bucket;
  next_key = p.next_key;
  next_version = p.next_version;
  buckets = p.buckets.items;
  versions = p.versions;
  keys = p.keys;
  grants = grants_of p.tokens.held;
  flights = p.flights;
}

-- it is sound, the tokens know of the uploads that are under way on them, and no number is given past the last of all
pub record IsWhole (p : Parts) : Type 0 where
  pub sound : IsSound (state_of p)
  pub tokens : p.tokens ≡ tokens_of (state_of p)
  pub last : p.settings.last_version ≤ LAST_VERSION
