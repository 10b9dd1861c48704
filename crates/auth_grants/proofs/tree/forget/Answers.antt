use Rattle.std.proofs.Common.{rules}
use Rattle.std.proofs.lemmas.Map.Made.{filter_same_pairs}
use Rattle.auth_grants.specs.Tokens.{is_kept}
use Rattle.auth_grants.proofs.tree.forget.Goals as goal

pub returns-clause-kept : goal.returns-clause-kept
returns-clause-kept c = filter_same_pairs _ (λ e. is_kept c.args.t e.1) _ (λ k v b w f t. search rules) _ _ c.retain.ensures.filtered
