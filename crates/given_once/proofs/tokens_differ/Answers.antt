use Rattle.given_once.proofs.Tokens.{differ}
use Rattle.given_once.proofs.tokens_differ.Goals as goal

pub returns : goal.returns
returns g c K M words earlier later s u first second low few one two same = differ K M words earlier later s u first second low few one two same
