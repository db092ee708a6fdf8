use Rattle.duration_str_laws.proofs.Mended.{tokens_hold, written_holds}
use Rattle.duration_str_laws.proofs.Mended.{refused_hold}
use Rattle.duration_str_laws.proofs.MendedValues.{values_hold}
use Rattle.duration_str_laws.proofs.laws.mended_tokens.Goals as goal

pub returns-clause-refused : goal.returns-clause-refused
returns-clause-refused c = refused_hold

pub returns-clause-tokens : goal.returns-clause-tokens
returns-clause-tokens c = tokens_hold

pub returns-clause-written : goal.returns-clause-written
returns-clause-written c = written_holds

pub returns-clause-value : goal.returns-clause-value
returns-clause-value c = values_hold
