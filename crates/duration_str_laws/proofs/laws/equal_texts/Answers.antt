use Rattle.duration_str_laws.proofs.EqualTexts.{equal_texts_hold}
use Rattle.duration_str_laws.proofs.laws.equal_texts.Goals as goal

pub returns : goal.returns
returns c = equal_texts_hold
