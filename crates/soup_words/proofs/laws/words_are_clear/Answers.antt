use Rattle.soup_words.proofs.OneOrder.{one-order}
use Rattle.soup_words.proofs.laws.words_are_clear.Goals as goal

pub returns : goal.returns
returns c = one-order
