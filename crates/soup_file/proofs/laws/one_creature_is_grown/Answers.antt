use Rattle.soup_file.proofs.Grown.{is-alone, is-grown}
use Rattle.soup_file.proofs.laws.one_creature_is_grown.Goals as goal

pub returns : goal.returns
returns c = record { is_grown = is-grown; is_alone = is-alone }
