-- What the draws of a quantum depend on.
use Rattle.std.specs.Prelude.{List, ℕ}
use Rattle.tierra_model.specs.declared.parameters.Settings.{Settings}

-- the seed, the quantum (whose number is that of the stream), the size of the soup, and the three rates
pub record DrawFields : Type 0 where
  pub seed : List ℕ
  pub quantum : ℕ
  pub soup_size : ℕ
  pub back_rate : ℕ
  pub copy_rate : ℕ
  pub flaw_rate : ℕ

-- the draws of quantum q of a world with the settings
abbrev pub draws_of : Settings → ℕ → DrawFields
draws_of s q =
    record {
      seed = s.seed;
      quantum = q;
      soup_size = s.soup_size;
      back_rate = s.back_rate;
      copy_rate = s.copy_rate;
      flaw_rate = s.flaw_rate;
    }
