-- Where the candidates at one distance begin.
use Rattle.std.specs.Prelude.{ℕ, ◌+◌, ◌≡◌}
use Rattle.tierra_model.specs.Ring.{forward, backward}

-- For a template of t cells, the candidates at distance d are a (forward) and b (backward).
pub record Reaches (n ip t d a b : ℕ) : Type 0 where
  pub ahead : a ≡ forward n ip (t + d)
  pub behind : b ≡ backward n (ip + 1) (t + d)
