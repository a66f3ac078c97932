use Rattle.std.proofs.Common.{◌≡◌, ◌∙◌, false, refl, rules, sym, true}
use Rattle.world_state.proofs.Joined.{sound-counts, sound-from, sound-matched, sound-parts}
use Rattle.world_state.proofs.draft.Draft.is_sound.Goals as goal

pub returns-then-not-has_counts : goal.returns-then-not-has_counts
returns-then-not-has_counts c = (
  λ e. absurd cc,
  λ s. c.if-not-has_counts.ensures.1 (sound-counts c.args.self.now s),
)

pub returns-then-not-has_parts : goal.returns-then-not-has_parts
returns-then-not-has_parts c = (
  λ e. absurd cc,
  λ s. c.if-not-has_parts.ensures.1 (sound-parts c.args.self.now s),
)

pub returns-then-not-matched : goal.returns-then-not-matched
returns-then-not-matched c = (
  λ e. absurd cc,
  λ s.
      let no : c.in_ok-matched.matched ≡ false = search rules in
      sym no ∙ c.in_ok-matched.ensures.1 (sound-matched c.args.self.now s),
)

pub returns : goal.returns
returns c =
    let w = c.args.self.now in
    let matched : c.in_ok-matched.matched ≡ true = search rules in (
      λ e. sound-from w (c.if-not-has_counts.ensures.0 refl) (c.if-not-has_parts.ensures.0 refl) (c.in_ok-matched.ensures.0 matched) (c.has_sizes.ensures.0 e),
      λ s. c.has_sizes.ensures.1 s.sizes,
    )
