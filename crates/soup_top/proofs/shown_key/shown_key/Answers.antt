use Rattle.std.proofs.Common.{◌≡◌, ◌∙◌, ◌++◌, List, ap, arith, length, sym, ℕ}
use Rattle.std.specs.List.{flat_map, range_with_len}
use Rattle.soup_top.proofs.KeyBytes.{bytes-more}
use Rattle.soup_top.specs.ShownKeys.{shown_byte, shown_key}
use Rattle.soup_top.proofs.shown_key.shown_key.Goals as goal

pub loop-place-preserved : goal.loop-place-preserved
loop-place-preserved c =
    c.in_ok-add_byte.ensures
    ∙ ap (λ (key : List ℕ). c.loop-place.items.items ++ shown_byte key c.loop-place.place) seen
    ∙ ap (λ (shown : List ℕ). shown ++ shown_byte c.args.key.now c.loop-place.place) c.loop-place.invariant
    ∙ sym (bytes-more (shown_byte c.args.key.now) c.loop-place.place)
  where
    seen : c.deref-key.result.now ≡ c.args.key.now
    seen = c.deref-key.ensures.value ∙ c.key.view_is

pub returns : goal.returns
unfolding shown_key
returns c =
    let all : c.loop-place.place ≡ length c.args.key.now =
    omega (
      arith,
      c.loop-place-test.false,
      c.loop-place.auto.place-end,
      c.deref-key.ensures.len,
      ap (λ (key : List ℕ). length key) (c.deref-key.ensures.value ∙ c.key.view_is),
    ) in
    c.loop-place.invariant ∙ ap (λ (n : ℕ). flat_map (shown_byte c.args.key.now) (range_with_len 0 n)) all
