-- A daughter block that is given up, and asked for again.
use Rattle.std.proofs.Common.{◌≡◌, ℕ, ◌+◌, ◌*◌, ◌<◌, ◌≤◌, Bool, true, false, List, None, Some, refl, sym, ◌∙◌, ap, arith}
use Rattle.std.proofs.lemmas.Bool.Decides.{nat_tests}
use Rattle.std.specs.Prelude.{◌↔◌, ◌||◌, IsTrue, not}
use Rattle.tierra_model.specs.declared.creatures.Block.{Block}
use Rattle.tierra_model.specs.declared.creatures.Creature.{Creature}
use Rattle.tierra_model.specs.declared.parameters.Settings.{Settings}
use Rattle.tierra_model.specs.Blocks.{is_in}
use Rattle.tierra_model.specs.FreeList.{is_in_some, runs_of}
use Rattle.tierra_model.specs.Living.{with_record}
use Rattle.tierra_model.specs.Room.{filled, first_fit, is_owned, room_for}
use Rattle.tierra_model.specs.Sound.{owners}
use Rattle.tierra_model.proofs.Free.{AlikeBelow, room_for-alike, runs_of_in}
use Rattle.block_alloc.specs.Blocks.{BlocksFields}
use Rattle.block_alloc.proofs.Counts.{filled-freed}
use Rattle.census.specs.declared.Census.{Census}
use Rattle.world_core.specs.Tied.{AreTied}
use Rattle.world_core.proofs.RoomFor.{room-gone, room-there}
use Rattle.world_core.proofs.Tying.{Puts, tied-given_up}

module _ (s : Settings) (living : List Creature) (blocks : BlocksFields) (census : Census) (b a : Creature) (x : Block) (puts : Puts living b a)
    (held : b.daughter ≡ Some x) (none : a.daughter ≡ None) (apart : (p : ℕ) → owners living p ≤ 1) (tied : AreTied s.soup_size living blocks census)
    (some : 1 ≤ x.size) (fits : x.at + x.size ≤ s.soup_size) (owned : (p : ℕ) → is_in x p ≡ true → is_in_some blocks.free p ≡ false) where
  -- the cells that are free once the block is given up
  abbrev freed : ℕ → Bool
  freed p = is_in_some blocks.free p || is_in x p

  freed-alike : AlikeBelow s.soup_size (λ p. is_owned (with_record a living) p) (λ p. not (freed p))
  freed-alike q below =
      let after : BlocksFields = record { size = blocks.size; free = runs_of blocks.size freed; spare = 0 } in
      let t : AreTied s.soup_size (with_record a living) after census
      = tied-given_up s.soup_size living blocks after census b a x puts held none apart refl refl tied in
      let free : freed q ≡ not (is_owned (with_record a living) q)
      = sym (runs_of_in s.soup_size freed q below) ∙ ap (λ (n : ℕ). is_in_some (runs_of n freed) q) (sym tied.size)
      ∙ ap (λ (f : List Block). is_in_some f q) t.free ∙ runs_of_in s.soup_size (λ p. not (is_owned (with_record a living) p)) q below in
      grind (arith, nat_tests)

  freed-room : room_for s (λ p. is_owned (with_record a living) p) x.size ≡ room_for s (λ p. not (freed p)) x.size
  freed-room = room_for-alike s (λ p. is_owned (with_record a living) p) (λ p. not (freed p)) x.size some freed-alike

  count : (n : ℕ) → n ≡ filled s.soup_size (λ p. not (is_in_some blocks.free p)) → n ≡ filled s.soup_size (λ p. not (freed p)) + x.size
  count n is = is ∙ sym (filled-freed (is_in_some blocks.free) x owned s.soup_size fits)

  -- there is room for the block within the bound, and then it is at the first fit
  pub room-again : (n : ℕ) → n ≡ filled s.soup_size (λ p. not (is_in_some blocks.free p)) → n * 100 ≤ s.fill_percent * s.soup_size
      → room_for s (λ p. is_owned (with_record a living) p) x.size ≡ first_fit s.soup_size (λ p. not (freed p)) x.size
  room-again n is most = freed-room ∙ room-there s (λ p. not (freed p)) x.size (rw (count n is) at most)

  pub none-again : (n : ℕ) → n ≡ filled s.soup_size (λ p. not (is_in_some blocks.free p)) → s.fill_percent * s.soup_size < n * 100
      → room_for s (λ p. is_owned (with_record a living) p) x.size ≡ None
  none-again n is most = freed-room ∙ room-gone s (λ p. not (freed p)) x.size (rw (count n is) at most)
