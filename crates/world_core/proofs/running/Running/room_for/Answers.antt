use Rattle.std.proofs.Common.{◌≡◌, ◌∙◌, ◌<◌, ◌≤◌, ◌+◌, ℕ, ap, sym}
use Rattle.world_core.specs.Running.{WorldFields}
use Rattle.std.proofs.Common.{Bool, ◌*◌}
use Rattle.std.specs.Prelude.{not}
use Rattle.tierra_model.specs.FreeList.{is_in_some}
use Rattle.tierra_model.specs.Room.{filled, first_fit, is_owned, room_for}
use Rattle.block_alloc.proofs.Owned.{runs_of-tell}
use Rattle.world_core.proofs.RoomFor.{room-gone, room-there}
use Rattle.world_core.proofs.running.Running.room_for.Goals.{After-filled}
use Rattle.world_core.proofs.running.Running.room_for.Goals as goal

-- the blocks count the owned cells
count : (c : After-filled) → c.filled.result ≡ filled c.self.inside.settings.soup_size (λ p. is_owned c.self.inside.population.living p)
count c =
    c.filled.ensures ∙ (λ i. filled (c.self.invariant.size i) (λ p. not (is_in_some (c.self.invariant.free i) p)))
    ∙ (runs_of-tell c.self.inside.settings.soup_size (λ p. is_owned c.self.inside.population.living p)).filled

pub returns-then-filled-from : goal.returns-then-filled-from
returns-then-filled-from c =
    let s = c.self.inside.settings in
    let owned : ℕ → Bool = λ p. is_owned c.self.inside.population.living p in
    let t = c.self.invariant in
    let full : c.from-filled.result ≡ filled s.soup_size owned = c.from-filled.ensures ∙ count ((goal.at.returns-then-filled-from c).After-filled) in
    let test : (filled s.soup_size owned + c.args.size) * 100 ≤ s.fill_percent * s.soup_size
    = rw (full, c.from-3.ensures, c.from.ensures, c.from-2.ensures) at c.if-filled-from.true in
    c.fit.ensures ∙ (λ i. first_fit (t.size i) (λ p. not (is_in_some (t.free i) p)) c.args.size)
    ∙ (runs_of-tell s.soup_size owned).fit c.args.size c.requires.one
    ∙ sym (room-there s owned c.args.size test)
    ∙ ap (λ (h : WorldFields). room_for h.world.settings (λ p. is_owned h.world.living p) c.args.size) c.self.view_is

pub returns-else-filled-from : goal.returns-else-filled-from
returns-else-filled-from c =
    let s = c.self.inside.settings in
    let owned : ℕ → Bool = λ p. is_owned c.self.inside.population.living p in
    let full : c.from-filled.result ≡ filled s.soup_size owned = c.from-filled.ensures ∙ count ((goal.at.returns-else-filled-from c).After-filled) in
    let test : s.fill_percent * s.soup_size < (filled s.soup_size owned + c.args.size) * 100
    = rw (full, c.from-3.ensures, c.from.ensures, c.from-2.ensures) at c.if-filled-from.false in
    sym (room-gone s owned c.args.size test)
    ∙ ap (λ (h : WorldFields). room_for h.world.settings (λ p. is_owned h.world.living p) c.args.size) c.self.view_is
