use Rattle.std.proofs.Common.{◌≡◌, ◌∙◌, ◌-◌, ap, arith, subst, ℕ, Err}
use Rattle.std.specs.Prelude.{IfSome}
use Rattle.std.proofs.lemmas.Result.{err_from_is_err_and}
use Rattle.desk_io.specs.Desk.{Appended, AppendedSome, Elapses}
use Rattle.serial_slicer.specs.Onward.{after}
use Rattle.serial_slicer.proofs.Serials.{IsSoundAfter, sound_at}
use Rattle.tierra_model.specs.World.{World}
use Rattle.soup_hold.specs.Steps.{IsHoldingNext, IsLargeAt}
use Rattle.soup_hold.specs.Stops.{IfRefused}
use Rattle.soup_hold.specs.Text.{held_line}
use Rattle.desk_io.proofs.Telling.{as_told, none_told}
use Rattle.soup_hold.proofs.next.hold_next.Given.{Over}
use Rattle.soup_hold.proofs.next.hold_next.Goals as goal
use Rattle.soup_hold.proofs.next.hold_next.Goals.{After-keep_and_tell, After-run_on}

-- the world that it runs on to
abbrev next : (g : Over) (c : After-keep_and_tell g) → World
next g c = after (c.args.quantum - c.args.world.world.quanta) c.args.world.world

next_is : (g : Over) (c : After-keep_and_tell g) → c.in_ok-world.world.world ≡ next g c
next_is g c = c.in_ok-world.ensures ∙ ap (λ (k : ℕ). after (c.args.quantum - k) c.args.world.world) c.quanta.ensures

there : (g : Over) (c : After-keep_and_tell g) → IsSoundAfter (c.args.quantum - c.args.world.world.quanta) c.args.world.world c.in_ok-world.world.world
there g c =
    sound_at (c.args.quantum - c.args.world.world.quanta) c.args.world.world c.in_ok-world.world.world c.settings.ensures.sound
    (omega (arith, c.requires.later, c.requires.few)) (next_is g c)

-- what holds of the world and its quantum
moved : (g : Over) (c : After-keep_and_tell g) (P : World → ℕ → Type 0) → P c.in_ok-world.world.world c.in_ok-world.world.world.quanta
    → P (next g c) c.args.quantum
moved g c P p =
    let quantum : c.in_ok-world.world.world.quanta ≡ c.args.quantum = omega (arith, (there g c).quanta, c.requires.later) in
    subst (λ (w : World). P w c.args.quantum) (next_is g c) (subst (P c.in_ok-world.world.world) quantum p)

pub keep_and_tell-requires-clause-settings : goal.keep_and_tell-requires-clause-settings
keep_and_tell-requires-clause-settings g c =
    let is = c.in_ok-world.ensures ∙ ap (λ (k : ℕ). after (c.args.quantum - k) c.args.world.world) c.quanta.ensures in
    (sound_at (c.args.quantum - c.args.world.world.quanta) c.args.world.world c.in_ok-world.world.world c.settings.ensures.sound
    (omega (arith, c.requires.later, c.requires.few)) is).settings ∙ c.requires.settings

pub returns-in_err-world-clause-told : goal.returns-in_err-world-clause-told
returns-in_err-world-clause-told g c =
    let before = (g.D.Desk.state c.args.desk.now).told in
    let stop = err_from_is_err_and c.from_residual.result c.from_residual.ensures.1 in
    rw stop.1 (record { all = tt; partly = as_told (none_told (held_line c.args.quantum) before) })

pub returns-in_err-shelf-clause-large : goal.returns-in_err-shelf-clause-large
returns-in_err-shelf-clause-large g c =
    let at = (goal.at.returns-in_err-shelf-clause-large g c).After-keep_and_tell in
    let stop = err_from_is_err_and c.from_residual-in_err-shelf.result c.from_residual-in_err-shelf.ensures.1 in
    let is : c.from_residual-in_err-shelf.result ≡ Err c.in_err-shelf.field-0.0 = cc (stop.1, stop.2) in
    rw is (moved g at (λ w q. IfRefused c.in_err-shelf.field-0.0 (IsLargeAt w q)) c.in_err-shelf.ensures.large)

pub returns-in_err-shelf-clause-moments : goal.returns-in_err-shelf-clause-moments
returns-in_err-shelf-clause-moments g c =
    let old = g.D.Desk.state c.args.desk.now in
    let new = g.D.Desk.state c.keep_and_tell.new.desk in
    moved g (goal.at.returns-in_err-shelf-clause-moments g c).After-keep_and_tell
    (λ w q. IfSome old.reads (λ file. Elapses old new (IsHoldingNext c.args.shelf.owner file w (held_line q) old.told)))
    c.keep_and_tell.ensures.moments

pub returns-in_err-shelf-clause-told : goal.returns-in_err-shelf-clause-told
returns-in_err-shelf-clause-told g c =
    let at = (goal.at.returns-in_err-shelf-clause-told g c).After-keep_and_tell in
    let before = (g.D.Desk.state c.args.desk.now).told in
    let now = (g.D.Desk.state c.keep_and_tell.new.desk).told in
    let stop = err_from_is_err_and c.from_residual-in_err-shelf.result c.from_residual-in_err-shelf.ensures.1 in
    rw stop.1 (record {
      all = tt;
      partly = moved g at (λ w q. AppendedSome before (held_line q) now) c.in_err-shelf.ensures.told.partly;
    })

pub returns-clause-moments : goal.returns-clause-moments
returns-clause-moments g c =
    let old = g.D.Desk.state c.args.desk.now in
    let new = g.D.Desk.state c.keep_and_tell.new.desk in
    moved g (goal.at.returns-clause-moments g c).After-keep_and_tell
    (λ w q. IfSome old.reads (λ file. Elapses old new (IsHoldingNext c.args.shelf.owner file w (held_line q) old.told)))
    c.keep_and_tell.ensures.moments

pub returns-clause-told : goal.returns-clause-told
returns-clause-told g c =
    let at = (goal.at.returns-clause-told g c).After-keep_and_tell in
    let before = (g.D.Desk.state c.args.desk.now).told in
    let now = (g.D.Desk.state c.keep_and_tell.new.desk).told in
    record { all = moved g at (λ w q. Appended before (held_line q) now) c.in_ok-shelf.ensures.told.all; partly = tt }

pub returns-in_err-shelf-clause-counts : goal.returns-in_err-shelf-clause-counts
returns-in_err-shelf-clause-counts g c =
    let stop = err_from_is_err_and c.from_residual-in_err-shelf.result c.from_residual-in_err-shelf.ensures.1 in
    let is : c.from_residual-in_err-shelf.result ≡ Err c.in_err-shelf.field-0.0 = cc (stop.1, stop.2) in
    rw is c.in_err-shelf.ensures.counts
