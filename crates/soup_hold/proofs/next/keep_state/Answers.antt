use Rattle.std.proofs.Common.{rules, ◌<◌, ◌^◌, sym, subst, length}
use Rattle.desk_io.specs.Desk.{UsesDisk}
use Rattle.file_journal.specs.Steps.{IfTold}
use Rattle.soup_checkpoint.specs.declared.owner.Owner.{Owner}
use Rattle.soup_checkpoint.specs.Shelf.{SaysBeforeOrAfter}
use Rattle.tierra_model.specs.declared.parameters.Settings.{Settings}
use Rattle.world_state.specs.Restoring.{AreBytesOf}
use Rattle.soup_hold.proofs.Appending.{holds_next, holds_next_of, says_next}
use Rattle.soup_hold.proofs.next.keep_state.Given.{Over}
use Rattle.soup_hold.proofs.next.keep_state.Goals as goal
use Rattle.soup_hold.proofs.next.keep_state.Goals.{After-append, After-state_bytes}

-- the state that was told is the world's
own_bytes : (g : Over) (c : After-append g) → AreBytesOf c.args.shelf.owner.settings c.in_ok-state.state c.args.world.now.world
own_bytes g c =
    subst (λ (s : Settings). AreBytesOf s c.in_ok-state.state c.args.world.now.world) c.requires.settings c.in_ok-state.ensures.world

pub make_room-requires-clause-sound : goal.make_room-requires-clause-sound
make_room-requires-clause-sound g c = (
  c.args.world.now.world,
  subst (λ (s : Settings). AreBytesOf s c.in_ok-state.state c.args.world.now.world) c.requires.settings c.in_ok-state.ensures.world,
)

used : (g : Over) (c : After-append g) → UsesDisk (g.D.Desk.state c.args.desk.now) (g.D.Desk.state c.append.new.desk)
    (IfTold (g.D.Desk.state c.args.desk.now) (SaysBeforeOrAfter c.args.shelf.owner c.in_ok-state.state))
used g c =
    subst (λ (o : Owner). UsesDisk (g.D.Desk.state c.args.desk.now) (g.D.Desk.state c.append.new.desk)
    (IfTold (g.D.Desk.state c.args.desk.now) (SaysBeforeOrAfter o c.in_ok-state.state))) c.in_ok-make_room.ensures.owner
    c.append.ensures.call.uses

pub returns-in_err-append-clause-moments : goal.returns-in_err-append-clause-moments
returns-in_err-append-clause-moments g c =
    let at = (goal.at.returns-in_err-append-clause-moments g c).After-append in
    says_next c.args.shelf.owner c.args.world.now.world c.in_ok-state.state (g.D.Desk.state c.args.desk.now) (g.D.Desk.state c.append.new.desk)
    c.in_ok-state.ensures.bytes (own_bytes g at) (used g at)

pub returns-clause-moments : goal.returns-clause-moments
returns-clause-moments g c =
    let at = (goal.at.returns-clause-moments g c).After-append in
    says_next c.args.shelf.owner c.args.world.now.world c.in_ok-state.state (g.D.Desk.state c.args.desk.now) (g.D.Desk.state c.append.new.desk)
    c.in_ok-state.ensures.bytes (own_bytes g at) (used g at)

pub returns-clause-held : goal.returns-clause-held
returns-clause-held g c =
    let at = (goal.at.returns-clause-held g c).After-append in
    let shelf = c.make_room.new.self in
    let old = g.D.Desk.state c.args.desk.now in
    let new = g.D.Desk.state c.append.new.desk in
    let owner = c.in_ok-make_room.ensures.owner in
    let small : length c.in_ok-state.state < 2 ^ 31 = search rules in
    let are = subst (λ (o : Owner). AreBytesOf o.settings c.in_ok-state.state c.args.world.now.world) (sym owner) (own_bytes g at) in
    holds_next_of shelf c.args.shelf c.args.world.now.world old new c.in_ok-append.field-0 owner
    (holds_next shelf c.args.world.now.world c.in_ok-state.state old new c.in_ok-append.field-0 c.in_ok-state.ensures.bytes are small
    c.in_ok-append.ensures.appended)
