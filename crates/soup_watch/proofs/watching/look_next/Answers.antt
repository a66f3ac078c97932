use Rattle.std.proofs.Common.{rules, ◌≡◌}
use Rattle.tierra_model.specs.Serial.{serial}
use Rattle.soup_watch.specs.Seeing.{sight_of}
use Rattle.soup_watch.proofs.Seen.{seen_one_more}
use Rattle.soup_watch.proofs.watching.look_next.Goals as goal

pub returns-clause-seen : goal.returns-clause-seen
returns-clause-seen g c =
    let setup = c.args.lock.now.opening.setup.0 in
    let seen = c.look-seat.result.0.seen in
    let sight = c.in_ok-sight.field-0 in
    let is : sight ≡ sight_of (serial setup seen) = search rules in
    let quanta : sight.quanta ≡ seen = search rules in
    seen_one_more setup c.args.number seen c.args.sights.now.sights c.add.new.self.sights sight c.requires.seen.each c.requires.seen.count_is
    is quanta c.add.ensures.sights c.add.ensures.last
