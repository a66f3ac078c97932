use Rattle.std.proofs.Common.{rules, ◌≡◌, ◌∙◌, ap, arith, ℕ}
use Rattle.tierra_model.specs.Serial.{serial}
use Rattle.soup_watch.specs.Seeing.{sight_of}
use Rattle.soup_watch.proofs.Seen.{all_seen, seen_one_more}
use Rattle.soup_watch.proofs.watching.see_end.Goals as goal

pub returns-clause-sights : goal.returns-clause-sights
returns-clause-sights g c =
    let setup = c.args.lock.opening.setup.0 in
    let n = c.args.lock.opening.setup.1 in
    let seen = c.look-seat.result.0.seen in
    let sight = c.in_ok-sight.field-0 in
    let was = c.requires.watched.seen in
    let is : sight ≡ sight_of (serial setup seen) = search rules in
    let quanta : sight.quanta ≡ seen = search rules in
    let all : c.close-book.result.quanta ≡ n = ap (λ p. p.1) c.close-book.ensures.setup in
    let end : seen ≡ n =
    omega (
      arith,
      c.look-seat.ensures.seen,
      c.join_seats-seat.ensures.seen,
      c.in_ok-lead.ensures.seen,
      c.close-book.ensures.seen,
      c.committed-committed.ensures.value,
      c.committed-committed.ensures.most,
      all,
    )
    in
    let here = seen_one_more setup c.args.looks seen c.args.watched.sights.sights c.add.new.self.sights sight was.each was.count_is is quanta
    c.add.ensures.sights c.add.ensures.last in
    all_seen setup n c.args.looks seen c.add.new.self.sights sight here c.add.ensures.order c.add.ensures.last
    (is ∙ ap (λ (k : ℕ). sight_of (serial setup k)) end)
