use Rattle.std.proofs.Common.{subst, List, ℕ}
use Rattle.soup_checkpoint.specs.Frames.{BeginsWithFrame}
use Rattle.soup_checkpoint.proofs.Passing.{one_more, state_there}
use Rattle.soup_checkpoint.proofs.frames.next_frame.Goals as goal

pub returns-clause-more : goal.returns-clause-more
returns-clause-more c = λ states read is.
    let bytes = c.args.bytes.now in
    let f = c.args.frames in
    let n = c.in_ok-len.len in
    let frame = subst (λ (b : List ℕ). BeginsWithFrame b n) c.after.ensures c.in_ok-len.ensures.found in
    (state_there bytes f states read n, one_more bytes f states read n is frame)
