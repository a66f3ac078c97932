use Rattle.std.proofs.Common.{◌≡◌, ◌∙◌, refl, sym, ap, arith}
use Rattle.sha2.specs.Sha256.{sha256}
use Rattle.soup_checkpoint.proofs.Spelled.{begins, other_digest, too_short, unfit}
use Rattle.soup_checkpoint.proofs.frames.state_len.Goals as goal
use Rattle.soup_checkpoint.proofs.frames.state_len.Goals.{then-len-ge-LIMIT-via-then-len-ge-LIMIT, then-len-ge-LIMIT-via-else-len-ge-LIMIT+then-bytes-len}

pub returns-then-bytes-le-FRAME_LEN-clause-none : goal.returns-then-bytes-le-FRAME_LEN-clause-none
returns-then-bytes-le-FRAME_LEN-clause-none c = too_short c.args.bytes.now (omega (arith, c.if-bytes-le-FRAME_LEN.true))

pub returns-then-len-ge-LIMIT-clause-none : goal.returns-then-len-ge-LIMIT-clause-none
returns-then-len-ge-LIMIT-clause-none c =
    let bytes = c.args.bytes.now in
    let n = c.length_in-len.result in
    unfit bytes n (omega arith) c.length_in-len.ensures (λ short inside.
    elim c.then-len-ge-LIMIT.branch [
      | then-len-ge-LIMIT-via-then-len-ge-LIMIT w ↦ omega (arith, w.if-len-ge-LIMIT.true, short)
      | then-len-ge-LIMIT-via-else-len-ge-LIMIT+then-bytes-len w ↦ omega (arith, w.if-bytes-len.true, inside)
    ])

pub returns-then-not-is_digest_of-clause-none : goal.returns-then-not-is_digest_of-clause-none
returns-then-not-is_digest_of-clause-none c =
    let bytes = c.args.bytes.now in
    let n = c.length_in-len.result in
    other_digest bytes n (omega arith) c.length_in-len.ensures
    (λ same. absurd (cc (c.if-not-is_digest_of.ensures.1 (c.piece.ensures ∙ same ∙ ap sha256 (sym c.piece-state.ensures)))))

pub returns-clause-found : goal.returns-clause-found
returns-clause-found c =
    let bytes = c.args.bytes.now in
    let n = c.length_in-len.result in
    let digest : c.piece.result.now ≡ sha256 c.piece-state.result.now = c.if-not-is_digest_of.ensures.0 refl in
    begins bytes n c.length_in-len.ensures (omega (arith, c.if-len-ge-LIMIT.false)) (omega (arith, c.if-bytes-len.false, c.if-bytes-le-FRAME_LEN.false))
    (sym c.piece.ensures ∙ digest ∙ ap sha256 c.piece-state.ensures)
