use Rattle.std.proofs.Common.{◌≡◌, ◌∙◌, ◌+◌, ◌-◌, subst, arith, ℕ, drop, length, take}
use Rattle.std.specs.Prelude.{IfSome}
use Rattle.std.proofs.lemmas.List.{length-drop, length-take-le}
use borrow.Rule.Slice.PartMut.{post_of, same_len_mid}
use Rattle.desk_io.proofs.Time.{Untouched-then, UsesDisk-then, UsesDisk-weaker}
use Rattle.file_journal.proofs.Pieces.{more_read}
use Rattle.file_journal.proofs.reading.read_pieces.Goals as goal

pub loop-at-preserved : goal.loop-at-preserved
loop-at-preserved g c =
    let first = g.D.Desk.state c.args.desk.now in
    let old = g.D.Desk.state c.loop-at.desk in
    let new = g.D.Desk.state c.read_at.new.self in
    let so_far = c.loop-at.invariant in
    let at = c.loop-at.at in
    let n = c.min.result in
    let k = at + n - at in
    let bytes = c.loop-at.bytes in
    let buf = c.read_at.new.buf in
    let k_is : k ≡ n = omega arith in
    let old_len : length (take k (drop at bytes)) ≡ n =
    length-take-le k (drop at bytes) (omega (arith, length-drop at bytes, c.min.ensures, c.loop-at.auto.bytes, c.loop-at-test.true)) ∙ k_is in
    let len : length buf ≡ n = c.read_at.auto.buf ∙ old_len in
    let read = subst (λ (m : ℕ). IfSome old.reads (λ file. buf ≡ take m (drop at file))) old_len c.in_ok-read_at.ensures.bytes in
    let now = Untouched-then first old new so_far.untouched c.read_at.ensures.untouched in
    record {
      inside = omega (arith, same_len_mid at k bytes buf c.read_at.auto.buf, c.min.ensures, c.loop-at.auto.bytes, so_far.inside, c.loop-at-test.true);
      bytes = more_read first.reads old.reads bytes buf (post_of at k bytes) at n so_far.inside len so_far.untouched.reads so_far.bytes read;
      untouched = now;
      uses = UsesDisk-then so_far.uses (UsesDisk-weaker (λ image. (now.crash image).0) c.read_at.ensures.call.uses);
      sound = c.in_ok-read_at.ensures.call.ok;
    }
