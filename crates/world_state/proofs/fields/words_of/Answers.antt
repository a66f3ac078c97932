use Rattle.std.proofs.Common.{rules, ◌≡◌, ◌∙◌, ◌+◌, ◌-◌, ◌++◌, ◌∷◌, [], Some, arith, length, of_z, slice_set, take, to_z, w32}
use Rattle.std.proofs.lemmas.List.{take_all, take_more_set, length-set}
use Rattle.std.proofs.lemmas.Result.{err_from_is_err_and}
use Rattle.byte_fields.specs.Reading.{list_at}
use Rattle.byte_fields.proofs.ListLoop.{goes_on, is_done, stops, with_front}
use Rattle.world_state.specs.Reading.{register_at}
use Rattle.world_state.proofs.fields.words_of.Goals as goal

pub returns-in_err-word : goal.returns-in_err-word
returns-in_err-word c =
    let p = err_from_is_err_and c.from_residual.result c.from_residual.ensures.1 in
    rw (p.1, p.2)
    (stops c.in_err-word.field-0.0 register_at (take c.loop-k.k c.loop-k.words) 10 c.loop-k.k c.loop-k.rest.now (list_at register_at 10 c.args.bytes.now)
    c.loop-k-test.true c.in_err-word.ensures c.loop-k.invariant.1)

pub loop-k-preserved : goal.loop-k-preserved
loop-k-preserved c =
    let words = c.loop-k.words in
    let k = c.loop-k.k in
    let word = c.in_ok-word.word in
    let told : to_z w32 (of_z w32 word) ≡ word = search rules in
    let len : length words ≡ 10 = c.loop-k.invariant.0 in
    let more : take (k + 1) (slice_set words k word) ≡ take k words ++ word ∷ [] = take_more_set words k word (omega (arith, len, c.loop-k-test.true)) in
    let one : with_front (take k words ++ word ∷ []) (list_at register_at (10 - (k + 1)) c.in_ok-word.after.now) ≡ list_at register_at 10 c.args.bytes.now
    = goes_on register_at (take k words) 10 k c.loop-k.rest.now word c.in_ok-word.after.now (list_at register_at 10 c.args.bytes.now) c.loop-k-test.true
    c.in_ok-word.ensures c.loop-k.invariant.1 in (
      length-set words k (to_z w32 (of_z w32 word)) ∙ len,
      (λ i. with_front (take (k + 1) (slice_set words k (told i))) (list_at register_at (10 - (k + 1)) c.in_ok-word.after.now))
          ∙ (λ i. with_front (more i) (list_at register_at (10 - (k + 1)) c.in_ok-word.after.now)) ∙ one,
    )

pub returns : goal.returns
returns c =
    let words = c.loop-k.words in
    is_done register_at (take c.loop-k.k words) 10 c.loop-k.k c.loop-k.rest.now (list_at register_at 10 c.args.bytes.now) c.loop-k-test.false
    c.loop-k.invariant.1
    ∙ (λ i. Some (take_all c.loop-k.k words (omega (arith, c.loop-k.invariant.0, c.loop-k-test.false)) i, c.loop-k.rest.now))
