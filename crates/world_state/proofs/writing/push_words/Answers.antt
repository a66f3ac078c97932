use Rattle.std.proofs.Common.{◌≡◌, ◌∙◌, ◌++◌, get_or, of_z, pos, rules, to_z, w32}
use Rattle.world_state.specs.StateBytes.{register_bytes}
use Rattle.world_state.proofs.ListsRead.{piece_more}
use Rattle.world_state.proofs.writing.push_words.Goals as goal

pub loop-word-preserved : goal.loop-word-preserved
loop-word-preserved c =
    let words = c.args.words.now in
    let i = c.loop-word.word-index in
    let word = get_or words i (pos 0) in
    let told : to_z w32 (of_z w32 word) ≡ word = search rules in
    piece_more register_bytes words i (pos 0) c.args.out.now.items c.loop-word.out.items _ c.loop-word-test.true c.loop-word.invariant
    (c.in_ok-push_register.ensures ∙ (λ j. c.loop-word.out.items ++ register_bytes (told j)))
