use Rattle.std.proofs.Common.{◌≡◌, ◌∙◌, ◌+◌, ◌<◌, sym, ap, ℕ, List, get_or, length, map, take}
use Rattle.std.proofs.lemmas.List.Folds.{fold-map}
use Rattle.std.proofs.lemmas.List.Sums.{fold_more}
use Rattle.clap.specs.Walk.{Rule, Text}
use Rattle.clap.specs.Simple.{App, with_rule}
use Rattle.soup_words.specs.Split.{option_rule, with_option, with_options}
use Rattle.soup_words.proofs.split.with_options.Goals as goal

one_more : {N : Type 0} (text : N → Text) (app was is : App) (rule : Rule) (names : List N) (i : ℕ) (d : N) → i < length names
    → was ≡ with_options app (map text (take i names)) → rule ≡ option_rule (text (get_or names i d)) → is ≡ with_rule was rule
    → is ≡ with_options app (map text (take (i + 1) names))
one_more text app was is rule names i d less before of adds =
    adds ∙ ap (with_rule was) of ∙ ap (λ a. with_option a (text (get_or names i d))) (before ∙ fold-map with_option text app (take i names))
    ∙ sym (fold_more (λ a n. with_option a (text n)) app names i d less) ∙ sym (fold-map with_option text app (take (i + 1) names))

pub loop-name-preserved : goal.loop-name-preserved
loop-name-preserved c =
    one_more (λ n. n.now) _ _ _ _ c.args.names.now c.loop-name.name-index _ c.loop-name-test.true c.loop-name.invariant c.option.ensures.rule
    (c.in_ok-command.ensures.shape c.option.ensures.own)
