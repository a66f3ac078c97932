use Rattle.std.proofs.Common.{ap, refl, true, List, Option, ◌≡◌, ◌∙◌, sym, []}
use Rattle.clap.specs.Words.{fault_of, is_simple_and_free, first_value, found_of, is_simple, matches_of}
use Rattle.clap.specs.Walk.{Text, first_of}
use Rattle.clap.proofs.WalkLemmas.{first_value-rows}
use Rattle.clap.proofs.OnLiterals.{clap_on_literals}
use Rattle.clap.specs.Simple.{App, HasMatchesOf}
use Rattle.clap.specs.declared.parser.matches.ArgMatches.{ArgMatches}
use Rattle.std.specs.Prelude.{codes}
use Rattle.soup_words.specs.Split.{given, split_of, tierra_app}
use Rattle.soup_words.proofs.split.split_words.Goals as goal

is_free : is_simple_and_free tierra_app ≡ true
unfolding clap_on_literals
is_free = refl

is_plain : is_simple tierra_app ≡ true
unfolding clap_on_literals
is_plain = refl

-- what `get_str` gives is what the words give to the name
given_is : (app : App) (words : List Text) (m : ArgMatches) (name : Text) (r : Option Text) → app ≡ tierra_app → HasMatchesOf app words m
    → r ≡ first_value (found_of m) name → r ≡ given words name
unfolding given
given_is app words m name r is has got =
    got ∙ first_value-rows (found_of m) name ∙ ap (first_of name) ((has (ap is_simple is ∙ is_plain)).0 ∙ ap (λ (a : App). matches_of a words) is)

taken_is : (app : App) (words : List Text) → app ≡ tierra_app → (is_simple_and_free app ≡ true → fault_of app words ≡ []) → fault_of tierra_app words ≡ []
taken_is app words is none = sym (ap (λ (a : App). fault_of a words) is) ∙ none (ap is_simple_and_free is ∙ is_free)

pub returns-clause-taken : goal.returns-clause-taken
returns-clause-taken c = taken_is _ _ c.in-Ok.ensures c.in-Ok-try_get_matches_from.ensures.kinds

-- the texts of all names together
all_given : (words : List Text) (action quanta workers number every looks isles epochs : Option Text)
    → action ≡ given words (codes "action") → quanta ≡ given words (codes "quanta") → workers ≡ given words (codes "workers")
    → number ≡ given words (codes "number") → every ≡ given words (codes "every") → looks ≡ given words (codes "looks")
    → isles ≡ given words (codes "isles") → epochs ≡ given words (codes "epochs")
    → record {
      action = action;
      quanta = quanta;
      workers = workers;
      number = number;
      every = every;
      looks = looks;
      isles = isles;
      epochs = epochs;
    } ≡ split_of words
all_given words action quanta workers number every looks isles epochs a q w n e l i p = cc

pub returns-clause-split : goal.returns-clause-split
returns-clause-split c =
    let from = c.in-Ok.ensures in
    let has = c.in-Ok-try_get_matches_from.ensures.matches in
    all_given _ _ _ _ _ _ _ _ _ (given_is _ _ _ _ _ from has c.get_str.ensures) (given_is _ _ _ _ _ from has c.get_str-2.ensures)
    (given_is _ _ _ _ _ from has c.get_str-3.ensures) (given_is _ _ _ _ _ from has c.get_str-4.ensures)
    (given_is _ _ _ _ _ from has c.get_str-5.ensures) (given_is _ _ _ _ _ from has c.get_str-6.ensures)
    (given_is _ _ _ _ _ from has c.get_str-7.ensures) (given_is _ _ _ _ _ from has c.get_str-8.ensures)
