-- The command of the program, as clap's definitions see it.
use Rattle.std.specs.Prelude.{List, true, Option, Some, codes}
use Rattle.std.specs.List.{fold}
use Rattle.clap.specs.Walk.{Rule, Text, first_of}
use Rattle.clap.specs.Simple.{App, Shape, matches_of, new_app, new_rule, on_top, with_rule}

-- an option `--name` with one value
abbrev pub option_rule : Text → Rule
option_rule name = record (new_rule name) { long = Some name }

-- the words do not begin with the program's name, and there is no help flag
abbrev pub start_app : App
start_app = on_top (λ (s : Shape). record s { no_binary_name = true; disable_help_flag = true })
    (new_app (codes "tierra"))

abbrev pub with_option : App → Text → App
with_option app name = with_rule app (option_rule name)

abbrev pub with_options : App → List Text → App
with_options app names = fold with_option app names

-- one positional argument, and the options that a run or a drill may have
abbrev pub basic_app : App
basic_app =
    with_option (with_option (with_option (with_rule start_app (new_rule (codes "action"))) (codes "quanta"))
    (codes "workers")) (codes "number")

-- and all other options
abbrev pub tierra_app : App
tierra_app =
    with_option (with_option (with_option (with_option basic_app (codes "every")) (codes "looks")) (codes "isles"))
    (codes "epochs")

-- the text that the words give for a name
unfoldable pub given : List Text → Text → Option Text
given words name = first_of name (matches_of tierra_app words)

-- the text of the action and of each option that the words have
pub record SplitFields : Type 0 where
  pub action : Option Text
  pub quanta : Option Text
  pub workers : Option Text
  pub number : Option Text
  pub every : Option Text
  pub looks : Option Text
  pub isles : Option Text
  pub epochs : Option Text

abbrev pub split_of : List Text → SplitFields
split_of words = record {
  action = given words (codes "action");
  quanta = given words (codes "quanta");
  workers = given words (codes "workers");
  number = given words (codes "number");
  every = given words (codes "every");
  looks = given words (codes "looks");
  isles = given words (codes "isles");
  epochs = given words (codes "epochs");
}
