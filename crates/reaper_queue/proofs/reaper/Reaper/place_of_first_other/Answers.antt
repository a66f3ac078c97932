use Rattle.std.proofs.Common.{◌∙◌, ap}
use Rattle.tierra_model.specs.Queue.{place_of_first_other}
use Rattle.reaper_queue.specs.Reaper.{ReaperFields, ids_of}
use Rattle.tierra_model.proofs.AnyMachine.{position-of_other}
use Rattle.reaper_queue.proofs.reaper.Reaper.place_of_first_other.Goals as goal

pub returns-in-Some : goal.returns-in-Some
returns-in-Some c =
    c.in-Some.ensures ∙ position-of_other (λ x. x.0) c.args.id c.self.inside.entries.items
    ∙ ap (λ (q : ReaperFields). place_of_first_other c.args.id (ids_of q.entries)) c.self.view_is

pub returns-in-None : goal.returns-in-None
returns-in-None c =
    c.in-None.ensures ∙ position-of_other (λ x. x.0) c.args.id c.self.inside.entries.items
    ∙ ap (λ (q : ReaperFields). place_of_first_other c.args.id (ids_of q.entries)) c.self.view_is
