use Rattle.std.proofs.Common.{◌≡◌, sym, subst, ℕ, ◌<◌, List, None, IfSome, Result, Ok, Err, IfOk, IfErr}
use Rattle.std.proofs.lemmas.Option.{IfSome_then}
use Rattle.desk_io.specs.Source.{SourceState}
use Rattle.soup_words.specs.declared.order.Action.{Action}
use Rattle.soup_words.specs.declared.order.Action.TheVariants as action
use Rattle.soup_words.specs.declared.order.Order.{Order}
use Rattle.tierra_model.specs.Setups.{SetupFields}
use Rattle.soup_top.specs.declared.asking.Task.{Task}
use Rattle.soup_top.specs.declared.asking.Task.TheVariants as task
use Rattle.soup_top.specs.declared.status.Status.{Status}
use Rattle.soup_top.specs.declared.status.Status.TheVariants as status
use Rattle.soup_top.specs.Asking.{IsAsked, IsGiven, IsReadFor, IsSourceStop}
use Rattle.soup_top.specs.Sources.{FileRefused, IsSoupSource, IsTextBy, IsTextFrom, Refused}
use Rattle.soup_top.specs.Tasks.{IsFew, IsTaskBy}
use Rattle.soup_top.specs.Words.{ReadsSource, TellsOfSource}
use Rattle.soup_top.proofs.asking.task_of.Goals as goal

-- what tell made of the text of a soup file's setup
tells_of_file : (what : Action) (order : Order) (text_of : SetupFields → List ℕ) (setup : SetupFields) (old new : SourceState) {E : Type 0}
    (text : Result (List ℕ) E) (r : Result Task Status) → order.action ≡ what → ReadsSource what → TellsOfSource what
    → ((bytes told : List ℕ) → IsTextFrom (IsSoupSource bytes) text_of told → IsTextBy what order bytes None told)
    → IsGiven IsSoupSource FileRefused (Ok setup) old new → IfOk text (λ told. told ≡ text_of setup)
    → IfOk r (λ t. (told : List ℕ) × (text ≡ Ok told) × (t ≡ task.Tell told)) → IfErr r (λ s. s ≡ status.OutOfMemory) → IsAsked order r old new
tells_of_file what order text_of setup old new text (Ok t) is reads tells by given made told none =
    let its : told.0 ≡ text_of setup = subst (λ (x : Result (List ℕ) _). IfOk x (λ y. y ≡ text_of setup)) told.1 made in
    let all : IfSome old.left (λ bytes. IsTextBy order.action order bytes None told.0) =
    IfSome_then old.left given.given (λ bytes source. subst (λ (a : Action). IsTextBy a order bytes None told.0) (sym is)
    (by bytes told.0 (setup, source, its))) in
    record {
      task = subst (IsTaskBy order old.left) (sym told.2) (subst TellsOfSource (sym is) tells, all);
      few = subst IsFew (sym told.2) tt;
      refused = tt;
      read = λ any. record { to_its_end = given.read.to_its_end; no_further = given.read.no_further; steady = given.read.steady };
    }
tells_of_file what order text_of setup old new text (Err s) is reads tells by given made told none = record {
  task = tt;
  few = tt;
  refused = subst (λ (x : Status). ReadsSource order.action × IsSourceStop (Refused order.action) old.left (0 < new.faults) x) (sym none)
      (subst ReadsSource (sym is) reads, tt);
  read = λ any. subst (λ (x : Status). IsReadFor {T = Task} (Err x) old new) (sym none)
      (record { to_its_end = tt; no_further = given.read.no_further; steady = given.read.steady });
}

pub returns-in_ok-filed-in-Drill-clause-asked : goal.returns-in_ok-filed-in-Drill-clause-asked
returns-in_ok-filed-in-Drill-clause-asked g c =
    tells_of_file action.Drill c.args.order _ c.in_ok-filed-in-Drill.field-0 (g.S.Source.state c.args.source.now)
    (g.S.Source.state c.filed-in-Drill.new.source) c.drill_text.result c.tell-in-Drill.result c.in-Drill.is tt tt (λ bytes told its. its)
    c.in_ok-filed-in-Drill.ensures.given c.drill_text.ensures c.tell-in-Drill.ensures.told c.tell-in-Drill.ensures.memory

pub returns-in_ok-filed-in-Dump-clause-asked : goal.returns-in_ok-filed-in-Dump-clause-asked
returns-in_ok-filed-in-Dump-clause-asked g c =
    tells_of_file action.Dump c.args.order _ c.in_ok-filed-in-Dump.field-0 (g.S.Source.state c.args.source.now)
    (g.S.Source.state c.filed-in-Dump.new.source) c.dump_after-in-Dump.result c.tell-in-Dump.result c.in-Dump.is tt tt (λ bytes told its. its)
    c.in_ok-filed-in-Dump.ensures.given c.dump_after-in-Dump.ensures c.tell-in-Dump.ensures.told c.tell-in-Dump.ensures.memory

pub returns-in_ok-filed-in-Curve-clause-asked : goal.returns-in_ok-filed-in-Curve-clause-asked
returns-in_ok-filed-in-Curve-clause-asked g c =
    tells_of_file action.Curve c.args.order _ c.in_ok-filed-in-Curve.field-0 (g.S.Source.state c.args.source.now)
    (g.S.Source.state c.filed-in-Curve.new.source) c.curve-in-Curve.result c.tell-in-Curve.result c.in-Curve.is tt tt (λ bytes told its. its)
    c.in_ok-filed-in-Curve.ensures.given c.curve-in-Curve.ensures c.tell-in-Curve.ensures.told c.tell-in-Curve.ensures.memory

pub returns-in_ok-filed-in-Isles-clause-asked : goal.returns-in_ok-filed-in-Isles-clause-asked
returns-in_ok-filed-in-Isles-clause-asked g c =
    tells_of_file action.Isles c.args.order _ c.in_ok-filed-in-Isles.field-0 (g.S.Source.state c.args.source.now)
    (g.S.Source.state c.filed-in-Isles.new.source) c.isles_after-in-Isles.result c.tell-in-Isles.result c.in-Isles.is tt tt (λ bytes told its. its)
    c.in_ok-filed-in-Isles.ensures.given c.isles_after-in-Isles.ensures c.tell-in-Isles.ensures.told c.tell-in-Isles.ensures.memory
