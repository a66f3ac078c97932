-- The causes of the answers.
use Rattle.std.proofs.Common.{◌≡◌, sym, subst, refl, inl, inr, arith, ℕ, ◌<◌, List, Option, Some, None, IfSome, Ok, Err}
use Rattle.std.specs.Prelude.{◌⊎◌}
use Rattle.std.proofs.lemmas.Option.{IfSome_then}
use Rattle.bank_recover.proofs.OneBank.{says_one}
use Rattle.bank_recover.specs.declared.faults.BankFault.{BankFault}
use Rattle.desk_io.specs.Desk.{DeskState}
use Rattle.soup_words.specs.declared.order.Action.{Action}
use Rattle.soup_words.specs.declared.order.Action.TheVariants as action
use Rattle.soup_words.specs.declared.order.Order.{Order}
use Rattle.soup_top.specs.declared.asking.Task.{Task}
use Rattle.soup_top.specs.declared.asking.Task.TheVariants as task
use Rattle.soup_top.specs.declared.status.SourceFault.{SourceFault}
use Rattle.soup_top.specs.declared.status.Status.{Status}
use Rattle.soup_top.specs.declared.status.Status.TheVariants as status
use Rattle.soup_top.specs.declared.stop.RunStop.{RunStop}
use Rattle.soup_top.specs.declared.stop.RunStop.TheVariants as stop
use Rattle.tierra_model.specs.Setups.{SetupFields}
use Rattle.soup_checkpoint.specs.declared.faults.HoldFault.{HoldFault}
use Rattle.soup_hold.specs.Holding.{CanHold, IsHoldText, RefusesHold}
use Rattle.soup_hold.proofs.Refusing.{none_refused}
use Rattle.soup_hold.proofs.SomeText.{some_hold_text}
use Rattle.soup_watch.proofs.SomeText.{some_watch_text}
use Rattle.soup_top.specs.Answers.{AskingCause, Cause, DiskIsOfHold, DiskIsOfRun, ForOrder, IsAccepted, RefusesHoldOf, RefusesOrder}
use Rattle.soup_top.specs.Ending.{IsStoppedFor}
use Rattle.soup_top.specs.Genebank.{DiskIsOfHistory, RefusesRun}
use Rattle.soup_top.specs.Sources.{IsSetupOf, IsSoupSource, IsTextBy, IsTextOf, Refused, read_by, run_text}
use Rattle.soup_top.specs.Statuses.{status_of}
use Rattle.soup_top.specs.Stops.{CountsStop}
use Rattle.soup_top.specs.Tasks.{IsTaskOf, OfText, RefusesHolding, RefusesTask}
use Rattle.soup_top.specs.Words.{AsksFor, IsRun, ReadsSource, UsesDisk}
use Rattle.soup_top.proofs.Accepted.{not-refused, one-setup-of}
use Rattle.soup_top.proofs.OneTask.{same-order}
use Rattle.soup_top.proofs.Refusals.{not_refused}

-- an answer before a desk is called
pub asking-has-cause : (words : List (List ℕ)) (left file : Option (List ℕ)) (R D T : Type 0) (s : Status)
    → AskingCause words left R s → Cause words left file R D T s
asking-has-cause words left file R D T status.WordsRefused h = h
asking-has-cause words left file R D T (status.SourceRefused f) h = h
asking-has-cause words left file R D T status.ReadFault h = h
asking-has-cause words left file R D T status.OutOfMemory h = h
asking-has-cause words left file R D T s h = absurd h

run-uses-disk : (what : Action) → IsRun what → UsesDisk what
run-uses-disk action.Grow r = tt
run-uses-disk action.Run r = tt
run-uses-disk what r = absurd r

refuses-run : (what : Action) (n : ℕ) (left file : Option (List ℕ)) (setup : SetupFields) (f : BankFault) → IsRun what
    → IfSome left (λ bytes. IsSetupOf what bytes setup) → IfSome file (λ image. RefusesRun setup n image f) → RefusesOrder what n left file f
refuses-run action.Grow n left file setup f r s h = (tt, (setup, s, h))
refuses-run action.Run n left file setup f r s h = (tt, (setup, s, h))
refuses-run what n left file setup f r s h = absurd r

refuses-task : (words : List (List ℕ)) (left file : Option (List ℕ)) (t : Task) (f : BankFault) → IsTaskOf words left t
    → RefusesTask t file f → ForOrder words (λ order. RefusesOrder order.action order.quanta left file f)
refuses-task words left file (task.Run setup n w) f is h =
    let here = subst (λ (m : ℕ). IfSome file (λ image. RefusesRun setup m image f)) (sym is.2.1) h in
    (is.0, is.1, refuses-run is.0.action is.0.quanta left file setup f is.2.0 is.2.2 here)
refuses-task words left file task.Bank f is h =
    (is.0, is.1, subst (λ (a : Action). RefusesOrder a is.0.quanta left file f) (sym is.2) h)
refuses-task words left file (task.Probe n w) f is h =
    (is.0, is.1, subst (λ (a : Action). RefusesOrder a is.0.quanta left file f) (sym is.2.0) h)
refuses-task words left file t f is h = absurd h

refuses-holding : (words : List (List ℕ)) (left file : Option (List ℕ)) (t : Task) (f : HoldFault) → IsTaskOf words left t
    → RefusesHolding t file f → ForOrder words (λ order. RefusesHoldOf order left file f)
refuses-holding words left file (task.Hold setup n every) f is h =
    let here : RefusesHold setup is.0.quanta is.0.every file f = rw (is.2.1, is.2.2) h in
    (is.0, is.1, (is.2.0, (setup, is.2.3, here)))
refuses-holding words left file t f is h = absurd h

run-accepted : (what : Action) (order : Order) (setup : SetupFields) (left : Option (List ℕ)) → IsRun what
    → IfSome left (λ bytes. IsSetupOf what bytes setup)
    → IfSome left (λ bytes. (file : Option (List ℕ)) × (text : List ℕ) × IsTextBy what order bytes file text)
run-accepted action.Grow order setup left r s = IfSome_then left s (λ bytes is. (None, run_text setup order.quanta, (setup, is, refl)))
run-accepted action.Run order setup left r s = IfSome_then left s (λ bytes is. (None, run_text setup order.quanta, (setup, is, refl)))
run-accepted what order setup left r s = absurd r

watch-accepted : (what : Action) (order : Order) (setup : SetupFields) (left : Option (List ℕ)) → what ≡ action.Watch
    → IfSome left (λ bytes. IsSoupSource bytes setup) → IfSome left (λ bytes. (file : Option (List ℕ)) × (text : List ℕ) × IsTextBy what order bytes file text)
watch-accepted what order setup left is s =
    subst (λ (a : Action). IfSome left (λ bytes. (file : Option (List ℕ)) × (text : List ℕ) × IsTextBy a order bytes file text)) (sym is)
    (IfSome_then left s (λ bytes gives. let some = some_watch_text setup order.quanta order.looks in (None, some.0, (setup, gives, some.1))))

hold-accepted : (what : Action) (order : Order) (setup : SetupFields) (left : Option (List ℕ)) → what ≡ action.Hold
    → IfSome left (λ bytes. IsSoupSource bytes setup)
    → IfSome left (λ bytes. (file : Option (List ℕ)) × (text : List ℕ) × IsTextBy what order bytes file text)
hold-accepted what order setup left is s =
    subst (λ (a : Action). IfSome left (λ bytes. (file : Option (List ℕ)) × (text : List ℕ) × IsTextBy a order bytes file text)) (sym is)
    (IfSome_then left s (λ bytes gives. let some = some_hold_text setup order.quanta order.every in (None, some.0, (setup, gives, some.1))))

-- a task comes of a source that is accepted
task-accepted : (words : List (List ℕ)) (left : Option (List ℕ)) (t : Task) (is : IsTaskOf words left t) → IsAccepted is.0 left
task-accepted words left (task.Run setup n w) is reads = run-accepted is.0.action is.0 setup left is.2.0 is.2.2
task-accepted words left (task.Tell text) is reads = IfSome_then left is.2.1 (λ bytes told. (None, text, told))
task-accepted words left task.Bank is reads = absurd (subst ReadsSource is.2 reads)
task-accepted words left (task.Probe n w) is reads = absurd (subst ReadsSource is.2.0 reads)
task-accepted words left (task.Watch setup n w looks) is reads = watch-accepted is.0.action is.0 setup left is.2.0 is.2.3
task-accepted words left (task.Hold setup n every) is reads = hold-accepted is.0.action is.0 setup left is.2.0 is.2.3

disk-task : (words : List (List ℕ)) (left : Option (List ℕ)) (t : Task) (disk : ℕ) → IsTaskOf words left t → OfText t (disk ≡ 0) → 0 < disk
    → ForOrder words (λ order. UsesDisk order.action × IsAccepted order left)
disk-task words left (task.Run setup n w) disk is none some =
    (is.0, is.1, (run-uses-disk is.0.action is.2.0, task-accepted words left (task.Run setup n w) is))
disk-task words left (task.Tell text) disk is none some = absurd (omega arith)
disk-task words left task.Bank disk is none some =
    (is.0, is.1, (subst UsesDisk (sym is.2) tt, task-accepted words left task.Bank is))
disk-task words left (task.Probe n w) disk is none some =
    (is.0, is.1, (subst UsesDisk (sym is.2.0) tt, task-accepted words left (task.Probe n w) is))
disk-task words left (task.Watch setup n w looks) disk is none some = absurd (omega arith)
disk-task words left (task.Hold setup n every) disk is none some =
    (is.0, is.1, (subst UsesDisk (sym is.2.0) tt, task-accepted words left (task.Hold setup n every) is))

-- an answer at which what was asked stops
pub stop-has-cause : (words : List (List ℕ)) (left : Option (List ℕ)) (R : Type 0) (t : Task) (old d : DeskState) (s : RunStop)
    → IsTaskOf words left t → OfText t (d.disk_faults ≡ 0) → IsStoppedFor t old d s → CountsStop s d
    → Cause words left old.reads R (0 < d.disk_faults) (0 < d.tell_faults) (status_of s)
stop-has-cause words left R t old d (stop.Refused f) is text stopped counts = refuses-task words left old.reads t f is stopped.refused.reason
stop-has-cause words left R t old d stop.DiskFault is text stopped counts =
    (counts.disk, disk-task words left t d.disk_faults is text counts.disk)
stop-has-cause words left R t old d stop.TellFault is text stopped counts =
    (counts.tell, (is.0, is.1, task-accepted words left t is))
stop-has-cause words left R t old d stop.OutOfMemory is text stopped counts = tt
stop-has-cause words left R t old d (stop.HoldRefused f) is text stopped counts =
    refuses-holding words left old.reads t f is stopped.hold_refused.reason

-- accepted bytes of a source are not refused
source-refused : (what : Action) (order : Order) (bytes text : List ℕ) (left file : Option (List ℕ)) (f : SourceFault) → ReadsSource what
    → read_by what left file ≡ Some bytes → IsTextBy what order bytes file text → IfSome left (λ xs. Refused what xs f) → ⊥
source-refused action.Bank order bytes text left file f r e t h = r
source-refused action.Probe order bytes text left file f r e t h = r
source-refused what order bytes text left file f r e t h = not-refused what order bytes file text f t (rw e at h)

-- nor is the disk of a run's history, or a file that has groups
bank-refused : (what : Action) (order : Order) (bytes text : List ℕ) (left file : Option (List ℕ)) (may_leave : List ℕ → Type 0) (f : BankFault)
    → read_by what left file ≡ Some bytes → IsTextBy what order bytes file text
    → (IsRun what → (setup : SetupFields) → IsSetupOf what bytes setup → DiskIsOfHistory setup file may_leave)
    → RefusesOrder what order.quanta left file f → ⊥
bank-refused action.Grow order bytes text left file may_leave f e t disk h =
    not_refused h.1.0 order.quanta file may_leave f (disk tt h.1.0 (rw e at h.1.1)) h.1.2
bank-refused action.Run order bytes text left file may_leave f e t disk h =
    not_refused h.1.0 order.quanta file may_leave f (disk tt h.1.0 (rw e at h.1.1)) h.1.2
bank-refused action.Bank order bytes text left file may_leave f e t disk h =
    let one = says_one bytes None (Ok t.0) (Err f) t.1 (rw e at h) in cc
bank-refused action.Probe order bytes text left file may_leave f e t disk h =
    let one = says_one bytes None (Ok t.0) (Err f) t.1 (rw e at h) in cc
bank-refused what order bytes text left file may_leave f e t disk h = h.0

-- every other action is another one
abbrev IsOther : Action → Type 0
IsOther action.Hold = ⊥
IsOther what = Unit {0}

no-hold : (what : Action) → what ≡ action.Hold → IsOther what → ⊥
no-hold what is other = subst IsOther is other

-- nor are checkpoints that a run goes on from, where no state is too large
hold-refused : (what : Action) (order : Order) (bytes text : List ℕ) (left file : Option (List ℕ)) (f : HoldFault) → what ≡ action.Hold
    → read_by what left file ≡ Some bytes → IsTextBy what order bytes file text
    → ((setup : SetupFields) → IsSoupSource bytes setup → CanHold setup order.quanta order.every file)
    → (setup : SetupFields) → IfSome left (λ xs. IsSoupSource xs setup) → RefusesHold setup order.quanta order.every file f → ⊥
hold-refused action.Hold order bytes text left file f is e t can setup s h =
    let here : IsSoupSource bytes setup = rw e at s in
    let same : t.0 ≡ setup = one-setup-of action.Hold bytes t.0 setup t.1 here in
    let told = subst (λ (x : SetupFields). IsHoldText x order.quanta order.every file text) same t.2 in
    none_refused setup order.quanta order.every file text f told (can setup here) h
hold-refused what order bytes text left file f is e t can setup s h = no-hold what is tt

-- so accepted words and bytes, and for a run a disk of its history, give Done or want of memory where nothing failed
pub complete-by : (words : List (List ℕ)) (left file : Option (List ℕ)) (may_leave : List ℕ → Type 0) (order : Order) (bytes text : List ℕ)
    (reads disk tells : ℕ) (s : Status) → Cause words left file (0 < reads) (0 < disk) (0 < tells) s → AsksFor words order
    → read_by order.action left file ≡ Some bytes → IsTextOf order bytes file text → DiskIsOfRun order bytes file may_leave
    → DiskIsOfHold order bytes file → reads ≡ 0 → disk ≡ 0 → tells ≡ 0 → (s ≡ status.Done) ⊎ (s ≡ status.OutOfMemory)
complete-by words left file may_leave order bytes text reads disk tells status.Done h a e t d c r k l = inl refl
complete-by words left file may_leave order bytes text reads disk tells status.WordsRefused h a e t d c r k l = absurd (h order a)
complete-by words left file may_leave order bytes text reads disk tells (status.SourceRefused f) h a e t d c r k l =
    let same = same-order words h.0 order h.1 a in
    let here = subst (λ (o : Order). ReadsSource o.action × IfSome left (λ xs. Refused o.action xs f)) same h.2 in
    absurd (source-refused order.action order bytes text left file f here.0 e t here.1)
complete-by words left file may_leave order bytes text reads disk tells (status.BankRefused f) h a e t d c r k l =
    let same = same-order words h.0 order h.1 a in
    let here = subst (λ (o : Order). RefusesOrder o.action o.quanta left file f) same h.2 in
    absurd (bank-refused order.action order bytes text left file may_leave f e t d here)
complete-by words left file may_leave order bytes text reads disk tells status.ReadFault h a e t d c r k l = absurd (omega (arith, h.0))
complete-by words left file may_leave order bytes text reads disk tells status.DiskFault h a e t d c r k l = absurd (omega (arith, h.0))
complete-by words left file may_leave order bytes text reads disk tells status.TellFault h a e t d c r k l = absurd (omega (arith, h.0))
complete-by words left file may_leave order bytes text reads disk tells status.OutOfMemory h a e t d c r k l = inr refl
complete-by words left file may_leave order bytes text reads disk tells (status.HoldRefused f) h a e t d c r k l =
    let same = same-order words h.0 order h.1 a in
    let here = subst (λ (o : Order). RefusesHoldOf o left file f) same h.2 in
    absurd (hold-refused order.action order bytes text left file f here.0 e t (c here.0) here.1.0 here.1.1 here.1.2)
